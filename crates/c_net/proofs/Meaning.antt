-- What C is handed: each promise has one answer and one content of the rooms; nothing of an answer is lost on the way. Assumes nothing.
use mathlib.Core.Path.{◌≡◌, refl, sym, ◌∙◌}
use mathlib.Core.Bool.{cond}
use lib.Dec.{eqb}
use Rattle.complement.specs.Told.{places_numbers}
use Rattle.complement.specs.Entry as complement
use Rattle.complement.specs.Entry.{Rooms, Wrote}
use Rattle.std.specs.Prelude.{ℕ, Ok, Err}
use Rattle.refusals.specs.Given
use Rattle.refusals.specs.Given.{Fault, refused}
use Rattle.file_line.specs.declared.Rooms as case
use Rattle.file_entry.specs.Entry as casefile
use Rattle.file_entry.specs.Entry.{Came}
use Rattle.file_entry.specs.declared.CaseFile.{CaseFile}
use Rattle.c_answer.specs.Hand.{handed}
use Rattle.c_net.specs.Handed.{handed_places, HandedNet}
use Rattle.c_net.specs.Cases.{handed_case, HandedCase}
use Rattle.c_answer.specs.declared.Answer.{Answer}
use Rattle.c_net.specs.declared.PlacesAnswer.{PlacesAnswer}
use Rattle.c_net.specs.declared.CaseAnswer.{CaseAnswer}

pub unique_net : (x : Wrote) (r r' : Answer) (m m' : Rooms) → HandedNet x r m → HandedNet x r' m' → (r ≡ r') × (m ≡ m')
unique_net x r r' m m' a b = (a.answer ∙ sym b.answer, a.left ∙ sym b.left)

pub unique_case : (x : Came) (r r' : CaseAnswer) (m m' : case.Rooms) → HandedCase x r m → HandedCase x r' m' → (r ≡ r') × (m ≡ m')
unique_case x r r' m m' a b = (a.answer ∙ sym b.answer, a.left ∙ sym b.left)

abbrev pub places_of : PlacesAnswer → Given.Answer ℕ
places_of r = cond (eqb r.kind 0x82) (refused r.number r.position) (Ok r.places)

pub places_whole : (a : Given.Answer ℕ) → places_of (handed_places (places_numbers a)) ≡ a
unfolding handed_places
places_whole (Ok n) = refl
places_whole (Err r) = refl

abbrev pub net_of : Answer → Fault
net_of r = cond (eqb r.kind 0x82) (refused r.number r.position) (Ok tt)

pub net_whole : (a : Fault) → net_of (handed (complement.numbers a)) ≡ a
unfolding handed
net_whole (Ok _) = refl
net_whole (Err r) = refl

abbrev pub case_of : CaseAnswer → Given.Answer CaseFile
case_of r = cond (eqb r.kind 0x82) (refused r.number r.position) (casefile.read r.places r.transitions r.letters)

pub case_whole : (a : Given.Answer CaseFile) → case_of (handed_case (casefile.numbers a)) ≡ a
unfolding handed_case
case_whole (Ok c) = refl
case_whole (Err r) = refl
