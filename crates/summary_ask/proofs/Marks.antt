-- Asking a summary looks at no mark, since these have gone into the summary: of two lists of marks with one length either gives the same answer (document
-- 02, E5). Assumes nothing.
use Rattle.refusals.specs.Given.{Fault}
use Rattle.refusals.specs.Given.{Answer}
use Prim.Native.Nat.{ℕ}
use mathlib.Core.Path.{◌≡◌, sym, ap, ◌∙◌}
use mathlib.Core.Bool.{◌&&◌}
use mathlib.Core.List.{List}
use lib.ListN.{length}
use lib.Dec.{eqb}
use Rattle.net.specs.Net.{Net}
use Rattle.net.specs.Marks.{remarked}
use Rattle.refusals.specs.Given.{refuse, or_else, outside}
use Rattle.refusals.proofs.Marks.{remarked_marked}
use Rattle.summary_form.specs.Summary.{shape_fault}
use Rattle.summary_form.specs.declared.Summary.{Summary}
use Rattle.summary_ask.specs.Ask.{Reply, ask_fault, slots_reply, replied, ask_answer, asked_numbers, Replied}
use Rattle.summary_ask.specs.declared.Asked.{Asked}
use Rattle.summary_ask.proofs.Meaning.{ask_unique}

module _ (net : Net) (marks : List ℕ) (long : length marks ≡ length net.marks) (m : List ℕ) (s : Summary) (room : List ℕ) where
  same_answer : ask_answer net m s room ≡ ask_answer (remarked net marks) m s room
  unfolding ask_fault
  same_answer =
      ap
      (λ (f : Fault). replied (or_else (refuse (outside s.places) 1 0) (or_else f (shape_fault s))) (slots_reply s.slots net.caps m room) room)
      (remarked_marked net marks long m (eqb (length room) net.places && eqb s.places net.places))

  -- two askings that differ in the marks only have one answer, and one content of the room
  pub ask_alike : (r r' : Answer Asked) (l l' : List ℕ) → Replied net m s room r l → Replied (remarked net marks) m s room r' l' → (r ≡ r') × (l ≡ l')
  ask_alike r r' l l' a b =
      let e = sym same_answer in
      ask_unique net m s room r r' l l' a
      (record { answer = b.answer ∙ ap (λ (x : Reply). asked_numbers x.answer) e; left = b.left ∙ ap (λ (x : Reply). x.left) e })
