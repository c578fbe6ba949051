-- What C is handed of a summary asked: one answer and one content of the room, and the answer can be read back. Assumes nothing.
use Rattle.std.specs.Prelude.{Ok, Err}
use Rattle.refusals.specs.Given.{Answer as Given, refused}
use Prim.Native.Nat.{ℕ}
use mathlib.Core.Path.{◌≡◌, refl, sym, ◌∙◌}
use mathlib.Core.Bool.{cond}
use mathlib.Core.List.{List}
use lib.Dec.{eqb}
use Rattle.summary_ask.specs.Ask.{Reply, asked_numbers}
use Rattle.summary_ask.specs.declared.Asked.{Asked}
use Rattle.summary_ask.specs.declared.Asked.TheVariants as reply
use Rattle.c_answer.specs.Hand.{handed}
use Rattle.c_summary_ask.specs.Ask.{HandedReply}
use Rattle.c_answer.specs.declared.Answer.{Answer}

pub unique_reply : (x : Reply) (r r' : Answer) (m m' : List ℕ) → HandedReply x r m → HandedReply x r' m' → (r ≡ r') × (m ≡ m')
unique_reply x r r' m m' a b = (a.answer ∙ sym b.answer, a.left ∙ sym b.left)

abbrev pub asked_of : Answer → Given Asked
asked_of r = cond (eqb r.kind 0x82) (refused r.number r.position) (cond (eqb r.number 0) (Ok reply.Yes) (Ok reply.No))

pub asked_whole : (a : Given Asked) → asked_of (handed (asked_numbers a)) ≡ a
unfolding handed
asked_whole (Ok reply.Yes) = refl
asked_whole (Ok reply.No) = refl
asked_whole (Err r) = refl
