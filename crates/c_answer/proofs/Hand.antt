-- What an entry answers is handed over as it is. Assumes nothing.
use Prim.Native.Nat.{ℕ}
use mathlib.Core.Path.{◌≡◌, sym, ap, ◌∙◌}
use mathlib.Core.List.{List}
use Rattle.c_answer.specs.Hand.{handed}
use Rattle.c_answer.specs.declared.Answer.{Answer}

-- an answer by its case b: f is what is handed over of it
pub passed : {E S : Type 0} (f : E → S) (a b : E) (r : S) → a ≡ b → r ≡ f b → r ≡ f a
passed f a b r e h = rw e h

-- the same numbers
pub hand : (r : Answer) (a b : List ℕ) → r ≡ handed a → a ≡ b → r ≡ handed b
hand r a b e h = e ∙ ap handed h

-- one answer: a promise without rooms is an equation
pub unique : {A : Type 0} (x r r' : A) → r ≡ x → r' ≡ x → r ≡ r'
unique x r r' a b = a ∙ sym b
