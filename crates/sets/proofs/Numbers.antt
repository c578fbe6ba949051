-- The numbers of each answer tell any two apart: an answer can be read back from them. So each promise has one answer. Assumes nothing.
use Rattle.std.specs.Prelude.{Ok, Err}
use Rattle.refusals.specs.Given.{Answer, refused}
use Prim.Native.Nat.{ℕ}
use mathlib.Core.Path.{◌≡◌, refl, sym, ap, ◌∙◌}
use mathlib.Core.Bool.{cond}
use mathlib.Core.List.{List, [], ◌∷◌}
use lib.Dec.{eqb}
use Rattle.net.specs.Net.{Net}
use Rattle.sets.specs.Answer.{siphon_of, trap_of, set_numbers}
use Rattle.sets.specs.declared.SetAnswer.{SetAnswer}
use Rattle.sets.specs.declared.SetAnswer.TheVariants.{Yes, No}

abbrev back : List ℕ → Answer SetAnswer
back (k ∷ n ∷ at ∷ l) = cond (eqb k 0x81) (Ok (No at)) (refused n at)
back (k ∷ n ∷ []) = Ok Yes
back (k ∷ []) = Ok Yes
back [] = Ok Yes

back_is : (a : Answer SetAnswer) → back (set_numbers a) ≡ a
back_is (Ok Yes) = refl
back_is (Ok (No t)) = refl
back_is (Err r) = refl

pub numbers_apart : (a b : Answer SetAnswer) → set_numbers a ≡ set_numbers b → a ≡ b
numbers_apart a b e = sym (back_is a) ∙ ap back e ∙ back_is b

-- each promise has one answer
pub siphon_unique : (net : Net) (s : List ℕ) (r r' : Answer SetAnswer) → set_numbers r ≡ set_numbers (siphon_of net s) → set_numbers r' ≡ set_numbers (siphon_of net s) → r ≡ r'
siphon_unique net s r r' p q = numbers_apart r r' (p ∙ sym q)

pub trap_unique : (net : Net) (s : List ℕ) (r r' : Answer SetAnswer) → set_numbers r ≡ set_numbers (trap_of net s) → set_numbers r' ≡ set_numbers (trap_of net s) → r ≡ r'
trap_unique net s r r' p q = numbers_apart r r' (p ∙ sym q)
