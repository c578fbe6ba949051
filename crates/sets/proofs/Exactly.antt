-- "Given exactly when": what is allowed is answered, what is answered is allowed, and each refusal is the one of the first demand that does not hold.
-- Each is said of whatever keeps the entry's promise. Assumes nothing.
use Rattle.refusals.specs.Given.{Answer, refused}
use Prim.Native.Nat.{ℕ}
use mathlib.Core.Path.{◌≡◌}
use mathlib.Core.Logic.{◌↔◌}
use mathlib.Core.List.{List}
use Rattle.net.specs.Net.{Net}
use Rattle.refusals.proofs.Exactly.{Answers, answers_ok, exactly_refused, is_answered, is_allowed}
use Rattle.sets.specs.Allowed.{Allowed, Refusal}
use Rattle.sets.specs.Answer.{turned, set_fault, judged_set, siphon_of, trap_of, set_numbers}
use Rattle.sets.specs.declared.SetAnswer.{SetAnswer}
use Rattle.sets.proofs.Numbers.{numbers_apart}
use Rattle.sets.proofs.Allowed.{allowed_of, of_allowed, set_chain}

module _ (net : Net) (s : List ℕ) (r : Answer SetAnswer) (promise : set_numbers r ≡ set_numbers (siphon_of net s)) where
  siphon_made : Answers (set_fault net s) r
  siphon_made = answers_ok (set_fault net s) (judged_set net s) r (numbers_apart r (siphon_of net s) promise)

  pub siphon_allowed_answered : Allowed net s → (n at : ℕ) → r ≡ refused n at → ⊥
  siphon_allowed_answered = is_answered siphon_made (of_allowed net s)

  pub siphon_answered_allowed : ((n at : ℕ) → r ≡ refused n at → ⊥) → Allowed net s
  siphon_answered_allowed = is_allowed siphon_made (allowed_of net s)

  pub siphon_refused_exactly : (n at : ℕ) → (r ≡ refused n at) ↔ Refusal net s n at
  siphon_refused_exactly = exactly_refused siphon_made (set_chain net s)

module _ (net : Net) (s : List ℕ) (r : Answer SetAnswer) (promise : set_numbers r ≡ set_numbers (trap_of net s)) where
  trap_made : Answers (set_fault net s) r
  trap_made = answers_ok (set_fault net s) (judged_set (turned net) s) r (numbers_apart r (trap_of net s) promise)

  pub trap_allowed_answered : Allowed net s → (n at : ℕ) → r ≡ refused n at → ⊥
  trap_allowed_answered = is_answered trap_made (of_allowed net s)

  pub trap_answered_allowed : ((n at : ℕ) → r ≡ refused n at → ⊥) → Allowed net s
  trap_answered_allowed = is_allowed trap_made (allowed_of net s)

  pub trap_refused_exactly : (n at : ℕ) → (r ≡ refused n at) ↔ Refusal net s n at
  trap_refused_exactly = exactly_refused trap_made (set_chain net s)
