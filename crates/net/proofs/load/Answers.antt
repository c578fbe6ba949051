use Prim.Native.Nat.{ℕ, ◌≤◌}
use lib.ListN.{length, get_or}
use mathlib.Core.Path.{◌≡◌, ◌∙◌}
use mathlib.Core.List.{List}
use Rattle.ground.proofs.Fill.{Made, makes, make_end, table_own}
use borrow.Author.Rules.{rules}
use Rattle.net.proofs.load.Goals as goal

loaded : (l r₀ : List ℕ) (p : ℕ) (r : List ℕ) → Made 0 (λ p. get_or l p 0) r₀ p r → length l ≡ length r₀ → length r₀ ≤ p → r ≡ l
loaded l r₀ p r m e h = make_end 0 (λ p. get_or l p 0) r₀ p r m h ∙ rw (← e) (table_own 0 l)

pub loop-p-init : goal.loop-p-init
loop-p-init c = search (makes, rules)

pub loop-p-preserved : goal.loop-p-preserved
loop-p-preserved c = search (makes, rules)

pub returns : goal.returns
returns c = search (loaded, rules)
