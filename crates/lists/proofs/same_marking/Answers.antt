use Prim.Native.Nat.{ℕ, ◌≤◌, ◌<◌, ◌-◌}
use mathlib.Core.Path.{◌≡◌, refl, sym, ◌∙◌}
use mathlib.Core.Bool.{Bool, true, false}
use native.Mathlib.Omega.{arith}
use native.Mathlib.Decide.{dec_le}
use lib.ListN.{length}
use Rattle.ground.proofs.Tests.{never}
use Rattle.lists.specs.Some.{none}
use Rattle.lists.proofs.Somes.{is_none, none_at}
use borrow.Author.Rules.{rules}
use Rattle.lists.proofs.same_marking.Invariants.{Above}
use Rattle.lists.proofs.same_marking.Goals as goal

down_start : (f : ℕ → Bool) (n : ℕ) → Above f n n
down_start f n = record { none = λ k h l. absurd (omega arith) }

down_next : (f : ℕ → Bool) (i n : ℕ) (r : Bool) → Above f i n → r ≡ f (i - 1) → r ≡ false → Above f (i - 1) n
down_next f i n r hi e t = record { none = λ k h l. go k h l (dec_le i k) }
  where
    go : (k : ℕ) → i - 1 ≤ k → k < n → Dec (i ≤ k) → f k ≡ false
    go k h l (yes a) = hi.none k a l
    go k h l (no a) = let q : i - 1 ≡ k = omega arith in rw q at (sym e ∙ t)

-- a place below n that passes is seen, and where the scan has come down to place 0 none does
none_seen : (f : ℕ → Bool) (n i : ℕ) (r : Bool) → r ≡ f (i - 1) → r ≡ true → 0 < i → i ≤ n → false ≡ none f n
none_seen f n i r e t h l = go (none f n) refl
  where
    go : (b : Bool) → none f n ≡ b → false ≡ none f n
    go true q = never (sym (sym e ∙ t) ∙ none_at f n q (i - 1) (omega arith))
    go false q = sym q

none_down : (f : ℕ → Bool) (n i : ℕ) → Above f i n → i ≤ 0 → true ≡ none f n
none_down f n i hi h = sym (is_none f n (λ k l. hi.none k (omega arith) l))

ruleset downs = (down_start, down_next)

pub loop-p-init : goal.loop-p-init
loop-p-init c = search (downs, rules)

pub returns-then-is_unlike : goal.returns-then-is_unlike
returns-then-is_unlike c = none_seen _ _ c.loop-p.p _ c.is_unlike.ensures (search rules) (omega (arith, c.loop-p-test.true)) c.loop-p.auto.p

pub returns : goal.returns
returns c = none_down _ (length c.args.marking.now) c.loop-p.p c.loop-p.invariant c.loop-p-test.false
