-- Tests as truth values: what a test that failed or held says, and tests joined by "or". Assumes nothing.
use Prim.Native.Nat.{ℕ, ◌<◌, ◌≤◌}
use mathlib.Core.Path.{◌≡◌, refl, sym}
use mathlib.Core.Bool.{Bool, true, false, not, ◌&&◌, ◌||◌}
use native.Mathlib.Omega.{arith}
use lib.Dec.{eqb, ltb}
use borrow.Author.Tests.{eqb-true, lt-ltb, le-ltb, le-leb, lt-leb, eq-eqb, ne_eqb}

-- a truth value is one of two
pub never : {A : Type 0} → true ≡ false → A
never e = let z : ◌≡◌ {A = ℕ} 0 1 = cc in absurd (omega arith)

pub or-false : (a b : Bool) → (a || b) ≡ false → (a ≡ false) × (b ≡ false)
or-false true b e = never e
or-false false b e = (refl, e)

pub both_false : (a b : Bool) → a ≡ false → b ≡ false → (a || b) ≡ false
both_false a b p q = rw (p, q)

pub and-true : (a b : Bool) → (a && b) ≡ true → (a ≡ true) × (b ≡ true)
and-true true b e = (refl, e)
and-true false b e = never (sym e)

pub unlike_false : (a b : ℕ) → not (eqb a b) ≡ false → a ≡ b
unlike_false a b e = go (eqb a b) refl
  where
    go : (t : Bool) → eqb a b ≡ t → a ≡ b
    go true q = eqb-true a b q
    go false q = never (rw q at e)

pub like_false : (a b : ℕ) → a ≡ b → not (eqb a b) ≡ false
like_false a b e = rw (eq-eqb a b e)

-- a test is the one asked for if it holds and fails where that does, however it is written: so a wrong one is refused at a
-- number, and a right one is not
pub below_is : (t : Bool) (a b : ℕ) → (t ≡ true → a < b) → (t ≡ false → b ≤ a) → t ≡ ltb a b
below_is true a b p q = sym (lt-ltb a b (p refl))
below_is false a b p q = sym (le-ltb a b (q refl))

-- ... after a test whose value is known
pub or_next : (s t u : Bool) → s ≡ false → t ≡ u → t ≡ (s || u)
or_next s t u p q = rw p q

pub and_next : (s t u : Bool) → s ≡ true → t ≡ u → t ≡ (s && u)
and_next s t u p q = rw p q

-- a test's value from what the branches know
pub ruleset tests = (lt-ltb, le-ltb, le-leb, lt-leb, eq-eqb, ne_eqb)
