-- A row is over a limit exactly where some place of it is. Assumes nothing.
use Prim.Native.Nat.{ℕ, ◌≤◌, ◌<◌}
use mathlib.Core.Path.{◌≡◌, refl, sym, ◌∙◌}
use mathlib.Core.Bool.{Bool, true, false, ◌||◌}
use mathlib.Core.Logic.{◌⊎◌, inl, inr, ⊎_elim}
use mathlib.Core.List.{List}
use native.Mathlib.Omega.{arith}
use native.Mathlib.Decide.{dec_lt}
use lib.Dec.{ltb}
use lib.ListN.{length, get_or}
use borrow.Author.Tests.{ltb-true, ltb-false}
use Rattle.ground.specs.Lists.{first}
use Rattle.ground.proofs.Tests.{never, or-false}
use Rattle.ground.proofs.Scan.{first_below, first_passes}
use Rattle.weights.specs.Heavy.{over_at, row_over}
use Rattle.weights.proofs.Heavies.{row_light, light_row}

-- a place with a weight over the limit, where the rows have one
pub record SomeOver (limit : ℕ) (takes puts : List ℕ) : Type 0 where
  pub place : ℕ
  pub here : place < length takes
  pub over : (limit < get_or takes place 0) ⊎ (limit < get_or puts place 0)

either : (a b : Bool) → (a || b) ≡ true → (a ≡ true) ⊎ (b ≡ true)
either true b e = inl refl
either false b e = inr e

pub some_over : (limit : ℕ) (takes puts : List ℕ) → row_over limit takes puts ≡ true → SomeOver limit takes puts
some_over limit takes puts e = go (dec_lt (first (over_at limit takes puts) (length takes)) (length takes))
  where
    found : ℕ
    found = first (over_at limit takes puts) (length takes)

    go : Dec (found < length takes) → SomeOver limit takes puts
    go (yes h) = record {
      place = found;
      here = h;
      over = ⊎_elim (λ q. inl (ltb-true limit _ q)) (λ q. inr (ltb-true limit _ q))
          (either (ltb limit (get_or takes found 0)) (ltb limit (get_or puts found 0)) (first_passes (over_at limit takes puts) (length takes) h));
    }
    go (no n) = never (sym e ∙ light_row limit takes puts (λ p h. none p (omega arith)))
      where
        none : (p : ℕ) → p < found → (get_or takes p 0 ≤ limit) × (get_or puts p 0 ≤ limit)
        none p h =
            let o = or-false (ltb limit (get_or takes p 0)) (ltb limit (get_or puts p 0)) (first_below (over_at limit takes puts) (length takes) p h) in
            (ltb-false limit _ o.0, ltb-false limit _ o.1)

pub over_some : (limit : ℕ) (takes puts : List ℕ) → SomeOver limit takes puts → row_over limit takes puts ≡ true
over_some limit takes puts o = go (row_over limit takes puts) refl
  where
    go : (b : Bool) → row_over limit takes puts ≡ b → row_over limit takes puts ≡ true
    go true q = q
    go false q =
        let l = row_light limit takes puts q o.place o.here in
        absurd (⊎_elim (λ h. omega (arith, l.0)) (λ h. omega (arith, l.1)) o.over)
