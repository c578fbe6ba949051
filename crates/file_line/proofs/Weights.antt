-- The weights of an 07: the tests of 12 and of 18 are document 02's demands. Assumes nothing.
use mathlib.Core.Path.{◌≡◌, refl}
use mathlib.Core.Bool.{Bool, true, false, ◌||◌}
use mathlib.Core.Logic.{◌⊎◌, inl, inr}
use mathlib.Core.List.{List}
use Prim.Native.Nat.{ℕ, ◌≤◌, ◌<◌}
use lib.Dec.{eqb}
use lib.ListN.{length, get_or}
use borrow.Author.Tests.{eqb-true}
use Rattle.ground.specs.Limits.{weight_limit}
use Rattle.weights.specs.Heavy.{row_over}
use Rattle.weights.proofs.Heavies.{row_light, light_row}
use Rattle.weights.proofs.SomeOver.{some_over, over_some}
use Rattle.file_row.specs.Row.{byte_limit, narrow_row, wide_row, is_row, is_wide, takes_in, puts_in}
use Rattle.file_row.proofs.Weights.{from_long}
use Rattle.file_line.specs.declared.Reading.{Reading}
use Rattle.file_line.specs.Line.{SomeWide}

-- the two kinds of a transition's weights
pub row_kinds : (k : ℕ) → is_row k ≡ true → (k ≡ narrow_row) ⊎ (k ≡ wide_row)
row_kinds k e = go (eqb k narrow_row) refl e
  where
    go : (b : Bool) → eqb k narrow_row ≡ b → (b || eqb k wide_row) ≡ true → (k ≡ narrow_row) ⊎ (k ≡ wide_row)
    go true q h = inl (eqb-true k narrow_row q)
    go false q h = inr (eqb-true k wide_row h)

pub kinds_row : (k : ℕ) → (k ≡ narrow_row) ⊎ (k ≡ wide_row) → is_row k ≡ true
kinds_row k (inl e) = rw e
kinds_row k (inr e) = rw e

module _ (s : Reading) (d : List ℕ) where
  long : length (takes_in wide_row d s.places) ≡ s.places
  long = from_long wide_row d 2 s.places

  -- 12: "an 07 with none such"
  pub wide_some : is_wide (takes_in wide_row d s.places) (puts_in wide_row d s.places) ≡ true → SomeWide s d
  wide_some e =
      let o = some_over byte_limit (takes_in wide_row d s.places) (puts_in wide_row d s.places) e in
      record { place = o.place; here = rw long at o.here; wide = o.over }

  pub some_wide : SomeWide s d → is_wide (takes_in wide_row d s.places) (puts_in wide_row d s.places) ≡ true
  some_wide w = over_some byte_limit _ _ (record { place = w.place; here = rw long w.here; over = w.wide })

  -- 18: a weight over what is allowed
  pub weights_light : row_over weight_limit (takes_in wide_row d s.places) (puts_in wide_row d s.places) ≡ false
      → (p : ℕ) → p < s.places → (get_or (takes_in wide_row d s.places) p 0 ≤ weight_limit) × (get_or (puts_in wide_row d s.places) p 0 ≤ weight_limit)
  weights_light e p h = row_light weight_limit _ _ e p (rw long h)

  pub light_weights : ((p : ℕ) → p < s.places → (get_or (takes_in wide_row d s.places) p 0 ≤ weight_limit) × (get_or (puts_in wide_row d s.places) p 0 ≤ weight_limit))
      → row_over weight_limit (takes_in wide_row d s.places) (puts_in wide_row d s.places) ≡ false
  light_weights each = light_row weight_limit _ _ (λ p h. each p (rw long at h))
