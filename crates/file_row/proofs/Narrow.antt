-- Laws of the two kinds of frame that have a transition's weights. Assumes nothing.
use mathlib.Core.Path.{◌≡◌, refl}
use mathlib.Core.Bool.{Bool, true, false, cond}
use mathlib.Core.List.{List}
use Prim.Native.Nat.{ℕ, ◌+◌, ◌*◌, ◌≤◌, ◌<◌}
use native.Mathlib.Omega.{arith}
use lib.ListN.{length, get_or}
use lib.Dec.{eqb}
use Rattle.weights.proofs.Heavies.{row_light, light_row}
use Rattle.file_digits.specs.Frame.{bytes_from}
use Rattle.file_digits.proofs.Bytes.{of_below, bytes_long, bytes_small}
use Rattle.file_row.specs.Row.{byte_limit, narrow_row, wide_row, weight_bytes, is_wide, row_kind, weights_from, takes_in, puts_in}
use Rattle.file_row.specs.Walk.{Fit}

-- rows of the same kind and length have as many bytes
pub row_alike : {k j m n : ℕ} → k ≡ j → m ≡ n → weight_bytes k * m ≡ weight_bytes j * n
row_alike e f = rw (e, f)

-- the frame for two rows, and that it holds them
module _ (takes puts : List ℕ) where
  pub kind_wide : is_wide takes puts ≡ true → row_kind takes puts ≡ wide_row
  unfolding row_kind
  kind_wide e = rw e

  pub kind_narrow : is_wide takes puts ≡ false → row_kind takes puts ≡ narrow_row
  unfolding row_kind
  kind_narrow e = rw e

  -- "exactly when one of its weights is over 255"
  pub wide_kind : row_kind takes puts ≡ wide_row → is_wide takes puts ≡ true
  wide_kind e = go (is_wide takes puts) refl
    where
      go : (b : Bool) → is_wide takes puts ≡ b → is_wide takes puts ≡ true
      go true q = q
      go false q = absurd (omega (arith, kind_narrow q))

  pub kind_small : row_kind takes puts < 256
  unfolding row_kind
  kind_small = go (is_wide takes puts)
    where
      go : (b : Bool) → cond b wide_row narrow_row < 256
      go true = omega arith
      go false = omega arith

  each_fits : eqb (row_kind takes puts) wide_row ≡ false → (p : ℕ) → p < length takes → (get_or takes p 0 ≤ byte_limit) × (get_or puts p 0 ≤ byte_limit)
  unfolding row_kind
  each_fits = go (is_wide takes puts) refl
    where
      go : (b : Bool) → is_wide takes puts ≡ b → eqb (cond b wide_row narrow_row) wide_row ≡ false → (p : ℕ) → p < length takes → (get_or takes p 0 ≤ byte_limit) × (get_or puts p 0 ≤ byte_limit)
      go true q e p h = let z : ◌≡◌ {A = ℕ} 0 1 = cc in absurd (omega arith)
      go false q e p h = row_light byte_limit takes puts q p h

  pub takes_fit : Fit (row_kind takes puts) takes
  takes_fit = record { narrow = λ e p h. (each_fits e p h).0 }

  pub puts_fit : length puts ≡ length takes → Fit (row_kind takes puts) puts
  puts_fit l = record { narrow = λ e p h. (each_fits e p (omega arith)).1 }

-- what an 04 holds has no weight over 255
pub narrow_rows : (d : List ℕ) (P : ℕ) → is_wide (takes_in narrow_row d P) (puts_in narrow_row d P) ≡ false
unfolding weights_from
narrow_rows d P =
    light_row byte_limit (bytes_from d 2 P) (bytes_from d (2 + 1 * P) P)
    (λ p h.
    let b = bytes_long d 2 P in
    let x = of_below 256 (bytes_from d 2 P) p (bytes_small d 2 P) h in
    let y = of_below 256 (bytes_from d (2 + 1 * P) P) p (bytes_small d (2 + 1 * P) P) (omega (arith, bytes_long d (2 + 1 * P) P)) in
    (omega arith, omega arith))
