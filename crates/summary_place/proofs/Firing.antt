-- A word fires at one place: letters of three numbers, for any rise and any kind of room. Assumes nothing.
use Prim.Native.Nat.{ℕ, ◌+◌, ◌-◌, ◌≤◌, zero-le}
use mathlib.Core.List.{List, [], ◌∷◌}
use native.Mathlib.Decide.{dec_le}
use native.Mathlib.Omega.{arith}
use Rattle.summary_place.specs.Place.{Move}
use Rattle.summary_place.specs.Walk.{step}
use Rattle.summary_place.proofs.Steps.{step_x, step_y, step_least}
use Rattle.summary_place.proofs.Peaks.{peak}
use Rattle.summary_place.proofs.Words.{Rising, takes, puts, rise}

module _ (at : ℕ → Move) (Room : ℕ → Type 0) where
  -- from m tokens: each letter finds what it takes, and room for its rise
  unfoldable pub FiresAt : ℕ → List ℕ → Type 0
  FiresAt m [] = Unit {0}
  FiresAt m (t ∷ w) = (takes at t ≤ m) × (Room (m + rise at t) × FiresAt ((m + puts at t) - takes at t) w)

  pub at_none : (m : ℕ) → FiresAt m []
  unfolding FiresAt
  at_none m = tt

  pub at_more : (m t : ℕ) (w : List ℕ) → takes at t ≤ m → Room (m + rise at t) → FiresAt ((m + puts at t) - takes at t) w → FiresAt m (t ∷ w)
  unfolding FiresAt
  at_more m t w a b f = (a, (b, f))

  pub more_at : (m t : ℕ) (w : List ℕ) → FiresAt m (t ∷ w) → (takes at t ≤ m) × (Room (m + rise at t) × FiresAt ((m + puts at t) - takes at t) w)
  unfolding FiresAt
  more_at m t w f = f

  module _ (less : (m n : ℕ) → m ≤ n → Room n → Room m) (rising : Rising at) where
    -- then the need is covered and there is room for the climb
    pub fires_then : (w : List ℕ) (m : ℕ) → Room m → FiresAt m w → (peak (takes at) (takes at) (puts at) w ≤ m) × Room (m + peak (rise at) (puts at) (takes at) w)
    unfolding FiresAt peak
    fires_then [] m r f = (zero-le, less (m + 0) m (omega arith) r)
    fires_then (t ∷ w) m r f =
        go (fires_then w ((m + puts at t) - takes at t) (less _ (m + rise at t) (omega (arith, rising.kept t)) f.1.0) f.1.1)
      where
        n : ℕ
        n = peak (takes at) (takes at) (puts at) w

        k : ℕ
        k = peak (rise at) (puts at) (takes at) w

        top : Room (((m + puts at t) - takes at t) + k) → Room (m + step (rise at t) k (puts at t) (takes at t))
        top q =
            elim (dec_le (k + puts at t) (rise at t + takes at t)) [
              | yes h ↦ less _ (m + rise at t) (omega (arith, step_least (rise at t) k (puts at t) (takes at t) (rise at t) (omega arith) h)) f.1.0
              | no h ↦ less _ _ (omega (arith, f.0, step_least (rise at t) k (puts at t) (takes at t) ((k + puts at t) - takes at t) (omega arith) (omega arith))) q
            ]

        go : (n ≤ (m + puts at t) - takes at t) × Room (((m + puts at t) - takes at t) + k) → (step (takes at t) n (takes at t) (puts at t) ≤ m) × Room (m + step (rise at t) k (puts at t) (takes at t))
        go g = (step_least (takes at t) n (takes at t) (puts at t) m f.0 (omega (arith, f.0, g.0)), top g.1)

    -- and the other way
    pub then_fires : (w : List ℕ) (m : ℕ) → peak (takes at) (takes at) (puts at) w ≤ m → Room (m + peak (rise at) (puts at) (takes at) w) → FiresAt m w
    unfolding FiresAt peak
    then_fires [] m h r = tt
    then_fires (t ∷ w) m h r =
        let n = peak (takes at) (takes at) (puts at) w in
        let k = peak (rise at) (puts at) (takes at) w in
        let x = step_x (takes at t) n (takes at t) (puts at t) in
        let y = step_y (takes at t) n (takes at t) (puts at t) in
        let z = step_x (rise at t) k (puts at t) (takes at t) in
        let s = step_y (rise at t) k (puts at t) (takes at t) in
        (omega arith, (less _ _ (omega arith) r, then_fires w ((m + puts at t) - takes at t) (omega arith) (less _ _ (omega arith) r)))
