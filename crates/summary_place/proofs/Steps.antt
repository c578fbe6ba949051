-- Laws of `step`, the larger of x and y + l - g. Assumes nothing.
use Prim.Native.Nat.{ℕ, ◌+◌, ◌-◌, ◌≤◌, max}
use mathlib.Core.Path.{◌≡◌}
use native.Mathlib.Nat.{le_antisymm}
use native.Mathlib.Omega.{arith}
use Rattle.summary_place.specs.Walk.{step}

-- it is the least that is not below these two
pub step_x : (x y l g : ℕ) → x ≤ step x y l g
unfolding step
step_x x y l g = omega arith

pub step_y : (x y l g : ℕ) → y + l ≤ step x y l g + g
unfolding step
step_y x y l g = omega arith

pub step_least : (x y l g m : ℕ) → x ≤ m → y + l ≤ m + g → step x y l g ≤ m
unfolding step
step_least x y l g m p q = omega arith

pub step_is : (x y l g z : ℕ) → z ≡ (y + l) - g → max x z ≡ step x y l g
unfolding step
step_is x y l g z e = rw e

-- it goes by the difference of l and g alone
pub step_diff : (x y l g l' g' : ℕ) → l + g' ≡ l' + g → step x y l g ≡ step x y l' g'
unfolding step
step_diff x y l g l' g' h = omega arith

pub step_assoc : (x y z l g l' g' : ℕ) → step (step x y l g) z (l + l') (g + g') ≡ step x (step y z l' g') l g
step_assoc x y z l g l' g' =
    let xy = step x y l g in
    let yz = step y z l' g' in
    let s = step xy z (l + l') (g + g') in
    let x-xy = step_x x y l g in
    let y-xy = step_y x y l g in
    let xy-s = step_x xy z (l + l') (g + g') in
    let z-s = step_y xy z (l + l') (g + g') in
    let yz-r = step_y x yz l g in
    let y-yz = step_x y z l' g' in
    let z-yz = step_y y z l' g' in
    let yz-s = step_least y z l' g' ((s + g) - l) (omega arith) (omega arith) in
    le_antisymm
    (step_least xy z (l + l') (g + g') _ (step_least x y l g _ (step_x x yz l g) (omega arith)) (omega arith))
    (step_least x yz l g s (omega arith) (omega arith))

pub step_left : (y : ℕ) → step 0 y 0 0 ≡ y
unfolding step
step_left y = omega arith

pub step_right : (x l g : ℕ) → l ≤ x + g → step x 0 l g ≡ x
unfolding step
step_right x l g h = omega arith
