-- Laws of a pass over the digits of an 07. Assumes nothing.
use mathlib.Core.Path.{◌≡◌, sym, ◌∙◌}
use mathlib.Core.Bool.{◌||◌}
use mathlib.Core.List.{List}
use Prim.Native.Nat.{ℕ, ◌+◌, ◌*◌, ◌≤◌, ◌<◌}
use native.Mathlib.Omega.{arith}
use lib.ListN.{get_or}
use lib.Dec.{ltb}
use Rattle.ground.specs.Lists.{bit, tally}
use Rattle.weights.specs.Heavy.{over_at, row_over}
use Rattle.weights.proofs.Heavies.{row_told}
use Rattle.file_digits.specs.Frame.{word_at}
use Rattle.file_digits.proofs.Bytes.{words_at}
use Rattle.file_row.specs.Row.{wide_row, weights_from, takes_in, puts_in}
use Rattle.file_row.proofs.Weights.{from_long}

-- one place, from its two numbers
pub wide_place : (limit : ℕ) (d : List ℕ) (P p x y r : ℕ) → p < P → x ≡ word_at d (2 + 2 * p) → y ≡ word_at d (2 + 2 * P + 2 * p) → r ≡ bit (ltb limit x || ltb limit y)
    → r ≡ bit (over_at limit (takes_in wide_row d P) (puts_in wide_row d P) p)
unfolding weights_from
wide_place limit d P p x y r h e f g =
    let a : get_or (takes_in wide_row d P) p 0 ≡ x = words_at d 2 P p h ∙ sym e in
    let b : get_or (puts_in wide_row d P) p 0 ≡ y = words_at d (2 + 2 * P) P p h ∙ sym f in
    rw (a, b) g

-- the pass has come to its end
pub wide_told : (limit : ℕ) (d : List ℕ) (P p n : ℕ) → n ≡ tally (over_at limit (takes_in wide_row d P) (puts_in wide_row d P)) p → p ≤ P → P ≤ p → ltb 0 n ≡ row_over limit (takes_in wide_row d P) (puts_in wide_row d P)
wide_told limit d P p n e h l =
    let m = from_long wide_row d 2 P in
    row_told limit (takes_in wide_row d P) (puts_in wide_row d P) p n e (omega arith) (omega arith)
