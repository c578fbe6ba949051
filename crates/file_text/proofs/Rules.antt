-- The digits of a frame keep the rule of a line, and no line feed is among them. Assumes nothing.
use mathlib.Core.Path.{◌≡◌, refl, sym, ◌∙◌, ap}
use mathlib.Core.Bool.{Bool, true, false, ◌&&◌, cond, false≢true}
use mathlib.Core.List.{List, [], ◌∷◌}
use Prim.Native.Nat.{ℕ, suc, ◌*◌, ◌%◌, ◌≤◌}
use native.Mathlib.Omega.{arith}
use lib.Dec.{eqb}
use lib.ListN.{length}
use borrow.Author.Tests.{le-leb, eq-eqb, ne_eqb}
use Rattle.file_digits.specs.Frame.{line_limit, line_feed, is_digit, all_digits}
use Rattle.file_put.specs.Put.{digits_of}
use Rattle.file_digits.proofs.Frames.{low}
use Rattle.file_digits.proofs.Bytes.{Below}
use Rattle.file_put.proofs.Round.{digits_long, digits_all}
use Rattle.file_line.specs.Read.{rule_of}
use Rattle.file_parts.specs.File.{line_len, NoFeed}

pub no_feed : (d : List ℕ) → all_digits d ≡ true → NoFeed d
unfolding all_digits line_len
no_feed [] t = refl
no_feed (x ∷ d) t = go (is_digit x) refl t (λ u. no_feed d u) where
  plain : is_digit x ≡ true → x ≡ line_feed → ⊥
  plain p e = false≢true (sym (low x (omega arith)).1 ∙ p)

  go : (a : Bool) → is_digit x ≡ a → (a && all_digits d) ≡ true → (all_digits d ≡ true → NoFeed d)
      → cond (eqb x line_feed) 0 (suc (line_len d)) ≡ suc (length d)
  go false p u r = absurd (false≢true u)
  go true p u r = simp (ne_eqb x line_feed (plain p)) (ap suc (r u))

-- the digits of a frame of 1 to 130 bytes keep the rule
pub rule_digits : (f : List ℕ) → Below 256 f → 1 ≤ length f → 2 * length f ≤ line_limit → rule_of (digits_of f) ≡ true
unfolding rule_of
rule_digits f w h k =
    let e = digits_long f in
    simp (
      le-leb 2 (length (digits_of f)) (omega arith),
      le-leb (length (digits_of f)) line_limit (omega arith),
      eq-eqb (length (digits_of f) % 2) 0 (omega (arith, e)),
    )
    (digits_all f w)
