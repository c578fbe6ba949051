-- Laws of the frame 06 that is put where some place is a pocket, and only there. Assumes nothing.
use Prim.Native.Nat.{ℕ, ◌+◌, ◌≤◌}
use mathlib.Core.Path.{◌≡◌, refl, sym, ◌∙◌, ap}
use mathlib.Core.Bool.{Bool, true, false}
use mathlib.Core.List.{List, [], ◌∷◌}
use mathlib.Core.Logic.{◌↔◌}
use native.Mathlib.Omega.{arith}
use lib.ListN.{length, get_or}
use lib.Dec.{eqb}
use borrow.Author.Tests.{eq-eqb, ne_eqb, eqb-true, eqb-false}
use Rattle.file_put.specs.declared.Sheet.{Sheet}
use Rattle.file_put.specs.Sheet.{Written}
use Rattle.file_put.specs.Put.{line_text}
use Rattle.file_put.proofs.Sheets.{written_none}
use Rattle.file_mask.specs.Mask.{mask_bytes, mask_of, eight}
use Rattle.file_mask.proofs.Masks.{mask_none}
use Rattle.file_text.specs.Text.{pockets_line, pockets_lines}
use Rattle.file_out.specs.Length.{line_length, mask_length}
use Rattle.file_out.proofs.Length.{mask_some, mask_line_long}

-- where no place is a pocket there is no 06, else there is one
pub no_pockets : (marks : List ℕ) → mask_of marks ≡ 0 → pockets_lines marks ≡ []
unfolding pockets_lines
no_pockets marks h = rw (eq-eqb (mask_of marks) 0 h)

pub some_pockets : (marks : List ℕ) → (mask_of marks ≡ 0 → ⊥) → pockets_lines marks ≡ pockets_line marks
unfolding pockets_lines
some_pockets marks h = rw (ne_eqb (mask_of marks) 0 h)

-- `mask` is what was made of the marks
module _ (marks : List ℕ) (mask : ℕ) (e : mask ≡ mask_of marks) where
  pub pockets_none : (s : Sheet) → mask ≡ 0 → Written s (pockets_lines marks) s
  pockets_none s z = rw (no_pockets marks (sym e ∙ z)) (written_none s)

  pub pockets_room : (at n : ℕ) → (mask ≡ 0 → ⊥) → at + mask_length (mask_of marks) ≤ n → at + line_length (1 + mask_bytes) ≤ n
  pockets_room at n z h = omega (arith, h, mask_some (mask_of marks) (λ q. z (e ∙ q)))

  pub pockets_written : {s t : Sheet} → (mask ≡ 0 → ⊥) → Written s (line_text (6 ∷ eight mask)) t → Written s (pockets_lines marks) t
  pockets_written z p = rw (some_pockets marks (λ q. z (e ∙ q)), ← e) p

-- "it is written only if some place is a pocket", and then it is
pub pockets_exactly : (marks : List ℕ) → (pockets_lines marks ≡ []) ↔ ((p : ℕ) → get_or marks p 0 ≡ 0)
pockets_exactly marks = (there (eqb (mask_of marks) 0) refl, λ h. no_pockets marks ((mask_none marks).1 h))
  where
    there : (b : Bool) → eqb (mask_of marks) 0 ≡ b → pockets_lines marks ≡ [] → (p : ℕ) → get_or marks p 0 ≡ 0
    there true e h = (mask_none marks).0 (eqb-true (mask_of marks) 0 e)
    there false e h =
        let z : length (pockets_line marks) ≡ 0 = ap length (sym (some_pockets marks (eqb-false (mask_of marks) 0 e)) ∙ h) in
        absurd (omega (arith, z, mask_line_long (mask_of marks)))
