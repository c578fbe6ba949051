-- Laws of a list judged marking by marking: the turns of the loop, and that the entries of markings that may be given are those of the list. Assumes nothing.
use Prim.Native.Nat.{ℕ, ◌+◌, ◌-◌, ◌*◌, ◌%◌, ◌≤◌, ◌<◌}
use mathlib.Core.Path.{◌≡◌, sym, ap, ◌∙◌}
use mathlib.Core.Bool.{Bool, true, false}
use mathlib.Core.List.{List}
use native.Mathlib.Omega.{arith}
use native.Mathlib.Decide.{dec_lt}
use native.Mathlib.Nat.{mod-eq_of_lt, mul-add-mod_self_right, div-mul-le_self, add-mul}
use lib.ListN.{length, get_or}
use borrow.Author.Tests.{eqb-true}
use Rattle.ground.proofs.Scan.{Below, none_of, first_none}
use Rattle.net.proofs.Rows.{row_at, row_end, row_length_lem}
use Rattle.refusals.specs.Given.{token_bad}
use Rattle.lists.specs.Whole.{count, marking_at}
use Rattle.list_refusals.specs.Given.{whole, bad_entry}
use Rattle.list_refusals.specs.Fine.{fine_marking, FineList}
use Rattle.list_refusals.proofs.Wholes.{whole_long}

-- an entry by its number
abbrev pub bad : ℕ → List ℕ → List ℕ → ℕ → Bool
bad P caps list k = token_bad (get_or caps (k % P) 0) (get_or list k 0)

module _ (P : ℕ) (caps list : List ℕ) where
  -- marking number k ends in the list
  pub fine_end : (k : ℕ) → k < count P list → k * P + P ≤ length list
  fine_end k h = omega (arith, row_end k (count P list) P h, div-mul-le_self (length list) P)

  -- r is the answer for marking number k
  pub fine_next : (k : ℕ) (r : Bool) → k * P + P ≤ length list → r ≡ fine_marking caps (marking_at P list k) → r ≡ true → Below (bad P caps list) (k * P) → Below (bad P caps list) ((k + 1) * P)
  fine_next k r l e t lo = record { none = λ i h. go i h (dec_lt i (k * P)) }
    where
      go : (i : ℕ) → i < (k + 1) * P → Dec (i < k * P) → bad P caps list i ≡ false
      go i h (yes a) = lo.none i a
      go i h (no a) =
          let u : i - k * P < P = omega (arith, add-mul k 1 P) in
          let z : k * P + (i - k * P) ≡ i = omega arith in
          let q = (none_of (λ p. token_bad (get_or caps p 0) (get_or (marking_at P list k) p 0)) (length (marking_at P list k)) (eqb-true _ 0 (sym e ∙ t))).none (i - k * P) (rw (row_length_lem P k list l) u) in
          let m : i % P ≡ i - k * P = ap (λ (j : ℕ). j % P) (sym z) ∙ mul-add-mod_self_right k P (i - k * P) ∙ mod-eq_of_lt u in
          let g : get_or list i 0 ≡ get_or (marking_at P list k) (i - k * P) 0 = ap (λ (j : ℕ). get_or list j 0) (sym z) ∙ sym (row_at P k list (i - k * P) u) in
          rw (m, g) q

  pub fine_all : (k : ℕ) → Below (bad P caps list) (k * P) → whole P list ≡ true → k ≤ count P list → count P list ≤ k → FineList P caps list true
  fine_all k lo w h l = record { none = λ t. go (rw q at lo) (whole_long P list w) }
    where
      q : k ≡ count P list
      q = omega arith

      go : Below (bad P caps list) (count P list * P) → length list ≡ count P list * P → length list ≡ bad_entry P caps list
      go b e = sym (first_none (bad P caps list) (length list) (λ i u. b.none i (omega arith)))
