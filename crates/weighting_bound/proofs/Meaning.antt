-- What the answers for a bound mean, by the published definitions of firing and of weightings. Assumes nothing.
use Rattle.std.specs.Prelude.{Ok, Err}
use Rattle.refusals.specs.Given.{Answer, Fault}
use Prim.Native.Nat.{ℕ, ◌+◌, ◌*◌, ◌/◌, ◌≤◌, ◌<◌}
use mathlib.Core.Path.{◌≡◌, refl, sym, ◌∙◌}
use mathlib.Core.Bool.{Bool, true, false}
use mathlib.Core.List.{List}
use native.Mathlib.Nat.{mul_comm, mul-le-mul_left, div-mul-le_self, lt-div-mul-add, lt_of_mul-lt-mul_right, add-mul}
use native.Mathlib.Omega.{arith}
use lib.ListN.{length}
use lib.Dec.{ltb}
use lib.Signed.{◌≤ℤ◌, ≤ℤ_refl}
use lib.IntN.{ℤ, pos}
use borrow.Author.Tests.{le-ltb, ltb-true, ltb-false}
use Rattle.ground.specs.Limits.{token_limit}
use Rattle.ground.specs.Parts.{up, dn}
use Rattle.ground.proofs.Tests.{never}
use Rattle.ground.proofs.Parts.{parts_eq, le_pos, pos_lt, neg_le}
use Rattle.net.specs.Net.{Net, tokens}
use Rattle.net.specs.Firing.{Reachable}
use Rattle.weighting_sums.specs.Weighting.{entry, place_sum, PlaceInvariant, NoNegative, weight}
use Rattle.weighting_sums.specs.Tests.{lowest_transition, lowest_entry, has_negative}
use Rattle.weighting_sums.specs.Walk.{total, held}
use Rattle.weighting_bound.specs.Bound.{WholePart, Judged, found_bound, bound_of, bound_fault}
use Rattle.weighting_bound.specs.Allowed.{BoundAllowed}
use Rattle.weighting_bound.specs.declared.Bound.{Bound}
use Rattle.weighting_bound.specs.declared.Bound.TheVariants.{Bounded}
use Rattle.weighting_sums.proofs.Sum.{total_at}
use Rattle.weighting_sums.proofs.Entries.{no_negative, weight_is}
use Rattle.weighting_bound.proofs.Allowed.{bound_allowed_of}
use Rattle.weighting_sums.proofs.Lowest.{all_zero_lem, none_found, no_negative_of, of_no_negative}
use Rattle.weighting_sums.proofs.Meaning.{keeps_sum}
use Rattle.weighting_sums.proofs.Largest.{InRange, SumFits, bound_small, held_most}

-- each answer says what is published, with the causes tried in 01's order
pub bound_judged : (net : Net) (initial : List ℕ) (y : List ℤ) (p : ℕ) → Judged net initial y p (found_bound net initial y p)
unfolding found_bound
bound_judged net initial y p = go (ltb (lowest_transition net y) net.transitions) refl (has_negative y) refl (ltb 0 (up (entry y p))) refl
  where
    invariant : ltb (lowest_transition net y) net.transitions ≡ false → PlaceInvariant net y
    invariant q = record { at = all_zero_lem (place_sum net y) net.transitions (ltb-false _ _ q) }

    whole : has_negative y ≡ false → ltb 0 (up (entry y p)) ≡ true → WholePart (weight net y initial) (entry y p) (up (weight net y initial) / up (entry y p))
    whole n o =
        let d = no_negative y (ltb-false (lowest_entry true y) (length y) n) in
        let s = weight_is net y initial d in
        let e = parts_eq (entry y p) (pos (up (entry y p))) refl (d p) in
        let h = ltb-true 0 (up (entry y p)) o in
        rw (s, e) (part (total net.places (held y initial)) (up (entry y p)) h)
      where
        part : (S D : ℕ) → 0 < D → WholePart (pos S) (pos D) (S / D)
        part S D h =
            record {
              low = (le_pos (pos (S / D * D)) S).1 (div-mul-le_self S D);
              high = (pos_lt (pos ((S / D + 1) * D)) S).1 (omega (arith, add-mul (S / D) 1 D, lt-div-mul-add {a = S} h));
            }

    go : (b : Bool) → ltb (lowest_transition net y) net.transitions ≡ b → (n : Bool) → has_negative y ≡ n → (o : Bool) → ltb 0 (up (entry y p)) ≡ o → Judged net initial y p (found_bound net initial y p)
    go true q n k o l = rw q (λ i. never (sym q ∙ le-ltb (lowest_transition net y) net.transitions (none_found (place_sum net y) net.transitions i.at)))
    go false q true k o l = rw (q, k) (invariant q, λ n. never (sym k ∙ of_no_negative y n))
    go false q false k true l = rw (q, k, l) (invariant q, no_negative_of y k, (pos_lt (entry y p) 0).1 (ltb-true 0 (up (entry y p)) l), whole k l)
    go false q false k false l = rw (q, k, l) (invariant q, no_negative_of y k, (le_pos (entry y p) 0).1 (ltb-false 0 (up (entry y p)) l))

-- no entry has a negative part
down : {y : List ℤ} → NoNegative y → (k : ℕ) → dn (entry y k) ≡ 0
down {y} n k = omega (arith, (neg_le (entry y k) 0).0 (n.at k))

-- a weighting with no negative entry and y(p) > 0 bounds p by the whole part of (sum of y x marking) / y(p) wherever its sum has not risen. That y(p) > 0
-- is no premise of its own: without it nothing is a whole part.
pub bounds_place : (net : Net) (m m' : List ℕ) (y : List ℤ) (p b : ℕ) → NoNegative y → WholePart (weight net y m) (entry y p) b → p < net.places → weight net y m' ≤ℤ weight net y m → tokens m' p ≤ b
bounds_place net m m' y p b n w h l =
    let S = total net.places (held y m) in
    let S' = total net.places (held y m') in
    let D = up (entry y p) in
    let s : weight net y m ≡ pos S = weight_is net y m (down n) in
    let s' : weight net y m' ≡ pos S' = weight_is net y m' (down n) in
    let e : entry y p ≡ pos D = parts_eq (entry y p) (pos D) refl (down n p) in
    let f : S' ≤ S = (le_pos (pos S') S).0 (rw (s, s') at l) in
    let k : S < (b + 1) * D = (pos_lt (pos ((b + 1) * D)) S).0 (rw (s, e) at w.high) in
    let o : tokens m' p < b + 1 = lt_of_mul-lt-mul_right D (omega (arith, total_at net.places (held y m') p h, mul_comm D (tokens m' p))) in
    omega arith

-- "An invariant place weighting with no negative entry and y(p) > 0 bounds p by the whole part of (sum of y x initial marking) / y(p)."
pub invariant_bounds : {net : Net} {initial m : List ℕ} (y : List ℤ) (p b : ℕ) → PlaceInvariant net y → NoNegative y → WholePart (weight net y initial) (entry y p) b → p < net.places → Reachable net initial m → tokens m p ≤ b
invariant_bounds {net} {initial} {m} y p b i n w h r = bounds_place net initial m y p b n w h (rw (keeps_sum y i r.fires) (≤ℤ_refl (weight net y initial)))

-- where a bound is answered, nothing is refused, and it is the one that was found
bound_found : {net : Net} {initial : List ℕ} (y : List ℤ) (p b : ℕ) → bound_of net initial y p ≡ Ok (Bounded b) → BoundAllowed net initial y p × Judged net initial y p (Bounded b)
bound_found {net} {initial} y p b e = go (bound_fault net initial y p) refl
  where
    go : (f : Fault) → bound_fault net initial y p ≡ f → BoundAllowed net initial y p × Judged net initial y p (Bounded b)
    go (Err r) q = let z : ◌≡◌ {A = Answer Bound} (Err r) (Ok (Bounded b)) = rw q at e in let k : ◌≡◌ {A = ℕ} 0 1 = cc in absurd (omega arith)
    go (Ok _) q = let w : ◌≡◌ {A = Answer Bound} (Ok (found_bound net initial y p)) (Ok (Bounded b)) = rw q at e in let z : found_bound net initial y p ≡ Bounded b = cc in (bound_allowed_of net initial y p q, rw z at (bound_judged net initial y p))

-- every reachable marking keeps to it
pub bound_holds : {net : Net} {initial m : List ℕ} (y : List ℤ) (p b : ℕ) → bound_of net initial y p ≡ Ok (Bounded b) → Reachable net initial m → tokens m p ≤ b
bound_holds y p b e r = let f = bound_found y p b e in let j = f.1 in invariant_bounds y p b j.0 j.1 j.3 f.0.below r

-- and it is at most the sum of y x initial marking
pub bound_most : (net : Net) (initial : List ℕ) (y : List ℤ) (p b : ℕ) → InRange y → bound_of net initial y p ≡ Ok (Bounded b) → SumFits token_limit b
bound_most net initial y p b range e =
    let f = bound_found y p b e in
    let n = f.1.1 in
    let w = f.1.3 in
    let S = total net.places (held y initial) in
    let D = up (entry y p) in
    let s : weight net y initial ≡ pos S = weight_is net y initial (down n) in
    let d : entry y p ≡ pos D = parts_eq (entry y p) (pos D) refl (down n p) in
    let o : 0 < D = (pos_lt (entry y p) 0).0 f.1.2 in
    let k : b * D ≤ S = (le_pos (pos (b * D)) S).0 (rw (s, d) at w.low) in
    bound_small b (omega (arith, mul-le-mul_left b o, held_most y initial range f.0.fine.few net.places f.0.sized.few_places))
