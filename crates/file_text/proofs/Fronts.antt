-- A list stored at the front of a room. Assumes nothing.
use mathlib.Core.Path.{◌≡◌, sym, ◌∙◌, ap}
use mathlib.Core.List.{List, ◌++◌}
use Prim.Native.Nat.{ℕ, ◌+◌, ◌≤◌, ◌<◌}
use native.Mathlib.Omega.{arith}
use lib.ListN.{length, take, drop, get_or, get_or-append}
use lib.Seq.{sets, sets-eq, length-sets, drop_at}
use Rattle.file_parts.proofs.Buffer.{front}

module _ (vs l : List ℕ) where
  pub get_d_sets : (k : ℕ) → length vs ≤ length l → k < length vs → get_or (sets l 0 vs) k 0 ≡ get_or vs k 0
  get_d_sets k h b = ap (λ (z : List ℕ). get_or z k 0) (sets-eq vs l 0 (omega arith)) ∙ get_or-append vs (drop (0 + length vs) l) 0 k b

  module _ (k : ℕ) (e : length vs ≡ k) (h : k ≤ length l) where
    pub front_of : take k (sets l 0 vs) ≡ vs
    front_of = let z : 0 + k ≡ k = omega arith in rw z at (front l vs 0 k (omega arith) (sym e))

    pub rest_of : drop k (sets l 0 vs) ≡ drop k l
    rest_of =
        let z : 0 + length vs ≡ k = omega arith in
        ap (drop k) (sets-eq vs l 0 (omega arith)) ∙ drop_at vs (drop (0 + length vs) l) k e ∙ rw z

-- a list stored over another of its length
pub sets_again : (a b l : List ℕ) → length a ≡ length b → length b ≤ length l → sets (sets l 0 a) 0 b ≡ sets l 0 b
sets_again a b l e h =
    let z : length a ≡ 0 + length b = omega arith in
    sets-eq b (sets l 0 a) 0 (omega (arith, length-sets l 0 a)) ∙ ap (λ (r : List ℕ). b ++ r) (rest_of a l (0 + length b) z (omega arith)) ∙ sym (sets-eq b l 0 (omega arith))
