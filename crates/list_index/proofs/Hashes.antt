-- Laws of a marking's hash: the turns of a loop that makes it, and that it gives one of the buckets. Assumes nothing.
use Prim.Native.Nat.{ℕ, zero, suc, ◌+◌, ◌-◌, ◌≤◌, ◌<◌}
use mathlib.Core.Path.{◌≡◌, refl, ap, ◌∙◌}
use mathlib.Core.List.{List}
use native.Mathlib.Omega.{arith}
use native.Mathlib.Numerals.{add-one}
use native.Mathlib.Nat.{mod-lt}
use lib.ListN.{length, get_or}
use Rattle.list_index.specs.Index.{hash_limit, bucket_count, mix_of, mixed, hash_of, bucket_of, change_of}

pub mixed_below : (m : List ℕ) (n : ℕ) → mixed m n < hash_limit
unfolding mixed
mixed_below m zero = omega arith
mixed_below m (suc n) = omega arith

pub bucket_below : (m : List ℕ) → bucket_of m < bucket_count
bucket_below m = omega (arith, mixed_below m (length m))

pub bucket_in : (m : List ℕ) (b B : ℕ) → b ≡ bucket_of m → B ≡ bucket_count → b < B
bucket_in m b B e w = rw (e, w) (bucket_below m)

pub mixed_start : (m : List ℕ) → 0 ≡ mixed m 0
unfolding mixed
mixed_start m = refl

pub mixed_next : (m : List ℕ) (p h r : ℕ) → h ≡ mixed m p → r ≡ mix_of h (get_or m p 0) → r ≡ mixed m (p + 1)
unfolding mixed
mixed_next m p h r e q = rw (q, e, add-one p)

pub mixed_end : (m : List ℕ) (p h : ℕ) → h ≡ mixed m p → p ≤ length m → length m ≤ p → h ≡ hash_of m
mixed_end m p h e a b = let s : p ≡ length m = omega arith in e ∙ ap (mixed m) s

-- a hash that a loop has come to
pub hash_below : (m : List ℕ) (p h : ℕ) → h ≡ mixed m p → h < hash_limit
hash_below m p h e = rw e (mixed_below m p)

pub ruleset hashes = (mixed_start, mixed_next, mixed_end, hash_below)

-- a hash is below its limit, and so is what a transition adds to one
pub hashed_below : (m : List ℕ) (h : ℕ) → h ≡ hash_of m → h < hash_limit
hashed_below m h e = hash_below m (length m) h e

pub change_below : (takes puts : List ℕ) (c : ℕ) → c ≡ change_of takes puts → c < hash_limit
change_below takes puts c e = rw e (mod-lt (hash_of puts + hash_limit - hash_of takes) (omega arith))
