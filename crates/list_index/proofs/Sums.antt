-- Laws of the hash of a result: a hash is a sum of multiples of the numbers, so that a transition adds the same to that of every marking. Assumes nothing.
use Prim.Native.Nat.{ℕ, zero, suc, ◌+◌, ◌-◌, ◌*◌, ◌/◌, ◌%◌, ◌<◌}
use mathlib.Core.Path.{◌≡◌, refl, sym, ap, ap₂, ◌∙◌}
use mathlib.Core.List.{List}
use native.Mathlib.Omega.{arith}
use native.Mathlib.Nat.{add-mod, mod-add-mod, add-mul-mod_self_right}
use lib.ListN.{length, get_or}
use Rattle.ground.proofs.Fill.{map_at_length, map_at_at}
use Rattle.net.specs.Letter.{after, fired, Enough}
use Rattle.list_index.specs.Index.{hash_limit, factor, mix_of, mixed, hash_of, change_of}
use Rattle.list_index.proofs.Hashes.{mixed_below}

-- only what is left by the limit counts
mul_left : (n : ℕ) → n * factor % hash_limit ≡ n % hash_limit * factor % hash_limit
mul_left n =
    let e : n * factor ≡ n % hash_limit * factor + n / hash_limit * factor * hash_limit = omega arith in
    ap (λ (k : ℕ). k % hash_limit) e ∙ add-mul-mod_self_right (n % hash_limit * factor) (n / hash_limit * factor) hash_limit

-- two hashes with one number more in each: their sum, by the sums of the hashes and of the numbers
mix_sum : (a b x y : ℕ) → (mix_of a x + mix_of b y) % hash_limit ≡ ((a + b) % hash_limit + (x + y)) % hash_limit * factor % hash_limit
mix_sum a b x y =
    let e : (a + x) * factor + (b + y) * factor ≡ (a + b + (x + y)) * factor = omega arith in
    sym (add-mod ((a + x) * factor) ((b + y) * factor) hash_limit)
    ∙ ap (λ (k : ℕ). k % hash_limit) e
    ∙ mul_left (a + b + (x + y))
    ∙ ap (λ (k : ℕ). k * factor % hash_limit) (sym (mod-add-mod (a + b) hash_limit (x + y)))

-- so that it is the same for two pairs of lists whose numbers have the same sums
pub mixed_sums : (k l m n : List ℕ) (i : ℕ) → ((p : ℕ) → p < i → get_or k p 0 + get_or l p 0 ≡ get_or m p 0 + get_or n p 0) → (mixed k i + mixed l i) % hash_limit ≡ (mixed m i + mixed n i) % hash_limit
unfolding mixed
mixed_sums k l m n zero same = refl
mixed_sums k l m n (suc i) same =
    mix_sum (mixed k i) (mixed l i) (get_or k i 0) (get_or l i 0)
    ∙ ap₂ (λ (h s : ℕ). (h + s) % hash_limit * factor % hash_limit) (mixed_sums k l m n i (λ p h. same p (omega arith))) (same i (omega arith))
    ∙ sym (mix_sum (mixed m i) (mixed n i) (get_or m i 0) (get_or n i 0))

-- what is put, and not what is taken, is added
less_sum : (r t h p : ℕ) → (r + t) % hash_limit ≡ (h + p) % hash_limit → r < hash_limit → t < hash_limit → r ≡ (h + (p + hash_limit - t) % hash_limit) % hash_limit
less_sum r t h p e a b = omega arith

-- a place of the result
pub fired_at_lem : (takes puts m : List ℕ) (p : ℕ) → p < length m → get_or (fired takes puts m) p 0 ≡ get_or m p 0 + get_or puts p 0 - get_or takes p 0
fired_at_lem takes puts m p h = map_at_at (after takes puts) m p 0 0 h

pub fired_long : (takes puts m : List ℕ) → length (fired takes puts m) ≡ length m
fired_long takes puts m = map_at_length (after takes puts) m

-- r is the hash of the marking and what the transition adds: that of the result
pub after_hash : (takes puts m : List ℕ) (h c r : ℕ) → length takes ≡ length m → length puts ≡ length m → Enough takes m → h ≡ hash_of m → c ≡ change_of takes puts → r ≡ (h + c) % hash_limit → r ≡ hash_of (fired takes puts m)
after_hash takes puts m h c r lt lp enough eh ec er =
    rw (er, eh, ec, fired_long takes puts m, lt, lp)
    (sym (less_sum (mixed (fired takes puts m) (length m)) (mixed takes (length m)) (mixed m (length m)) (mixed puts (length m))
    (mixed_sums (fired takes puts m) takes m puts (length m) (λ p l. omega (arith, fired_at_lem takes puts m p l, enough.at p)))
    (mixed_below (fired takes puts m) (length m)) (mixed_below takes (length m))))
