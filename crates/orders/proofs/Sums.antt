-- Laws of what a word takes from a place and puts there: along a firing word they are all the change, and an order of two logs does not alter them. Assumes nothing.
use Prim.Native.Nat.{ℕ, ◌+◌, ◌<◌}
use mathlib.Core.Path.{◌≡◌, refl, sym, ◌∙◌}
use mathlib.Core.List.{List, [], ◌∷◌}
use native.Mathlib.Omega.{arith}
use lib.ListN.{length}
use lib.Seq.{ext_get_or}
use Rattle.net.specs.Net.{Net, tokens}
use Rattle.net.specs.Firing.{Fires, nothing, letter}
use Rattle.net.proofs.Meaning.{gives_plain, fires_nil, fires_cons, kept}
use Rattle.orders.specs.Orders.{woven}
use Rattle.orders.specs.Sums.{taken, put}
use Rattle.orders.proofs.Weaving.{Weaves, ended, by_first, by_second, woven_length}

-- along a firing word
pub fires_sums : {net : Net} {m w m' : List ℕ} (p : ℕ) → p < net.places → Fires net m w m' → tokens m' p + taken net p w ≡ tokens m p + put net p w
unfolding taken put
fires_sums p h nothing = refl
fires_sums p h (letter f l) = omega (arith, gives_plain f.gives p h, fires_sums p h l)

-- the letters of the one log and of the other, however they came
pub taken_woven : (net : Net) (p : ℕ) {u v order : List ℕ} → Weaves u v order → taken net p (woven order u v) ≡ taken net p u + taken net p v
unfolding taken woven
taken_woven net p ended = refl
taken_woven net p (by_first w) = omega (arith, taken_woven net p w)
taken_woven net p (by_second w) = omega (arith, taken_woven net p w)

pub put_woven : (net : Net) (p : ℕ) {u v order : List ℕ} → Weaves u v order → put net p (woven order u v) ≡ put net p u + put net p v
unfolding put woven
put_woven net p ended = refl
put_woven net p (by_first w) = omega (arith, put_woven net p w)
put_woven net p (by_second w) = omega (arith, put_woven net p w)

-- a marking that a letter led to has a number for each place
fires_long : {net : Net} {m m' w : List ℕ} {t : ℕ} → Fires net m (t ∷ w) m' → length m' ≡ net.places
fires_long {net} f = let c = fires_cons f in kept net (λ (l : List ℕ). length l ≡ net.places) (λ a b s i q. i.gives.long) c.2 c.1.gives.long

-- words of one length that take and put the same lead to one marking
sums_one : {net : Net} {m m' m'' : List ℕ} (w x : List ℕ) → length w ≡ length x → ((p : ℕ) → taken net p w ≡ taken net p x) → ((p : ℕ) → put net p w ≡ put net p x) → Fires net m w m' → Fires net m x m'' → m' ≡ m''
sums_one [] [] e a b f g = sym (fires_nil f) ∙ fires_nil g
sums_one [] (s ∷ x) e a b f g = absurd (omega arith)
sums_one (t ∷ w) [] e a b f g = absurd (omega arith)
sums_one {net} {m} {m'} {m''} (t ∷ w) (s ∷ x) e a b f g =
    ext_get_or 0 m' m'' (fires_long f ∙ sym (fires_long g))
    (λ p h.
    let l : p < net.places = omega (arith, fires_long f) in
    omega (arith, fires_sums p l f, fires_sums p l g, a p, b p))

-- the markings that two orders of the same two logs lead to are one
pub marking_one : {net : Net} {m m' m'' u v a b : List ℕ} → Weaves u v a → Weaves u v b → Fires net m (woven a u v) m' → Fires net m (woven b u v) m'' → m' ≡ m''
marking_one {net} {u = u} {v = v} {a = a} {b = b} w x f g =
    sums_one (woven a u v) (woven b u v) (woven_length w ∙ sym (woven_length x))
    (λ p. taken_woven net p w ∙ sym (taken_woven net p x))
    (λ p. put_woven net p w ∙ sym (put_woven net p x))
    f g
