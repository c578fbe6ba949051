-- Laws of an order of two logs and of the word that it makes: step by step, each from the one log or from the other. Assumes nothing.
use Prim.Native.Nat.{ℕ, zero, suc, ◌+◌, ◌≤◌, ◌<◌}
use mathlib.Core.Path.{◌≡◌, refl, ap}
use mathlib.Core.List.{List, [], ◌∷◌}
use native.Mathlib.Omega.{arith}
use native.Mathlib.Nat.{not-suc-le-zero, le_of_suc-le-suc, le_refl, suc-add, zero-add}
use lib.ListN.{length, get_or, take}
use borrow.Author.Tests.{ne_eqb}
use Rattle.refusals.specs.Given.{Letters}
use Rattle.orders.specs.Orders.{count, OrderOf, woven, picked}

-- the order weaves the two logs: it is empty where both are, and else its first step takes the first letter of one of them
pub data Weaves : List ℕ → List ℕ → List ℕ → Type 0 where
  ended : Weaves [] [] []
  by_first : {t : ℕ} {u v order : List ℕ} → Weaves u v order → Weaves (t ∷ u) v (0 ∷ order)
  by_second : {t : ℕ} {u v order : List ℕ} → Weaves u v order → Weaves u (t ∷ v) (1 ∷ order)

-- a step that is neither 0 nor 1 counts for neither
count_both : (order : List ℕ) → count 0 order + count 1 order ≤ length order
unfolding count
count_both [] = le_refl 0
count_both (zero ∷ order) = omega (arith, count_both order)
count_both (suc zero ∷ order) = omega (arith, count_both order)
count_both (suc (suc x) ∷ order) = rw (ne_eqb (suc (suc x)) 0 (λ e. omega arith), ne_eqb (suc (suc x)) 1 (λ e. omega arith)) (omega (arith, count_both order))

-- .. so an order has no such step
pub no_third : (x : ℕ) (u v order : List ℕ) → OrderOf u v (suc (suc x) ∷ order) → ⊥
unfolding count
no_third x u v order o =
    let a : count 0 order ≡ length u = omega (arith, rw (ne_eqb (suc (suc x)) 0 (λ e. omega arith)) at o.zeros) in
    let b : count 1 order ≡ length v = omega (arith, rw (ne_eqb (suc (suc x)) 1 (λ e. omega arith)) at o.ones) in
    let l = o.long in
    omega (arith, count_both order)

-- an order of two logs weaves them
pub weaves : (u v order : List ℕ) → OrderOf u v order → Weaves u v order
unfolding count
weaves [] [] [] o = ended
weaves (t ∷ u) v [] o = let z = o.zeros in absurd (omega arith)
weaves [] (t ∷ v) [] o = let z = o.ones in absurd (omega arith)
weaves [] v (zero ∷ order) o = let z = o.zeros in absurd (omega arith)
weaves (t ∷ u) v (zero ∷ order) o = by_first (weaves u v order (omega (arith, o)))
weaves u [] (suc zero ∷ order) o = let z = o.ones in absurd (omega arith)
weaves u (t ∷ v) (suc zero ∷ order) o = by_second (weaves u v order (omega (arith, o)))
weaves u v (suc (suc x) ∷ order) o = absurd (no_third x u v order o)

-- the letters that come from each log are that log
pub pick_first : {u v order : List ℕ} → Weaves u v order → picked 0 order (woven order u v) ≡ u
unfolding picked woven
pick_first ended = refl
pick_first (by_first {t = t} w) = ap (λ (l : List ℕ). t ∷ l) (pick_first w)
pick_first (by_second w) = pick_first w

pub pick_second : {u v order : List ℕ} → Weaves u v order → picked 1 order (woven order u v) ≡ v
unfolding picked woven
pick_second ended = refl
pick_second (by_first w) = pick_second w
pick_second (by_second {t = t} w) = ap (λ (l : List ℕ). t ∷ l) (pick_second w)

-- the word has the letters of both logs, and no others
pub woven_length : {u v order : List ℕ} → Weaves u v order → length (woven order u v) ≡ length u + length v
unfolding woven
woven_length ended = refl
woven_length (by_first w) = omega (arith, woven_length w)
woven_length (by_second w) = omega (arith, woven_length w)

-- a word's letters, one by one
no_letters : {n : ℕ} → Letters n []
no_letters = record { at = λ k h. absurd (not-suc-le-zero h) }

letters_head : {n t : ℕ} {w : List ℕ} → Letters n (t ∷ w) → t < n
letters_head l = l.at 0 (omega arith)

letters_tail : {n t : ℕ} {w : List ℕ} → Letters n (t ∷ w) → Letters n w
letters_tail l = record { at = λ k h. l.at (suc k) (omega arith) }

letters_more : {n : ℕ} (t : ℕ) (w : List ℕ) → t < n → Letters n w → Letters n (t ∷ w)
letters_more {n} t w h l = record { at = go }
  where
    go : (k : ℕ) → k < length (t ∷ w) → get_or (t ∷ w) k 0 < n
    go zero b = h
    go (suc k) b = l.at k (le_of_suc-le-suc b)

pub letters_woven : (T : ℕ) (order u v : List ℕ) → Letters T u → Letters T v → Letters T (woven order u v)
unfolding woven
letters_woven T [] u v a b = no_letters
letters_woven T (zero ∷ order) [] v a b = no_letters
letters_woven T (zero ∷ order) (t ∷ u) v a b = letters_more t _ (letters_head a) (letters_woven T order u v (letters_tail a) b)
letters_woven T (suc x ∷ order) u [] a b = no_letters
letters_woven T (suc x ∷ order) u (t ∷ v) a b = letters_more t _ (letters_head b) (letters_woven T order u v a (letters_tail b))

-- each step is 0 or 1
pub steps_two : {u v order : List ℕ} → Weaves u v order → Letters 2 order
steps_two ended = no_letters
steps_two (by_first w) = letters_more _ _ (omega arith) (steps_two w)
steps_two (by_second w) = letters_more _ _ (omega arith) (steps_two w)

-- an order's first i steps weave the letters that they read
pub weaves_read : {u v order : List ℕ} → Weaves u v order → (i : ℕ) → Weaves (take (count 0 (take i order)) u) (take (count 1 (take i order)) v) (take i order)
unfolding count
weaves_read w zero = ended
weaves_read ended (suc i) = ended
weaves_read (by_first {order = order} w) (suc i) = rw (suc-add zero (count 0 (take i order)), zero-add (count 0 (take i order)), zero-add (count 1 (take i order))) (by_first (weaves_read w i))
weaves_read (by_second {order = order} w) (suc i) = rw (suc-add zero (count 1 (take i order)), zero-add (count 1 (take i order)), zero-add (count 0 (take i order))) (by_second (weaves_read w i))

-- .. into the first i letters of the word
pub woven_read : {u v order : List ℕ} → Weaves u v order → (i : ℕ) → woven (take i order) (take (count 0 (take i order)) u) (take (count 1 (take i order)) v) ≡ take i (woven order u v)
unfolding count woven
woven_read w zero = refl
woven_read ended (suc i) = refl
woven_read (by_first {t = t} {order = order} w) (suc i) = rw (suc-add zero (count 0 (take i order)), zero-add (count 0 (take i order)), zero-add (count 1 (take i order))) (ap (λ (l : List ℕ). t ∷ l) (woven_read w i))
woven_read (by_second {t = t} {order = order} w) (suc i) = rw (suc-add zero (count 1 (take i order)), zero-add (count 1 (take i order)), zero-add (count 0 (take i order))) (ap (λ (l : List ℕ). t ∷ l) (woven_read w i))
