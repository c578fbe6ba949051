-- Turns of the reader's loops, and what a good line's rule says. Assumes nothing.
use mathlib.Core.Path.{◌≡◌, refl, sym, ◌∙◌, ap}
use mathlib.Core.Bool.{Bool, true, false, cond, false≢true, not, ◌&&◌, and-true}
use mathlib.Core.List.{List}
use Prim.Native.Nat.{ℕ, zero, suc, ◌+◌, ◌-◌, ◌*◌, ◌≤◌, ◌<◌, ◌%◌}
use native.Mathlib.Omega.{arith}
use native.Mathlib.Nat.{not-suc-le-zero}
use lib.Dec.{leb, ltb, eqb}
use lib.ListN.{length, get_or}
use borrow.Author.Tests.{le-ltb, le-leb, lt-leb, ltb-false, ltb-true, eqb-true, leb-true, leb-false}
use Rattle.std.specs.Prelude.{Option, Some, None}
use Rattle.std.specs.Option.{is_some}
use Rattle.ground.specs.Lists.{found}
use Rattle.ground.proofs.Tests as tests
use Rattle.ground.proofs.Scan.{Below, first_none, first_below, scan_start, scan_some, scan_next, scan_none}
use Rattle.refusals.specs.Given.{Fault, refuse, token_bad, bad_token, bad_letter}
use Rattle.file_digits.specs.Frame.{line_limit, word_at, byte_at, words_from, all_digits}
use Rattle.file_digits.proofs.Bytes.{bytes_long, bytes_at, words_long, words_at}
use Rattle.file_line.specs.Read.{letters_in, word_part, rule_of}
use Rattle.file_line.specs.Walk.{fit_letters}

-- the tokens of a line, looked at up to place i
pub record Looking (d caps : List ℕ) (n i : ℕ) : Type 0 where
  pub below : Below (λ p. token_bad (get_or caps p 0) (get_or (words_from d 1 n) p 0)) i

pub looking_start : (d caps : List ℕ) (n : ℕ) → Looking d caps n 0
looking_start d caps n = record { below = scan_start _ }

module _ (d caps : List ℕ) (n i : ℕ) (l : Looking d caps n i) where
  module _ (m : ℕ) (r : Bool) (h : i < n) (e : m ≡ word_at d (1 + 2 * i)) (f : r ≡ token_bad (get_or caps i 0) m) where
    looked : r ≡ token_bad (get_or caps i 0) (get_or (words_from d 1 n) i 0)
    looked = f ∙ ap (token_bad (get_or caps i 0)) (e ∙ sym (words_at d 1 n i h))

    pub looking_hit : r ≡ true → Some i ≡ found n (bad_token caps (words_from d 1 n))
    looking_hit q = rw (words_long d 1 n) (scan_some _ n i r l.below looked q h)

    pub looking_next : r ≡ false → Looking d caps n (i + 1)
    looking_next q = record { below = scan_next _ i r l.below looked q }

  pub looking_end : i ≤ n → n ≤ i → None ≡ found n (bad_token caps (words_from d 1 n))
  looking_end h k = rw (words_long d 1 n) (scan_none _ n i l.below h k)

pub ruleset lookings = (looking_start, looking_hit, looking_next, looking_end)

module _ (d : List ℕ) (j t b : ℕ) (e : b ≡ byte_at d j) where
  letters_over : (left : ℕ) → 0 < left → t ≤ b → fit_letters d j left t ≡ false
  unfolding fit_letters
  letters_over zero h u = absurd (not-suc-le-zero h)
  letters_over (suc left) h u = simp (← e, le-leb _ _ u)

  letters_turn : (left : ℕ) → 0 < left → b < t → fit_letters d (j + 1) (left - 1) t ≡ fit_letters d j left t
  unfolding fit_letters
  letters_turn zero h u = absurd (not-suc-le-zero h)
  letters_turn (suc left) h u =
      let z : suc left - 1 ≡ left = omega arith in
      simp (z, ← e, lt-leb _ _ u)

  -- a turn of the pass: what is left and what was found before it
  letters_kept : (f r : Bool) → r ≡ (f && ltb b t) → (left : ℕ) → 0 < left → (r && fit_letters d (j + 1) (left - 1) t) ≡ (f && fit_letters d j left t)
  letters_kept false r w left h = simp (w)
  letters_kept true r w left h = go (ltb b t) refl where
    go : (x : Bool) → ltb b t ≡ x → (r && fit_letters d (j + 1) (left - 1) t) ≡ (true && fit_letters d j left t)
    go true q = simp (w, q, letters_turn left h (ltb-true b t q))
    go false q = simp (w, q, letters_over left h (ltb-false b t q))

letters_none : (d : List ℕ) (j left t : ℕ) → left ≤ 0 → fit_letters d j left t ≡ true
unfolding fit_letters
letters_none d j zero t h = refl
letters_none d j (suc n) t h = absurd (not-suc-le-zero h)

-- what the pass knows at letter k: w is the answer
module _ (d : List ℕ) (n t k : ℕ) (f w : Bool) where
  pub letters_next : (b : ℕ) (r : Bool) → (f && fit_letters d (1 + k) (n - k) t) ≡ w → k < n → b ≡ byte_at d (1 + k) → r ≡ (f && ltb b t)
      → (r && fit_letters d (1 + (k + 1)) (n - (k + 1)) t) ≡ w
  letters_next b r i h e q =
      let p : 1 + (k + 1) ≡ 1 + k + 1 = omega arith in
      let l : n - (k + 1) ≡ n - k - 1 = omega arith in
      rw (p, l) (letters_kept d (1 + k) t b e f r q (n - k) (omega arith) ∙ i)

  pub letters_end : (f && fit_letters d (1 + k) (n - k) t) ≡ w → n ≤ k → f ≡ w
  letters_end i h = sym (and-true f) ∙ sym (ap (λ x. f && x) (letters_none d (1 + k) (n - k) t (omega arith))) ∙ i

-- what the digit rule says of the number of digits
pub rule_says : (d : List ℕ) → rule_of d ≡ true → (2 ≤ length d) × (length d ≤ line_limit) × (length d % 2 ≡ 0) × (all_digits d ≡ true)
unfolding rule_of
rule_says d h =
    let a = tests.and-true (leb 2 (length d)) _ h in
    let b = tests.and-true (leb (length d) line_limit) _ a.1 in
    let c = tests.and-true (eqb (length d % 2) 0) _ b.1 in
    (leb-true _ _ a.0, leb-true _ _ b.0, eqb-true _ _ c.0, c.1)

letters_fit : (d : List ℕ) (j n t : ℕ) → ((k : ℕ) → k < n → byte_at d (j + k) < t) → fit_letters d j n t ≡ true
unfolding fit_letters
letters_fit d j zero t h = refl
letters_fit d j (suc n) t h =
    let p : j + 0 ≡ j = omega arith in
    let u : byte_at d j < t = rw p at (h 0 (omega arith)) in
    simp (lt-leb t (byte_at d j) u) (letters_fit d (j + 1) n t (λ k b. let v : j + suc k ≡ j + 1 + k = omega arith in rw v at (h (suc k) (omega arith))))

fit_letters_lem : (d : List ℕ) (j n t k : ℕ) → fit_letters d j n t ≡ true → k < n → byte_at d (j + k) < t
unfolding fit_letters
fit_letters_lem d j zero t k e h = absurd (not-suc-le-zero h)
fit_letters_lem d j (suc n) t k e h = go k h (leb t (byte_at d j)) refl e (λ k u b. fit_letters_lem d (j + 1) n t k u b)
  where
    go : (k : ℕ) → k < suc n → (a : Bool) → leb t (byte_at d j) ≡ a → cond a false (fit_letters d (j + 1) n t) ≡ true
        → ((k : ℕ) → fit_letters d (j + 1) n t ≡ true → k < n → byte_at d (j + 1 + k) < t) → byte_at d (j + k) < t
    go k h true p u r = absurd (false≢true u)
    go zero h false p u r = let v : j + 0 ≡ j = omega arith in rw v (leb-false _ _ p)
    go (suc k) h false p u r = let v : j + suc k ≡ j + 1 + k = omega arith in rw v (r k u (omega arith))

-- the pass over a line's letters is the test of refusals: it fails exactly where a letter names no transition
pub letters_pass : (d : List ℕ) (t : ℕ) (r : Bool) → r ≡ fit_letters d 1 (letters_in d) t → not r ≡ ltb (bad_letter t (word_part d)) (length (word_part d))
letters_pass d t r e = rw e (go (fit_letters d 1 (letters_in d) t) refl)
  where
    f : ℕ → Bool
    f k = leb t (get_or (word_part d) k 0)

    n : length (word_part d) ≡ letters_in d
    n = bytes_long d 1 (letters_in d)

    go : (b : Bool) → fit_letters d 1 (letters_in d) t ≡ b → not b ≡ ltb (bad_letter t (word_part d)) (length (word_part d))
    go true q =
        let w = first_none f (length (word_part d)) (λ k h. lt-leb t (get_or (word_part d) k 0) (rw (bytes_at d 1 (letters_in d) k (omega (arith, n))) (fit_letters_lem d 1 (letters_in d) t k q (omega (arith, n))))) in
        sym (le-ltb (bad_letter t (word_part d)) (length (word_part d)) (omega (arith, w)))
    go false q = bad (ltb (bad_letter t (word_part d)) (length (word_part d))) refl
      where
        bad : (c : Bool) → ltb (bad_letter t (word_part d)) (length (word_part d)) ≡ c → true ≡ ltb (bad_letter t (word_part d)) (length (word_part d))
        bad true p = sym p
        bad false p =
            let l = ltb-false (bad_letter t (word_part d)) (length (word_part d)) p in
            absurd (false≢true (sym q ∙ letters_fit d 1 (letters_in d) t (λ k h. rw (bytes_at d 1 (letters_in d) k h) at (leb-false t (get_or (word_part d) k 0) (first_below f (length (word_part d)) k (omega (arith, n, l)))))))

-- ... and so a line with one is refused
pub letters_found : (d : List ℕ) (t here : ℕ) (r : Bool) (a : Fault) → r ≡ fit_letters d 1 (letters_in d) t → a ≡ refuse (not r) 5 here
    → a ≡ refuse (ltb (bad_letter t (word_part d)) (length (word_part d))) 5 here
letters_found d t here r a e q = q ∙ ap (λ b. refuse b 5 here) (letters_pass d t r e)

-- a line is refused where a place is found whose tokens are not allowed
pub tokens_found : (d caps : List ℕ) (n here : ℕ) (o : Option ℕ) (b : Bool) (a : Fault) → o ≡ found n (bad_token caps (words_from d 1 n)) → b ≡ is_some o → a ≡ refuse b 3 here
    → a ≡ refuse (ltb (bad_token caps (words_from d 1 n)) (length (words_from d 1 n))) 3 here
tokens_found d caps n here o b a e q h = h ∙ ap (λ x. refuse x 3 here) (q ∙ ap is_some e ∙ some_found n (bad_token caps (words_from d 1 n)) ∙ ap (ltb (bad_token caps (words_from d 1 n))) (sym (words_long d 1 n)))
  where
    some_found : (n k : ℕ) → is_some (found n k) ≡ ltb k n
    some_found n k = go (ltb k n)
      where
        go : (b : Bool) → is_some (cond b (Some k) None) ≡ b
        go true = refl
        go false = refl
