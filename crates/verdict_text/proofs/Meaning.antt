-- What a verdict line says can be read back: no number is lost in its bytes, and no two answers have one line. Assumes nothing.
use Prim.Native.Nat.{ℕ, suc, ◌+◌, ◌-◌, ◌*◌, ◌/◌, ◌%◌, ◌<◌}
use mathlib.Core.Path.{◌≡◌, refl, sym, ap, ◌∙◌}
use mathlib.Core.List.{List, [], ◌∷◌, ◌++◌, append-nil}
use native.Mathlib.Omega.{arith}
use lib.ListN.{length, get_or, take, drop, length-append}
use lib.Seq.{take_at}
use Rattle.file_digits.specs.Frame.{bytes_from, line_feed}
use Rattle.file_put.specs.Put.{digits_of, line_text, four, fours}
use Rattle.file_digits.proofs.Bytes.{Below, none, more}
use Rattle.file_put.proofs.Round.{digits_long, back}
use Rattle.file_put.proofs.Puts.{fours_long}
use Rattle.net.specs.Firing.{cause_number, cause_values}
use Rattle.net.specs.Letter.{Small}
use Rattle.net.specs.declared.Cause.TheVariants.{Short, Over}
use Rattle.net.proofs.Meaning.{cause_apart, cause_some}
use Rattle.plays.specs.declared.Replay.{Replay}
use Rattle.plays.specs.declared.Replay.TheVariants.{Fired, Blocked}
use Rattle.refusals.specs.Given.{Answer, refused}
use Rattle.refusals.proofs.Exactly.{same_refusal}
use Rattle.std.specs.Prelude.{Ok, Err}
use Rattle.verdict_text.specs.Verdict.{bytes_of, verdict}
use Rattle.verdict_text.specs.Back.{from_four, four_limit, Sayable}
use Rattle.verdict_text.specs.Walk.{Placed}

-- four bytes lose nothing of a number below 2^32
bytes_sum : (n : ℕ) → n < four_limit → n / 16777216 % 256 * 16777216 + n / 65536 % 256 * 65536 + n / 256 % 256 * 256 + n % 256 ≡ n
bytes_sum n h =
    let a : n / 65536 ≡ n / 256 / 256 = omega arith in
    let b : n / 16777216 ≡ n / 65536 / 256 = omega arith in
    let c : n / 16777216 % 256 ≡ n / 16777216 = omega arith in
    let d : n / 65536 ≡ n / 16777216 * 256 + n / 65536 % 256 = omega arith in
    let e : n / 256 ≡ n / 65536 * 256 + n / 256 % 256 = omega arith in
    let f : n ≡ n / 256 * 256 + n % 256 = omega arith in
    omega arith

pub four_back : (n : ℕ) → n < four_limit → from_four (four n) ≡ n
unfolding four
four_back n h = bytes_sum n h

-- whatever comes after them
pub four_then_back : (n : ℕ) (rest : List ℕ) → n < four_limit → from_four (four n ++ rest) ≡ n
unfolding four
four_then_back n rest h = bytes_sum n h

-- nor of the tokens of each place
pub fours_apart : (m k : List ℕ) → Small (four_limit - 1) m → Small (four_limit - 1) k → fours m ≡ fours k → m ≡ k
unfolding fours four
fours_apart [] [] a b e = refl
fours_apart [] (y ∷ k) a b e = let l : 0 ≡ length (fours (y ∷ k)) = ap length e in let z = fours_long (y ∷ k) in absurd (omega arith)
fours_apart (x ∷ m) [] a b e = let l : length (fours (x ∷ m)) ≡ 0 = ap length e in let z = fours_long (x ∷ m) in absurd (omega arith)
fours_apart (x ∷ m) (y ∷ k) a b e =
    let p : x < four_limit = let z = a.at 0 in omega arith in
    let q : y < four_limit = let z = b.at 0 in omega arith in
    let h : x ≡ y = sym (four_then_back x (fours m) p) ∙ ap from_four e ∙ four_then_back y (fours k) q in
    let t : m ≡ k = fours_apart m k (record { at = λ i. a.at (suc i) }) (record { at = λ i. b.at (suc i) }) (ap (drop 4) e) in
    ap (λ (z : ℕ). z ∷ m) h ∙ ap (λ (z : List ℕ). y ∷ z) t

-- one more byte
cons : (b : ℕ) (bs : List ℕ) → b < 256 → Below 256 bs → Below 256 (b ∷ bs)
cons b bs h w = more h w

four_below : (n : ℕ) (bs : List ℕ) → Below 256 bs → Below 256 (four n ++ bs)
unfolding four
four_below n bs b =
    cons (n / 16777216 % 256) _ (omega arith) (cons (n / 65536 % 256) _ (omega arith) (cons (n / 256 % 256) _ (omega arith) (cons (n % 256) _ (omega arith) b)))

fours_below : (m : List ℕ) → Below 256 (fours m)
unfolding fours
fours_below [] = none
fours_below (x ∷ m) = four_below x (fours m) (fours_below m)

-- what a line spells are bytes
pub bytes_below : (a : Answer Replay) (m : List ℕ) → Placed a → ((n at : ℕ) → a ≡ refused n at → n < 256) → Below 256 (bytes_of a m)
bytes_below (Ok (Fired n)) m p r = cons 0x81 _ (omega arith) (cons 0 _ (omega arith) (four_below n (fours m) (fours_below m)))
bytes_below (Ok (Blocked i (Short q))) m p r = cons 0x81 _ (omega arith) (cons 1 _ (omega arith) (four_below i (q ∷ []) (cons q [] (omega (arith, p)) none)))
bytes_below (Ok (Blocked i (Over q))) m p r = cons 0x81 _ (omega arith) (cons 2 _ (omega arith) (four_below i (q ∷ []) (cons q [] (omega (arith, p)) none)))
bytes_below (Err why) m p r =
    let w = four_below why.at [] none in
    cons 0x82 _ (omega arith) (cons why.number _ (r why.number why.at refl) (rw append-nil at w))

sayable_below : (a : Answer Replay) (m : List ℕ) → Sayable a m → Below 256 (bytes_of a m)
sayable_below (Ok (Fired n)) m s = bytes_below (Ok (Fired n)) m tt (λ k at e. let z : ◌≡◌ {A = ℕ} 0 1 = cc in absurd (omega arith))
sayable_below (Ok (Blocked i why)) m s = bytes_below (Ok (Blocked i why)) m s.1 (λ k at e. let z : ◌≡◌ {A = ℕ} 0 1 = cc in absurd (omega arith))
sayable_below (Err r) m s = bytes_below (Err r) m tt (λ k at e. let z : r.number ≡ k = cc in omega (arith, s.0))

-- no two runs of bytes have one line
pub line_apart : (a b : List ℕ) → Below 256 a → Below 256 b → line_text a ≡ line_text b → a ≡ b
line_apart a b p q e =
    let l : length (line_text a) ≡ length (line_text b) = ap length e in
    let h : length a ≡ length b
    = omega (arith, length-append (digits_of a) (line_feed ∷ []), length-append (digits_of b) (line_feed ∷ []), digits_long a, digits_long b) in
    let u : take (2 * length a) (line_text a) ≡ digits_of a = take_at (digits_of a) (line_feed ∷ []) (2 * length a) (digits_long a) in
    let v : take (2 * length b) (line_text b) ≡ digits_of b = take_at (digits_of b) (line_feed ∷ []) (2 * length b) (digits_long b) in
    let w : digits_of a ≡ digits_of b = sym u ∙ ap (take (2 * length a)) e ∙ ap (λ (n : ℕ). take (2 * n) (line_text b)) h ∙ v in
    sym (back a p) ∙ ap (λ (d : List ℕ). bytes_from d 0 (length a)) w ∙ ap (bytes_from (digits_of b) 0) h ∙ back b q

-- two answers with their markings have two lines: the line tells which it was, with its numbers, and where fired the marking left
same_bytes : (a b : Answer Replay) (m k : List ℕ) → Sayable a m → Sayable b k → bytes_of a m ≡ bytes_of b k → (a ≡ b) × ((n : ℕ) → a ≡ Ok (Fired n) → m ≡ k)
unfolding four
same_bytes (Ok (Fired n)) (Ok (Fired j)) m k s t e =
    let h : n ≡ j = sym (four_then_back n (fours m) s.0) ∙ ap (λ (l : List ℕ). from_four (drop 2 l)) e ∙ four_then_back j (fours k) t.0 in
    (ap (λ (n : ℕ). Ok (Fired n)) h, λ _ _. fours_apart m k s.1 t.1 (ap (drop 6) e))
same_bytes (Ok (Fired n)) (Ok (Blocked j who)) m k s t e = let z : 0 ≡ cause_number who = ap (λ (l : List ℕ). get_or l 1 0) e in absurd (cause_some who (sym z))
same_bytes (Ok (Fired n)) (Err r) m k s t e = let z : ◌≡◌ {A = ℕ} 0x81 0x82 = ap (λ (l : List ℕ). get_or l 0 0) e in absurd (omega arith)
same_bytes (Ok (Blocked i why)) (Ok (Fired j)) m k s t e = let z : cause_number why ≡ 0 = ap (λ (l : List ℕ). get_or l 1 0) e in absurd (cause_some why z)
same_bytes (Ok (Blocked i why)) (Ok (Blocked j who)) m k s t e =
    let h : i ≡ j = sym (four_then_back i (cause_values why) s.0) ∙ ap (λ (l : List ℕ). from_four (drop 2 l)) e ∙ four_then_back j (cause_values who) t.0 in
    let c : cause_number why ≡ cause_number who = ap (λ (l : List ℕ). get_or l 1 0) e in
    let w : why ≡ who = cause_apart why who c (ap (drop 6) e) in
    (rw (h, w), λ n q. let z : ◌≡◌ {A = ℕ} 0 1 = cc in absurd (omega arith))
same_bytes (Ok (Blocked i why)) (Err r) m k s t e = let z : ◌≡◌ {A = ℕ} 0x81 0x82 = ap (λ (l : List ℕ). get_or l 0 0) e in absurd (omega arith)
same_bytes (Err r) (Ok (Fired j)) m k s t e = let z : ◌≡◌ {A = ℕ} 0x82 0x81 = ap (λ (l : List ℕ). get_or l 0 0) e in absurd (omega arith)
same_bytes (Err r) (Ok (Blocked j who)) m k s t e = let z : ◌≡◌ {A = ℕ} 0x82 0x81 = ap (λ (l : List ℕ). get_or l 0 0) e in absurd (omega arith)
same_bytes (Err r) (Err q) m k s t e =
    let h : r.number ≡ q.number = ap (λ (l : List ℕ). get_or l 1 0) e in
    let w : r.at ≡ q.at = sym (four_back r.at s.1) ∙ ap (λ (l : List ℕ). from_four (drop 2 l)) e ∙ four_back q.at t.1 in
    (same_refusal r q h w, λ n q. let z : ◌≡◌ {A = ℕ} 0 1 = cc in absurd (omega arith))

pub verdict_apart : (a b : Answer Replay) (m k : List ℕ) → Sayable a m → Sayable b k → verdict a m ≡ verdict b k → (a ≡ b) × ((n : ℕ) → a ≡ Ok (Fired n) → m ≡ k)
verdict_apart a b m k s t e = same_bytes a b m k s t (line_apart (bytes_of a m) (bytes_of b k) (sayable_below a m s) (sayable_below b k t) e)
