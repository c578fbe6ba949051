-- Every line shows: it begins with the digit 8, and the program's room with 0. Assumes nothing.
use Prim.Native.Nat.{ℕ, suc, ◌+◌, ◌≤◌}
use mathlib.Core.Path.{◌≡◌, refl, sym, ap, ◌∙◌}
use mathlib.Core.List.{List, [], ◌∷◌}
use native.Mathlib.Omega.{arith}
use lib.ListN.{length, get_or, set, take}
use lib.Seq.{sets}
use Rattle.std.specs.Prelude.{Result, Ok, Err, is_ok, OnOk}
use Rattle.file_put.specs.Put.{digit_of, digits_of, line_text}
use Rattle.file_line.specs.declared.Rooms.{Rooms}
use Rattle.refusals.specs.Given.{Answer}
use Rattle.file_parts.specs.File.{Case}
use Rattle.plays.specs.declared.Replay.{Replay}
use Rattle.plays.specs.declared.Replay.TheVariants.{Fired, Blocked}
use Rattle.file_parts.proofs.Buffer.{front}
use Rattle.verdict_text.specs.Verdict.{bytes_of, WrittenBytes}
use Rattle.verdict_line.specs.Answer.{ran_read, line_for}

-- a line begins with the digit 8
pub record Eight (line : List ℕ) : Type 0 where
  pub rest : List ℕ
  pub begins : line ≡ 56 ∷ rest

eight : (a : Answer Replay) (left : List ℕ) → Eight (line_text (bytes_of a left))
unfolding digits_of digit_of
eight (Ok (Fired n)) left = record { rest = _; begins = refl }
eight (Ok (Blocked i why)) left = record { rest = _; begins = refl }
eight (Err r) left = record { rest = _; begins = refl }

pub line_eight : (c : Case) (y : Rooms) → Eight (line_for c y)
line_eight (Ok s) y = eight (ran_read s y).answer (ran_read s y).left
line_eight (Err r) y = eight (Err r) []

-- what stands before the first store is kept
sets_after : (vs l : List ℕ) (i b : ℕ) → sets (b ∷ l) (suc i) vs ≡ b ∷ sets l i vs
sets_after [] l i b = refl
sets_after (v ∷ vs) l i b = sets_after vs (set l i v) (suc i) b

-- so a line shows in a room that begins with 0
pub shows : (line rest : List ℕ) → Eight line → sets (0 ∷ rest) 0 line ≡ 0 ∷ rest → ⊥
shows line rest w e =
    let f = sym (sets_after w.rest rest 0 56) ∙ ap (sets (0 ∷ rest) 0) (sym w.begins) ∙ e in
    let z : ◌≡◌ {A = ℕ} 56 0 = ap (λ (l : List ℕ). get_or l 0 0) f in
    omega (arith, z)

-- what is written of the room is its line
pub line_front : (out bytes : List ℕ) (n : ℕ) (out' : List ℕ) → WrittenBytes out bytes n out' → n ≤ length out → take n out' ≡ line_text bytes
line_front out bytes n out' w h =
    let z : n ≡ 0 + n = omega arith in
    ap (take n) w.made ∙ ap (λ (k : ℕ). take k (sets out 0 (line_text bytes))) z ∙ front out (line_text bytes) 0 n (omega (arith, h)) (omega (arith, w.next))

-- what holds at a write's `Ok` holds at that of an answer that is `Ok` as the write is
pub passed_on : {T T' E E' : Type 0} (P : Type 0) (r : Result T E) (s : Result T' E') → is_ok s ≡ is_ok r → OnOk r P → OnOk s P
passed_on P (Ok x) (Ok y) e h = h
passed_on P (Ok x) (Err y) e h = tt
passed_on P (Err x) (Ok y) e h = cc
passed_on P (Err x) (Err y) e h = tt
