-- Laws of one read. Assumes nothing.
use Prim.Native.Nat.{ℕ, zero, suc, min}
use mathlib.Core.Path.{◌≡◌, refl, sym, ap, ap₂, subst, ◌∙◌}
use mathlib.Core.Bool.{Bool, true, false}
use mathlib.Core.List.{List, [], ◌∷◌}
use native.Mathlib.Omega.{arith}
use native.Mathlib.Nat.{zero-min, min-zero, suc-min-suc}
use lib.ListN.{length, take}
use lib.Dec.{T, ltb, ltb→lt, lt→ltb}
use lib.IntN.{ℤ, pos, negsuc}
use lib.Signed.{lt_z}
use Rattle.ground.specs.Parts.{up}
use Rattle.io.specs.Counts.{clamp_len}
use Rattle.file_line.specs.declared.Rooms.{Rooms}
use Rattle.file_parts.specs.declared.Held.{Held}
use Rattle.file_parts.specs.File.{Both, both, feed_all}
use Rattle.std.specs.Prelude.{Ok, Err}
use Rattle.refusals.specs.Given.{Answer}
use Rattle.file_line.specs.declared.Reading.{Reading}
use Rattle.file_parts.specs.Held.{abs, run_of}
use Rattle.file_reads.specs.declared.Input.{Input}
use Rattle.file_reads.specs.declared.Input.TheVariants.{More, Over}
use Rattle.file_reads.specs.Reads.{read_as, state, failure_of, part_of, step_by, step_of}
use Rattle.file_reads.specs.Walk.{part_by, input_of}

nothing_below : (n : ℕ) → ltb n 0 ≡ true → ⊥
nothing_below n e = omega (arith, ltb→lt n 0 (subst (λ (b : Bool). T b) (sym e) tt))

-- what a read leaves, by the tests of its sign
pub left_negative : (got : ℤ) (i : Bool) (p r : Input) → lt_z got (pos 0) ≡ true → r ≡ failure_of i → r ≡ input_of got i p
unfolding input_of
left_negative (pos n) i p r e h = absurd (nothing_below n e)
left_negative (negsuc n) i p r e h = h

pub left_positive : (got : ℤ) (i : Bool) (p r : Input) → lt_z (pos 0) got ≡ true → r ≡ p → r ≡ input_of got i p
unfolding input_of
left_positive (pos zero) i p r e h = absurd (nothing_below 0 e)
left_positive (pos (suc n)) i p r e h = h
left_positive (negsuc n) i p r e h = let z : false ≡ true = e in cc

pub left_none : (got : ℤ) (i : Bool) (p : Input) → lt_z got (pos 0) ≡ false → lt_z (pos 0) got ≡ false → Over ≡ input_of got i p
unfolding input_of
left_none (pos zero) i p e h = refl
left_none (pos (suc n)) i p e h = absurd (subst (λ (b : Bool). T b) h (lt→ltb 0 (suc n) (omega arith)))
left_none (negsuc n) i p e h = let z : true ≡ false = e in cc

-- after a part the state that is held says whether the reading is stopped
part_is : (r : Answer Reading) (d : List ℕ) → part_by r ≡ part_of (run_of r d)
unfolding part_of
part_is (Ok s) d = refl
part_is (Err r) d = refl

-- as many of the buffer's bytes as a read counts
clamped_is : (got : ℤ) (buf : List ℕ) → take (clamp_len got (length buf)) buf ≡ take (up got) buf
clamped_is (pos n) buf = go n buf
  where
    go : (n : ℕ) (buf : List ℕ) → take (min n (length buf)) buf ≡ take n buf
    go zero buf = ap (λ (k : ℕ). take k buf) (zero-min (length buf))
    go (suc n) [] = ap (λ (k : ℕ). take k []) (min-zero (suc n))
    go (suc n) (x ∷ buf) = ap (λ (k : ℕ). take k (x ∷ buf)) (suc-min-suc n (length buf)) ∙ ap (λ (l : List ℕ). x ∷ l) (go n buf)
clamped_is (negsuc n) buf = refl

-- one read, by feeding the bytes that it counts whatever its sign
step_is : (z : Both) (got : ℤ) (i : Bool) (buf : List ℕ) → step_by z got i (take (up got) buf) ≡ state (feed_all z (take (up got) buf)) (input_of got i (part_of (feed_all z (take (up got) buf)).run))
unfolding step_by input_of feed_all
step_is z (negsuc k) i buf = refl
step_is z (pos zero) i buf = refl
step_is z (pos (suc k)) i buf = refl

-- the step that the code makes; g and k are the count as the two calls were handed it
pub step_made : (h held : Held) (x y : Rooms) (got g k : ℤ) (i : Bool) (buf : List ℕ) (n : ℕ) (a : Input) → g ≡ got → k ≡ got
    → n ≡ clamp_len g (length buf) → both (abs held) y ≡ feed_all (both (abs h) x) (take n buf) → a ≡ input_of k i (part_by held.reading)
    → state (both (abs held) y) a ≡ step_of (state (both (abs h) x) More) (read_as got i buf)
step_made h held x y got g k i buf n a eg ek en e ea =
    let b = ap (λ (m : ℕ). take m buf) (en ∙ ap (λ (j : ℤ). clamp_len j (length buf)) eg) ∙ clamped_is got buf in
    let f = e ∙ ap (feed_all (both (abs h) x)) b in
    let j = ea ∙ ap (λ (m : ℤ). input_of m i (part_by held.reading)) ek ∙ ap (input_of got i) (part_is held.reading (take held.len held.line)) ∙ ap (λ (z : Both). input_of got i (part_of z.run)) f in
    ap₂ state f j ∙ sym (step_is (both (abs h) x) got i buf)
