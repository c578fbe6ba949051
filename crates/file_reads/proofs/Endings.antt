-- The four ways in which the reads of a file end, for whatever is made of it. Assumes nothing.
use Prim.Native.Nat.{ℕ, zero, suc}
use mathlib.Core.Path.{◌≡◌, refl, sym, ap, ◌∙◌}
use mathlib.Core.Bool.{Bool, true, false}
use mathlib.Core.List.{List, [], ◌∷◌, ◌++◌}
use lib.ListN.{length}
use lib.IntN.{ℤ, pos, negsuc}
use Rattle.file_line.specs.declared.Rooms.{Rooms}
use Rattle.file_parts.specs.File.{Run, going, stopped}
use Rattle.file_reads.specs.declared.Input.TheVariants.{More, Over, Failed}
use Rattle.file_reads.specs.Reads.{Read, State, unread, failure_of, part_of, step_of, step_all, AllMore, read_limit, InputEnds, by_last, used_up}
use Rattle.file_reads.proofs.Ends.{more_over, over_failed, by_zero, by_part, by_failure, by_told, by_last_lem}

-- the reads rs came to e
pub data Ending (x : Rooms) (rs : List Read) (e : State) : Type 0 where
  -- the last answered 0
  at-end : (before : List Read) (last : Read) → rs ≡ before ++ (last ∷ []) → last.count ≡ pos 0 → e.input ≡ Over → Ending x rs e
  -- the last one's bytes were refused
  at_refusal_lem : (before : List Read) (last : Read) → rs ≡ before ++ (last ∷ []) → (k : ℕ) → last.count ≡ pos (suc k) → (n l : ℕ) → e.fed.run ≡ stopped n l → e.input ≡ Over → Ending x rs e
  -- the last failed, and no signal had interrupted it
  at_failure_lem : (before : List Read) (last : Read) → rs ≡ before ++ (last ∷ []) → (k : ℕ) → last.count ≡ negsuc k → last.interrupted ≡ false → e.input ≡ Failed → Ending x rs e
  -- the most reads were made, and there was more
  too_many_lem : length rs ≡ read_limit → AllMore (unread x) rs → e.input ≡ Failed → Ending x rs e

-- a reading after which nothing more is read was refused
pub record Stopped (e : State) : Type 0 where
  pub number : ℕ
  pub line : ℕ
  pub run : e.fed.run ≡ stopped number line

over_stopped : (e : State) (r : Run) → e.fed.run ≡ r → e.input ≡ part_of r → e.input ≡ Over → Stopped e
unfolding part_of
over_stopped e (going s d) w i o = absurd (more_over (sym i ∙ o))
over_stopped e (stopped n l) w i o = record { number = n; line = l; run = w }

module _ (x : Rooms) (e : State) (rs before : List Read) (last : Read) (q : rs ≡ before ++ (last ∷ [])) where
  -- what the last read's bytes came to
  by_bytes : (k : ℕ) → last.count ≡ pos (suc k) → e ≡ step_all (unread x) rs → e.input ≡ part_of e.fed.run
  by_bytes k c f =
      let g = by_last_lem (unread x) e rs before last q f in
      ap (λ (v : State). v.input) g ∙ by_part _ last.count _ _ k c ∙ ap (λ (v : State). part_of v.fed.run) (sym g)

  -- if the input was over at bytes that the last read brought, they were refused
  pub bytes_stopped : (k : ℕ) → last.count ≡ pos (suc k) → e.input ≡ Over → InputEnds (unread x) rs e → Stopped e
  bytes_stopped k c o (by_last before' last' q' a f h) = over_stopped e e.fed.run refl (by_bytes k c f) o
  bytes_stopped k c o (used_up l a f) = absurd (over_failed (sym o ∙ ap (λ (v : State). v.input) f))

  module _ (f : e ≡ step_all (unread x) rs) (h : e.input ≡ More → ⊥) where
    came : e ≡ step_of (step_all (unread x) before) last
    came = by_last_lem (unread x) e rs before last q f

    -- by whether a signal interrupted a read that failed
    by_signal : (k : ℕ) → last.count ≡ negsuc k → (b : Bool) → last.interrupted ≡ b → Ending x rs e
    unfolding failure_of
    by_signal k c true b = absurd (h (ap (λ (v : State). v.input) came ∙ by_failure _ last.count _ _ k c ∙ ap failure_of b))
    by_signal k c false b = at_failure_lem before last q k c b (ap (λ (v : State). v.input) came ∙ by_told _ last.count _ _ k c b)

    by_run : (k : ℕ) → last.count ≡ pos (suc k) → (r : Run) → e.fed.run ≡ r → e.input ≡ part_of r → Ending x rs e
    unfolding part_of
    by_run k c (going s d) w i = absurd (h i)
    by_run k c (stopped n l) w i = at_refusal_lem before last q k c n l w i

    by_count : (c : ℤ) → last.count ≡ c → Ending x rs e
    by_count (pos zero) c = at-end before last q c (ap (λ (v : State). v.input) came ∙ by_zero _ last.count _ _ c)
    by_count (pos (suc k)) c = by_run k c e.fed.run refl (by_bytes k c f)
    by_count (negsuc k) c = by_signal k c last.interrupted refl

pub ending : (x : Rooms) (e : State) (rs : List Read) → InputEnds (unread x) rs e → Ending x rs e
ending x e rs (by_last before last q a f h) = by_count x e rs before last q f h last.count refl
ending x e rs (used_up l a f) = too_many_lem l a (ap (λ (v : State). v.input) f)
