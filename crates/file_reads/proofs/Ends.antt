-- Laws of how reads end. Assumes nothing.
use Prim.Native.Nat.{ℕ, suc}
use mathlib.Core.Path.{◌≡◌, refl, sym, ap, subst, ◌∙◌}
use mathlib.Core.Bool.{Bool, false}
use mathlib.Core.List.{List, [], ◌∷◌, ◌++◌}
use native.Mathlib.Omega.{arith}
use lib.IntN.{ℤ, pos, negsuc}
use Rattle.file_line.specs.declared.Rooms.{Rooms}
use Rattle.file_parts.specs.File.{Both, read_of}
use Rattle.file_reads.specs.declared.Input.TheVariants.{More, Over, Failed}
use Rattle.file_reads.specs.Reads.{Read, State, unread, failure_of, part_of, step_by, step_of, step_all, AllMore, bytes_in, InputEnds, by_last, used_up, InputRead}
use Rattle.file_reads.proofs.Inputs.{step_last, reads_fed}

pub more_over : More ≡ Over → ⊥
more_over e = let y : ◌≡◌ {A = ℕ} 0 1 = cc in omega arith

pub over_failed : Over ≡ Failed → ⊥
over_failed e = let y : ◌≡◌ {A = ℕ} 0 1 = cc in omega arith

-- one read, by its count
pub by_zero : (z : Both) (c : ℤ) (i : Bool) (b : List ℕ) → c ≡ pos 0 → (step_by z c i b).input ≡ Over
unfolding step_by
by_zero z c i b e = ap (λ (d : ℤ). (step_by z d i b).input) e

pub by_part : (z : Both) (c : ℤ) (i : Bool) (b : List ℕ) (k : ℕ) → c ≡ pos (suc k) → (step_by z c i b).input ≡ part_of (step_by z c i b).fed.run
unfolding step_by
by_part z c i b k e = rw e refl

pub by_failure : (z : Both) (c : ℤ) (i : Bool) (b : List ℕ) (k : ℕ) → c ≡ negsuc k → (step_by z c i b).input ≡ failure_of i
unfolding step_by
by_failure z c i b k e = ap (λ (d : ℤ). (step_by z d i b).input) e

pub by_told : (z : Both) (c : ℤ) (i : Bool) (b : List ℕ) (k : ℕ) → c ≡ negsuc k → i ≡ false → (step_by z c i b).input ≡ Failed
unfolding failure_of
by_told z c i b k e t = by_failure z c i b k e ∙ ap failure_of t

-- the last of reads that each leave more leaves more
pub last_more : (s : State) (before : List Read) (last : Read) → AllMore s (before ++ (last ∷ [])) → (step_of (step_all s before) last).input ≡ More
unfolding step_all AllMore
last_more s [] last m = m.0
last_more s (r ∷ before) last m = last_more (step_of s r) before last m.1

-- what reads come to, by the last of them
pub by_last_lem : (s e : State) (rs before : List Read) (last : Read) → rs ≡ before ++ (last ∷ []) → e ≡ step_all s rs → e ≡ step_of (step_all s before) last
by_last_lem s e rs before last q f = f ∙ ap (step_all s) q ∙ step_last s before last

-- reads end in one way only
pub one_end : (s e e' : State) (rs : List Read) → InputEnds s rs e → InputEnds s rs e' → e ≡ e'
one_end s e e' rs (by_last before last q a f h) (by_last before' last' q' a' f' h') = f ∙ sym f'
one_end s e e' rs (by_last before last q a f h) (used_up l a' f') =
    absurd (h (ap (λ (v : State). v.input) (by_last_lem s e rs before last q f) ∙ last_more s before last (subst (AllMore s) q a')))
one_end s e e' rs (used_up l a f) (by_last before last q a' f' h) =
    absurd (h (ap (λ (v : State). v.input) (by_last_lem s e' rs before last q f') ∙ last_more s before last (subst (AllMore s) q a)))
one_end s e e' rs (used_up l a f) (used_up l' a' f') = f ∙ sym f'

-- all that reads from the first on brought was fed, in order
pub ends_fed : (x : Rooms) (e : State) (r : InputRead (unread x) e) → e.fed ≡ read_of x (bytes_in r.reads)
ends_fed x e r = go r.ended
  where
    go : InputEnds (unread x) r.reads e → e.fed ≡ read_of x (bytes_in r.reads)
    go (by_last before last q a f h) = ap (λ (v : State). v.fed) f ∙ reads_fed (unread x) r.reads r.brought
    go (used_up l a f) = ap (λ (v : State). v.fed) f ∙ reads_fed (unread x) r.reads r.brought

-- how reads end, by the last of them
module _ (s e : State) (rs before : List Read) (last : Read) (q : rs ≡ before ++ (last ∷ [])) where
  -- if it answered 0, the input is over
  pub zero_over : last.count ≡ pos 0 → InputEnds s rs e → e.input ≡ Over
  zero_over z (by_last before' last' q' a f h) = ap (λ (v : State). v.input) (by_last_lem s e rs before last q f) ∙ by_zero _ last.count _ _ z
  zero_over z (used_up l a f) = absurd (more_over (sym (last_more s before last (subst (AllMore s) q a)) ∙ by_zero _ last.count _ _ z))

  -- if it failed, and no signal had interrupted it, the input failed
  pub told_failed : (k : ℕ) → last.count ≡ negsuc k → last.interrupted ≡ false → InputEnds s rs e → e.input ≡ Failed
  told_failed k c b (by_last before' last' q' a f h) = ap (λ (v : State). v.input) (by_last_lem s e rs before last q f) ∙ by_told _ last.count _ _ k c b
  told_failed k c b (used_up l a f) = ap (λ (v : State). v.input) f
