-- What the promise of the program means: a whole file comes back byte by byte and nothing is told; of a refused one nothing comes back, and its verdict line is told; however the reads cut it. Assumes nothing.
use Rattle.std.specs.Prelude.{Ok}
use Rattle.refusals.specs.Given.{refused}
use Rattle.refusals.proofs.Chains.{refused_one}
use Prim.Native.Nat.{ℕ, suc, ◌≤◌}
use mathlib.Core.Path.{◌≡◌, sym, ap, subst, ◌∙◌}
use mathlib.Core.Bool.{false}
use mathlib.Core.List.{List, [], ◌∷◌, ◌++◌}
use native.Mathlib.Omega.{arith}
use lib.ListN.{length}
use lib.Seq.{sets}
use lib.IntN.{pos, negsuc}
use Rattle.file_put.specs.Put.{line_text}
use Rattle.file_line.specs.declared.Reading.{Reading}
use Rattle.file_line.specs.declared.Rooms.{Rooms}
use Rattle.file_line.specs.Walk.{Large}
use Rattle.file_parts.specs.File.{Case, Run, stopped, Both, both, read_of, case_of}
use Rattle.file_reads.specs.declared.Input.TheVariants.{Over, Failed}
use Rattle.file_reads.specs.Reads.{Read, State, unread, AllMore, bytes_in, read_limit, InputEnds}
use Rattle.file_reads.proofs.Ends.{over_failed, one_end, ends_fed, zero_over, told_failed}
use Rattle.file_reads.proofs.Endings.{Ending, at-end, at_refusal_lem, at_failure_lem, too_many_lem, bytes_stopped, ending}
use Rattle.file_out.specs.Length.{file_limit}
use Rattle.file_write.specs.Entry.{Wrote}
use Rattle.file_again.specs.Again.{again_at, file_again}
use Rattle.file_again.proofs.Meaning.{same_bytes, refused_same}
use Rattle.verdict_line.specs.Answer.{line_for, file_line}
use Rattle.verdict_line.proofs.Meaning.{refusal_decides}
use Rattle.rewrite.specs.Made.{refusal_bytes, Shown, a_file, a_line, Output, nothing, again, Made}

-- ---- the promise determines what is made: of the same reads, the same
one_shown : (w : Wrote) (told o t o' t' : List ℕ) → Shown w o told t → Shown w o' told t' → (o ≡ o') × (t ≡ t')
one_shown w told o t o' t' (a_file n e q r) (a_file n' e' q' r') = (q ∙ sym q', r ∙ sym r')
one_shown w told o t o' t' (a_file n e q r) (a_line k l e' q' r') = let z : ◌≡◌ {A = ℕ} 0 1 = cc in absurd (omega arith)
one_shown w told o t o' t' (a_line k l e q r) (a_file n e' q' r') = let z : ◌≡◌ {A = ℕ} 0 1 = cc in absurd (omega arith)
one_shown w told o t o' t' (a_line k l e q r) (a_line k' l' e' q' r') =
    let z = refused_one {A = ℕ} k l k' l' (sym e ∙ e') in
    let f : refusal_bytes k l ≡ refusal_bytes k' l' = rw (z.0, z.1) in
    (q ∙ sym q', r.line.made ∙ ap (λ (bytes : List ℕ). sets told 0 (line_text bytes)) f ∙ sym r'.line.made)

one_output : (e : State) (out told o t o' t' : List ℕ) → Output e out o told t → Output e out o' told t' → (o ≡ o') × (t ≡ t')
one_output e out told o t o' t' (nothing f q r) (nothing f' q' r') = (q ∙ sym q', r ∙ sym r')
one_output e out told o t o' t' (nothing f q r) (again f' w) = absurd (over_failed (sym f' ∙ f))
one_output e out told o t o' t' (again f w) (nothing f' q r) = absurd (over_failed (sym f ∙ f'))
one_output e out told o t o' t' (again f w) (again f' w') = one_shown _ told o t o' t' w w'

pub unique : (x : Rooms) (out told o t o' t' : List ℕ) (m : Made x out o told t) (m' : Made x out o' told t') → m.input.reads ≡ m'.input.reads → (o ≡ o') × (t ≡ t')
unique x out told o t o' t' m m' e =
    let g = one_end (unread x) m.end m'.end m'.input.reads (subst (λ (rs : List Read). InputEnds (unread x) rs m.end) e m.input.ended) m'.input.ended in
    one_output m'.end out told o t o' t' (subst (λ (v : State). Output v out o told t) g m.output) m'.output

-- ---- what is shown of a file
shown_refused : (x : Rooms) (out out' told told' f : List ℕ) (n l : ℕ) → case_of (read_of x f).run ≡ refused n l → Shown (file_again f x out) out' told told' → (out' ≡ out) × (told' ≡ sets told 0 (file_line f x))
shown_refused x out out' told told' f n l w (a_file k e q t) =
    let g = (refused_same f x out n l w).0 in
    let z : ◌≡◌ {A = ℕ} 0 1 = cc in
    absurd (omega arith)
shown_refused x out out' told told' f n l w (a_line k i e q t) =
    let g = refused_same f x out n l w in
    let z = refused_one {A = ℕ} k i n l (sym e ∙ g.0) in
    let d : refusal_bytes k i ≡ refusal_bytes n l = rw (z.0, z.1) in
    (q ∙ g.1, t.line.made ∙ ap (λ (bytes : List ℕ). sets told 0 (line_text bytes)) d ∙ ap (λ (c : Case). sets told 0 (line_for c (read_of x f).rooms)) (sym w))

module _ (x : Rooms) (large : Large x) (out : List ℕ) (roomy : file_limit ≤ length out) (out' told told' : List ℕ) (f : List ℕ) where
  shown_whole : (s : Reading) → case_of (read_of x f).run ≡ Ok s → Shown (file_again f x out) out' told told' → (out' ≡ sets out 0 f) × (told' ≡ told)
  shown_whole s w (a_file n e q t) = (q ∙ (same_bytes f x large out s w roomy).1, t)
  shown_whole s w (a_line n l e q t) =
      let g = (same_bytes f x large out s w roomy).0 in
      let z : ◌≡◌ {A = ℕ} 0 1 = cc in
      absurd (omega arith)

-- ---- what was made, by how the reads ended
-- how a run of the program ended, and what it made
pub data Outcome (x : Rooms) (rs : List Read) (out out' told told' : List ℕ) : Type 0 where
  -- the last read answered 0: what is shown is that of the file that the reads put together
  at_end : (before : List Read) (last : Read) → rs ≡ before ++ (last ∷ []) → last.count ≡ pos 0 → Shown (file_again (bytes_in rs) x out) out' told told' → Outcome x rs out out' told told'
  -- the last read's bytes were refused: nothing comes back, and the line told is that of every file that begins with what the reads brought
  at_refusal : (before : List Read) (last : Read) → rs ≡ before ++ (last ∷ []) → (k : ℕ) → last.count ≡ pos (suc k) → ((rest : List ℕ) → (out' ≡ out) × (told' ≡ sets told 0 (file_line (bytes_in rs ++ rest) x))) → Outcome x rs out out' told told'
  -- the last read failed, and no signal had interrupted it: nothing is made
  at_failure : (before : List Read) (last : Read) → rs ≡ before ++ (last ∷ []) → (k : ℕ) → last.count ≡ negsuc k → last.interrupted ≡ false → (out' ≡ out) × (told' ≡ told) → Outcome x rs out out' told told'
  -- the most reads were made, and there was more: nothing is made
  too_many : length rs ≡ read_limit → AllMore (unread x) rs → (out' ≡ out) × (told' ≡ told) → Outcome x rs out out' told told'

module _ (x : Rooms) (out out' told told' : List ℕ) (m : Made x out out' told told') where
  -- where the input is over, what was written back is that of all that the reads brought, in order
  pub over_again : m.end.input ≡ Over → Shown (file_again (bytes_in m.input.reads) x out) out' told told'
  over_again o = go m.output
    where
      go : Output m.end out out' told told' → Shown (file_again (bytes_in m.input.reads) x out) out' told told'
      go (nothing f q t) = absurd (over_failed (sym o ∙ f))
      go (again f w) = subst (λ (z : Both). Shown (again_at z out) out' told told') (ends_fed x m.end m.input) w

  -- where it failed, nothing is made
  pub failed_nothing : m.end.input ≡ Failed → (out' ≡ out) × (told' ≡ told)
  failed_nothing g = go m.output
    where
      go : Output m.end out out' told told' → (out' ≡ out) × (told' ≡ told)
      go (nothing f q t) = (q, t)
      go (again f w) = absurd (over_failed (sym f ∙ g))

  -- after a refusal no byte changes the line
  stopped_told : (n l : ℕ) → m.end.fed.run ≡ stopped n l → m.end.input ≡ Over → (rest : List ℕ) → (out' ≡ out) × (told' ≡ sets told 0 (file_line (bytes_in m.input.reads ++ rest) x))
  unfolding case_of
  stopped_told n l e o rest =
      let f = sym (ends_fed x m.end m.input) ∙ ap (λ (r : Run). both r m.end.fed.rooms) e in
      let g = shown_refused x out out' told told' (bytes_in m.input.reads) n l (ap (λ (z : Both). case_of z.run) f) (over_again o) in
      (g.0, g.1 ∙ ap (sets told 0) (sym (refusal_decides (bytes_in m.input.reads) rest x m.end.fed.rooms n l f)))

  -- how any run ends
  pub outcome : Outcome x m.input.reads out out' told told'
  outcome = go (ending x m.end m.input.reads m.input.ended)
    where
      go : Ending x m.input.reads m.end → Outcome x m.input.reads out out' told told'
      go (at-end before last q c o) = at_end before last q c (over_again o)
      go (at_refusal_lem before last q k c n l e o) = at_refusal before last q k c (λ rest. stopped_told n l e o rest)
      go (at_failure_lem before last q k c b f) = at_failure before last q k c b (failed_nothing f)
      go (too_many_lem l a f) = too_many l a (failed_nothing f)

  -- whichever way the last read went
  module _ (before : List Read) (last : Read) (q : m.input.reads ≡ before ++ (last ∷ [])) where
    -- if the input was over at bytes that it brought, nothing comes back, and the line told is that of every file that begins with the reads' bytes
    pub refused_early : (k : ℕ) → last.count ≡ pos (suc k) → m.end.input ≡ Over → (rest : List ℕ) → (out' ≡ out) × (told' ≡ sets told 0 (file_line (bytes_in m.input.reads ++ rest) x))
    refused_early k c o =
        let e = bytes_stopped x m.end _ before last q k c o m.input.ended in
        stopped_told e.number e.line e.run o

    -- if it failed, and no signal had interrupted it, nothing is made
    pub failed_file : (k : ℕ) → last.count ≡ negsuc k → last.interrupted ≡ false → (out' ≡ out) × (told' ≡ told)
    failed_file k c b = failed_nothing (told_failed _ _ _ before last q k c b m.input.ended)

    -- if it answered 0, and the reads' bytes put together are the file f
    module _ (large : Large x) (roomy : file_limit ≤ length out) (f : List ℕ) (z : last.count ≡ pos 0) (b : bytes_in m.input.reads ≡ f) where
      ended_again : Shown (file_again f x out) out' told told'
      ended_again = subst (λ (g : List ℕ). Shown (file_again g x out) out' told told') b (over_again (zero_over _ _ _ before last q z m.input.ended))

      -- a whole file comes back, byte by byte, and nothing is told
      pub whole_file : (s : Reading) → case_of (read_of x f).run ≡ Ok s → (out' ≡ sets out 0 f) × (told' ≡ told)
      whole_file s w = shown_whole x large out roomy out' told told' f s w ended_again

      -- of a refused one nothing comes back, and its verdict line is told
      pub refused_file : (n l : ℕ) → case_of (read_of x f).run ≡ refused n l → (out' ≡ out) × (told' ≡ sets told 0 (file_line f x))
      refused_file n l w = shown_refused x out out' told told' f n l w ended_again
