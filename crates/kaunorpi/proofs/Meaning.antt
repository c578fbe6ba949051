-- What the program's promise means: its line is that of the file that its reads bring, however they cut it. Assumes nothing.
use Prim.Native.Nat.{ℕ, suc}
use mathlib.Core.Path.{◌≡◌, sym, ap, subst, ◌∙◌}
use mathlib.Core.Bool.{false}
use mathlib.Core.List.{List, [], ◌∷◌, ◌++◌}
use lib.ListN.{length}
use lib.Seq.{sets}
use lib.IntN.{pos, negsuc}
use Rattle.file_line.specs.declared.Rooms.{Rooms}
use Rattle.file_parts.specs.File.{Run, stopped, Both, both, read_of, case_of}
use Rattle.file_reads.specs.declared.Input.TheVariants.{Over, Failed}
use Rattle.file_reads.specs.Reads.{Read, State, unread, AllMore, bytes_in, read_limit, InputEnds}
use Rattle.file_reads.proofs.Ends.{over_failed, one_end, ends_fed, zero_over, told_failed}
use Rattle.file_reads.proofs.Endings.{Ending, at-end, at_refusal_lem, at_failure_lem, too_many_lem, bytes_stopped, ending}
use Rattle.verdict_line.specs.Answer.{line_at, file_line}
use Rattle.verdict_line.proofs.Meaning.{refusal_decides}
use Rattle.kaunorpi.specs.Made.{Output, no_line, a_line, Made}
use Rattle.kaunorpi.proofs.Showing.{line_eight, shows}

one_output : (e : State) (out o o' : List ℕ) → Output e out o → Output e out o' → o ≡ o'
one_output e out o o' (no_line f q) (no_line f' q') = q ∙ sym q'
one_output e out o o' (no_line f q) (a_line f' w) = absurd (over_failed (sym f' ∙ f))
one_output e out o o' (a_line f w) (no_line f' q) = absurd (over_failed (sym f ∙ f'))
one_output e out o o' (a_line f w) (a_line f' w') = w.line.made ∙ sym w'.line.made

-- the promise determines what is made: of the same reads, the same
pub unique : (x : Rooms) (out o o' : List ℕ) (m : Made x out o) (m' : Made x out o') → m.input.reads ≡ m'.input.reads → o ≡ o'
unique x out o o' m m' e =
    let g = one_end (unread x) m.end m'.end m'.input.reads (subst (λ (rs : List Read). InputEnds (unread x) rs m.end) e m.input.ended) m'.input.ended in
    one_output m'.end out o o' (subst (λ (v : State). Output v out o) g m.output) m'.output

-- how a run of the program ended, and what it made
pub data Outcome (x : Rooms) (rs : List Read) (out out' : List ℕ) : Type 0 where
  -- the last read answered 0: the line is that of the file that the reads put together
  at_end : (before : List Read) (last : Read) → rs ≡ before ++ (last ∷ []) → last.count ≡ pos 0 → out' ≡ sets out 0 (file_line (bytes_in rs) x) → Outcome x rs out out'
  -- the last read's bytes were refused: the line is that of every file that begins with what the reads brought
  at_refusal : (before : List Read) (last : Read) → rs ≡ before ++ (last ∷ []) → (k : ℕ) → last.count ≡ pos (suc k) → ((rest : List ℕ) → out' ≡ sets out 0 (file_line (bytes_in rs ++ rest) x)) → Outcome x rs out out'
  -- the last read failed, and no signal had interrupted it: nothing is made
  at_failure : (before : List Read) (last : Read) → rs ≡ before ++ (last ∷ []) → (k : ℕ) → last.count ≡ negsuc k → last.interrupted ≡ false → out' ≡ out → Outcome x rs out out'
  -- the most reads were made, and there was more: nothing is made
  too_many : length rs ≡ read_limit → AllMore (unread x) rs → out' ≡ out → Outcome x rs out out'

-- what was fed and what was made, at the end of any reads
module _ (x : Rooms) (out out' : List ℕ) (m : Made x out out') where
  -- all that the reads brought was fed, in order
  pub all_fed : m.end.fed ≡ read_of x (bytes_in m.input.reads)
  all_fed = ends_fed x m.end m.input

  -- where the input is over, the line is that of what the reads brought
  pub over_line : m.end.input ≡ Over → out' ≡ sets out 0 (file_line (bytes_in m.input.reads) x)
  over_line o = go m.output
    where
      go : Output m.end out out' → out' ≡ sets out 0 (file_line (bytes_in m.input.reads) x)
      go (no_line f q) = absurd (over_failed (sym o ∙ f))
      go (a_line f w) = w.line.made ∙ ap (λ (z : Both). sets out 0 (line_at z)) all_fed

  -- where it failed, nothing is made
  pub failed_nothing : m.end.input ≡ Failed → out' ≡ out
  failed_nothing g = go m.output
    where
      go : Output m.end out out' → out' ≡ out
      go (no_line f q) = q
      go (a_line f w) = absurd (over_failed (sym f ∙ g))

  -- and only there: in a room that begins with 0, as the program's own does, every line shows
  pub nothing_failed : (rest : List ℕ) → out ≡ 0 ∷ rest → out' ≡ out → m.end.input ≡ Failed
  nothing_failed rest z e = go m.output
    where
      go : Output m.end out out' → m.end.input ≡ Failed
      go (no_line f q) = f
      go (a_line f w) = absurd (shows _ rest (line_eight (case_of m.end.fed.run) m.end.fed.rooms) (ap (λ (l : List ℕ). sets l 0 (line_at m.end.fed)) (sym z) ∙ sym w.line.made ∙ e ∙ z))

  -- after a refusal no byte changes the line
  refused_line : (n l : ℕ) → m.end.fed.run ≡ stopped n l → (rest : List ℕ) → file_line (bytes_in m.input.reads ++ rest) x ≡ file_line (bytes_in m.input.reads) x
  refused_line n l e rest = refusal_decides (bytes_in m.input.reads) rest x m.end.fed.rooms n l (sym all_fed ∙ ap (λ (r : Run). both r m.end.fed.rooms) e)

  -- how any run ends
  pub outcome : Outcome x m.input.reads out out'
  outcome = go (ending x m.end m.input.reads m.input.ended)
    where
      go : Ending x m.input.reads m.end → Outcome x m.input.reads out out'
      go (at-end before last q c o) = at_end before last q c (over_line o)
      go (at_refusal_lem before last q k c n l e o) = at_refusal before last q k c (λ rest. over_line o ∙ ap (sets out 0) (sym (refused_line n l e rest)))
      go (at_failure_lem before last q k c b f) = at_failure before last q k c b (failed_nothing f)
      go (too_many_lem l a f) = too_many l a (failed_nothing f)

  -- whichever way the last read went
  module _ (before : List Read) (last : Read) (q : m.input.reads ≡ before ++ (last ∷ [])) where
    -- if it answered 0, and the reads' bytes put together are the file f, the line is that of f
    pub whole_file : (f : List ℕ) → last.count ≡ pos 0 → bytes_in m.input.reads ≡ f → out' ≡ sets out 0 (file_line f x)
    whole_file f z b = over_line (zero_over _ _ _ before last q z m.input.ended) ∙ ap (λ (g : List ℕ). sets out 0 (file_line g x)) b

    -- if the input was over at bytes that it brought, the line is that of every file that begins with the reads' bytes
    pub refused_file : (k : ℕ) → last.count ≡ pos (suc k) → m.end.input ≡ Over → (rest : List ℕ) → out' ≡ sets out 0 (file_line (bytes_in m.input.reads ++ rest) x)
    refused_file k c o rest =
        let e = bytes_stopped x m.end _ before last q k c o m.input.ended in
        over_line o ∙ ap (sets out 0) (sym (refused_line e.number e.line e.run rest))

    -- if it failed, and no signal had interrupted it, nothing is made
    pub failed_file : (k : ℕ) → last.count ≡ negsuc k → last.interrupted ≡ false → out' ≡ out
    failed_file k c b = failed_nothing (told_failed _ _ _ before last q k c b m.input.ended)
