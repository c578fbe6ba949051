-- Only for the code's walk, no answer is made of it: what holds of every state and room on the way, and of a line before it is stored.
use Rattle.std.specs.Prelude.{Ok, Err}
use Rattle.refusals.specs.Given.{Answer, Fault}
use Rattle.std.specs.Prelude.{ℕ, zero, suc, ◌+◌, ◌*◌, ◌≤◌, ◌<◌, ◌≡◌, Bool, true, false, cond, not, ◌⊎◌, List, length, leb}
use Rattle.ground.specs.Limits.{count_limit, word_limit}
use Rattle.refusals.specs.Given.{refuse, or_else}
use Rattle.file_digits.specs.Frame.{block, byte_at}
use Rattle.file_mask.specs.Mask.{mask_bytes}
use Rattle.file_row.specs.Row.{is_row, weight_bytes}
use Rattle.file_line.specs.declared.Reading.{Reading}
use Rattle.file_line.specs.declared.Rooms.{Rooms}
use Rattle.file_line.specs.Read.{cell_limit, kind_of, letters_in, rule_of, formed_of, counts_bad, weights_bad, tokens_bad, word_over, letters_bad, line_here}

-- what holds of every state of a reading
pub record Good (s : Reading) : Type 0 where
  pub phase_least : 1 ≤ s.phase
  pub phase : s.phase ≤ 6
  pub places : s.places ≤ count_limit
  pub transitions : s.transitions ≤ count_limit
  pub some : 2 ≤ s.phase → 1 ≤ s.transitions
  pub some_places : 2 ≤ s.phase → 1 ≤ s.places
  pub next : s.next ≤ s.transitions
  pub rows : s.phase ≡ 4 → s.next < s.transitions
  pub early : s.phase ≤ 3 → s.next ≡ 0
  pub wordless : s.phase ≤ 4 → s.letters ≡ 0
  pub pockets : s.phase ≡ 6 → (s.next ≡ 0) × (s.letters ≡ 0) × (s.line ≤ 2)
  pub letters : s.letters ≤ word_limit
  pub line_early : s.phase ≤ 2 → s.line < s.phase
  pub line : s.line ≤ s.phase + s.next + s.letters

-- the rooms are large enough for any file
pub record Large (x : Rooms) : Type 0 where
  pub caps : count_limit ≤ length x.caps
  pub marks : count_limit ≤ length x.marks
  pub initial : count_limit ≤ length x.initial
  pub pre : cell_limit ≤ length x.pre
  pub post : cell_limit ≤ length x.post
  pub word : word_limit ≤ length x.word

-- those of them that hold a net are
pub record Tables (c k a b : List ℕ) : Type 0 where
  pub caps : count_limit ≤ length c
  pub marks : count_limit ≤ length k
  pub pre : cell_limit ≤ length a
  pub post : cell_limit ≤ length b

-- n letters from byte j on name transitions: the pass over a line's digits; `letters_pass` says that it is `bad_letter` of refusals
unfoldable pub fit_letters : List ℕ → ℕ → ℕ → ℕ → Bool
fit_letters d j zero t = true
fit_letters d j (suc n) t = cond (leb t (byte_at d j)) false (fit_letters d (j + 1) n t)

-- what a line is asked before its numbers are stored: all but 17, which is asked of the rooms that hold them (`judge_split` puts them together)
unfoldable pub asked_of : Reading → List ℕ → Rooms → Fault
asked_of s d x =
    or_else (refuse (not (rule_of d)) 11 (line_here s))
    (or_else (refuse (not (formed_of s d)) 12 (line_here s))
    (or_else (refuse (counts_bad d) 1 (line_here s))
    (or_else (refuse (weights_bad s d) 18 (line_here s))
    (or_else (refuse (tokens_bad s d x) 3 (line_here s))
    (or_else (refuse (word_over s d) 4 (line_here s))
    (refuse (letters_bad s d) 5 (line_here s)))))))

-- what a line that is taken has, by its kind (`accepted` has it from document 01's demands)
pub record Accepted (s : Reading) (d : List ℕ) : Type 0 where
  pub least : 2 ≤ length d
  pub counts : kind_of d ≡ 1 → (s.phase ≡ 1) × (length d ≡ 6) × (byte_at d 1 ≤ count_limit) × (1 ≤ byte_at d 2) × (byte_at d 2 ≤ count_limit) × (1 ≤ byte_at d 1)
  pub caps : kind_of d ≡ 2 → (s.phase ≡ 2) × (length d ≡ 2 + 4 * s.places)
  pub pockets : kind_of d ≡ 6 → (s.phase ≡ 6) × (length d ≡ 2 + 2 * mask_bytes)
  pub tokens : kind_of d ≡ 3 → ((s.phase ≡ 6) ⊎ (s.phase ≡ 3)) × (length d ≡ 2 + 4 * s.places)
  pub row : is_row (kind_of d) ≡ true → (s.phase ≡ 4) × (length d ≡ 4 + 4 * (weight_bytes (kind_of d) * s.places))
  pub letters : kind_of d ≡ 5 → (s.phase ≡ 5) × (4 ≤ length d) × (length d ≤ 2 + 2 * block) × (s.letters + letters_in d ≤ word_limit)
  pub kind : kind_of d ≤ 7
  pub kind_least : 1 ≤ kind_of d

-- a state that goes on is good, and a refusal has a number
abbrev pub GoodTook : Answer Reading → Type 0
GoodTook (Ok s) = Good s
GoodTook (Err r) = 1 ≤ r.number
