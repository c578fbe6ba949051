-- To be believed: what document 01 asks of a line, in the order in which a line is judged: the first that does not hold gives its refusal.
use Rattle.std.specs.Prelude.{ℕ, ◌+◌, ◌*◌, ◌%◌, ◌≤◌, ◌<◌, ◌≡◌, ◌⊎◌, List, length, get_or}
use Rattle.ground.specs.Limits.{count_limit, weight_limit, word_limit}
use Rattle.wiring.specs.Wired.{Wired}
use Rattle.refusals.specs.Given.{Fine, Letters}
use Rattle.refusals.specs.First.{First, Given}
use Rattle.file_digits.specs.Frame.{line_limit, block, byte_at}
use Rattle.file_mask.specs.Mask.{mask_bytes, above_bits, mask_in}
use Rattle.file_row.specs.Row.{byte_limit, narrow_row, wide_row, takes_in, puts_in}
use Rattle.file_line.specs.declared.Reading.{Reading}
use Rattle.file_line.specs.declared.Rooms.{Rooms}
use Rattle.file_line.specs.Read.{kind_of, tokens_in, letters_in, word_part, stored, net_in, line_here}

-- "digits 0-9 and A-F"
abbrev pub Digit : ℕ → Type 0
Digit b = ((48 ≤ b) × (b ≤ 57)) ⊎ ((65 ≤ b) × (b ≤ 70))

-- 11 unless: "an even number .. of digits", 2 to 516 (document 02, E6)
pub record Ruled (d : List ℕ) : Type 0 where
  pub least : 2 ≤ length d
  pub most : length d ≤ line_limit
  pub even : length d % 2 ≡ 0
  pub digits : (k : ℕ) → k < length d → Digit (get_or d k 0)

-- "an all-zero mask", "A bit at or past P": neither is so of a 06
abbrev pub SomeBit : List ℕ → Type 0
SomeBit d = mask_in d ≡ 0 → ⊥

abbrev pub NoBitPast : Reading → List ℕ → Type 0
NoBitPast s d = above_bits (mask_in d) s.places ≡ 0

-- "an 07 with none such is refusal 12": one of its weights is over 255
pub record SomeWide (s : Reading) (d : List ℕ) : Type 0 where
  pub place : ℕ
  pub here : place < s.places
  pub wide : (byte_limit < get_or (takes_in wide_row d s.places) place 0) ⊎ (byte_limit < get_or (puts_in wide_row d s.places) place 0)

-- 12 unless it is a frame of the kind that must come next, of its length, with its index, its mask and its weights
-- ("unknown kind, wrong order, length or index"; "all but the last hold 64, else the next 05 is faulty"; "A frame 06 .. may follow 02":
-- phase 6 is that of 06 or 03; E6: phase 4 is that of a transition's weights, in an 04 or an 07)
pub data Formed (s : Reading) (d : List ℕ) : Type 0 where
  frame01 : s.phase ≡ 1 → kind_of d ≡ 1 → length d ≡ 6 → Formed s d
  frame02 : s.phase ≡ 2 → kind_of d ≡ 2 → length d ≡ 2 + 4 * s.places → Formed s d
  frame06 : s.phase ≡ 6 → kind_of d ≡ 6 → length d ≡ 2 + 2 * mask_bytes → SomeBit d → NoBitPast s d → Formed s d
  frame03 : (s.phase ≡ 6) ⊎ (s.phase ≡ 3) → kind_of d ≡ 3 → length d ≡ 2 + 4 * s.places → Formed s d
  frame04 : s.phase ≡ 4 → kind_of d ≡ 4 → length d ≡ 4 + 4 * s.places → byte_at d 1 ≡ s.next → Formed s d
  frame07 : s.phase ≡ 4 → kind_of d ≡ wide_row → length d ≡ 4 + 8 * s.places → byte_at d 1 ≡ s.next → SomeWide s d → Formed s d
  frame05 : s.phase ≡ 5 → kind_of d ≡ 5 → s.letters % block ≡ 0 → 4 ≤ length d → length d ≤ 2 + 2 * block → Formed s d

-- 1 unless its counts are in range
pub record CountsInRange (d : List ℕ) : Type 0 where
  pub places : kind_of d ≡ 1 → (1 ≤ byte_at d 1) × (byte_at d 1 ≤ count_limit)
  pub transitions : kind_of d ≡ 1 → (1 ≤ byte_at d 2) × (byte_at d 2 ≤ count_limit)

-- 18 unless no weight is over 4,095; only an 07 can have one
pub record WeightsAllowed (s : Reading) (d : List ℕ) : Type 0 where
  pub takes : kind_of d ≡ wide_row → (p : ℕ) → p < s.places → get_or (takes_in wide_row d s.places) p 0 ≤ weight_limit
  pub puts : kind_of d ≡ wide_row → (p : ℕ) → p < s.places → get_or (puts_in wide_row d s.places) p 0 ≤ weight_limit

-- 3 unless no place has 65,535 tokens, or more than its capacity
pub record TokensAllowed (s : Reading) (d : List ℕ) (x : Rooms) : Type 0 where
  pub fine : kind_of d ≡ 3 → Fine x.caps (tokens_in s d)

-- 17 unless, on the line of the last transition, each place and transition of the net read with it has an arc
pub record NetWired (s : Reading) (d : List ℕ) (x : Rooms) : Type 0 where
  pub wired : (kind_of d ≡ narrow_row) ⊎ (kind_of d ≡ wide_row) → s.next + 1 ≡ s.transitions → Wired (net_in s (stored s d x))

-- 4 unless the word with its letters is not too long: "4 falls on the line of letter 65,536"
pub record WordNotOver (s : Reading) (d : List ℕ) : Type 0 where
  pub few : kind_of d ≡ 5 → s.letters + letters_in d ≤ word_limit

-- 5 unless each of its letters names a transition
pub record LettersNamed (s : Reading) (d : List ℕ) : Type 0 where
  pub named : kind_of d ≡ 5 → Letters s.transitions (word_part d)

-- all of it
pub record Taken (s : Reading) (d : List ℕ) (x : Rooms) : Type 0 where
  pub ruled : Ruled d
  pub formed : Formed s d
  pub counts : CountsInRange d
  pub weights : WeightsAllowed s d
  pub tokens : TokensAllowed s d x
  pub net : NetWired s d x
  pub word : WordNotOver s d
  pub letters : LettersNamed s d

-- n and at are the refusal of a line, and its line: "on it 11 and 12 come first", then 1, 3, 4 and 5 "in number order", 18 "before 3", 17 "after 3 and before 4"
abbrev pub Judged : Reading → List ℕ → Rooms → ℕ → ℕ → Type 0
Judged s d x n at =
    First (Ruled d) (Given 11 (line_here s) n at)
    (First (Formed s d) (Given 12 (line_here s) n at)
    (First (CountsInRange d) (Given 1 (line_here s) n at)
    (First (WeightsAllowed s d) (Given 18 (line_here s) n at)
    (First (TokensAllowed s d x) (Given 3 (line_here s) n at)
    (First (NetWired s d x) (Given 17 (line_here s) n at)
    (First (WordNotOver s d) (Given 4 (line_here s) n at)
    (First (LettersNamed s d) (Given 5 (line_here s) n at) ⊥)))))))
