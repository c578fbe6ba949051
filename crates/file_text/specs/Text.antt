-- To be believed: the case file of a net, its initial marking and a word ("Case file lines"), and what reading it comes to.
use Rattle.std.specs.Prelude.{ℕ, zero, suc, ◌+◌, ◌-◌, ◌/◌, ◌≤◌, ◌≡◌, cond, List, [], ◌∷◌, ◌++◌, map, length, take, eqb}
use Rattle.std.proofs.lemmas.List.Edits.{sets}
use Rattle.ground.specs.Limits.{no_capacity, word_limit}
use Rattle.file_digits.specs.Frame.{block}
use Rattle.file_put.specs.Put.{line_text, twos}
use Rattle.file_row.specs.Row.{row_frame}
use Rattle.file_mask.specs.Mask.{bit_of, Bits, mask_of, eight}
use Rattle.net.specs.Net.{Net, Sized, Light}
use Rattle.net.specs.Letter.{row, Small}
use Rattle.net.specs.Marks.{remarked}
use Rattle.wiring.specs.Wired.{Wired}
use Rattle.refusals.specs.Given.{Fine, Letters}
use Rattle.file_line.specs.declared.Reading.{Reading}
use Rattle.file_line.specs.declared.Rooms.{Rooms}
use Rattle.file_line.specs.Read.{rooms}

-- "01 P T."
abbrev pub counts_line : ℕ → ℕ → List ℕ
counts_line P T = line_text (1 ∷ P ∷ T ∷ [])

-- "Then 02 with P capacities of two bytes"
abbrev pub caps_line : List ℕ → List ℕ
caps_line caps = line_text (2 ∷ twos caps)

-- document 02, E5: "A frame 06, eight bytes, place 0 the lowest bit of the last byte, may follow 02"
abbrev pub pockets_line : List ℕ → List ℕ
pockets_line marks = line_text (6 ∷ eight (mask_of marks))

-- "it is written only if some place is a pocket": none, or one, and how many
unfoldable pub pockets_lines : List ℕ → List ℕ
pockets_lines marks = cond (eqb (mask_of marks) 0) [] (pockets_line marks)

unfoldable pub pockets_count : List ℕ → ℕ
pockets_count marks = cond (eqb (mask_of marks) 0) 0 1

-- "03 with P tokens of two bytes."
abbrev pub tokens_line : List ℕ → List ℕ
tokens_line initial = line_text (3 ∷ twos initial)

-- "04 t, P Pre bytes, P Post bytes"; document 02, E6: an 07 with two-byte weights "exactly when one of its weights is over 255"
abbrev pub row_line : Net → ℕ → List ℕ
row_line net t = line_text (row_frame t (row net.places t net.pre) (row net.places t net.post))

-- "05 with 1 to 64 letters of a byte; .. all but the last hold 64": line k, from 0, of the word cut into rows of 64
abbrev pub letters_line : List ℕ → ℕ → List ℕ
letters_line w k = line_text (5 ∷ row block k w)

-- "none or more": how many there are for n letters
abbrev pub letters_lines : ℕ → ℕ
letters_lines n = (n + (block - 1)) / block

-- line 0, line 1, .., line n - 1
unfoldable pub joined : (ℕ → List ℕ) → ℕ → List ℕ
joined line zero = []
joined line (suc n) = joined line n ++ line n

-- the case file: 01, 02, perhaps 06, 03, then 04 or 07 "one for each t in order from 0", then the word's 05
unfoldable pub file_of : Net → List ℕ → List ℕ → List ℕ
file_of net initial w =
    counts_line net.places net.transitions
    ++ caps_line net.caps
    ++ pockets_lines net.marks
    ++ tokens_line initial
    ++ joined (row_line net) net.transitions
    ++ joined (letters_line w) (letters_lines (length w))

-- a net, its initial marking and a word within the limits of document 01, as lists of numbers in 16 bits, of marks and of letters; each place and transition has an arc;
-- marks are 0 or 1, as a file has them
pub record Limited (net : Net) (initial w : List ℕ) : Type 0 where
  pub sized : Sized net
  pub wired : Wired net
  pub weights : Light net
  pub capacities : Small no_capacity net.caps
  pub bits : Bits net.marks
  pub marked : length initial ≡ net.places
  pub fine : Fine net.caps initial
  pub short : length w ≤ word_limit
  pub letters : Letters net.transitions w

-- the file is the frames of a net and word within the limits
pub record Written (file : List ℕ) : Type 0 where
  pub net : Net
  pub initial : List ℕ
  pub word : List ℕ
  pub limited : Limited net initial word
  pub text : file ≡ file_of net initial word

-- what the rooms y hold at their fronts after a whole file, by the counts of the state s: beside the net (`net_in` of file_line) its marking and a word
abbrev pub marking_in : Reading → Rooms → List ℕ
marking_in s y = take s.places y.initial

abbrev pub word_in : Reading → Rooms → List ℕ
word_in s y = take s.letters y.word

-- the state after the last line of the file
abbrev pub end_of : Net → List ℕ → Reading
end_of net w =
    record {
      phase = 5;
      places = net.places;
      transitions = net.transitions;
      next = net.transitions;
      letters = length w;
      line = 3 + pockets_count net.marks + net.transitions + letters_lines (length w);
    }

-- the rooms after it: each list at the front of its room, and the rest of the room as found
abbrev pub filled : Rooms → Net → List ℕ → List ℕ → Rooms
filled x net initial w =
    rooms (sets x.caps 0 net.caps) (sets x.marks 0 net.marks) (sets x.initial 0 initial) (sets x.pre 0 net.pre) (sets x.post 0 net.post) (sets x.word 0 w)

-- a net as a file has it: "any other pocket, all alike; the file reader gives 1"
abbrev pub filed : Net → Net
filed net = remarked net (map bit_of net.marks)
