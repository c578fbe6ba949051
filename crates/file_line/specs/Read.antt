-- To be believed: what a line of a case file comes to, at a state of the reading, over the rooms read so far ("Case file lines"; "Refusal numbers").
use Rattle.std.specs.Prelude.{Ok, Err}
use Rattle.refusals.specs.Given.{Answer, Fault}
use Rattle.std.specs.Prelude.{ℕ, ◌+◌, ◌-◌, ◌*◌, ◌/◌, ◌%◌, Bool, true, false, cond, not, ◌&&◌, ◌||◌, List, length, take, replicate, ltb, leb, eqb}
use Rattle.std.proofs.lemmas.List.Edits.{sets}
use Rattle.ground.specs.Limits.{count_limit, weight_limit, word_limit}
use Rattle.net.specs.Net.{Net, net_of}
use Rattle.refusals.specs.Given.{refuse, or_else, outside, loose_fault, bad_token, bad_letter}
use Rattle.file_digits.specs.Frame.{line_limit, block, all_digits, byte_at, bytes_from, words_from}
use Rattle.file_mask.specs.Mask.{mask_bytes, bits_of, mask_fits, mask_in}
use Rattle.weights.specs.Heavy.{row_over}
use Rattle.file_row.specs.Row.{narrow_row, wide_row, is_row, is_wide, takes_in, puts_in}
use Rattle.file_line.specs.declared.Reading.{Reading}
use Rattle.file_line.specs.declared.Rooms.{Rooms}

-- the most entries of Pre, and of Post
abbrev pub cell_limit : ℕ
cell_limit = count_limit * count_limit

-- the rooms that are filled: capacities, marks, tokens, Pre, Post and letters
abbrev pub rooms : List ℕ → List ℕ → List ℕ → List ℕ → List ℕ → List ℕ → Rooms
rooms a k b c d e = record { caps = a; marks = k; initial = b; pre = c; post = d; word = e }

-- rooms of the largest sizes with nothing in them
abbrev pub blank : Rooms
blank = rooms (replicate count_limit 0) (replicate count_limit 0) (replicate count_limit 0) (replicate cell_limit 0) (replicate cell_limit 0) (replicate word_limit 0)

-- the state before the first line
abbrev pub fresh : Reading
fresh = record { phase = 1; places = 0; transitions = 0; next = 0; letters = 0; line = 0 }

-- "The first byte of a frame says its kind"
abbrev pub kind_of : List ℕ → ℕ
kind_of d = byte_at d 0

-- a frame 07 stands where an 04 may, and any other where its own kind says
abbrev pub stands_as : ℕ → ℕ
stands_as k = cond (eqb k wide_row) narrow_row k

-- whether a line of kind k may come next: the kind that the state says, and 03 where a 06 may come ("A frame 06 .. may follow 02")
abbrev pub expected : Reading → ℕ → Bool
expected s k = eqb (stands_as k) s.phase || (eqb s.phase 6 && eqb k 3)

-- the kind that comes after a line of kind k: after 02 comes 06, or 03; after 06 comes 03; after the last row come letters, and after
-- letters come more, or the end
abbrev pub phase_after : ℕ → Reading → ℕ
phase_after k s =
    cond (is_row k) (cond (eqb (s.next + 1) s.transitions) 5 4) (cond (eqb k 5) 5 (cond (eqb k 2) 6 (cond (eqb k 6) 3 (k + 1))))

-- what stands in a line: of 03 its tokens, of 05 how many letters, and the letters
abbrev pub tokens_in : Reading → List ℕ → List ℕ
tokens_in s d = words_from d 1 s.places

abbrev pub letters_in : List ℕ → ℕ
letters_in d = length d / 2 - 1

abbrev pub word_part : List ℕ → List ℕ
word_part d = bytes_from d 1 (letters_in d)

-- the rooms with the numbers of a line of kind k that is well formed; with the capacities all places are plain, until a 06 says otherwise
unfoldable pub stored_kind : ℕ → Reading → List ℕ → Rooms → Rooms
stored_kind k s d x =
    cond (eqb k 2)
    (rooms (sets x.caps 0 (words_from d 1 s.places)) (sets x.marks 0 (bits_of 0 s.places)) x.initial x.pre x.post x.word)
    (cond (eqb k 3) (rooms x.caps x.marks (sets x.initial 0 (words_from d 1 s.places)) x.pre x.post x.word)
    (cond (is_row k)
    (rooms x.caps x.marks x.initial (sets x.pre (s.next * s.places) (takes_in k d s.places))
    (sets x.post (s.next * s.places) (puts_in k d s.places)) x.word)
    (cond (eqb k 5) (rooms x.caps x.marks x.initial x.pre x.post (sets x.word s.letters (bytes_from d 1 (letters_in d))))
    (cond (eqb k 6) (rooms x.caps (sets x.marks 0 (bits_of (mask_in d) s.places)) x.initial x.pre x.post x.word) x))))

abbrev pub stored : Reading → List ℕ → Rooms → Rooms
stored s d x = stored_kind (kind_of d) s d x

-- what the rooms y hold at their fronts, by the counts of the state s: a net
abbrev pub net_in : Reading → Rooms → Net
net_in s y =
    net_of s.places s.transitions (take (s.transitions * s.places) y.pre) (take (s.transitions * s.places) y.post) (take s.places y.caps) (take s.places y.marks)

-- 11 unless: "One frame a line: an even number .. of digits 0-9 and A-F", 2 to 516 (document 02, E6)
unfoldable pub rule_of : List ℕ → Bool
rule_of d = leb 2 (length d) && (leb (length d) line_limit && (eqb (length d % 2) 0 && all_digits d))

-- a frame of kind k has its length, and its index: "01 P T", "02 with P capacities of two bytes", "03 with P tokens of two bytes",
-- "04 t, P Pre bytes, P Post bytes; one for each t in order from 0", "05 with 1 to 64 letters of a byte; .. all but the last hold 64, else the next 05 is faulty";
-- document 02, E5: "A frame 06, eight bytes .. A bit at or past P, or an all-zero mask, is refusal 12"; E6: "an 07 with none such is refusal 12"
unfoldable pub formed_kind : ℕ → Reading → List ℕ → Bool
formed_kind k s d =
    cond (eqb k 1) (eqb (length d) 6)
    (cond (eqb k 2) (eqb (length d) (2 + 4 * s.places))
    (cond (eqb k 3) (eqb (length d) (2 + 4 * s.places))
    (cond (eqb k 4) (eqb (length d) (4 + 4 * s.places) && eqb (byte_at d 1) s.next)
    (cond (eqb k 5) (eqb (s.letters % block) 0 && (leb 4 (length d) && leb (length d) (2 + 2 * block)))
    (cond (eqb k 6) (eqb (length d) (2 + 2 * mask_bytes) && mask_fits (mask_in d) s.places)
    (cond (eqb k wide_row)
    (eqb (length d) (4 + 8 * s.places) && (eqb (byte_at d 1) s.next && is_wide (takes_in wide_row d s.places) (puts_in wide_row d s.places))) false))))))

-- 12 unless it is a frame of a kind expected, of its length, with its index, its mask and its weights
unfoldable pub formed_of : Reading → List ℕ → Bool
formed_of s d = expected s (kind_of d) && formed_kind (kind_of d) s d

-- then what the frames' numbers are asked, each kind its own, by the tests that a net and a word are asked
-- 1: "a place or transition count outside 1..64"
abbrev pub counts_bad : List ℕ → Bool
counts_bad d = eqb (kind_of d) 1 && (outside (byte_at d 1) || outside (byte_at d 2))

-- 18: "a lent weight over 4,095", which only an 07 can have
abbrev pub weights_bad : Reading → List ℕ → Bool
weights_bad s d = eqb (kind_of d) wide_row && row_over weight_limit (takes_in wide_row d s.places) (puts_in wide_row d s.places)

-- 3: "65,535 tokens where not allowed, or tokens above capacity"
abbrev pub tokens_bad : Reading → List ℕ → Rooms → Bool
tokens_bad s d x = eqb (kind_of d) 3 && ltb (bad_token x.caps (tokens_in s d)) (length (tokens_in s d))

-- 17: "a net in which some place or transition has no arc is refused", by the test that a net is asked; its position does not matter here
abbrev pub is_faulty : Fault → Bool
is_faulty (Ok _) = false
is_faulty (Err r) = true

unfoldable pub hangs_loose : Net → Bool
hangs_loose net = is_faulty (loose_fault net)

-- "in a file, on the line of the last transition", whose row y has too
abbrev pub loose_bad : Reading → List ℕ → Rooms → Bool
loose_bad s d y = is_row (kind_of d) && (eqb (s.next + 1) s.transitions && hangs_loose (net_in s y))

-- 4: "a word over 65,535 letters"; "4 falls on the line of letter 65,536"
abbrev pub word_over : Reading → List ℕ → Bool
word_over s d = eqb (kind_of d) 5 && ltb word_limit (s.letters + letters_in d)

-- 5: "a letter names no transition"
abbrev pub letters_bad : Reading → List ℕ → Bool
letters_bad s d = eqb (kind_of d) 5 && ltb (bad_letter s.transitions (word_part d)) (length (word_part d))

-- the line's own number, "from 1"
abbrev pub line_here : Reading → ℕ
line_here s = s.line + 1

-- the refusal of the line d, or none: "on it 11 and 12 come first", then 1, 3, 4 and 5 "in number order", 18 "before 3", 17 "after 3 and before 4"; position the line
unfoldable pub judge_of : Reading → List ℕ → Rooms → Fault
judge_of s d x =
    or_else (refuse (not (rule_of d)) 11 (line_here s))
    (or_else (refuse (not (formed_of s d)) 12 (line_here s))
    (or_else (refuse (counts_bad d) 1 (line_here s))
    (or_else (refuse (weights_bad s d) 18 (line_here s))
    (or_else (refuse (tokens_bad s d x) 3 (line_here s))
    (or_else (refuse (loose_bad s d (stored s d x)) 17 (line_here s))
    (or_else (refuse (word_over s d) 4 (line_here s))
    (refuse (letters_bad s d) 5 (line_here s))))))))

-- the state after a line of kind k that is not refused
unfoldable pub advanced_kind : ℕ → Reading → List ℕ → Reading
advanced_kind k s d =
    cond (eqb k 1)
    (record { phase = phase_after k s; places = byte_at d 1; transitions = byte_at d 2; next = 0; letters = 0; line = s.line + 1 })
    (cond (is_row k)
    (record { phase = phase_after k s; places = s.places; transitions = s.transitions; next = s.next + 1; letters = 0; line = s.line + 1 })
    (cond (eqb k 5)
    (record {
      phase = phase_after k s;
      places = s.places;
      transitions = s.transitions;
      next = s.next;
      letters = s.letters + letters_in d;
      line = s.line + 1;
    })
    (record { phase = phase_after k s; places = s.places; transitions = s.transitions; next = 0; letters = 0; line = s.line + 1 })))

abbrev pub advanced : Reading → List ℕ → Reading
advanced s d = advanced_kind (kind_of d) s d

-- what a line comes to, by its fault: the next state and the rooms after it, or the refusal with its line, which leaves the rooms as found;
-- but 17 is found in the rooms when they hold the last row
abbrev pub kept_by : Fault → Rooms → Rooms → Rooms
kept_by (Ok _) y x = y
kept_by (Err r) y x = cond (eqb r.number 17) y x

unfoldable pub line_of : Reading → List ℕ → Rooms → Answer Reading
line_of s d x = or_else (judge_of s d x) (Ok (advanced s d))

unfoldable pub rooms_of : Reading → List ℕ → Rooms → Rooms
rooms_of s d x = kept_by (judge_of s d x) (stored s d x) x
