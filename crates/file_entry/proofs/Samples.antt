-- Document 01's case, and files that end too early (DECISIONS 98), computed. Assumes nothing.
use mathlib.Core.Path.{◌≡◌, refl}
use mathlib.Core.List.{List, [], ◌∷◌, ◌++◌, map}
use Prim.Native.Nat.{ℕ, ◌-◌}
use lib.ListN.{length, take}
use Rattle.ground.specs.Limits.{no_capacity}
use Rattle.ground.specs.Lists.{first, tally}
use Rattle.wiring.specs.Wired.{loose_place, loose_transition}
use Rattle.weights.specs.Heavy.{row_over}
use Rattle.refusals.specs.Given.{loose_fault}
use Rattle.file_digits.specs.Frame.{value_of, is_digit, all_digits, byte_at, bytes_from, words_from}
use Rattle.file_mask.specs.Mask.{bits_of, mask_fits, above_bits, number_from}
use Rattle.file_row.specs.Row.{weights_from}
use Rattle.file_line.specs.declared.Rooms.{Rooms}
use Rattle.file_line.specs.Read.{rule_of, formed_kind, formed_of, hangs_loose, judge_of, advanced_kind, stored_kind, line_of, rooms_of}
use Rattle.file_parts.specs.File.{fed_to, feed_all, finish_of, case_of}
use Rattle.file_entry.specs.Entry.{read_all, filled_of, numbers}
use Rattle.file_entry.specs.Cut.{case1, case2, case3, case4, case5, case6, case7}

abbrev five : List ℕ
five = case1 ++ (case2 ++ (case3 ++ (case4 ++ case5)))

abbrev seven : List ℕ
seven = five ++ (case6 ++ case7)

-- what the whole case leaves at the fronts: capacities, marks, tokens, Pre, Post and letters
pub case_read : take 3 (read_all seven).rooms.caps ∷ take 3 (read_all seven).rooms.marks ∷ take 3 (read_all seven).rooms.initial ∷ take 9 (read_all seven).rooms.pre ∷ take 9 (read_all seven).rooms.post ∷ take 5 (read_all seven).rooms.word ∷ []
    ≡ (no_capacity ∷ no_capacity ∷ 5 ∷ []) ∷ (0 ∷ 0 ∷ 0 ∷ []) ∷ (1 ∷ 0 ∷ 0 ∷ []) ∷ (1 ∷ 0 ∷ 0 ∷ 0 ∷ 1 ∷ 0 ∷ 0 ∷ 0 ∷ 3 ∷ []) ∷ (0 ∷ 1 ∷ 0 ∷ 1 ∷ 0 ∷ 2 ∷ 0 ∷ 0 ∷ 0 ∷ []) ∷ (0 ∷ 1 ∷ 0 ∷ 1 ∷ 2 ∷ []) ∷ []
unfolding fed_to feed_all finish_of case_of value_of is_digit all_digits byte_at bytes_from words_from bits_of mask_fits above_bits number_from weights_from row_over tally first rule_of formed_kind formed_of loose_place loose_transition loose_fault hangs_loose judge_of advanced_kind stored_kind line_of rooms_of
case_read = refl

-- 010303 with no line feed; the empty file; a lone line feed; the whole case without its last byte; its first five lines; the whole case
pub ends_read : (x : Rooms) → map (λ (f : List ℕ). numbers (filled_of f x).answer) (take 6 case1 ∷ [] ∷ (10 ∷ []) ∷ take (length seven - 1) seven ∷ five ∷ seven ∷ [])
    ≡ (0x82 ∷ 11 ∷ 1 ∷ []) ∷ (0x82 ∷ 12 ∷ 1 ∷ []) ∷ (0x82 ∷ 11 ∷ 1 ∷ []) ∷ (0x82 ∷ 11 ∷ 7 ∷ []) ∷ (0x82 ∷ 12 ∷ 6 ∷ []) ∷ (0x81 ∷ 0 ∷ 3 ∷ 3 ∷ 5 ∷ []) ∷ []
unfolding fed_to feed_all finish_of case_of value_of is_digit all_digits byte_at bytes_from words_from bits_of mask_fits above_bits number_from weights_from row_over tally first rule_of formed_kind formed_of loose_place loose_transition loose_fault hangs_loose judge_of advanced_kind stored_kind line_of rooms_of
ends_read x = refl

-- 06 with the last byte 0d: d is 52 for the mask of place 2 alone, 48 for no place, 56 for place 3, which the case has not
abbrev pockets : ℕ → List ℕ
pockets d = 48 ∷ 54 ∷ 48 ∷ 48 ∷ 48 ∷ 48 ∷ 48 ∷ 48 ∷ 48 ∷ 48 ∷ 48 ∷ 48 ∷ 48 ∷ 48 ∷ 48 ∷ 48 ∷ 48 ∷ d ∷ 10 ∷ []

abbrev after3 : List ℕ
after3 = case4 ++ (case5 ++ (case6 ++ case7))

-- the case with place 2 a pocket; with 06 twice; after 03; all zero; with a bit past P
pub pockets_read : (x : Rooms) → map (λ (f : List ℕ). numbers (filled_of (case1 ++ (case2 ++ (f ++ after3))) x).answer)
    ((pockets 52 ++ case3) ∷ (pockets 52 ++ (pockets 52 ++ case3)) ∷ (case3 ++ pockets 52) ∷ (pockets 48 ++ case3) ∷ (pockets 56 ++ case3) ∷ [])
    ≡ (0x81 ∷ 0 ∷ 3 ∷ 3 ∷ 5 ∷ []) ∷ (0x82 ∷ 12 ∷ 4 ∷ []) ∷ (0x82 ∷ 12 ∷ 4 ∷ []) ∷ (0x82 ∷ 12 ∷ 3 ∷ []) ∷ (0x82 ∷ 12 ∷ 3 ∷ []) ∷ []
unfolding fed_to feed_all finish_of case_of value_of is_digit all_digits byte_at bytes_from words_from bits_of mask_fits above_bits number_from weights_from row_over tally first rule_of formed_kind formed_of loose_place loose_transition loose_fault hangs_loose judge_of advanced_kind stored_kind line_of rooms_of
pockets_read x = refl

pub pocket_marks : take 3 (read_all (case1 ++ (case2 ++ (pockets 52 ++ (case3 ++ after3))))).rooms.marks ≡ 0 ∷ 0 ∷ 1 ∷ []
unfolding fed_to feed_all finish_of case_of value_of is_digit all_digits byte_at bytes_from words_from bits_of mask_fits above_bits number_from weights_from row_over tally first rule_of formed_kind formed_of loose_place loose_transition loose_fault hangs_loose judge_of advanced_kind stored_kind line_of rooms_of
pocket_marks = refl

-- 07 for transition 0, which takes from place 0 the weight whose four digits these are, and puts 1 into place 1
abbrev wide : ℕ → ℕ → ℕ → ℕ → List ℕ
wide a b c d = 48 ∷ 55 ∷ 48 ∷ 48 ∷ a ∷ b ∷ c ∷ d ∷ 48 ∷ 48 ∷ 48 ∷ 48 ∷ 48 ∷ 48 ∷ 48 ∷ 48 ∷ 48 ∷ 48 ∷ 48 ∷ 48 ∷ 48 ∷ 48 ∷ 48 ∷ 49 ∷ 48 ∷ 48 ∷ 48 ∷ 48 ∷ 10 ∷ []

-- the case with it in place of the first 04: 256 and 4,095 are read; 4,096 and 65,535 are 18 on its line; 255 is 12, and so is 1
pub rows_read : (x : Rooms) → map (λ (f : List ℕ). numbers (filled_of (case1 ++ (case2 ++ (case3 ++ (f ++ (case5 ++ (case6 ++ case7)))))) x).answer)
    (wide 48 49 48 48 ∷ wide 48 70 70 70 ∷ wide 49 48 48 48 ∷ wide 70 70 70 70 ∷ wide 48 48 70 70 ∷ wide 48 48 48 49 ∷ [])
    ≡ (0x81 ∷ 0 ∷ 3 ∷ 3 ∷ 5 ∷ []) ∷ (0x81 ∷ 0 ∷ 3 ∷ 3 ∷ 5 ∷ []) ∷ (0x82 ∷ 18 ∷ 4 ∷ []) ∷ (0x82 ∷ 18 ∷ 4 ∷ []) ∷ (0x82 ∷ 12 ∷ 4 ∷ []) ∷ (0x82 ∷ 12 ∷ 4 ∷ []) ∷ []
unfolding fed_to feed_all finish_of case_of value_of is_digit all_digits byte_at bytes_from words_from bits_of mask_fits above_bits number_from weights_from row_over tally first rule_of formed_kind formed_of loose_place loose_transition loose_fault hangs_loose judge_of advanced_kind stored_kind line_of rooms_of
rows_read x = refl

pub row_weights : take 9 (read_all (case1 ++ (case2 ++ (case3 ++ (wide 48 70 70 69 ++ (case5 ++ (case6 ++ case7))))))).rooms.pre ≡ 4094 ∷ 0 ∷ 0 ∷ 0 ∷ 1 ∷ 0 ∷ 0 ∷ 0 ∷ 3 ∷ []
unfolding fed_to feed_all finish_of case_of value_of is_digit all_digits byte_at bytes_from words_from bits_of mask_fits above_bits number_from weights_from row_over tally first rule_of formed_kind formed_of loose_place loose_transition loose_fault hangs_loose judge_of advanced_kind stored_kind line_of rooms_of
row_weights = refl
