-- Document 01's whole case, byte by byte, and the line that answers it. Assumes nothing.
use Rattle.std.specs.Prelude.{Ok}
use Prim.Native.Nat.{ℕ}
use mathlib.Core.Path.{◌≡◌, refl, sym, ap, ◌∙◌}
use mathlib.Core.List.{List, [], ◌∷◌, ◌++◌}
use Rattle.ground.specs.Lists.{first, tally, map_at, table}
use Rattle.wiring.specs.Wired.{loose_place, loose_transition}
use Rattle.weights.specs.Heavy.{heavy}
use Rattle.refusals.specs.Given.{weights_fault, counts_fault, loose_fault, net_fault, marking_fault, start_fault, marked_fault, word_fault}
use Rattle.file_digits.specs.Frame.{line_feed, value_of, is_digit, all_digits, byte_at, bytes_from, words_from}
use Rattle.file_put.specs.Put.{digit_of, digits_of, four, fours}
use Rattle.net.specs.Net.{leaves_first}
use Rattle.file_mask.specs.Mask.{bits_of}
use Rattle.file_row.specs.Row.{weights_from}
use Rattle.file_line.specs.declared.Reading.{Reading}
use Rattle.file_line.specs.declared.Rooms.{Rooms}
use Rattle.file_line.specs.Read.{fresh, rule_of, formed_kind, formed_of, hangs_loose, judge_of, advanced_kind, stored_kind, line_of, rooms_of, rooms}
use Rattle.file_parts.specs.File.{both, going, feed_all, finish_of, case_of, line_len, NoFeed}
use Rattle.file_parts.proofs.Line.{next_line}
use Rattle.plays.specs.Replay.{play_from}
use Rattle.replay.specs.Entry.{replay_fault}
use Rattle.verdict_line.specs.Answer.{line_at, file_line}

-- "One whole case", a line of it in each row
abbrev pub line1 : List ℕ
line1 = 48 ∷ 49 ∷ 48 ∷ 51 ∷ 48 ∷ 51 ∷ []

abbrev pub line2 : List ℕ
line2 = 48 ∷ 50 ∷ 70 ∷ 70 ∷ 70 ∷ 70 ∷ 70 ∷ 70 ∷ 70 ∷ 70 ∷ 48 ∷ 48 ∷ 48 ∷ 53 ∷ []

abbrev pub line3 : List ℕ
line3 = 48 ∷ 51 ∷ 48 ∷ 48 ∷ 48 ∷ 49 ∷ 48 ∷ 48 ∷ 48 ∷ 48 ∷ 48 ∷ 48 ∷ 48 ∷ 48 ∷ []

abbrev pub line4 : List ℕ
line4 = 48 ∷ 52 ∷ 48 ∷ 48 ∷ 48 ∷ 49 ∷ 48 ∷ 48 ∷ 48 ∷ 48 ∷ 48 ∷ 48 ∷ 48 ∷ 49 ∷ 48 ∷ 48 ∷ []

abbrev pub line5 : List ℕ
line5 = 48 ∷ 52 ∷ 48 ∷ 49 ∷ 48 ∷ 48 ∷ 48 ∷ 49 ∷ 48 ∷ 48 ∷ 48 ∷ 49 ∷ 48 ∷ 48 ∷ 48 ∷ 50 ∷ []

abbrev pub line6 : List ℕ
line6 = 48 ∷ 52 ∷ 48 ∷ 50 ∷ 48 ∷ 48 ∷ 48 ∷ 48 ∷ 48 ∷ 51 ∷ 48 ∷ 48 ∷ 48 ∷ 48 ∷ 48 ∷ 48 ∷ []

abbrev pub line7 : List ℕ
line7 = 48 ∷ 53 ∷ 48 ∷ 48 ∷ 48 ∷ 49 ∷ 48 ∷ 48 ∷ 48 ∷ 49 ∷ 48 ∷ 50 ∷ []

abbrev pub file : List ℕ
file = line1 ++ line_feed ∷ (line2 ++ line_feed ∷ (line3 ++ line_feed ∷ (line4 ++ line_feed ∷ (line5 ++ line_feed ∷ (line6 ++ line_feed ∷ (line7 ++ line_feed ∷ []))))))

-- "writes `810000000005000000010000000000000001`"
abbrev pub answer : List ℕ
answer = 56 ∷ 49 ∷ 48 ∷ 48 ∷ 48 ∷ 48 ∷ 48 ∷ 48 ∷ 48 ∷ 48 ∷ 48 ∷ 53 ∷ 48 ∷ 48 ∷ 48 ∷ 48 ∷ 48 ∷ 48 ∷ 48 ∷ 49 ∷ 48 ∷ 48 ∷ 48 ∷ 48 ∷ 48 ∷ 48 ∷ 48 ∷ 48 ∷ 48 ∷ 48 ∷ 48 ∷ 48 ∷ 48 ∷ 48 ∷ 48 ∷ 49 ∷ 10 ∷ []

-- a line is read to the state u and the rooms y
step : (s u : Reading) (x y : Rooms) (d rest : List ℕ) → NoFeed d → Ok u ≡ line_of s d x → y ≡ rooms_of s d x → feed_all (both (going s []) x) (d ++ line_feed ∷ rest) ≡ feed_all (both (going u []) y) rest
step s u x y d rest n e f = next_line s x d rest n u e ∙ ap (λ (z : Rooms). feed_all (both (going u []) z) rest) (sym f)

module _ (caps marks initial pre post word : List ℕ) where
  abbrev state1 : Reading
  state1 = record { phase = 2; places = 3; transitions = 3; next = 0; letters = 0; line = 1 }

  abbrev state2 : Reading
  state2 = record { phase = 6; places = 3; transitions = 3; next = 0; letters = 0; line = 2 }

  abbrev state3 : Reading
  state3 = record { phase = 4; places = 3; transitions = 3; next = 0; letters = 0; line = 3 }

  abbrev state4 : Reading
  state4 = record { phase = 4; places = 3; transitions = 3; next = 1; letters = 0; line = 4 }

  abbrev state5 : Reading
  state5 = record { phase = 4; places = 3; transitions = 3; next = 2; letters = 0; line = 5 }

  abbrev state6 : Reading
  state6 = record { phase = 5; places = 3; transitions = 3; next = 3; letters = 0; line = 6 }

  abbrev state7 : Reading
  state7 = record { phase = 5; places = 3; transitions = 3; next = 3; letters = 5; line = 7 }

  abbrev rooms0 : Rooms
  rooms0 = rooms (0 ∷ 0 ∷ 0 ∷ caps) (0 ∷ 0 ∷ 0 ∷ marks) (0 ∷ 0 ∷ 0 ∷ initial) (0 ∷ 0 ∷ 0 ∷ 0 ∷ 0 ∷ 0 ∷ 0 ∷ 0 ∷ 0 ∷ pre) (0 ∷ 0 ∷ 0 ∷ 0 ∷ 0 ∷ 0 ∷ 0 ∷ 0 ∷ 0 ∷ post) (0 ∷ 0 ∷ 0 ∷ 0 ∷ 0 ∷ word)

  abbrev rooms1 : Rooms
  rooms1 = rooms (0 ∷ 0 ∷ 0 ∷ caps) (0 ∷ 0 ∷ 0 ∷ marks) (0 ∷ 0 ∷ 0 ∷ initial) (0 ∷ 0 ∷ 0 ∷ 0 ∷ 0 ∷ 0 ∷ 0 ∷ 0 ∷ 0 ∷ pre) (0 ∷ 0 ∷ 0 ∷ 0 ∷ 0 ∷ 0 ∷ 0 ∷ 0 ∷ 0 ∷ post) (0 ∷ 0 ∷ 0 ∷ 0 ∷ 0 ∷ word)

  abbrev rooms2 : Rooms
  rooms2 = rooms (65535 ∷ 65535 ∷ 5 ∷ caps) (0 ∷ 0 ∷ 0 ∷ marks) (0 ∷ 0 ∷ 0 ∷ initial) (0 ∷ 0 ∷ 0 ∷ 0 ∷ 0 ∷ 0 ∷ 0 ∷ 0 ∷ 0 ∷ pre) (0 ∷ 0 ∷ 0 ∷ 0 ∷ 0 ∷ 0 ∷ 0 ∷ 0 ∷ 0 ∷ post) (0 ∷ 0 ∷ 0 ∷ 0 ∷ 0 ∷ word)

  abbrev rooms3 : Rooms
  rooms3 = rooms (65535 ∷ 65535 ∷ 5 ∷ caps) (0 ∷ 0 ∷ 0 ∷ marks) (1 ∷ 0 ∷ 0 ∷ initial) (0 ∷ 0 ∷ 0 ∷ 0 ∷ 0 ∷ 0 ∷ 0 ∷ 0 ∷ 0 ∷ pre) (0 ∷ 0 ∷ 0 ∷ 0 ∷ 0 ∷ 0 ∷ 0 ∷ 0 ∷ 0 ∷ post) (0 ∷ 0 ∷ 0 ∷ 0 ∷ 0 ∷ word)

  abbrev rooms4 : Rooms
  rooms4 = rooms (65535 ∷ 65535 ∷ 5 ∷ caps) (0 ∷ 0 ∷ 0 ∷ marks) (1 ∷ 0 ∷ 0 ∷ initial) (1 ∷ 0 ∷ 0 ∷ 0 ∷ 0 ∷ 0 ∷ 0 ∷ 0 ∷ 0 ∷ pre) (0 ∷ 1 ∷ 0 ∷ 0 ∷ 0 ∷ 0 ∷ 0 ∷ 0 ∷ 0 ∷ post) (0 ∷ 0 ∷ 0 ∷ 0 ∷ 0 ∷ word)

  abbrev rooms5 : Rooms
  rooms5 = rooms (65535 ∷ 65535 ∷ 5 ∷ caps) (0 ∷ 0 ∷ 0 ∷ marks) (1 ∷ 0 ∷ 0 ∷ initial) (1 ∷ 0 ∷ 0 ∷ 0 ∷ 1 ∷ 0 ∷ 0 ∷ 0 ∷ 0 ∷ pre) (0 ∷ 1 ∷ 0 ∷ 1 ∷ 0 ∷ 2 ∷ 0 ∷ 0 ∷ 0 ∷ post) (0 ∷ 0 ∷ 0 ∷ 0 ∷ 0 ∷ word)

  abbrev rooms6 : Rooms
  rooms6 = rooms (65535 ∷ 65535 ∷ 5 ∷ caps) (0 ∷ 0 ∷ 0 ∷ marks) (1 ∷ 0 ∷ 0 ∷ initial) (1 ∷ 0 ∷ 0 ∷ 0 ∷ 1 ∷ 0 ∷ 0 ∷ 0 ∷ 3 ∷ pre) (0 ∷ 1 ∷ 0 ∷ 1 ∷ 0 ∷ 2 ∷ 0 ∷ 0 ∷ 0 ∷ post) (0 ∷ 0 ∷ 0 ∷ 0 ∷ 0 ∷ word)

  abbrev rooms7 : Rooms
  rooms7 = rooms (65535 ∷ 65535 ∷ 5 ∷ caps) (0 ∷ 0 ∷ 0 ∷ marks) (1 ∷ 0 ∷ 0 ∷ initial) (1 ∷ 0 ∷ 0 ∷ 0 ∷ 1 ∷ 0 ∷ 0 ∷ 0 ∷ 3 ∷ pre) (0 ∷ 1 ∷ 0 ∷ 1 ∷ 0 ∷ 2 ∷ 0 ∷ 0 ∷ 0 ∷ post) (0 ∷ 1 ∷ 0 ∷ 1 ∷ 2 ∷ word)

  read1 : feed_all (both (going fresh []) rooms0) (line1 ++ line_feed ∷ (line2 ++ line_feed ∷ (line3 ++ line_feed ∷ (line4 ++ line_feed ∷ (line5 ++ line_feed ∷ (line6 ++ line_feed ∷ (line7 ++ line_feed ∷ []))))))) ≡ feed_all (both (going state1 []) rooms1) (line2 ++ line_feed ∷ (line3 ++ line_feed ∷ (line4 ++ line_feed ∷ (line5 ++ line_feed ∷ (line6 ++ line_feed ∷ (line7 ++ line_feed ∷ []))))))
  unfolding line_len value_of is_digit all_digits byte_at bytes_from words_from weights_from bits_of first rule_of formed_kind formed_of judge_of advanced_kind stored_kind line_of rooms_of
  read1 = step fresh state1 rooms0 rooms1 line1 (line2 ++ line_feed ∷ (line3 ++ line_feed ∷ (line4 ++ line_feed ∷ (line5 ++ line_feed ∷ (line6 ++ line_feed ∷ (line7 ++ line_feed ∷ [])))))) refl refl refl

  read2 : feed_all (both (going state1 []) rooms1) (line2 ++ line_feed ∷ (line3 ++ line_feed ∷ (line4 ++ line_feed ∷ (line5 ++ line_feed ∷ (line6 ++ line_feed ∷ (line7 ++ line_feed ∷ [])))))) ≡ feed_all (both (going state2 []) rooms2) (line3 ++ line_feed ∷ (line4 ++ line_feed ∷ (line5 ++ line_feed ∷ (line6 ++ line_feed ∷ (line7 ++ line_feed ∷ [])))))
  unfolding line_len value_of is_digit all_digits byte_at bytes_from words_from weights_from bits_of first rule_of formed_kind formed_of judge_of advanced_kind stored_kind line_of rooms_of
  read2 = step state1 state2 rooms1 rooms2 line2 (line3 ++ line_feed ∷ (line4 ++ line_feed ∷ (line5 ++ line_feed ∷ (line6 ++ line_feed ∷ (line7 ++ line_feed ∷ []))))) refl refl refl

  read3 : feed_all (both (going state2 []) rooms2) (line3 ++ line_feed ∷ (line4 ++ line_feed ∷ (line5 ++ line_feed ∷ (line6 ++ line_feed ∷ (line7 ++ line_feed ∷ []))))) ≡ feed_all (both (going state3 []) rooms3) (line4 ++ line_feed ∷ (line5 ++ line_feed ∷ (line6 ++ line_feed ∷ (line7 ++ line_feed ∷ []))))
  unfolding line_len value_of is_digit all_digits byte_at bytes_from words_from weights_from bits_of first rule_of formed_kind formed_of judge_of advanced_kind stored_kind line_of rooms_of
  read3 = step state2 state3 rooms2 rooms3 line3 (line4 ++ line_feed ∷ (line5 ++ line_feed ∷ (line6 ++ line_feed ∷ (line7 ++ line_feed ∷ [])))) refl refl refl

  read4 : feed_all (both (going state3 []) rooms3) (line4 ++ line_feed ∷ (line5 ++ line_feed ∷ (line6 ++ line_feed ∷ (line7 ++ line_feed ∷ [])))) ≡ feed_all (both (going state4 []) rooms4) (line5 ++ line_feed ∷ (line6 ++ line_feed ∷ (line7 ++ line_feed ∷ [])))
  unfolding line_len value_of is_digit all_digits byte_at bytes_from words_from weights_from bits_of first rule_of formed_kind formed_of judge_of advanced_kind stored_kind line_of rooms_of
  read4 = step state3 state4 rooms3 rooms4 line4 (line5 ++ line_feed ∷ (line6 ++ line_feed ∷ (line7 ++ line_feed ∷ []))) refl refl refl

  read5 : feed_all (both (going state4 []) rooms4) (line5 ++ line_feed ∷ (line6 ++ line_feed ∷ (line7 ++ line_feed ∷ []))) ≡ feed_all (both (going state5 []) rooms5) (line6 ++ line_feed ∷ (line7 ++ line_feed ∷ []))
  unfolding line_len value_of is_digit all_digits byte_at bytes_from words_from weights_from bits_of first rule_of formed_kind formed_of judge_of advanced_kind stored_kind line_of rooms_of
  read5 = step state4 state5 rooms4 rooms5 line5 (line6 ++ line_feed ∷ (line7 ++ line_feed ∷ [])) refl refl refl

  read6 : feed_all (both (going state5 []) rooms5) (line6 ++ line_feed ∷ (line7 ++ line_feed ∷ [])) ≡ feed_all (both (going state6 []) rooms6) (line7 ++ line_feed ∷ [])
  unfolding line_len value_of is_digit all_digits byte_at bytes_from words_from weights_from bits_of first rule_of formed_kind formed_of loose_place loose_transition loose_fault hangs_loose judge_of advanced_kind stored_kind line_of rooms_of
  read6 = step state5 state6 rooms5 rooms6 line6 (line7 ++ line_feed ∷ []) refl refl refl

  read7 : feed_all (both (going state6 []) rooms6) (line7 ++ line_feed ∷ []) ≡ feed_all (both (going state7 []) rooms7) []
  unfolding line_len value_of is_digit all_digits byte_at bytes_from words_from weights_from bits_of first rule_of formed_kind formed_of judge_of advanced_kind stored_kind line_of rooms_of
  read7 = step state6 state7 rooms6 rooms7 line7 [] refl refl refl

  -- whatever the rooms hold beyond the case
  pub sample : file_line file rooms0 ≡ answer
  unfolding feed_all finish_of case_of leaves_first first tally map_at table counts_fault loose_fault loose_place loose_transition heavy weights_fault net_fault marking_fault start_fault marked_fault word_fault digit_of digits_of play_from replay_fault four fours
  sample = ap line_at (read1 ∙ read2 ∙ read3 ∙ read4 ∙ read5 ∙ read6 ∙ read7) ∙ refl
