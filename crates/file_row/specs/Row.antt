-- To be believed: a transition's weights in a case file: document 01, "04 t, P Pre bytes, P Post bytes"; document 02, E6, "A new frame 07 has two-byte weights and is used for a transition exactly when one of its weights is over 255".
use Rattle.std.specs.Prelude.{ℕ, ◌+◌, ◌*◌, Bool, cond, ◌||◌, List, ◌∷◌, ◌++◌, eqb}
use Rattle.weights.specs.Heavy.{row_over}
use Rattle.file_digits.specs.Frame.{bytes_from, words_from}
use Rattle.file_put.specs.Put.{twos}

-- the largest weight of a frame 04
abbrev pub byte_limit : ℕ
byte_limit = 255

-- the kinds of the two frames that have a transition's weights
abbrev pub narrow_row : ℕ
narrow_row = 4

abbrev pub wide_row : ℕ
wide_row = 7

abbrev pub is_row : ℕ → Bool
is_row k = eqb k narrow_row || eqb k wide_row

-- how many bytes a weight has in a frame of kind k
abbrev pub weight_bytes : ℕ → ℕ
weight_bytes k = cond (eqb k wide_row) 2 1

-- "exactly when one of its weights is over 255": the kind of the frame for these rows of Pre and Post
abbrev pub is_wide : List ℕ → List ℕ → Bool
is_wide takes puts = row_over byte_limit takes puts

unfoldable pub row_kind : List ℕ → List ℕ → ℕ
row_kind takes puts = cond (is_wide takes puts) wide_row narrow_row

-- weights as bytes of a frame of kind k, "the high byte first"
unfoldable pub weights_text : ℕ → List ℕ → List ℕ
weights_text k weights = cond (eqb k wide_row) (twos weights) weights

-- the frame of transition t with these rows
abbrev pub row_frame : ℕ → List ℕ → List ℕ → List ℕ
row_frame t takes puts =
    row_kind takes puts ∷ t ∷ (weights_text (row_kind takes puts) takes ++ weights_text (row_kind takes puts) puts)

-- P weights of a frame of kind k, from byte i on, as its digits d spell them
unfoldable pub weights_from : ℕ → List ℕ → ℕ → ℕ → List ℕ
weights_from k d i P = cond (eqb k wide_row) (words_from d i P) (bytes_from d i P)

-- its row of Pre, behind the kind and the transition, and its row of Post behind that
abbrev pub takes_in : ℕ → List ℕ → ℕ → List ℕ
takes_in k d P = weights_from k d 2 P

abbrev pub puts_in : ℕ → List ℕ → ℕ → List ℕ
puts_in k d P = weights_from k d (2 + weight_bytes k * P) P
