-- To be believed: the limits of document 01's first table, and where document 02 raises one, 02's. No other file writes these numbers.
use Rattle.std.specs.Prelude.{ℕ, ◌+◌, ◌*◌}

-- "places P, transitions T: 1 to 64 each"
abbrev pub count_limit : ℕ
count_limit = 64

-- document 02, E6: "Raise the weight limit to 4,095." (01 had 255); "0 meaning no arc"
abbrev pub weight_limit : ℕ
weight_limit = 4095

-- "capacity: 0 to 65,534; 65,535 means none"
abbrev pub no_capacity : ℕ
no_capacity = 65535

-- "tokens in a given marking: 0 to 65,534"
abbrev pub token_limit : ℕ
token_limit = 65534

-- "letters in a word: 0 to 65,535"
abbrev pub word_limit : ℕ
word_limit = 65535

-- "entries of a weighting: -32,768 to 32,767": no entry is larger than this without its sign
abbrev pub entry_limit : ℕ
entry_limit = 32768

-- "markings in a list: 1 to 4,096"
abbrev pub list_limit : ℕ
list_limit = 4096

-- the most tokens of a place after n letters: a letter puts at most a weight
abbrev pub tokens_after : ℕ → ℕ
tokens_after n = token_limit + weight_limit * n

-- document 02, E6: "A replay then reaches at most 268,431,359 tokens", which is 65,534 + 65,535 x 4,095
abbrev pub replay_limit : ℕ
replay_limit = tokens_after word_limit
