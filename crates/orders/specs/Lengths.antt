-- To be believed: the limits of document 02's E3, and the refusals of two logs' lengths.
use Rattle.refusals.specs.Given.{Fault}
use Rattle.std.specs.Prelude.{ℕ, ◌+◌, ◌*◌, ◌≤◌, ◌||◌, List, length, ltb}
use Rattle.ground.specs.Limits.{word_limit}
use Rattle.refusals.specs.Given.{refuse, or_else}
use Rattle.refusals.specs.First.{First, Given}

-- "two logs of at most 255 letters"
abbrev pub log_limit : ℕ
log_limit = 255

-- the steps of an order: no more than both logs have letters
abbrev pub order_limit : ℕ
order_limit = log_limit + log_limit

-- the letters read of one log: 0 to 255
abbrev pub read_count : ℕ
read_count = log_limit + 1

-- "65,536 bytes of lent work space": a byte for each n and k
abbrev pub work_length : ℕ
work_length = read_count * read_count

-- 4: "a word over 65,535 letters"; "15, a log over 255 letters, after 4"; of either log
unfoldable pub long_fault : ℕ → ℕ → Fault
long_fault first second =
    or_else (refuse (ltb word_limit first || ltb word_limit second) 4 0) (refuse (ltb log_limit first || ltb log_limit second) 15 0)

-- the same, "exactly when"
abbrev pub LongFirst : List ℕ → List ℕ → ℕ → ℕ → Type 0 → Type 0
LongFirst first second n at Next =
    First ((length first ≤ word_limit) × (length second ≤ word_limit)) (Given 4 0 n at)
    (First ((length first ≤ log_limit) × (length second ≤ log_limit)) (Given 15 0 n at) Next)
