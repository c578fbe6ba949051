-- To be believed: what a reader of a verdict line gets back from its bytes, and which answers a line can say.
use Rattle.std.specs.Prelude.{ℕ, ◌+◌, ◌-◌, ◌*◌, ◌<◌, List, get_or, Ok, Err}
use Rattle.ground.specs.Limits.{count_limit}
use Rattle.net.specs.Firing.{cause_place}
use Rattle.net.specs.Letter.{Small}
use Rattle.plays.specs.declared.Replay.{Replay}
use Rattle.plays.specs.declared.Replay.TheVariants.{Fired, Blocked}
use Rattle.refusals.specs.Given.{Answer}

-- "numbers of two or four bytes have the high byte first": the number that the first four bytes spell
abbrev pub from_four : List ℕ → ℕ
from_four bytes = get_or bytes 0 0 * 16777216 + get_or bytes 1 0 * 65536 + get_or bytes 2 0 * 256 + get_or bytes 3 0

-- four bytes spell the numbers below this one
abbrev pub four_limit : ℕ
four_limit = 4294967296

-- each number that the line of an answer, with the marking left, says has room in its bytes
abbrev pub Sayable : Answer Replay → List ℕ → Type 0
Sayable (Ok (Fired n)) marking = (n < four_limit) × Small (four_limit - 1) marking
Sayable (Ok (Blocked i why)) marking = (i < four_limit) × (cause_place why < count_limit)
Sayable (Err r) marking = (r.number < 256) × (r.at < four_limit)
