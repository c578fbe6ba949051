-- Only for the code's walk, tied to what is published by proofs/Meaning.antt of closed and cover: which listed markings enable nothing.
use Rattle.std.specs.Prelude.{ℕ, Bool, List}
use Rattle.net.specs.Net.{Net}
use Rattle.net.specs.Letter.{arcs_at, passes}
use Rattle.lists.specs.Some.{some, none}
use Rattle.lists.specs.Whole.{marking_at}

-- the marking m enables nothing
abbrev pub enables_none : Net → List ℕ → Bool
enables_none net m = none (λ t. passes (arcs_at net t) m) net.transitions

-- marking number k enables nothing
abbrev pub dead : Net → List ℕ → ℕ → Bool
dead net list k = enables_none net (marking_at net.places list k)

-- one of the n markings does
abbrev pub some_dead : Net → ℕ → List ℕ → Bool
some_dead net n list = some (dead net list) n
