-- To be believed: 001's ω-markings. "A mapping P → NAT ∪ {ω} is called ω-marking. ω represents an infinitly large number of tokens." 01 calls ω
-- "any number".
use Rattle.std.specs.Prelude.{ℕ, ◌+◌, ◌-◌, ◌≤◌, ◌<◌, cond, List, leb}
use Rattle.ground.specs.Limits.{token_limit}
use Rattle.net.specs.Net.{tokens}

-- NAT ∪ {ω}
pub data Number : Type 0 where
  nat : ℕ → Number
  any : Number

-- an entry as lent: a cover list "may hold 65,535", the one entry above the limit, for any number
abbrev pub entry_number : ℕ → Number
entry_number entry = cond (leb entry token_limit) (nat entry) any

-- the ω-marking that a listed marking stands for: what each place holds
abbrev pub listed : List ℕ → ℕ → Number
listed c p = entry_number (tokens c p)

-- a marking has no ω
abbrev pub marking : List ℕ → ℕ → Number
marking m p = nat (tokens m p)

-- one place, the first covers the second: "ω > n", and "Any number covers everything"
abbrev pub CoversAt : Number → Number → Type 0
CoversAt any y = Unit {0}
CoversAt (nat n) (nat k) = k ≤ n
CoversAt (nat n) any = ⊥

-- "If m ≤ m', then m' covers m", of P places: x covers y
pub record CoversMarking (P : ℕ) (x y : ℕ → Number) : Type 0 where
  pub at : (p : ℕ) → p < P → CoversAt (x p) (y p)

-- one place after a transition that takes and puts so many: "ω - n = ω, ω + n = ω", or m(p) + Change(p,t), where t is enabled
abbrev pub after : ℕ → ℕ → Number → Number
after takes puts (nat n) = nat (n + puts - takes)
after takes puts any = any
