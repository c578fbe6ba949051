-- Only for the code's walk, nothing to believe: rows and tokens by the lists that the inner functions are lent. proofs/Answers.antt says that they are the complement net's.
use Rattle.std.specs.Prelude.{ℕ, ◌-◌, ◌<◌, Bool, cond, List, length, get_or, ltb}
use Rattle.ground.specs.Lists.{map_at}
use Rattle.net.specs.Net.{Net, rise_of}
use Rattle.net.specs.Letter.{row}
use Rattle.complement.specs.Complement.{fall_of}

-- place numbers below n
pub record Inside (n : ℕ) (sources : List ℕ) : Type 0 where
  pub at : (q : ℕ) → q < length sources → get_or sources q 0 < n

-- an old place's weights and tokens, else a new one's
abbrev pub taken_from : Bool → ℕ → ℕ → ℕ → ℕ
taken_from old mark takes puts = cond old takes (rise_of mark takes puts)

abbrev pub put_to : Bool → ℕ → ℕ → ℕ → ℕ
put_to old mark takes puts = cond old puts (fall_of mark takes puts)

abbrev pub tokens_at : Bool → ℕ → ℕ → ℕ
tokens_at old cap tokens = cond old tokens (cap - tokens)

-- of each place, by the old place that it stands for
abbrev pub taken_row : ℕ → List ℕ → List ℕ → List ℕ → List ℕ → List ℕ
taken_row places takes puts marks sources = map_at (λ q p. taken_from (ltb q places) (get_or marks p 0) (get_or takes p 0) (get_or puts p 0)) sources

abbrev pub put_row : ℕ → List ℕ → List ℕ → List ℕ → List ℕ → List ℕ
put_row places takes puts marks sources = map_at (λ q p. put_to (ltb q places) (get_or marks p 0) (get_or takes p 0) (get_or puts p 0)) sources

abbrev pub tokens_row : ℕ → List ℕ → List ℕ → List ℕ → List ℕ
tokens_row places caps m sources = map_at (λ q p. tokens_at (ltb q places) (get_or caps p 0) (get_or m p 0)) sources

-- transition t's rows
abbrev pub new_pre : Net → List ℕ → ℕ → List ℕ
new_pre net sources t = taken_row net.places (row net.places t net.pre) (row net.places t net.post) net.marks sources

abbrev pub new_post : Net → List ℕ → ℕ → List ℕ
new_post net sources t = put_row net.places (row net.places t net.pre) (row net.places t net.post) net.marks sources
