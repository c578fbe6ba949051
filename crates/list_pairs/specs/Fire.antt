-- Only for the code's walk, tied to what is published by proofs/Meaning.antt of closed and cover: a transition fired at a marking of a cover list, place by place, where 65,535 is "any number".
use Rattle.std.specs.Prelude.{ℕ, ◌+◌, ◌-◌, ◌*◌, Bool, cond, ◌&&◌, List, length, get_or, ltb, leb}
use Rattle.ground.specs.Limits.{token_limit}
use Rattle.ground.specs.Lists.{table}
use Rattle.lists.specs.Some.{none}

-- one place is short: "any number" never is
abbrev pub lacks : ℕ → ℕ → Bool
lacks takes entry = leb entry token_limit && ltb entry takes

-- transition t is enabled; "Capacities are ignored there."
abbrev pub passes_any : ℕ → List ℕ → ℕ → List ℕ → Bool
passes_any P pre t l = none (λ p. lacks (get_or pre (t * P + p) 0) (get_or l p 0)) (length l)

-- one place after the transition: any number "stays so under firing"
abbrev pub after_any : ℕ → ℕ → ℕ → ℕ
after_any takes puts entry = cond (leb entry token_limit) (entry + puts - takes) entry

-- the result: what stands for any number is covered by any number only, as every number above the limit is
abbrev pub fired_any : ℕ → List ℕ → List ℕ → ℕ → List ℕ → List ℕ
fired_any P pre post t l = table (λ p. after_any (get_or pre (t * P + p) 0) (get_or post (t * P + p) 0) (get_or l p 0)) (length l)
