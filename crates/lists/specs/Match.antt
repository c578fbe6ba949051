-- Only for the code's walk, tied to what is published by proofs/Meaning.antt of closed and cover: whether a list holds a marking or covers it, tested place by place and marking by marking.
use Rattle.std.specs.Prelude.{ℕ, Bool, ◌&&◌, List, length, get_or, ltb, leb}
use Rattle.ground.specs.Limits.{token_limit}
use Rattle.refusals.specs.Given.{unlike}
use Rattle.lists.specs.Some.{some, none}
use Rattle.lists.specs.Whole.{marking_at}
use Rattle.lists.specs.declared.Kind.{Kind}
use Rattle.lists.specs.declared.Markings.{Markings}
use Rattle.lists.specs.declared.Kind.TheVariants.{Closed, Cover}

-- two markings agree at every place
abbrev pub alike : List ℕ → List ℕ → Bool
alike l m = none (λ p. unlike (get_or l p 0) (get_or m p 0)) (length m)

-- one entry is a number, and less than the tokens: "Any number covers everything"
abbrev pub beyond : ℕ → ℕ → Bool
beyond entry tokens = leb entry token_limit && ltb entry tokens

-- every place of the marking is covered
abbrev pub covering : List ℕ → List ℕ → Bool
covering l m = none (λ p. beyond (get_or l p 0) (get_or m p 0)) (length m)

-- the listed marking l is m in a closed list, and covers m in a cover list
unfoldable pub matches : Kind → List ℕ → List ℕ → Bool
matches Closed l m = alike l m
matches Cover l m = covering l m

-- one of the n markings of the list does
abbrev pub held : Kind → ℕ → ℕ → List ℕ → List ℕ → Bool
held kind P n list m = some (λ k. matches kind (marking_at P list k) m) n

-- ... one of the code's own value for it
abbrev pub held_in : Kind → Markings → List ℕ → Bool
held_in kind l m = held kind l.places l.count l.list.now m
