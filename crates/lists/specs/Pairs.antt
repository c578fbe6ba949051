-- Only for the code's walk, tied to what is published by proofs/Meaning.antt of closed and cover: a list looked through for its first failing pair of a listed marking and a transition, each by its number, for any
-- test of a pair.
use Rattle.std.specs.Prelude.{ℕ, Bool, cond, ltb}
use Rattle.ground.specs.Lists.{first}
use Rattle.lists.specs.Some.{some}
use Rattle.lists.specs.declared.Failure.TheVariants.{InitialMissing, ResultMissing}
use Rattle.lists.specs.declared.ListAnswer.{ListAnswer}
use Rattle.lists.specs.declared.ListAnswer.TheVariants.{Accepted, Failed}

-- in marking number k "the lowest transition, whose result is absent", of T, or T
abbrev pub lowest_missing : (ℕ → ℕ → Bool) → ℕ → ℕ → ℕ
lowest_missing missing T k = first (missing k) T

-- marking number k has one
abbrev pub fails : (ℕ → ℕ → Bool) → ℕ → ℕ → Bool
fails missing T k = some (missing k) T

-- "the first listed marking" that has one, of n, or n
abbrev pub first_failing : (ℕ → ℕ → Bool) → ℕ → ℕ → ℕ
first_failing missing T n = first (fails missing T) n

-- the results of every listed marking looked for
unfoldable pub results_of : (ℕ → ℕ → Bool) → ℕ → ℕ → ListAnswer
results_of missing T n =
    cond (ltb (first_failing missing T n) n)
    (Failed (ResultMissing (first_failing missing T n) (lowest_missing missing T (first_failing missing T n))))
    Accepted

-- "A failure is: initial missing; else the first listed marking, and in it the lowest transition, whose result is absent."
unfoldable pub looked_of : Bool → (ℕ → ℕ → Bool) → ℕ → ℕ → ListAnswer
looked_of starts missing T n = cond starts (results_of missing T n) (Failed InitialMissing)
