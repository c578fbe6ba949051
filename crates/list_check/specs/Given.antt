-- To be believed: the refusals of a list with its net, in order: 1, 2, 18, 3, 17 and 9; and the answers to a list and to a target.
use Rattle.std.specs.Prelude.{ℕ, Bool, ◌&&◌, List, length, eqb, Ok}
use Rattle.net.specs.Net.{Net}
use Rattle.refusals.specs.Given.{Answer, Fault, or_else, start_fault, loose_fault}
use Rattle.lists.specs.Whole.{count}
use Rattle.list_refusals.specs.Given.{whole, target_fault, list_fault}
use Rattle.lists.specs.Match.{held}
use Rattle.lists.specs.Answers.{claim_of}
use Rattle.lists.specs.declared.Kind.{Kind}
use Rattle.lists.specs.declared.ListAnswer.{ListAnswer}
use Rattle.lists.specs.declared.ClaimAnswer.{ClaimAnswer}
use Rattle.list_pairs.specs.Look.{looked}

-- 1, 2, 18, then 3 in the initial marking and the others, then 17, then 9; `fits` tells whether the length of what follows the list agrees
-- with the counts, `next` is its 3
unfoldable pub given_fault : Kind → Net → List ℕ → List ℕ → Bool → Fault → Fault
given_fault kind net initial list fits next =
    or_else (start_fault net initial (whole net.places list && fits))
    (list_fault kind net.places net.caps list (or_else next (loose_fault net)))

-- the whole answer to a list with what follows it
unfoldable pub list_of : Kind → Net → List ℕ → List ℕ → Bool → Fault → Answer ListAnswer
list_of kind net initial list fits next = or_else (given_fault kind net initial list fits next) (Ok (looked kind net initial list))

-- "From an accepted list, a target not listed is never reached; a listed target is answered as not shown". "With an accepted list, a
-- target that no listed marking covers is never covered by a reachable marking; any other is answered as not shown."
abbrev pub target_of : Kind → Net → List ℕ → List ℕ → List ℕ → Answer ClaimAnswer
target_of kind net initial list target =
    claim_of
    (list_of kind net initial list (eqb (length target) net.places) (target_fault target))
    (held kind net.places (count net.places list) list target)
