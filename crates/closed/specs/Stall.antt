-- To be believed: the answer to whether the line can stall, asked of a closed list.
use Rattle.std.specs.Prelude.{ℕ, true, List, Ok}
use Rattle.net.specs.Net.{Net}
use Rattle.refusals.specs.Given.{Answer}
use Rattle.lists.specs.Whole.{count}
use Rattle.lists.specs.Answers.{claim_of}
use Rattle.lists.specs.declared.Kind.TheVariants.{Closed}
use Rattle.lists.specs.declared.ClaimAnswer.{ClaimAnswer}
use Rattle.list_check.specs.Given.{list_of}
use Rattle.closed.specs.Dead.{some_dead}

-- "If every listed marking enables something, the line never stalls; otherwise not shown."
abbrev pub stall_of : Net → List ℕ → List ℕ → Answer ClaimAnswer
stall_of net initial list = claim_of (list_of Closed net initial list true (Ok tt)) (some_dead net (count net.places list) list)
