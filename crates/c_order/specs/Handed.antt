-- To be believed: two logs' order, and the unread rest of one of them, for C.
use Rattle.std.specs.Prelude.{Ok, Err}
use Rattle.refusals.specs.Given.{Fault}
use Rattle.std.specs.Prelude.{ℕ, ◌≡◌, List, length}
use Rattle.order.specs.Entry.{Answered, numbers}
use Rattle.order_rest.specs.Rest.{rest_fault, which_at, read_at, unread}
use Rattle.c_answer.specs.Hand.{handed}
use Rattle.c_answer.specs.declared.Answer.{Answer}
use Rattle.c_order.specs.declared.RestAnswer.{RestAnswer}

-- the answer about two logs, and what it leaves in the room and in the work space
pub record HandedOrder (asked : Answered) (r : Answer) (room' work' : List ℕ) : Type 0 where
  pub answer : r ≡ handed (numbers asked.answer)
  pub left : room' ≡ asked.left
  pub cleared : work' ≡ asked.work

-- a rest that begins at letter n of log `which`, unless it is refused
unfoldable pub handed_rest : Fault → ℕ → ℕ → List ℕ → RestAnswer
handed_rest (Ok _) which n rest = record { kind = 0x81; number = 0; position = 0; log = which; start = n; length = length rest }
handed_rest (Err r) which n rest = record { kind = 0x82; number = r.number; position = r.at; log = 0; start = 0; length = 0 }

-- the unread rest for a step: which log it lies in, where it begins and how long it is
abbrev pub handed_unread : List ℕ → List ℕ → List ℕ → ℕ → RestAnswer
handed_unread first second order step =
    handed_rest (rest_fault first second order step) (which_at order step) (read_at order step) (unread first second order step)
