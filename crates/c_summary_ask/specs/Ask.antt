-- To be believed: a summary that C lends, asked. A list of another length than 64 is 2, after 1 and before all others.
use Rattle.std.specs.Prelude.{ℕ, ◌≡◌, ◌&&◌, List, length, eqb}
use Rattle.net.specs.Net.{Net}
use Rattle.summary_ask.specs.Ask.{Reply, ask_fault, slots_reply, replied, asked_numbers}
use Rattle.c_summary_lists.specs.Columns.{Columns, fits, slots_from}
use Rattle.c_answer.specs.Hand.{handed}
use Rattle.c_answer.specs.declared.Answer.{Answer}
use Rattle.c_summary_answer.specs.Summaries.{lent_summary}

-- a lent summary asked against a marking: `ask_answer`, where the lists' lengths count with the room's
abbrev pub ask_for : Net → List ℕ → ℕ → ℕ → Columns → List ℕ → Reply
ask_for net m P n lists room =
    replied (ask_fault net m (lent_summary P n lists) (eqb (length room) net.places && fits lists))
    (slots_reply (slots_from lists) net.caps m room) room

-- such an answer, handed to C as r and in the room
pub record HandedReply (reply : Reply) (r : Answer) (room' : List ℕ) : Type 0 where
  pub answer : r ≡ handed (asked_numbers reply.answer)
  pub left : room' ≡ reply.left
