use Rattle.ground.proofs.Scan.{scans}
use borrow.Author.Rules.{rules}
use Rattle.summary_slots.proofs.bad_slot.Goals as goal

pub returns-then-is_bad_at : goal.returns-then-is_bad_at
returns-then-is_bad_at c = search (scans, rules)

pub returns : goal.returns
returns c = search (scans, rules)
