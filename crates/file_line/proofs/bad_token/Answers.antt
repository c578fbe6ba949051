use Rattle.file_line.proofs.Turns.{lookings}
use borrow.Author.Rules.{rules}
use Rattle.file_line.proofs.bad_token.Goals as goal

pub returns-then-is_bad_token : goal.returns-then-is_bad_token
returns-then-is_bad_token c = search (lookings, rules)

pub loop-p-preserved : goal.loop-p-preserved
loop-p-preserved c = search (lookings, rules)

pub returns : goal.returns
returns c = search (lookings, rules)
