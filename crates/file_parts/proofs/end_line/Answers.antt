use Rattle.file_line.specs.Read.{rooms}
use Rattle.file_parts.proofs.Buffer.{ended_line, over_line}
use Rattle.file_parts.proofs.end_line.Goals as goal

pub returns-in-Ok-clause-value : goal.returns-in-Ok-clause-value
returns-in-Ok-clause-value c = ended_line c.args.h _ (rooms c.args.caps.now c.args.marks.now c.args.initial.now c.args.pre.now c.args.post.now c.args.word.now) _ _ _ c.in-Ok.is c.read_line.ensures.value c.read_line.ensures.lent c.ended.ensures.value

pub returns-in-Err-clause-value : goal.returns-in-Err-clause-value
returns-in-Err-clause-value c = over_line c.args.h _ (rooms c.args.caps.now c.args.marks.now c.args.initial.now c.args.pre.now c.args.post.now c.args.word.now) c.in-Err.is
