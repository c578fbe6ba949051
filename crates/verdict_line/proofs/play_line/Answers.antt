use native.Mathlib.Omega.{arith}
use Rattle.file_line.specs.Read.{rooms}
use Rattle.verdict_line.proofs.Lines.{placed, played_line}
use Rattle.verdict_line.proofs.play_line.Goals as goal

pub write_verdict-requires : goal.write_verdict-requires
write_verdict-requires c =
    let p = rw c.net_at-net.ensures.value at c.replay_word-answer.ensures in
    (c.requires.3, omega (arith, c.requires.2, c.requires.0.places), placed _ _ _ _ _ _ _ p c.requires.0.places)

pub returns-clause-line : goal.returns-clause-line
returns-clause-line c =
    let p = rw c.net_at-net.ensures.value at c.replay_word-answer.ensures in
    played_line c.args.s (rooms c.args.caps.now c.args.marks.now c.args.initial.now c.args.pre.now c.args.post.now c.args.word.now) _ _ _ _ _ _ c.requires.2 p c.write_verdict.ensures.line
