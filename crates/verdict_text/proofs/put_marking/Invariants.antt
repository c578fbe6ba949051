use lib.ListN.{take}
use Rattle.file_put.specs.Put.{fours}
use Rattle.file_put.specs.Sheet.{Spelled}
use Rattle.verdict_text.proofs.put_marking.Given as goal

abbrev pub invariant-loop-tokens : goal.invariant-loop-tokens
invariant-loop-tokens l = Spelled l.initial.sheet (fours (take l.tokens-index l.marking)) l.sheet
