use native.Mathlib.Omega.{arith}
use Rattle.plays.proofs.Words.{run_stops, runs}
use borrow.Author.Rules.{rules}
use Rattle.plays.proofs.play_letters.Goals as goal

pub loop-i-init : goal.loop-i-init
loop-i-init c = search (runs, rules)

pub play_letter-requires : goal.play_letter-requires
play_letter-requires c = record { sized = search (runs, rules); marking_len = search (runs, rules); small = search (runs, rules); t_lt_transitions = search (runs, rules) }

pub loop-i-preserved : goal.loop-i-preserved
loop-i-preserved c = search (runs, rules)

pub returns : goal.returns
returns c = search (runs, rules)

pub returns-in-Err : goal.returns-in-Err
returns-in-Err c = run_stops _ c.args.fired _ _ c.loop-i.i _ c.loop-i.invariant _ _ _ _ (search rules) c.play_letter.ensures c.in-Err.is (omega arith)
