use Prim.Native.Nat.{◌%◌}
use lib.ListN.{get_or}
use Rattle.refusals.specs.Given.{token_bad}
use Rattle.ground.proofs.Scan.{Below}
use Rattle.list_refusals.proofs.bad_entry.Given as goal

abbrev pub invariant-loop-k : goal.invariant-loop-k
invariant-loop-k l = Below (λ k. token_bad (get_or l.caps (k % l.places) 0) (get_or l.list k 0)) l.k
