use mathlib.Core.Path.{◌≡◌}
use lib.ListN.{length}
use Rattle.ground.proofs.Scan.{Below}
use Rattle.lists.specs.Pairs.{fails}
use Rattle.lists.specs.declared.ListAnswer.TheVariants.{Accepted}
use Rattle.list_pairs.specs.Search.{missing_in}
use Rattle.list_pairs.proofs.Search.first_missing.Given as goal

abbrev pub invariant-loop-t : goal.invariant-loop-t
invariant-loop-t l = (length l.room ≡ l.self.net.now.places) × ((l.answer ≡ Accepted) × Below (missing_in l.self l.k) l.t)

abbrev pub invariant-markings : goal.invariant-markings
invariant-markings l = (length l.room ≡ l.self.net.now.places) × ((l.answer ≡ Accepted) × Below (fails (missing_in l.self) l.self.net.now.transitions) l.k)
