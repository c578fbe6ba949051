use Rattle.net.specs.Lent.{lent}
use Rattle.complement.proofs.Answers.{wide_fits}
use Rattle.complement.proofs.count_places.Goals as goal

pub overflow_add-result : goal.overflow_add-result
overflow_add-result c = wide_fits (lent c.args.sized.now.net) c.args.sized.now.sized _ c.count_made.ensures
