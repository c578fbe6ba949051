use native.Mathlib.Omega.{arith}
use Rattle.std.proofs.lemmas.Result.{on_ok_weaker}
use Rattle.file_again.proofs.Meaning.{written_fits}
use Rattle.rewrite.proofs.Making.{show_file, show_line, given_file, given_nothing}
use borrow.Author.Rules.{rules}
use Rattle.rewrite.proofs.show.Goals as goal

pub give-requires : goal.give-requires
give-requires g c = omega (arith, written_fits _ _ _ c.rewrite_held-again.result _ c.rewrite_held-again.ensures c.in-Ok.n (search rules))

pub returns-in-Ok-clause-shown : goal.returns-in-Ok-clause-shown
returns-in-Ok-clause-shown g c = show_file _ _ _ c.rewrite_held-again.result _ c.rewrite_held-again.ensures c.args.told.now c.in-Ok.n (search rules)

pub returns-in-Err-clause-shown : goal.returns-in-Err-clause-shown
returns-in-Err-clause-shown g c = show_line _ _ _ c.rewrite_held-again.result _ c.rewrite_held-again.ensures _ _ _ _ (search rules) c.tell.ensures

pub returns-in-Ok-clause-given : goal.returns-in-Ok-clause-given
returns-in-Ok-clause-given g c =
    on_ok_weaker _ (λ w. given_file _ _ _ c.rewrite_held-again.result _ c.rewrite_held-again.ensures _ _ c.in-Ok.n (search rules) w) c.give.ensures

pub returns-in-Err-clause-given : goal.returns-in-Err-clause-given
returns-in-Err-clause-given g c = given_nothing _ _ _ c.rewrite_held-again.result _ c.rewrite_held-again.ensures _ c.in-Err.why.number c.in-Err.why.at (search rules)
