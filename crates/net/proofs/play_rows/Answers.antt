use Rattle.net.specs.Lent.{arcs_in}
use mathlib.Core.Path.{sym, ◌∙◌}
use Rattle.net.proofs.Letters.{plays, enough_of}
use borrow.Author.Rules.{rules}
use Rattle.net.proofs.play_rows.Goals as goal

pub fire-requires-clause-enough : goal.fire-requires-clause-enough
fire-requires-clause-enough c = enough_of (arcs_in c.args.arcs.now) c.args.marking.now _ (search rules) c.may_fire.ensures (search rules)

pub returns-then-may_fire : goal.returns-then-may_fire
returns-then-may_fire c = search (plays, rules)

pub why_stopped-why-requires-clause-marking_value : goal.why_stopped-why-requires-clause-marking_value
why_stopped-why-requires-clause-marking_value c = sym c.may_fire.ensures ∙ search rules

pub returns : goal.returns
returns c = search (plays, rules)
