use mathlib.Core.Path.{◌∙◌}
use Rattle.net.specs.Lent.{lent}
use Rattle.sets.specs.Answer.{escapes}
use Rattle.sets.proofs.Touches.{row_touches}
use borrow.Author.Rules.{rules}
use Rattle.sets.proofs.is_escape.Goals as goal

pub returns-then-is_touching : goal.returns-then-is_touching
unfolding escapes
returns-then-is_touching c =
    let net = lent c.args.sized.now.net in
    let a = rw c.puts.ensures at c.is_touching.ensures ∙ row_touches net.places c.args.t net.post c.args.set.now c.requires.set_len in
    let b = rw c.takes.ensures at c.is_touching-then-is_touching.ensures ∙ row_touches net.places c.args.t net.pre c.args.set.now c.requires.set_len in search rules

pub returns-else-is_touching : goal.returns-else-is_touching
unfolding escapes
returns-else-is_touching c =
    let net = lent c.args.sized.now.net in
    let a = rw c.puts.ensures at c.is_touching.ensures ∙ row_touches net.places c.args.t net.post c.args.set.now c.requires.set_len in search rules
