use Rattle.lists.proofs.Pairs.{looks}
use borrow.Author.Rules.{rules}
use Rattle.list_check.proofs.look_through.Goals as goal

pub returns-then-holds : goal.returns-then-holds
returns-then-holds c =
    let n = c.new-markings.ensures in
    let h = rw (n.places_are, n.count_is, n.list_is) at c.holds.ensures in
    let r = rw (n.count_is, n.list_is) at c.look_up.ensures in
    search (looks, rules)

pub returns : goal.returns
returns c =
    let n = c.new-markings.ensures in
    let h = rw (n.places_are, n.count_is, n.list_is) at c.holds.ensures in
    search (looks, rules)
