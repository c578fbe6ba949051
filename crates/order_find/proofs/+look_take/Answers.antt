-- The answers for the two functions that call one another, `look` and `take`. Assumes nothing.
use Rattle.std.proofs.Common.{arith, ◌≡◌, sym, ◌∙◌, ◌+◌, ◌<◌, ℕ, suc}
use Rattle.net.specs.Lent.{lent}
use native.Mathlib.Nat.{le_refl}
use Rattle.order_find.proofs.Letters.{named, none_left}
use Rattle.order_find.proofs.Ways.{open_yes, open_out, open_no}
use Rattle.order_find.proofs.Steps.{going, room_there, step_closed, stands_next, step_found, back_asks, step_none}
use Rattle.order_find.proofs.Looks.{look_end, look_first, stands_again, look_second, look_none}
use Rattle.order_find.proofs.+look_take.Goals as goal

-- one letter less is left, so the measure falls
twice_less : (a b t : ℕ) → a + a ≡ t → a ≡ suc b → b + b + 1 < t
twice_less a b t e f = omega arith

pub look-returns-then-n-k : goal.look-returns-then-n-k
look-returns-then-n-k t c = look_end _ _ _ _ _ _ c.requires c.if-n-k.true

pub look-take-requires : goal.look-take-requires
look-take-requires t c = (omega (arith, c.decreases), (omega arith, c.requires))

pub look-returns-then-take : goal.look-returns-then-take
look-returns-then-take t c = look_first _ _ _ _ _ _ c.requires c.if-n-k.false _ _ _ _ c.take.ensures c.if-take.true

pub look-take-requires-2 : goal.look-take-requires-2
look-take-requires-2 t c = (
  omega (arith, c.decreases),
  (omega arith, stands_again _ _ _ _ _ _ c.requires c.if-n-k.false _ _ _ _ c.take.ensures c.if-take.false c.take.auto.path c.take.auto.work),
)

pub look-returns-then-take-2 : goal.look-returns-then-take-2
look-returns-then-take-2 t c =
    look_second _ _ _ _ _ _ c.requires c.if-n-k.false _ _ _ _ c.take.ensures c.if-take.false _ _ _ _ c.take-2.ensures c.if-take-2.true

pub look-returns : goal.look-returns
look-returns t c =
    look_none _ _ _ _ _ _ c.requires c.if-n-k.false _ _ _ _ c.take.ensures c.if-take.false _ _ _ _ c.take-2.ensures c.if-take-2.false _ c.remember.ensures

pub take-returns-in_default : goal.take-returns-in_default
take-returns-in_default t c =
    step_closed _ _ _ _ _ _ _ c.requires.which_bound c.requires.stands
    (open_out (lent c.args.net.now) c.args.logs.now.first.now c.args.logs.now.second.now c.args.which c.args.n c.args.k c.args.marking.now _
    (none_left c.args.net.now.transitions c.args.logs.now.first.now c.args.logs.now.second.now c.args.which c.args.n c.args.k (sym c.in_default.is ∙ c.letter_of.ensures)) (le_refl _))

pub take-may_fire_at-requires-clause-t_lt_transitions : goal.take-may_fire_at-requires-clause-t_lt_transitions
take-may_fire_at-requires-clause-t_lt_transitions t c =
    (named _ c.requires.stands.ready _ _ _ _ _ c.from-t.ensures (sym c.in-Some.is ∙ c.letter_of.ensures)).names

pub take-returns-then-not-may_fire_at : goal.take-returns-then-not-may_fire_at
take-returns-then-not-may_fire_at t c =
    let a = named _ c.requires.stands.ready _ _ _ _ _ c.from-t.ensures (sym c.in-Some.is ∙ c.letter_of.ensures) in
    step_closed _ _ _ _ _ _ _ c.requires.which_bound c.requires.stands
    (open_no (lent c.args.net.now) c.args.logs.now.first.now c.args.logs.now.second.now c.args.which c.args.n c.args.k c.args.marking.now _ a.is a.names (sym c.may_fire_at.ensures ∙ c.if-not-may_fire_at.true))

pub take-fire_at-requires-clause-t_lt_transitions : goal.take-fire_at-requires-clause-t_lt_transitions
take-fire_at-requires-clause-t_lt_transitions t c =
    (named _ c.requires.stands.ready _ _ _ _ _ c.from-t.ensures (sym c.in-Some.is ∙ c.letter_of.ensures)).names

pub take-bounds-path-n : goal.take-bounds-path-n
take-bounds-path-n t c =
    let a = named _ c.requires.stands.ready _ _ _ _ _ c.from-t.ensures (sym c.in-Some.is ∙ c.letter_of.ensures) in
    room_there _ _ _ _ _ _ _ c.requires.which_bound c.requires.stands _ a.is a.names

pub take-look-requires : goal.take-look-requires
take-look-requires t c =
    let a = named _ c.requires.stands.ready _ _ _ _ _ c.from-t.ensures (sym c.in-Some.is ∙ c.letter_of.ensures) in
    let e = sym c.may_fire_at.ensures ∙ c.if-not-may_fire_at.false in (
      twice_less _ _ _ c.decreases (going _ _ _ _ _ _ _ c.requires.which_bound c.requires.stands _ a.is a.names).fewer,
      stands_next _ _ _ _ _ _ _ c.requires.which_bound c.requires.stands _ a.is a.names e _ c.fire_at.ensures,
    )

pub take-returns-then-look : goal.take-returns-then-look
take-returns-then-look t c =
    let a = named _ c.requires.stands.ready _ _ _ _ _ c.from-t.ensures (sym c.in-Some.is ∙ c.letter_of.ensures) in
    let e = sym c.may_fire_at.ensures ∙ c.if-not-may_fire_at.false in
    step_found _ _ _ _ _ _ _ c.requires.which_bound c.requires.stands _ a.is a.names e _ c.fire_at.ensures
    (open_yes (lent c.args.net.now) c.args.logs.now.first.now c.args.logs.now.second.now c.args.which c.args.n c.args.k c.args.marking.now _ a.is a.names e) _ _ _ _ c.look.ensures c.if-look.true

pub take-take_back-requires : goal.take-take_back-requires
take-take_back-requires t c =
    let a = named _ c.requires.stands.ready _ _ _ _ _ c.from-t.ensures (sym c.in-Some.is ∙ c.letter_of.ensures) in
    let e = sym c.may_fire_at.ensures ∙ c.if-not-may_fire_at.false in
    let b = back_asks _ _ _ _ _ _ _ c.requires.which_bound c.requires.stands _ a.is a.names e _ c.fire_at.ensures
    (open_yes (lent c.args.net.now) c.args.logs.now.first.now c.args.logs.now.second.now c.args.which c.args.n c.args.k c.args.marking.now _ a.is a.names e) _ _ _ _ c.look.ensures c.if-look.false in
    record { sized = c.requires.stands.ready.sized; t_lt_transitions = a.names; marking_len = b.1.0; small = b.1.1.0; enough = b.1.1.1 }

pub take-returns : goal.take-returns
take-returns t c =
    let a = named _ c.requires.stands.ready _ _ _ _ _ c.from-t.ensures (sym c.in-Some.is ∙ c.letter_of.ensures) in
    let e = sym c.may_fire_at.ensures ∙ c.if-not-may_fire_at.false in
    step_none _ _ _ _ _ _ _ c.requires.which_bound c.requires.stands _ a.is a.names e _ c.fire_at.ensures
    (open_yes (lent c.args.net.now) c.args.logs.now.first.now c.args.logs.now.second.now c.args.which c.args.n c.args.k c.args.marking.now _ a.is a.names e) _ _ _ _ c.look.ensures c.if-look.false _ c.take_back.ensures
