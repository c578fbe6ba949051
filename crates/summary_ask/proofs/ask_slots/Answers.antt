use mathlib.Core.Path.{sym, ◌∙◌}
use Rattle.summary_asked.proofs.Tests.{needs_met}
use Rattle.summary_ask.proofs.Asking.{slots_no, slots_yes}
use Rattle.summary_ask.proofs.ask_slots.Goals as goal

pub write_end-requires-clause-needs_met : goal.write_end-requires-clause-needs_met
write_end-requires-clause-needs_met c = needs_met _ c.args.caps.now _ _ c.lowest_no.ensures (sym c.is_some.ensures ∙ c.if-is_some.false)

pub returns-then-is_some : goal.returns-then-is_some
returns-then-is_some c = slots_no _ _ _ _ _ c.lowest_no.ensures (sym c.is_some.ensures ∙ c.if-is_some.true)

pub returns : goal.returns
returns c = slots_yes _ _ _ _ _ _ c.lowest_no.ensures (sym c.is_some.ensures ∙ c.if-is_some.false) c.write_end.ensures
