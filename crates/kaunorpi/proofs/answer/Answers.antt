use mathlib.Core.Path.{refl}
use Rattle.std.proofs.lemmas.Result.{on_ok_weaker}
use Rattle.file_reads.proofs.Inputs.{from_first}
use Rattle.kaunorpi.proofs.Making.{made_nothing, made_line, answered}
use borrow.Author.Rules.{rules}
use Rattle.kaunorpi.proofs.answer.Goals as goal

pub returns-in-Failed-clause-made : goal.returns-in-Failed-clause-made
returns-in-Failed-clause-made g c = made_nothing _ _ (from_first c.new-s.result c.cleared-h.result _ _ c.new-s.ensures.0 c.cleared-h.ensures.value c.read_all-f.ensures.reads) _ _ (search rules) refl

pub returns-in_default-clause-made : goal.returns-in_default-clause-made
returns-in_default-clause-made g c = made_line _ _ (from_first c.new-s.result c.cleared-h.result _ _ c.new-s.ensures.0 c.cleared-h.ensures.value c.read_all-f.ensures.reads) _ _ c.in_default.not-Failed c.show.ensures.shown

pub returns-in_default-clause-ok : goal.returns-in_default-clause-ok
returns-in_default-clause-ok g c =
    on_ok_weaker _
    (λ w. answered _ _ (from_first c.new-s.result c.cleared-h.result _ _ c.new-s.ensures.0 c.cleared-h.ensures.value c.read_all-f.ensures.reads) _ _ _ _ c.in_default.not-Failed c.show.ensures.shown w)
    c.show.ensures.written
