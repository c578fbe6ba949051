use Prim.Native.Nat.{ℕ, ◌+◌}
use mathlib.Core.Path.{ap₂, sym, ◌∙◌}
use lib.IntN.{sub_ℕ}
use mir.Syntax.{w32}
use mir.Facts.{to_z-of_z}
use Rattle.ground.proofs.Parts.{sum_sub}
use Rattle.summary_place.specs.Walk.{step}
use Rattle.summary_place.proofs.Border.{change_fits, up_read, dn_read}
use Rattle.summary_slots.proofs.Joins.{joined_is}
use Rattle.summary_slots.proofs.join_slot.Goals as goal

pub returns : goal.returns
returns c =
    let a = c.args.a in
    let b = c.args.b in
    let fa = change_fits a c.requires.0 in
    let fb = change_fits b c.requires.1 in
    let ua = c.up_part-u.ensures ∙ up_read a fa in
    let da = c.down_part-d.ensures ∙ dn_read a fa in
    let ub = c.up_part.ensures ∙ up_read b fb in
    let db = c.down_part.ensures ∙ dn_read b fb in
    joined_is a b _ (c.larger.ensures ∙ ap₂ (λ (x y : ℕ). step a.need b.need x y) da ua)
    (c.larger-2.ensures ∙ ap₂ (λ (x y : ℕ). step a.climb b.climb x y) ua da)
    (to_z-of_z {w = w32} (record { sfits = c.less.type_inv }) ∙ c.less.ensures ∙ ap₂ sub_ℕ (ap₂ ◌+◌ ua ub) (ap₂ ◌+◌ da db) ∙ sym (sum_sub a.change b.change))
