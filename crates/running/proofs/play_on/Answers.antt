use borrow.Author.Rules.{rules}
use Rattle.running.proofs.Parts.{sound_allowed, held_small, ran_brief}
use Rattle.running.proofs.play_on.Goals as goal

pub invariant_of-sized : goal.invariant_of-sized
invariant_of-sized c = record { sized = (sound_allowed _ _ _ c.requires).sized }

pub play_front-ran-requires : goal.play_front-ran-requires
play_front-ran-requires c =
    let a = sound_allowed _ _ _ c.requires in
    record { light = a.light; count_limit_in_bounds = (search rules, held_small _ _ _ a); letters = (a.letters, a.short) }

pub went_on-requires : goal.went_on-requires
went_on-requires c = ran_brief _ _ _ _ c.play_front-ran.ensures.0 (sound_allowed _ _ _ c.requires)

-- Named, not searched for, so that a slot past the places that is changed is refused where it should be.
pub returns : goal.returns
returns c = rw (c.play_front-ran.ensures.1, c.play_front-ran.ensures.0) at c.went_on.ensures
