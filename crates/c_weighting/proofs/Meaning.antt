-- What C is handed: nothing of an answer is lost on the way (one answer: `unique`, c_answer/proofs/Hand.antt). Assumes nothing.
use Rattle.std.specs.Prelude.{Result, Ok, Err}
use Rattle.refusals.specs.Given.{refused}
use Rattle.refusals.specs.declared.Refusal.{Refusal}
use mathlib.Core.Path.{◌≡◌, refl}
use mathlib.Core.Bool.{cond}
use lib.Dec.{eqb}
use Rattle.weighting.specs.Place.{place_numbers}
use Rattle.weighting.specs.declared.PlaceWeighting.{PlaceWeighting}
use Rattle.weighting.specs.declared.PlaceWeighting.TheVariants as place
use Rattle.weighting.specs.Transition.{transition_numbers}
use Rattle.weighting.specs.declared.TransitionWeighting.{TransitionWeighting}
use Rattle.weighting.specs.declared.TransitionWeighting.TheVariants as transition
use Rattle.weighting_bound.specs.Bound.{bound_numbers}
use Rattle.weighting_bound.specs.declared.NoBoundCause.TheVariants.{NotInvariant, Negative, NotPositive}
use Rattle.weighting_bound.specs.declared.Bound.{Bound}
use Rattle.weighting_bound.specs.declared.Bound.TheVariants as bound
use Rattle.sets.specs.Answer.{set_numbers}
use Rattle.sets.specs.declared.SetAnswer.{SetAnswer}
use Rattle.sets.specs.declared.SetAnswer.TheVariants as set
use Rattle.c_answer.specs.Hand.{handed}
use Rattle.c_weighting.specs.Handed.{handed_bound}
use Rattle.c_answer.specs.declared.Answer.{Answer}
use Rattle.c_weighting.specs.declared.BoundAnswer.{BoundAnswer}

abbrev pub place_of : Answer → Result PlaceWeighting Refusal
place_of r = cond (eqb r.kind 0x82) (refused r.number r.position) (cond (eqb r.number 0) (Ok place.Invariant) (Ok (place.NotInvariant r.position)))

pub place_whole : (a : Result PlaceWeighting Refusal) → place_of (handed (place_numbers a)) ≡ a
unfolding handed
place_whole (Ok place.Invariant) = refl
place_whole (Ok (place.NotInvariant t)) = refl
place_whole (Err r) = refl

abbrev pub transition_of : Answer → Result TransitionWeighting Refusal
transition_of r =
    cond (eqb r.kind 0x82) (refused r.number r.position)
    (cond (eqb r.number 0) (Ok transition.Invariant)
    (cond (eqb r.number 1) (Ok (transition.NotInvariant r.position)) (Ok transition.Proper)))

pub transition_whole : (a : Result TransitionWeighting Refusal) → transition_of (handed (transition_numbers a)) ≡ a
unfolding handed
transition_whole (Ok transition.Invariant) = refl
transition_whole (Ok (transition.NotInvariant p)) = refl
transition_whole (Ok transition.Proper) = refl
transition_whole (Err r) = refl

abbrev pub bound_of : BoundAnswer → Result Bound Refusal
bound_of r =
    cond (eqb r.kind 0x82) (refused r.number r.position)
    (cond (eqb r.number 0) (Ok (bound.Bounded r.bound))
    (cond (eqb r.position 1) (Ok (bound.NoBound NotInvariant))
    (cond (eqb r.position 2) (Ok (bound.NoBound Negative)) (Ok (bound.NoBound NotPositive)))))

pub bound_whole : (a : Result Bound Refusal) → bound_of (handed_bound (bound_numbers a)) ≡ a
unfolding handed_bound
bound_whole (Ok (bound.Bounded b)) = refl
bound_whole (Ok (bound.NoBound NotInvariant)) = refl
bound_whole (Ok (bound.NoBound Negative)) = refl
bound_whole (Ok (bound.NoBound NotPositive)) = refl
bound_whole (Err r) = refl

abbrev pub set_of : Answer → Result SetAnswer Refusal
set_of r = cond (eqb r.kind 0x82) (refused r.number r.position) (cond (eqb r.number 0) (Ok set.Yes) (Ok (set.No r.position)))

pub set_whole : (a : Result SetAnswer Refusal) → set_of (handed (set_numbers a)) ≡ a
unfolding handed
set_whole (Ok set.Yes) = refl
set_whole (Ok (set.No t)) = refl
set_whole (Err r) = refl
