-- To be believed: the samples as the code answers them: what each entry gives back for a question, and what its contract promises of that.
use Rattle.std.specs.Prelude.{Ok}
use Rattle.refusals.specs.Given.{Answer as OrRefusal}
use Rattle.std.specs.Prelude.{ℕ, ◌≡◌, true, List, [], ◌∷◌}
use Rattle.replay.specs.Entry.{Replayed}
use Rattle.plays.specs.declared.Replay.{Replay}
use Rattle.summary_form.specs.declared.Summary.{Summary}
use Rattle.weighting.specs.Place.{place_of, place_numbers}
use Rattle.weighting_bound.specs.Bound.{bound_of, bound_numbers}
use Rattle.weighting.specs.Transition.{transition_of, transition_numbers}
use Rattle.weighting.specs.declared.PlaceWeighting.{PlaceWeighting}
use Rattle.weighting_bound.specs.declared.Bound.{Bound}
use Rattle.weighting.specs.declared.TransitionWeighting.{TransitionWeighting}
use Rattle.sets.specs.Answer.{siphon_of, trap_of, set_numbers}
use Rattle.sets.specs.declared.SetAnswer.{SetAnswer}
use Rattle.lists.specs.Answers.{numbers, claim_numbers}
use Rattle.lists.specs.declared.Kind.TheVariants.{Cover}
use Rattle.lists.specs.declared.ListAnswer.{ListAnswer}
use Rattle.lists.specs.declared.ClaimAnswer.{ClaimAnswer}
use Rattle.list_check.specs.Given.{list_of, target_of}
use Rattle.samples.specs.Samples.{net, initial, Question, word, summary, join_at, weighting, bound, transitions, siphon, trap, cover, target, Answer, leaves, slots, weighed, bounded, transitions_weighed, of_set, of_list, of_target, word_summed, joined_with, slots_in, slot_in, Sample}

-- what is given back: a replay's answer and the room at its end; for a join the two words' summaries too
abbrev pub Result : Question → Type 0
Result (word w) = OrRefusal Replay × List ℕ
Result (summary w) = OrRefusal Summary
Result (join_at p u w) = OrRefusal Summary × (OrRefusal Summary × OrRefusal Summary)
Result (weighting y) = OrRefusal PlaceWeighting
Result (bound y p) = OrRefusal Bound
Result (transitions x) = OrRefusal TransitionWeighting
Result (siphon s) = OrRefusal SetAnswer
Result (trap s) = OrRefusal SetAnswer
Result (cover list) = OrRefusal ListAnswer
Result (target list m) = OrRefusal ClaimAnswer

-- the `ensures` of replay_word, summary_word, join_summaries, place_weighting, place_bound, transition_weighting, siphon_set, trap_set,
-- cover_list and cover_target, on the case's net
abbrev pub Promised : List ℕ → (q : Question) → Result q → Type 0
Promised room (word w) r = Replayed net initial w true room r.0 r.1
Promised room (summary w) r = r ≡ word_summed w
Promised room (join_at p u w) r = (r.0 ≡ word_summed u) × ((r.1.0 ≡ word_summed w) × (r.1.1 ≡ joined_with r.0 r.1.0))
Promised room (weighting y) r = place_numbers r ≡ place_numbers (place_of net y)
Promised room (bound y p) r = bound_numbers r ≡ bound_numbers (bound_of net initial y p)
Promised room (transitions x) r = transition_numbers r ≡ transition_numbers (transition_of net x)
Promised room (siphon s) r = set_numbers r ≡ set_numbers (siphon_of net s)
Promised room (trap s) r = set_numbers r ≡ set_numbers (trap_of net s)
Promised room (cover list) r = numbers r ≡ numbers (list_of Cover net initial list true (Ok tt))
Promised room (target list m) r = claim_numbers r ≡ claim_numbers (target_of Cover net initial list m)

-- the answer that it holds
abbrev pub told : (q : Question) → Result q → Answer
told (word w) r = leaves r.0 r.1
told (summary w) r = slots (slots_in r)
told (join_at p u w) r = slots (slot_in p r.1.1)
told (weighting y) r = weighed r
told (bound y p) r = bounded r
told (transitions x) r = transitions_weighed r
told (siphon s) r = of_set r
told (trap s) r = of_set r
told (cover list) r = of_list r
told (target list m) r = of_target r

-- whatever an entry that keeps its promise gives back holds the sample's answer
abbrev pub Kept : List ℕ → Sample → Type 0
Kept room s = (r : Result s.question) → Promised room s.question r → told s.question r ≡ s.answer

-- each sample of a list is so
pub data Each (P : Sample → Type 0) : List Sample → Type 0 where
  none : Each P []
  also : {s : Sample} {l : List Sample} → P s → Each P l → Each P (s ∷ l)
