-- The twelve samples hold of the code: its contracts leave no other answer. Assumes nothing.
use Prim.Native.Nat.{ℕ}
use mathlib.Core.Path.{◌≡◌, refl, ap, ◌∙◌}
use mathlib.Core.Bool.{true}
use mathlib.Core.List.{List, [], ◌∷◌, map}
use Rattle.replay.specs.Entry.{replay_of}
use Rattle.replay.proofs.Meaning.{unique}
use Rattle.refusals.specs.Given.{Answer as OrRefusal}
use Rattle.summary_form.specs.declared.Summary.{Summary}
use Rattle.weighting.specs.Place.{place_of}
use Rattle.weighting_bound.specs.Bound.{bound_of}
use Rattle.weighting.specs.Transition.{transition_of}
use Rattle.weighting.proofs.Numbers.{place_unique, transition_unique}
use Rattle.weighting_bound.proofs.Numbers.{bound_unique}
use Rattle.sets.specs.Answer.{siphon_of, trap_of}
use Rattle.sets.proofs.Numbers.{siphon_unique, trap_unique}
use Rattle.cover.proofs.Meaning.{unique_list, unique_target}
use Rattle.samples.specs.Samples.{net, initial, Question, word, summary, join_at, weighting, bound, transitions, siphon, trap, cover, target, weighed, bounded, transitions_weighed, of_set, of_list, of_target, slots, slots_in, slot_in, answer_of, Sample, samples}
use Rattle.samples.specs.Promised.{Result, Promised, told, Kept, Each, none, also}
use Rattle.samples.proofs.Meaning.{twelve}

-- each entry's promise has one answer: the definition's
keeps : (room : List ℕ) (q : Question) (r : Result q) → Promised room q r → told q r ≡ answer_of room q
keeps room (word w) r p =
    let u = unique net initial w true room r.0 (replay_of net initial w true room).answer r.1 (replay_of net initial w true room).left p (record { answer = refl; left = refl }) in
    rw (u.0, u.1)
keeps room (summary w) r p = ap (λ (x : OrRefusal Summary). slots (slots_in x)) p
keeps room (join_at p u w) r k = ap (λ (x : OrRefusal Summary). slots (slot_in p x)) (k.1.1 ∙ rw (k.0, k.1.0))
keeps room (weighting y) r p = ap weighed (place_unique net y r (place_of net y) p refl)
keeps room (bound y k) r p = ap bounded (bound_unique net initial y k r (bound_of net initial y k) p refl)
keeps room (transitions x) r p = ap transitions_weighed (transition_unique net x r (transition_of net x) p refl)
keeps room (siphon s) r p = ap of_set (siphon_unique net s r (siphon_of net s) p refl)
keeps room (trap s) r p = ap of_set (trap_unique net s r (trap_of net s) p refl)
keeps room (cover list) r p = ap of_list (unique_list net initial list r _ p refl)
keeps room (target list m) r p = ap of_target (unique_target net initial list m r _ p refl)

each : (room : List ℕ) (l : List Sample) → map (λ s. answer_of room s.question) l ≡ map (λ s. s.answer) l → Each (Kept room) l
each room [] e = none
each room (s ∷ l) e =
    let h : answer_of room s.question ≡ s.answer = cc in
    also (λ r p. keeps room s.question r p ∙ h) (each room l (cc))

-- every entry that keeps its promise answers the twelve as 01 does, whatever numbers the room of a replay held before
pub code_answers : (a b c : ℕ) → Each (Kept (a ∷ b ∷ c ∷ [])) samples
code_answers a b c = each (a ∷ b ∷ c ∷ []) samples (twelve a b c)
