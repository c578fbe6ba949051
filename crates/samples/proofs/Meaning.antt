-- The twelve samples, proved by computing, and what some of them mean.
use Rattle.std.specs.Prelude.{Ok}
use Rattle.refusals.proofs.Exactly.{not_refused}
use Prim.Native.Nat.{ℕ, ◌≤◌}
use mathlib.Core.Path.{◌≡◌, refl}
use mathlib.Core.Bool.{true}
use mathlib.Core.List.{List, [], ◌∷◌, map}
use lib.IntN.{pos}
use Rattle.ground.specs.Lists.{first, tally, most, map_at, table}
use Rattle.net.specs.Net.{leaves_first, in_force, tokens}
use Rattle.net.specs.Firing.{Fires, Reachable, Names}
use Rattle.net.specs.declared.Cause.TheVariants.{Over}
use Rattle.wiring.specs.Wired.{loose_place, loose_transition}
use Rattle.weights.specs.Heavy.{heavy}
use Rattle.refusals.specs.Given.{weights_fault, counts_fault, loose_fault, net_fault, marking_fault, start_fault, marked_fault, word_fault}
use Rattle.plays.specs.Replay.{play_from}
use Rattle.replay.specs.Entry.{replay_fault, Replayed}
use Rattle.plays.specs.declared.Replay.TheVariants.{Fired, Blocked}
use Rattle.replay.proofs.Meaning as replay
use Rattle.summary_place.specs.Place.{change, need, climb}
use Rattle.summary_place.specs.Slots.{slot_of, joined, slot_bad}
use Rattle.summary.specs.Entry.{part_fault}
use Rattle.summary_form.specs.Summary.{shape_fault}
use Rattle.summary_join.specs.Join.{later_fault, join_fault}
use Rattle.weighting_sums.specs.Weighting.{sum}
use Rattle.weighting_bound.specs.Bound.{found_bound}
use Rattle.weighting_bound.proofs.Meaning.{bound_holds}
use Rattle.sets.specs.Sets.{Siphon, Trap}
use Rattle.sets.proofs.Allowed.{allowed_of}
use Rattle.sets.proofs.Meaning.{siphon_accepted, trap_accepted}
use Rattle.sets.specs.Answer.{touches, escapes, set_fault}
use Rattle.lists.specs.Some.{some, none}
use Rattle.list_refusals.specs.Given.{target_fault, first_bad, entry_fault, size_fault, list_fault}
use Rattle.lists.specs.Answers.{claim_of}
use Rattle.lists.specs.Match.{matches}
use Rattle.lists.specs.declared.ClaimAnswer.TheVariants as claim
use Rattle.lists.specs.Pairs.{results_of, looked_of}
use Rattle.list_pairs.specs.Look.{absent}
use Rattle.list_check.specs.Given.{given_fault, list_of}
use Rattle.cover.specs.Cover.{Coverable}
use Rattle.cover.proofs.Promise.{shown_never_covered}
use Rattle.samples.specs.Samples.{net, initial, cover_sample, answer_of, samples}

-- each question has the answer that 01 gives, whatever numbers a, b, c the room of a replay held before
pub twelve : (a b c : ℕ) → map (λ s. answer_of (a ∷ b ∷ c ∷ []) s.question) samples ≡ map (λ s. s.answer) samples
unfolding first tally most map_at leaves_first in_force table heavy weights_fault counts_fault loose_fault loose_place loose_transition net_fault marking_fault start_fault marked_fault word_fault play_from replay_fault change need climb slot_of joined slot_bad part_fault shape_fault later_fault join_fault sum found_bound touches escapes set_fault some none target_fault first_bad entry_fault size_fault list_fault claim_of matches results_of looked_of absent given_fault list_of
twelve a b c = refl

-- ---- what some of them mean in the published definitions, by the theorems of their crates
-- sample 1: the word fires letter by letter, to that marking
replayed_1 : Replayed net initial (0 ∷ 1 ∷ 0 ∷ 1 ∷ []) true (0 ∷ 0 ∷ 0 ∷ []) (Ok (Fired 4)) (1 ∷ 0 ∷ 4 ∷ [])
unfolding first tally map_at leaves_first heavy weights_fault counts_fault loose_fault loose_place loose_transition net_fault marking_fault start_fault marked_fault word_fault play_from replay_fault
replayed_1 = record { answer = refl; left = refl }

pub sample_fires : Fires net initial (0 ∷ 1 ∷ 0 ∷ 1 ∷ []) (1 ∷ 0 ∷ 4 ∷ [])
sample_fires =
    let a = replay.answered_allowed _ _ _ _ _ _ _ replayed_1 (λ n at e. not_refused (Fired 4) n at e) in
    (replay.fired_means _ _ _ _ _ _ _ replayed_1 a 4 refl).1

-- sample 2: letter 5 is transition 1; at the marking left no place is short for it, and place 2 is the lowest over
replayed_2 : Replayed net initial (0 ∷ 1 ∷ 0 ∷ 1 ∷ 0 ∷ 1 ∷ []) true (0 ∷ 0 ∷ 0 ∷ []) (Ok (Blocked 5 (Over 2))) (0 ∷ 1 ∷ 4 ∷ [])
unfolding first tally map_at leaves_first heavy weights_fault counts_fault loose_fault loose_place loose_transition net_fault marking_fault start_fault marked_fault word_fault play_from replay_fault
replayed_2 = record { answer = refl; left = refl }

pub sample_blocked : Names net (0 ∷ 1 ∷ 4 ∷ []) 1 (Over 2)
sample_blocked =
    let a = replay.answered_allowed _ _ _ _ _ _ _ replayed_2 (λ n at e. not_refused (Blocked 5 (Over 2)) n at e) in
    (replay.blocked_cause _ _ _ _ _ _ _ replayed_2 a 5 (Over 2) refl).1

-- sample 8: place 0 holds at most 1 in every reachable marking
pub sample_bound : (m : List ℕ) → Reachable net initial m → tokens m 0 ≤ 1
unfolding first tally heavy weights_fault counts_fault loose_fault loose_place loose_transition net_fault marking_fault start_fault marked_fault sum found_bound
sample_bound m = bound_holds (pos 1 ∷ pos 1 ∷ pos 0 ∷ []) 0 1 refl

-- sample 11: every transition that puts into {0,1} takes from it, and every one that takes from it puts into it
pub sample_siphon : Siphon net (1 ∷ 1 ∷ 0 ∷ [])
unfolding first tally heavy weights_fault counts_fault loose_fault loose_place loose_transition net_fault touches escapes set_fault
sample_siphon = (siphon_accepted net (1 ∷ 1 ∷ 0 ∷ []) (allowed_of net (1 ∷ 1 ∷ 0 ∷ []) refl)).0 refl

pub sample_trap : Trap net (1 ∷ 1 ∷ 0 ∷ [])
unfolding first tally heavy weights_fault counts_fault loose_fault loose_place loose_transition net_fault touches escapes set_fault
sample_trap = (trap_accepted net (1 ∷ 1 ∷ 0 ∷ []) (allowed_of net (1 ∷ 1 ∷ 0 ∷ []) refl)).0 refl

-- sample 12: no reachable marking has a token in place 0 and one in place 1
pub sample_cover : Coverable net initial (1 ∷ 1 ∷ 0 ∷ []) → ⊥
unfolding first tally table heavy weights_fault counts_fault loose_fault loose_place loose_transition net_fault marking_fault start_fault marked_fault some none target_fault first_bad entry_fault size_fault list_fault claim_of matches results_of looked_of absent given_fault list_of
sample_cover = shown_never_covered net initial cover_sample (1 ∷ 1 ∷ 0 ∷ []) (Ok claim.Shown) refl refl
