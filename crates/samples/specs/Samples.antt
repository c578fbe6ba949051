-- To be believed: document 01's twelve samples ("Proved samples from the case above"): each a question about the net of its case file, and the
-- answer that 01 gives. `answer_of` answers by the very definitions that the entries promise.
use Rattle.std.specs.Prelude.{Ok, Err}
use Rattle.refusals.specs.Given.{Answer as OrRefusal}
use Rattle.std.specs.Prelude.{ℕ, true, List, [], ◌∷◌, take, get_or, ℤ, pos, neg_ℤ}
use Rattle.ground.specs.Limits.{no_capacity}
use Rattle.net.specs.Net.{Net, net_of}
use Rattle.net.specs.declared.Cause.TheVariants.{Short, Over}
use Rattle.replay.specs.Entry.{replay_of}
use Rattle.plays.specs.declared.Replay.{Replay}
use Rattle.plays.specs.declared.Replay.TheVariants.{Fired, Blocked}
use Rattle.summary_place.specs.Slots.{nil}
use Rattle.summary_place.specs.declared.Slot.{Slot}
use Rattle.summary.specs.Entry.{word_answer}
use Rattle.summary_join.specs.Join.{join_answer, then_join}
use Rattle.summary_form.specs.declared.Summary.{Summary}
use Rattle.weighting.specs.Place.{place_of}
use Rattle.weighting_bound.specs.Bound.{bound_of}
use Rattle.weighting.specs.Transition.{transition_of}
use Rattle.weighting.specs.declared.PlaceWeighting.{PlaceWeighting}
use Rattle.weighting.specs.declared.PlaceWeighting.TheVariants.{Invariant, NotInvariant}
use Rattle.weighting_bound.specs.declared.Bound.{Bound}
use Rattle.weighting_bound.specs.declared.Bound.TheVariants.{Bounded}
use Rattle.weighting.specs.declared.TransitionWeighting.{TransitionWeighting}
use Rattle.weighting.specs.declared.TransitionWeighting.TheVariants.{Proper}
use Rattle.sets.specs.Answer.{siphon_of, trap_of}
use Rattle.sets.specs.declared.SetAnswer.{SetAnswer}
use Rattle.sets.specs.declared.SetAnswer.TheVariants.{Yes, No}
use Rattle.lists.specs.declared.Kind.TheVariants.{Cover}
use Rattle.lists.specs.declared.ListAnswer.{ListAnswer}
use Rattle.lists.specs.declared.ListAnswer.TheVariants.{Accepted}
use Rattle.lists.specs.declared.ClaimAnswer.{ClaimAnswer}
use Rattle.lists.specs.declared.ClaimAnswer.TheVariants.{Shown}
use Rattle.list_check.specs.Given.{list_of, target_of}

-- the case's net, by its frames: 3 places and 3 transitions (01); capacities none, none, 5 (02); for each transition what it takes and
-- puts (04): 0 takes (1,0,0) and puts (0,1,0), 1 takes (0,1,0) and puts (1,0,2), 2 takes (0,0,3) and puts nothing. It has no pockets: all marks are 0
abbrev pub pres : List ℕ
pres = 1 ∷ 0 ∷ 0 ∷ 0 ∷ 1 ∷ 0 ∷ 0 ∷ 0 ∷ 3 ∷ []

abbrev pub posts : List ℕ
posts = 0 ∷ 1 ∷ 0 ∷ 1 ∷ 0 ∷ 2 ∷ 0 ∷ 0 ∷ 0 ∷ []

abbrev pub net : Net
net = net_of 3 3 pres posts (no_capacity ∷ no_capacity ∷ 5 ∷ []) (0 ∷ 0 ∷ 0 ∷ [])

-- its initial marking (03)
abbrev pub initial : List ℕ
initial = 1 ∷ 0 ∷ 0 ∷ []

-- "A cover list may hold 65,535 for any number."
abbrev pub any : ℕ
any = no_capacity

-- what is asked: of words, weightings (and a place), sets of places, cover lists (and a target)
pub data Question : Type 0 where
  word : List ℕ → Question
  summary : List ℕ → Question
  join_at : ℕ → List ℕ → List ℕ → Question
  weighting : List ℤ → Question
  bound : List ℤ → ℕ → Question
  transitions : List ℤ → Question
  siphon : List ℕ → Question
  trap : List ℕ → Question
  cover : List ℕ → Question
  target : List ℕ → List ℕ → Question

-- what is answered: by each entry's own answer, a replay's with the marking left, of a summary the slots of the places
pub data Answer : Type 0 where
  leaves : OrRefusal Replay → List ℕ → Answer
  slots : OrRefusal (List Slot) → Answer
  weighed : OrRefusal PlaceWeighting → Answer
  bounded : OrRefusal Bound → Answer
  transitions_weighed : OrRefusal TransitionWeighting → Answer
  of_set : OrRefusal SetAnswer → Answer
  of_list : OrRefusal ListAnswer → Answer
  of_target : OrRefusal ClaimAnswer → Answer

-- the summary of a word, and of one word joined with another
abbrev pub word_summed : List ℕ → OrRefusal Summary
word_summed w = word_answer net w true

abbrev pub joined_with : OrRefusal Summary → OrRefusal Summary → OrRefusal Summary
joined_with a b = then_join a (λ s. then_join b (join_answer s))

abbrev pub join_summed : List ℕ → List ℕ → OrRefusal Summary
join_summed u w = joined_with (word_summed u) (word_summed w)

-- a summary's slots of the places, and that of one place
abbrev pub slots_in : OrRefusal Summary → OrRefusal (List Slot)
slots_in (Ok s) = Ok (take s.places s.slots)
slots_in (Err r) = Err r

abbrev pub slot_in : ℕ → OrRefusal Summary → OrRefusal (List Slot)
slot_in p (Ok s) = Ok (get_or s.slots p nil ∷ [])
slot_in p (Err r) = Err r

-- the answer on the case's net, by the definition that the entry's promise cites; `room` is what a replay is lent for its marking
abbrev pub answer_of : List ℕ → Question → Answer
answer_of room (word w) = leaves (replay_of net initial w true room).answer (replay_of net initial w true room).left
answer_of room (summary w) = slots (slots_in (word_summed w))
answer_of room (join_at p u w) = slots (slot_in p (join_summed u w))
answer_of room (weighting y) = weighed (place_of net y)
answer_of room (bound y p) = bounded (bound_of net initial y p)
answer_of room (transitions x) = transitions_weighed (transition_of net x)
answer_of room (siphon s) = of_set (siphon_of net s)
answer_of room (trap s) = of_set (trap_of net s)
answer_of room (cover list) = of_list (list_of Cover net initial list true (Ok tt))
answer_of room (target list m) = of_target (target_of Cover net initial list m)

-- a sample with 01's number
pub record Sample : Type 0 where
  pub number : ℕ
  pub question : Question
  pub answer : Answer

abbrev pub sample : ℕ → Question → Answer → Sample
sample n q a = record { number = n; question = q; answer = a }

-- (need, climb, change)
abbrev pub slot : ℕ → ℕ → ℤ → Slot
slot n k c = record { need = n; climb = k; change = c }

abbrev pub cover_sample : List ℕ
cover_sample = 1 ∷ 0 ∷ any ∷ 0 ∷ 1 ∷ any ∷ []

-- the twelve, in 01's order; a sample with several parts is several entries with its number
abbrev pub samples : List Sample
samples =
    -- "word 0 1 0 1 ends at (1,0,4)."
    sample 1 (word (0 ∷ 1 ∷ 0 ∷ 1 ∷ [])) (leaves (Ok (Fired 4)) (1 ∷ 0 ∷ 4 ∷ []))
    -- "word 0 1 0 1 0 1: blocked at position 5, over at place 2." It leaves the marking after the five letters fired.
    ∷ sample 2 (word (0 ∷ 1 ∷ 0 ∷ 1 ∷ 0 ∷ 1 ∷ [])) (leaves (Ok (Blocked 5 (Over 2))) (0 ∷ 1 ∷ 4 ∷ []))
    -- "word 2: blocked at 0, short at 2."
    ∷ sample 3 (word (2 ∷ [])) (leaves (Ok (Blocked 0 (Short 2))) (1 ∷ 0 ∷ 0 ∷ []))
    -- "empty word: (1,0,0)."
    ∷ sample 4 (word []) (leaves (Ok (Fired 0)) (1 ∷ 0 ∷ 0 ∷ []))
    -- "summary of 0 1, as need, climb, change: (1,0,0), (0,1,0), (0,2,2)."
    ∷ sample 5 (summary (0 ∷ 1 ∷ [])) (slots (Ok (slot 1 0 (pos 0) ∷ slot 0 1 (pos 0) ∷ slot 0 2 (pos 2) ∷ [])))
    -- "0 1 joined with 2: place 2 has (1,2,-1)."
    ∷ sample 6 (join_at 2 (0 ∷ 1 ∷ []) (2 ∷ [])) (slots (Ok (slot 1 2 (neg_ℤ (pos 1)) ∷ [])))
    -- "2 joined with 0 1: place 2 has (3,0,-1)."
    ∷ sample 7 (join_at 2 (2 ∷ []) (0 ∷ 1 ∷ [])) (slots (Ok (slot 3 0 (neg_ℤ (pos 1)) ∷ [])))
    -- "weighting (1,1,0) invariant, bound of place 0 is 1."
    ∷ sample 8 (weighting (pos 1 ∷ pos 1 ∷ pos 0 ∷ [])) (weighed (Ok Invariant))
    ∷ sample 8 (bound (pos 1 ∷ pos 1 ∷ pos 0 ∷ []) 0) (bounded (Ok (Bounded 1)))
    -- "(0,0,1) fails at transition 1."
    ∷ sample 9 (weighting (pos 0 ∷ pos 0 ∷ pos 1 ∷ [])) (weighed (Ok (NotInvariant 1)))
    -- "transition weighting (3,3,2) proper."
    ∷ sample 10 (transitions (pos 3 ∷ pos 3 ∷ pos 2 ∷ [])) (transitions_weighed (Ok Proper))
    -- "{0,1} is siphon and trap, {2} neither." Transition 1 puts into {2} and takes nothing from it, transition 2 the other way.
    ∷ sample 11 (siphon (1 ∷ 1 ∷ 0 ∷ [])) (of_set (Ok Yes))
    ∷ sample 11 (trap (1 ∷ 1 ∷ 0 ∷ [])) (of_set (Ok Yes))
    ∷ sample 11 (siphon (0 ∷ 0 ∷ 1 ∷ [])) (of_set (Ok (No 1)))
    ∷ sample 11 (trap (0 ∷ 0 ∷ 1 ∷ [])) (of_set (Ok (No 2)))
    -- "cover list (1,0,any), (0,1,any) accepted, (1,1,0) never covered."
    ∷ sample 12 (cover cover_sample) (of_list (Ok Accepted))
    ∷ sample 12 (target cover_sample (1 ∷ 1 ∷ 0 ∷ [])) (of_target (Ok Shown))
    ∷ []
