-- To be believed: what is lent, and the refusals that the entries share, "in number order": 1, 2, 18, 3 and 17 for a net and its marking, 4 and 5 for a word.
use Rattle.std.specs.Prelude.{ℕ, ◌+◌, ◌*◌, ◌-◌, ◌≤◌, ◌<◌, Bool, true, false, not, ◌&&◌, ◌||◌, List, length, get_or, take, drop, ltb, leb, eqb, Option, Some, None, Result, Ok, Err}
use Rattle.refusals.specs.declared.Refusal.{Refusal}
use Rattle.ground.specs.Limits.{count_limit, token_limit, word_limit}
use Rattle.ground.specs.Lists.{first}
use Rattle.net.specs.Net.{Net}
use Rattle.net.specs.Letter.{Small}
use Rattle.wiring.specs.Wired.{lowest_loose_place, lowest_loose_transition}
use Rattle.weights.specs.Heavy.{lowest_heavy}

-- refusal n with its position
abbrev pub refusal : ℕ → ℕ → Refusal
refusal n at = record { number = n; at = at }

-- what a question answers, or the refusal that it gives
abbrev pub Answer : Type 0 → Type 0
Answer A = Result A Refusal

abbrev pub refused : {A : Type 0} → ℕ → ℕ → Answer A
refused n at = Err (refusal n at)

-- nothing is wrong, or a refusal is given
abbrev pub Fault : Type 0
Fault = Answer Unit

-- refusal n with its position, "given exactly when" its test holds
abbrev pub refuse : Bool → ℕ → ℕ → Fault
refuse true n at = Err (refusal n at)
refuse false n at = Ok tt

-- refusal n, its position what was found, where something was
abbrev pub refuse_found : Option ℕ → ℕ → Fault
refuse_found (Some at) n = Err (refusal n at)
refuse_found None n = Ok tt

-- "Checks run in number order": the first fault, else what comes next, a second fault or an answer
abbrev pub or_else : {A : Type 0} → Fault → Answer A → Answer A
or_else (Err r) next = Err r
or_else (Ok _) next = next

-- 1: "a place or transition count outside 1..64"
abbrev pub outside : ℕ → Bool
outside n = ltb n 1 || ltb count_limit n

-- 2: "a lent list's or room's length disagrees with the counts"
abbrev pub unlike : ℕ → ℕ → Bool
unlike a b = not (eqb a b)

abbrev pub misfit : Net → Bool
misfit net =
    unlike (length net.pre) (net.transitions * net.places)
    || (unlike (length net.post) (net.transitions * net.places)
    || (unlike (length net.caps) net.places
    || unlike (length net.marks) net.places))

-- 3: "65,535 tokens where not allowed, or tokens above capacity"; position the place
abbrev pub token_bad : ℕ → ℕ → Bool
token_bad cap tokens = ltb token_limit tokens || ltb cap tokens

abbrev pub bad_token : List ℕ → List ℕ → ℕ
bad_token caps m = first (λ p. token_bad (get_or caps p 0) (get_or m p 0)) (length m)

-- 18, document 02, E6: "a lent weight over 4,095, position its transition", the lowest over Pre and Post together
unfoldable pub weights_fault : Net → Fault
weights_fault net = refuse (ltb (lowest_heavy net) net.transitions) 18 (lowest_heavy net)

-- The chain of refusals that the questions share, in five names, so that a refusal more stands in one of them:
-- what is wrong with counts, lengths and weights: 1, 2, and 18 "after 2 and before 3"; `fits` tells whether the lengths of all else that is lent agree
-- with the counts
unfoldable pub counts_fault : Net → Bool → Fault
counts_fault net fits =
    or_else (refuse (outside net.places || outside net.transitions) 1 0)
    (or_else (refuse (misfit net || not fits) 2 0) (weights_fault net))

-- the position of a transition that was found: behind those of all places
abbrev pub behind_places : Option ℕ → Option ℕ
behind_places (Some t) = Some (count_limit + t)
behind_places None = None

-- 17, document 02, E4: "position the lowest loose place, else 64 plus the lowest loose transition"
unfoldable pub loose_fault : Net → Fault
loose_fault net =
    or_else (refuse (ltb (lowest_loose_place net) net.places) 17 (lowest_loose_place net))
    (refuse (ltb (lowest_loose_transition net) net.transitions) 17 (count_limit + lowest_loose_transition net))

-- with a net, for questions without a marking
unfoldable pub net_fault : Net → Bool → Fault
net_fault net fits = or_else (counts_fault net fits) (loose_fault net)

-- refusal 3 for a marking
unfoldable pub marking_fault : List ℕ → List ℕ → Fault
marking_fault caps m = refuse (ltb (bad_token caps m) (length m)) 3 (bad_token caps m)

-- with counts, lengths, weights and the initial marking, for questions whose list or target has a 3 of its own: they add what comes after it
unfoldable pub start_fault : Net → List ℕ → Bool → Fault
start_fault net initial fits =
    or_else (counts_fault net (eqb (length initial) net.places && fits)) (marking_fault net.caps initial)

-- with a net and its marking, for questions with one marking; 17 "after 3 and before 4"
unfoldable pub marked_fault : Net → List ℕ → Bool → Fault
marked_fault net initial fits = or_else (start_fault net initial fits) (loose_fault net)

-- the letters from number a up to number b, and that they are inside the word
abbrev pub stretch : List ℕ → ℕ → ℕ → List ℕ
stretch w a b = take (b - a) (drop a w)

-- else refusal 2: "a stretch ends before its start or past its word"
abbrev pub inside : List ℕ → ℕ → ℕ → Bool
inside w a b = leb a b && leb b (length w)

-- 5: "a letter names no transition"; the first such letter, or the number of letters
abbrev pub bad_letter : ℕ → List ℕ → ℕ
bad_letter n w = first (λ k. leb n (get_or w k 0)) (length w)

-- 4: "a word over 65,535 letters"; then 5, position the letter
unfoldable pub word_fault : ℕ → List ℕ → Fault
word_fault n w = or_else (refuse (ltb word_limit (length w)) 4 0) (refuse (ltb (bad_letter n w) (length w)) 5 (bad_letter n w))

-- the test of `Sized`
abbrev pub sized_net : Net → Bool
sized_net net = not (outside net.places || outside net.transitions) && not (misfit net)

-- a given marking with no more tokens than allowed at any place, nor than its capacity
pub record Fine (caps m : List ℕ) : Type 0 where
  pub few : Small token_limit m
  pub within : (p : ℕ) → p < length m → get_or m p 0 ≤ get_or caps p 0

-- each letter names a transition
pub record Letters (n : ℕ) (w : List ℕ) : Type 0 where
  pub at : (k : ℕ) → k < length w → get_or w k 0 < n
