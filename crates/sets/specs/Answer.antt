-- To be believed: the answers for a siphon and a trap, by tests on one place's numbers and then by number of the transition. proofs/Meaning.antt shows that
-- they say what is published.
use Rattle.std.specs.Prelude.{Ok, Err}
use Rattle.refusals.specs.Given.{Answer, Fault}
use Rattle.std.specs.Prelude.{ℕ, Bool, not, cond, ◌&&◌, List, [], ◌∷◌, length, get_or, ltb, leb, eqb}
use Rattle.ground.specs.Lists.{first}
use Rattle.net.specs.Net.{Net, net_of, Pre, Post}
use Rattle.refusals.specs.Given.{refuse, or_else, net_fault}
use Rattle.sets.specs.declared.SetAnswer.{SetAnswer}
use Rattle.sets.specs.declared.SetAnswer.TheVariants.{Yes, No}

-- a place in the set has an arc
abbrev pub meets : ℕ → ℕ → Bool
meets weight member = ltb 0 member && ltb 0 weight

-- of the weights of all places, one in the set has an arc
unfoldable pub touches : List ℕ → (ℕ → ℕ) → Bool
touches s weight = ltb (first (λ p. meets (weight p) (get_or s p 0)) (length s)) (length s)

-- t puts into the set and does not take from it
unfoldable pub escapes : Net → List ℕ → ℕ → Bool
escapes net s t = touches s (λ p. Post net p t) && not (touches s (λ p. Pre net p t))

-- the lowest transition that does, or their number
abbrev pub lowest_escape : Net → List ℕ → ℕ
lowest_escape net s = first (escapes net s) net.transitions

-- the net with all arcs turned round: its siphons are the net's traps
abbrev pub turned : Net → Net
turned net = net_of net.places net.transitions net.post net.pre net.caps net.marks

-- the lowest place in the set, or the number of places
abbrev pub lowest_member : List ℕ → ℕ
lowest_member s = first (λ p. ltb 0 (get_or s p 0)) (length s)

-- 8: "a set without places"
abbrev pub no_places : List ℕ → Bool
no_places s = leb (length s) (lowest_member s)

-- refusals 1, 2, 18 and 17, then 8
unfoldable pub set_fault : Net → List ℕ → Fault
set_fault net s = or_else (net_fault net (eqb (length s) net.places)) (refuse (no_places s) 8 0)

-- no at the lowest transition that does, if there is one; else yes
abbrev pub judged_set : Net → List ℕ → SetAnswer
judged_set net s = cond (ltb (lowest_escape net s) net.transitions) (No (lowest_escape net s)) Yes

-- a fault refuses
abbrev pub siphon_of : Net → List ℕ → Answer SetAnswer
siphon_of net s = or_else (set_fault net s) (Ok (judged_set net s))

-- a trap is judged as a siphon of the net with all arcs turned round
abbrev pub trap_of : Net → List ℕ → Answer SetAnswer
trap_of net s = or_else (set_fault net s) (Ok (judged_set (turned net) s))

-- the numbers for each case: 81 00 (yes); 81 01 and the transition; 82, a refusal's number and position
abbrev pub set_numbers : Answer SetAnswer → List ℕ
set_numbers (Ok Yes) = 0x81 ∷ 0 ∷ []
set_numbers (Ok (No t)) = 0x81 ∷ 1 ∷ t ∷ []
set_numbers (Err r) = 0x82 ∷ r.number ∷ r.at ∷ []
