-- To be believed: document 01, "Complement net": from 001, extended to capacity 0; which places get a new one, and which arcs, is document 02's, E4 and E5.
use Rattle.std.specs.Prelude.{ℕ, zero, suc, ◌+◌, ◌-◌, ◌<◌, ◌≡◌, Bool, not, cond, ◌&&◌, ◌||◌, List, [], ◌∷◌, ◌++◌, map, length, get_or, ltb, eqb, pos}
use Rattle.ground.specs.Limits.{no_capacity}
use Rattle.ground.specs.Lists.{first, table}
use Rattle.net.specs.Net.{Net, Pre, Post, Change, in_force, rise_of, rise, capacity, mark, tokens}
use Rattle.net.specs.Letter.{row}

-- "some transition changes" place p: Change is not 0
pub record Changed (net : Net) (p : ℕ) : Type 0 where
  pub transition : ℕ
  pub named : transition < net.transitions
  pub changes : Change net p transition ≡ pos 0 → ⊥

-- The same by tests: a transition that takes and puts so much does; some transition does.
abbrev pub change_of : ℕ → ℕ → Bool
change_of takes puts = not (eqb takes puts)

unfoldable pub changed : Net → ℕ → Bool
changed net p = ltb (first (λ t. change_of (Pre net p t) (Post net p t)) net.transitions) net.transitions

-- a mark is a pocket's: "0 plain, any other pocket, all alike"
abbrev pub pocket_of : ℕ → Bool
pocket_of mark = not (eqb mark 0)

-- 02, E4: "A complement place is made only for a capped place that some transition changes, as the others would hang loose"; E5: that
-- of a capped pocket "is always made": whether place p gets one (`made_exactly` in proofs/Choice.antt). Here and in `is_made` alone
-- stands which places do.
unfoldable pub made : Net → ℕ → Bool
made net p = ltb (capacity net p) no_capacity && (pocket_of (mark net p) || changed net p)

-- of the n numbers from p on, those that pass a test, in order
unfoldable pub chosen_from : (ℕ → Bool) → ℕ → ℕ → List ℕ
chosen_from f p zero = []
chosen_from f p (suc n) = cond (f p) (p ∷ chosen_from f (suc p) n) (chosen_from f (suc p) n)

-- the places that get one, "in order of number"
abbrev pub made_places : Net → List ℕ
made_places net = chosen_from (made net) 0 net.places

-- f of each of them
abbrev pub at_made : Net → (ℕ → ℕ) → List ℕ
at_made net f = map f (made_places net)

-- the new places stand "after the old ones"
abbrev pub complement_places : Net → ℕ
complement_places net = net.places + length (made_places net)

-- f 0, f 1, .., f (n - 1), one after the other
unfoldable pub joined : (ℕ → List ℕ) → ℕ → List ℕ
joined f zero = []
joined f (suc n) = joined f n ++ f n

-- A new place has as many tokens as the old one has room for: a transition takes from it what the old place rises by, and the two
-- together keep their sum. So of a plain place "Change > 0 becomes an arc from it, change < 0 an arc to it" (`arc_from`, `arc_to` in
-- proofs/Meaning.antt), and that of a pocket "has arcs of weight Post from it and of weight Pre to it" (`pocket_arcs`).
abbrev pub fall_of : ℕ → ℕ → ℕ → ℕ
fall_of mark takes puts = rise_of mark takes puts + takes - puts

abbrev pub fall : Net → ℕ → ℕ → ℕ
fall net p t = fall_of (in_force (capacity net p) (mark net p)) (Pre net p t) (Post net p t)

-- what t takes from the old places, then from the new ones
abbrev pub pre_row : Net → ℕ → List ℕ
pre_row net t = row net.places t net.pre ++ at_made net (λ p. rise net p t)

-- what t puts to the old places, then to the new ones
abbrev pub post_row : Net → ℕ → List ℕ
post_row net t = row net.places t net.post ++ at_made net (λ p. fall net p t)

-- the complement net: "No capacities remain."; its "places are all plain"
abbrev pub complement_net : Net → Net
complement_net net =
    record {
      places = complement_places net;
      transitions = net.transitions;
      pre = joined (pre_row net) net.transitions;
      post = joined (post_row net) net.transitions;
      caps = table (λ p. no_capacity) (complement_places net);
      marks = table (λ p. 0) (complement_places net);
    }

-- each new place "starting with capacity minus tokens"
abbrev pub complement_marking : Net → List ℕ → List ℕ
complement_marking net m = m ++ at_made net (λ p. capacity net p - tokens m p)

-- "old places agree, and each new place holds capacity minus tokens"
pub record Related (net : Net) (m m' : List ℕ) : Type 0 where
  pub long : length m' ≡ complement_places net
  pub old : (p : ℕ) → p < net.places → tokens m' p ≡ tokens m p
  pub new : (j : ℕ) → j < length (made_places net) → tokens m' (net.places + j) + tokens m (get_or (made_places net) j 0) ≡ capacity net (get_or (made_places net) j 0)
