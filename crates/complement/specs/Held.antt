-- What a reader must believe: what a made complement net is said to be, place by place, and how its blocks are those of the net.
use Rattle.std.specs.Prelude.{ℕ, ◌+◌, ◌*◌, ◌<◌, ◌≡◌, List, ◌⊎◌, length, get_or}
use Rattle.ground.specs.Parts.{up, dn}
use Rattle.net.specs.Net.{Net, net_of, Pre, Post, Change, capacity, Capped, mark, Pocket, tokens, Sized, Light}
use Rattle.net.specs.Firing.{Names}
use Rattle.net.specs.declared.Cause.{Cause}
use Rattle.net.specs.declared.Cause.TheVariants.{Short, Over}
use Rattle.wiring.specs.Wired.{Wired}
use Rattle.refusals.specs.Given.{Fine}
use Rattle.complement.specs.Complement.{Changed, made_places, Related}
use Rattle.complement.specs.Entry.{Rooms}

-- the net that the rooms hold: a place for each capacity, and so many transitions
abbrev pub held_net : ℕ → Rooms → Net
held_net transitions rooms = net_of (length rooms.caps) transitions rooms.pre rooms.post rooms.caps rooms.marks

-- an old place of `held`, which starts with `start`: arcs and tokens as in the net
pub record OldPlace (net : Net) (initial : List ℕ) (held : Net) (start : List ℕ) (p : ℕ) : Type 0 where
  pub takes : (t : ℕ) → t < net.transitions → Pre held p t ≡ Pre net p t
  pub puts : (t : ℕ) → t < net.transitions → Post held p t ≡ Post net p t
  pub holds : tokens start p ≡ tokens initial p

-- the new place q of place p: "starting with capacity minus tokens." That of a plain place: "Change > 0 becomes an arc from it,
-- change < 0 an arc to it."; 02, E5: that "of a capped pocket has arcs of weight Post from it and of weight Pre to it"
pub record NewPlace (net : Net) (initial : List ℕ) (held : Net) (start : List ℕ) (p q : ℕ) : Type 0 where
  pub takes : mark net p ≡ 0 → (t : ℕ) → t < net.transitions → Pre held q t ≡ up (Change net p t)
  pub puts : mark net p ≡ 0 → (t : ℕ) → t < net.transitions → Post held q t ≡ dn (Change net p t)
  pub pocket_takes : Pocket net p → (t : ℕ) → t < net.transitions → Pre held q t ≡ Post net p t
  pub pocket_puts : Pocket net p → (t : ℕ) → t < net.transitions → Post held q t ≡ Pre net p t
  pub holds : tokens start q + tokens initial p ≡ capacity net p

-- "Each capped place, in order of number", of those "that some transition changes" and the pockets: the list has each of them and no
-- other number, ascending
pub record MadeInOrder (net : Net) (l : List ℕ) : Type 0 where
  pub here : (j : ℕ) → j < length l → get_or l j 0 < net.places
  pub capped : (j : ℕ) → j < length l → Capped net (get_or l j 0)
  pub wanted : (j : ℕ) → j < length l → Pocket net (get_or l j 0) ⊎ Changed net (get_or l j 0)
  pub each : (p : ℕ) → p < net.places → Capped net p → Pocket net p ⊎ Changed net p → (j : ℕ) × (j < length l) × (get_or l j 0 ≡ p)
  pub order : (i j : ℕ) → i < j → j < length l → get_or l i 0 < get_or l j 0

-- q is the new place of p: "after the old ones"
pub record NewOf (net : Net) (p q : ℕ) : Type 0 where
  pub number : ℕ
  pub here : number < length (made_places net)
  pub stands : get_or (made_places net) number 0 ≡ p
  pub after : q ≡ net.places + number

-- the cause of a block on the net, and that on its complement net: short at the same old place; or what is over at a place is
-- short at its new place. The complement net is never over.
abbrev pub Tied : Net → Cause → Cause → Type 0
Tied net (Short p) (Short q) = (p < net.places) × (q ≡ p)
Tied net (Over p) (Short q) = NewOf net p q
Tied net why (Over q) = ⊥

-- two replays of w are blocked at letter i, on the net and on `held`, having left m and m': each names the lowest place, the markings
-- agree as the complement says, and the causes are tied
pub record TiedBlock (net held : Net) (w m m' : List ℕ) (i : ℕ) (why why' : Cause) : Type 0 where
  pub here : i < length w
  pub markings : Related net m m'
  pub named : Names net m (get_or w i 0) why
  pub named' : Names held m' (get_or w i 0) why'
  pub causes : Tied net why why'

-- a net, its marking and a room for one, of which nothing is refused by 1, 2, 18, 3 or 17
pub record Ready (net : Net) (m room : List ℕ) : Type 0 where
  pub sized : Sized net
  pub light : Light net
  pub marked : length m ≡ net.places
  pub roomy : length room ≡ net.places
  pub fine : Fine net.caps m
  pub wired : Wired net

-- rooms for a net of so many transitions and places
pub record RoomsFor (transitions places : ℕ) (rooms : Rooms) : Type 0 where
  pub pres : length rooms.pre ≡ transitions * places
  pub posts : length rooms.post ≡ transitions * places
  pub caps : length rooms.caps ≡ places
  pub marks : length rooms.marks ≡ places
  pub initials : length rooms.initial ≡ places
