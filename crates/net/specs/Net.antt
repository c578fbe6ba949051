-- To be believed: a net as lent, and its parts by document 01's names ("Nets and firing"; 001, "Elementary System Nets" and its capacities).
use Rattle.std.specs.Prelude.{ℕ, ◌+◌, ◌-◌, ◌*◌, ◌≤◌, ◌<◌, ◌≡◌, cond, List, length, get_or, ltb, eqb, ℤ, pos, ◌-ℤ◌}
use Rattle.ground.specs.Limits.{count_limit, weight_limit, no_capacity}

-- the counts P and T; Pre and Post flat, transition by transition; a capacity and a mark for each place
pub record Net : Type 0 where
  pub places : ℕ
  pub transitions : ℕ
  pub pre : List ℕ
  pub post : List ℕ
  pub caps : List ℕ
  pub marks : List ℕ

abbrev pub net_of : ℕ → ℕ → List ℕ → List ℕ → List ℕ → List ℕ → Net
net_of P T pre post caps marks = record { places = P; transitions = T; pre = pre; post = post; caps = caps; marks = marks }

-- "Pre(p,t), what t takes from p"
abbrev pub Pre : Net → ℕ → ℕ → ℕ
Pre net p t = get_or net.pre (t * net.places + p) 0

-- "Post(p,t), what it puts there"
abbrev pub Post : Net → ℕ → ℕ → ℕ
Post net p t = get_or net.post (t * net.places + p) 0

-- "Change(p,t) = Post - Pre."
abbrev pub Change : Net → ℕ → ℕ → ℤ
Change net p t = pos (Post net p t) -ℤ pos (Pre net p t)

abbrev pub capacity : Net → ℕ → ℕ
capacity net p = get_or net.caps p 0

-- the place has a capacity: "0 to 65,534; 65,535 means none"
abbrev pub Capped : Net → ℕ → Type 0
Capped net p = capacity net p < no_capacity

-- document 02, E5: "Each place of a net gets a mark byte: 0 plain, any other pocket, all alike"
abbrev pub mark : Net → ℕ → ℕ
mark net p = get_or net.marks p 0

abbrev pub Pocket : Net → ℕ → Type 0
Pocket net p = mark net p ≡ 0 → ⊥

-- "A pocket without capacity behaves as plain": the mark that counts, by capacity and mark
unfoldable pub in_force : ℕ → ℕ → ℕ
in_force cap mark = cond (ltb cap no_capacity) mark 0

-- of what a transition takes from a place, what leaves before anything arrives: all of it from a plain place (001), nothing from a pocket (002)
unfoldable pub leaves_first : ℕ → ℕ → ℕ
leaves_first mark takes = cond (eqb mark 0) takes 0

-- how far a place rises above its tokens while it is taken from and put to: 0 where it does not
abbrev pub rise_of : ℕ → ℕ → ℕ → ℕ
rise_of mark takes puts = puts - leaves_first mark takes

abbrev pub rise : Net → ℕ → ℕ → ℕ
rise net p t = rise_of (in_force (capacity net p) (mark net p)) (Pre net p t) (Post net p t)

-- m(p), for a marking m: a number for each place
abbrev pub tokens : List ℕ → ℕ → ℕ
tokens m p = get_or m p 0

-- no weight is above the limit (document 02, E6: else refusal 18)
pub record Light (net : Net) : Type 0 where
  pub pre : (k : ℕ) → get_or net.pre k 0 ≤ weight_limit
  pub post : (k : ℕ) → get_or net.post k 0 ≤ weight_limit

-- the counts are in range, and the net's lists have the lengths that they say
pub record Sized (net : Net) : Type 0 where
  pub some_places : 1 ≤ net.places
  pub few_places : net.places ≤ count_limit
  pub some_transitions : 1 ≤ net.transitions
  pub few_transitions : net.transitions ≤ count_limit
  pub pres : length net.pre ≡ net.transitions * net.places
  pub posts : length net.post ≡ net.transitions * net.places
  pub capped : length net.caps ≡ net.places
  pub noted : length net.marks ≡ net.places
