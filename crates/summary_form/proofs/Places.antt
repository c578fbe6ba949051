-- Firing in the whole net is firing at each place, so that what holds at one place is said once, for any number of places. Assumes nothing.
use Prim.Native.Nat.{ℕ, suc, ◌+◌, ◌-◌, ◌≤◌, ◌<◌}
use mathlib.Core.Path.{◌≡◌, sym, ap, ◌∙◌}
use mathlib.Core.List.{List, [], ◌∷◌}
use native.Mathlib.Omega.{arith}
use native.Mathlib.Nat.{le_trans}
use lib.ListN.{length}
use lib.IntN.{ℤ, pos, ◌+ℤ◌, +ℤ_assoc, +ℤ_idr}
use Rattle.net.specs.Net.{Net, Pre, Post, Change, rise, capacity, Capped, mark, in_force, tokens}
use Rattle.net.specs.Letter.{fired_at}
use Rattle.net.specs.Firing.{Enabled, Gives, Fires, nothing, letter, Within}
use Rattle.net.proofs.Meaning.{gives_plain, firing_within}
use Rattle.net.proofs.Rule.{leaves_most, keeps_rise}
use Rattle.net.proofs.Judged.{gives_fired}
use Rattle.refusals.specs.Given.{Letters}
use Rattle.summary_place.specs.Place.{letter_at, change}
use Rattle.summary_place.proofs.Words.{Rising}
use Rattle.summary_place.proofs.Firing.{FiresAt, at_none, at_more, more_at}

-- place p has room for n tokens
abbrev pub Room : Net → ℕ → ℕ → Type 0
Room net p n = Capped net p → n ≤ capacity net p

pub room_less : (net : Net) (p m n : ℕ) → m ≤ n → Room net p n → Room net p m
room_less net p m n h r c = le_trans h (r c)

pub rising : (net : Net) (p : ℕ) → Rising (letter_at net p)
rising net p = record { kept = λ t. omega (arith, leaves_most (in_force (capacity net p) (mark net p)) (Pre net p t)) }

pub tail_letters : (n t : ℕ) (w : List ℕ) → Letters n (t ∷ w) → Letters n w
tail_letters n t w l = record { at = λ k h. l.at (suc k) (omega arith) }

-- a word that fires does so at each place
pub at_each : {net : Net} {m w m' : List ℕ} → Fires net m w m' → Within net m → (p : ℕ) → p < net.places → FiresAt (letter_at net p) (Room net p) (tokens m p) w
at_each {net} {m} nothing i p h = at_none (letter_at net p) (Room net p) (tokens m p)
at_each {net} {m} (letter {m' = m'} {t = t} {w = w} f l) i p h =
    let g = gives_plain f.gives p h in
    let e : tokens m' p ≡ (tokens m p + Post net p t) - Pre net p t = omega arith in
    at_more (letter_at net p) (Room net p) (tokens m p) t w (f.enabled.covers p h) ((keeps_rise net m t p (i.at p h)).0 (f.enabled.keeps p h))
    (rw e at (at_each l (firing_within f) p h))

-- and a word that fires at each place fires
pub from_each : (net : Net) (w m : List ℕ) → length m ≡ net.places → Letters net.transitions w → ((p : ℕ) → p < net.places → FiresAt (letter_at net p) (Room net p) (tokens m p) w) → (m' : List ℕ) × Fires net m w m'
from_each net [] m e l f = (m, nothing)
from_each net (t ∷ w) m e l f =
    let r = from_each net w (fired_at net t m) g.long (tail_letters net.transitions t w l) next in
    (r.0, letter (record { named = l.at 0 (omega arith); enabled = on; gives = g }) r.1)
  where
    here : (p : ℕ) → p < net.places → (Pre net p t ≤ tokens m p) × (Room net p (tokens m p + rise net p t) × FiresAt (letter_at net p) (Room net p) ((tokens m p + Post net p t) - Pre net p t) w)
    here p h = more_at (letter_at net p) (Room net p) (tokens m p) t w (f p h)

    on : Enabled net m t
    on =
        record {
          covers = λ p h. (here p h).0;
          keeps = λ p h. (keeps_rise net m t p (λ c. omega (arith, (here p h).1.0 c))).1 (here p h).1.0;
        }

    g : Gives net m t (fired_at net t m)
    g = gives_fired net m t e on

    next : (p : ℕ) → p < net.places → FiresAt (letter_at net p) (Room net p) (tokens (fired_at net t m) p) w
    next p h =
        let q : tokens (fired_at net t m) p ≡ (tokens m p + Post net p t) - Pre net p t = omega (arith, gives_plain g p h) in
        rw q (here p h).1.1

-- the end marking is the marking plus change
pub ends_at : {net : Net} {m w m' : List ℕ} → Fires net m w m' → (p : ℕ) → p < net.places → pos (tokens m' p) ≡ pos (tokens m p) +ℤ change (letter_at net p) w
unfolding change
ends_at {net} {m} nothing p h = sym (+ℤ_idr (pos (tokens m p)))
ends_at {net} {m} (letter {m' = m'} {t = t} {w = w} f l) p h =
    ends_at l p h
    ∙ ap (λ (z : ℤ). z +ℤ change (letter_at net p) w) (f.gives.at p h)
    ∙ +ℤ_assoc (pos (tokens m p)) (Change net p t) (change (letter_at net p) w)
