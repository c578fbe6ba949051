-- A word fires exactly where, at each place, the tokens cover its need and with its climb keep to the capacity. Assumes nothing.
use Prim.Native.Nat.{ℕ, ◌+◌, ◌≤◌, ◌<◌}
use mathlib.Core.Path.{◌≡◌}
use mathlib.Core.List.{List}
use lib.ListN.{length}
use Rattle.net.specs.Net.{Net, tokens}
use Rattle.net.specs.Firing.{Fires, Within}
use Rattle.refusals.specs.Given.{Letters}
use Rattle.summary_place.specs.Place.{letter_at, need, published_climb}
use Rattle.summary_place.proofs.Words.{need_peak, climb_peak}
use Rattle.summary_place.proofs.Firing.{fires_then, then_fires}
use Rattle.summary_form.proofs.Places.{Room, room_less, rising, at_each, from_each}
use Rattle.summary_form.proofs.Meaning.{climb_by_mark}

-- at place p
abbrev pub Fits : Net → List ℕ → List ℕ → ℕ → Type 0
Fits net w m p = (need (letter_at net p) w ≤ tokens m p) × Room net p (tokens m p + published_climb net p w)

pub fires_fits : {net : Net} {m w m' : List ℕ} → Fires net m w m' → Within net m → (p : ℕ) → p < net.places → Fits net w m p
fires_fits {net} {m} {w} f i p h =
    let q = fires_then (letter_at net p) (Room net p) (room_less net p) (rising net p) w (tokens m p) (i.at p h) (at_each f i p h) in
    (rw (need_peak (letter_at net p) (rising net p) w) q.0, rw (← climb_by_mark net p w, climb_peak (letter_at net p) (rising net p) w) q.1)

pub fits_fires : (net : Net) (w m : List ℕ) → length m ≡ net.places → Letters net.transitions w → ((p : ℕ) → p < net.places → Fits net w m p) → (m' : List ℕ) × Fires net m w m'
fits_fires net w m e letters fit =
    from_each net w m e letters
    (λ p h. then_fires (letter_at net p) (Room net p) (room_less net p) (rising net p) w (tokens m p)
    (rw (need_peak (letter_at net p) (rising net p) w) at (fit p h).0) (rw (← climb_by_mark net p w, climb_peak (letter_at net p) (rising net p) w) at (fit p h).1))
