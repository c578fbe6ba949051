-- What the answer about two logs means: the demands of document 02's E3, over the published relation, and what a replay says of the order. Assumes nothing.
use Rattle.std.specs.Prelude.{Ok}
use Rattle.refusals.specs.Given.{Answer}
use Prim.Native.Nat.{ℕ, ◌+◌}
use mathlib.Core.Path.{◌≡◌, refl, ap, ◌∙◌}
use mathlib.Core.Bool.{true}
use mathlib.Core.List.{List}
use mathlib.Core.Logic.{◌↔◌, ◌⊎◌}
use native.Mathlib.Omega.{arith}
use lib.ListN.{length}
use Rattle.net.specs.Net.{Net}
use Rattle.net.specs.Firing.{Fires}
use Rattle.replay.specs.Entry.{Replayed, Allowed as Replayable}
use Rattle.plays.specs.declared.Replay.{Replay}
use Rattle.plays.specs.declared.Replay.TheVariants.{Fired}
use Rattle.replay.proofs.Meaning.{fires_fired, fired_means}
use Rattle.orders.specs.Orders.{OrderOf, woven, picked, Earlier, logs_of, Runs}
use Rattle.orders.specs.Search.{an_order, way_of}
use Rattle.orders.proofs.Meaning as orders
use Rattle.order.specs.Entry.{Ordered, Allowed}
use Rattle.order.specs.declared.LogOrder.{LogOrder}
use Rattle.order.specs.declared.LogOrder.TheVariants.{Found, NoneFires}
use Rattle.order.proofs.Exactly.{found_allowed, none_allowed, found_way, none_way, way_found, way_none_fires}

-- without clocks an order of the two logs need only fire
pub runs_of : (net : Net) (first second m order m' : List ℕ) → OrderOf first second order → Fires net m (woven order first second) m' → Runs (logs_of net first second) m order
runs_of net first second m order m' o f = record { of_both = o; kept = record { at = λ j h. refl }; reached = m'; fires = f }

module _ (net : Net) (initial first second room work : List ℕ) (r : Answer LogOrder) (room' work' : List ℕ) (promise : Ordered net initial first second room work r room' work') where
  allowed_if : r ≡ Ok Found → Allowed net initial first second room work
  allowed_if = found_allowed net initial first second room work r room' work' promise

  way_if : r ≡ Ok Found → way_of (logs_of net first second) initial ≡ an_order room'
  way_if = found_way net initial first second room work r room' work' promise

  -- "an order that keeps each log's own order and fires": the room holds an order of the two logs, whose word fires from the initial marking
  pub found_fires : r ≡ Ok Found → Runs (logs_of net first second) initial room'
  found_fires e = orders.way_runs (logs_of net first second) initial (allowed_if e).marked (way_if e)

  -- "Of several, give the one that takes from the first log at the earliest place where two differ": no order that fires is earlier
  pub found_first : r ≡ Ok Found → (other : List ℕ) → Runs (logs_of net first second) initial other → Earlier other room' → ⊥
  found_first e = orders.way_first (logs_of net first second) initial (allowed_if e).marked (way_if e)

  -- .. and it is earlier than each other one that fires
  pub found_earliest : r ≡ Ok Found → (other : List ℕ) → Runs (logs_of net first second) initial other → (room' ≡ other) ⊎ Earlier room' other
  found_earliest e = orders.way_earliest (logs_of net first second) initial (allowed_if e).marked (way_if e)

  -- "keeps each log's own order": the letters that the order takes from a log are that log
  pub keeps_order : r ≡ Ok Found → (picked 0 room' (woven room' first second) ≡ first) × (picked 1 room' (woven room' first second) ≡ second)
  keeps_order e = orders.keeps_order (found_fires e).of_both

  module _ (allowed : Allowed net initial first second room work) where
    -- ""None" is given exactly when no such order fires"
    pub none_exactly : (r ≡ Ok NoneFires) ↔ ((order m' : List ℕ) → OrderOf first second order → Fires net initial (woven order first second) m' → ⊥)
    none_exactly = (
      λ e order m' o f. orders.way_none (logs_of net first second) initial allowed.marked (none_way net initial first second room work r room' work' promise e) order (runs_of net first second initial order m' o f),
      λ h. (way_none_fires net initial first second room work r room' work' promise allowed (orders.none_way (logs_of net first second) initial allowed.marked (λ order x. h order x.reached x.of_both x.fires))).0,
    )

    -- .. and this order is given exactly when it fires and none that fires is earlier
    pub found_exactly : (order : List ℕ)
        → ((r ≡ Ok Found) × (room' ≡ order)) ↔ (Runs (logs_of net first second) initial order × ((other : List ℕ) → Runs (logs_of net first second) initial other → Earlier other order → ⊥))
    found_exactly order = (
      λ h. (rw (← h.1) (found_fires h.0), rw (← h.1) (found_first h.0)),
      λ h. way_found net initial first second room work r room' work' promise allowed order (orders.first_way (logs_of net first second) initial allowed.marked h.0 h.1),
    )

  -- what a replay is lent of an order of the two logs is allowed
  replayable : (a : Allowed net initial first second room work) (order tokens : List ℕ) → OrderOf first second order → length tokens ≡ net.places → Replayable net initial (woven order first second) true tokens
  replayable a order tokens o l =
      record {
        sized = a.sized;
        light = a.light;
        marked = a.marked;
        roomy = l;
        inside = refl;
        fine = a.fine;
        wired = a.wired;
        short = omega (arith, orders.woven_long o, a.short_first, a.short_second);
        letters = orders.woven_letters net.transitions first second order a.letters_first a.letters_second;
      }

  -- the word that the order found makes, given to `replay_word`, is answered "fired" with all letters of both logs
  pub replays : r ≡ Ok Found → (tokens : List ℕ) (s : Answer Replay) (tokens' : List ℕ) → length tokens ≡ net.places
      → Replayed net initial (woven room' first second) true tokens s tokens' → s ≡ Ok (Fired (length first + length second))
  replays e tokens s tokens' l p =
      let f = found_fires e in
      (fires_fired net initial (woven room' first second) true tokens s tokens' p (replayable (allowed_if e) room' tokens f.of_both l) f.reached f.fires).0
      ∙ ap (λ (n : ℕ). Ok (Fired n)) (orders.woven_long f.of_both)

  -- where none is answered, no order's word is answered "fired"
  pub none_replays : r ≡ Ok NoneFires → (order : List ℕ) → OrderOf first second order → (tokens : List ℕ) (s : Answer Replay) (tokens' : List ℕ) → length tokens ≡ net.places
      → Replayed net initial (woven order first second) true tokens s tokens' → (n : ℕ) → s ≡ Ok (Fired n) → ⊥
  none_replays e order o tokens s tokens' l p n q =
      let a = none_allowed net initial first second room work r room' work' promise e in
      (none_exactly a).0 e order tokens' o (fired_means net initial (woven order first second) true tokens s tokens' p (replayable a order tokens o l) n q).1
