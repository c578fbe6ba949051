-- Where nothing is refused, what is lent can be searched, and what is found is the answer. Assumes nothing.
use Rattle.std.specs.Prelude.{Ok}
use Prim.Native.Nat.{ℕ}
use mathlib.Core.Path.{◌≡◌, refl, sym, ◌∙◌}
use mathlib.Core.Bool.{Bool, true, false}
use mathlib.Core.List.{List}
use Rattle.ground.proofs.Tests.{never}
use Rattle.net.specs.Net.{Net}
use Rattle.orders.specs.Search.{Way, no_order, an_order, way_of}
use Rattle.orders.specs.Orders.{logs_of}
use Rattle.order_find.specs.Walk.{Begins, Sought}
use Rattle.order.specs.declared.LogOrder.TheVariants.{Found, NoneFires}
use Rattle.order.specs.Entry.{order_fault, rooms_fit, Ordered, Allowed}
use Rattle.order.proofs.Exactly.{allowed_of}

module _ (net : Net) (initial first second room work : List ℕ) (fits : Bool)
    (ef : fits ≡ rooms_fit first second room work) (e : Ok tt ≡ order_fault net initial first second fits) where
  pub found_begins : Begins (logs_of net first second) initial room work
  found_begins =
      let a : Allowed net initial first second room work = allowed_of net initial first second room work (rw (← ef) (sym e)) in
      record {
        ready = record {
          sized = a.sized;
          light = a.light;
          few_first = a.short_first;
          few_second = a.short_second;
          letters_first = a.letters_first;
          letters_second = a.letters_second;
        };
        marked = a.marked;
        small = a.fine.few;
        roomy = a.roomy;
        bytes = a.bytes;
      }

  -- `r` tells whether an order was found
  module _ (r : Bool) (room' work' : List ℕ) (s : Sought (logs_of net first second) initial room r room' work') where
    pub ordered_found : r ≡ true → Ordered net initial first second room work (Ok Found) room' work'
    ordered_found h = go (way_of (logs_of net first second) initial) refl
      where
        go : (way : Way) → way_of (logs_of net first second) initial ≡ way → Ordered net initial first second room work (Ok Found) room' work'
        go no_order w = never (sym h ∙ rw w at s.answer)
        go (an_order order) w = (record { answer = rw (← ef, ← e, w); left = rw (← ef, ← e, w) (rw w at s.left); cleared = rw (← ef, ← e, w) s.zero })

    pub ordered_none : r ≡ false → Ordered net initial first second room work (Ok NoneFires) room' work'
    ordered_none h = go (way_of (logs_of net first second) initial) refl
      where
        go : (way : Way) → way_of (logs_of net first second) initial ≡ way → Ordered net initial first second room work (Ok NoneFires) room' work'
        go no_order w = record { answer = rw (← ef, ← e, w); left = rw (← ef, ← e, w) (rw w at s.left); cleared = rw (← ef, ← e, w) s.zero }
        go (an_order order) w = never (sym (rw w at s.answer) ∙ h)
