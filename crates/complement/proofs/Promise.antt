-- Demand 2, from the promise: what is true, over the published relation, of the net that the rooms hold where `complement_net` has answered made. Assumes nothing.
use Prim.Native.Nat.{ℕ, ◌+◌, ◌≤◌, ◌<◌, zero-le}
use mathlib.Core.Path.{◌≡◌, refl, sym, ap, ◌∙◌}
use mathlib.Core.Bool.{Bool, true}
use mathlib.Core.List.{List}
use mathlib.Core.Logic.{◌⊎◌, inl, inr, ◌↔◌}
use native.Mathlib.Omega.{arith}
use lib.ListN.{length, get_or}
use Rattle.ground.specs.Limits.{no_capacity}
use Rattle.ground.proofs.Fill.{table_length, table_at}
use Rattle.net.specs.Net.{Net, Pre, Post, capacity, Capped, mark, Pocket, tokens}
use Rattle.net.specs.Firing.{Fires, Within}
use Rattle.net.specs.declared.Cause.{Cause}
use Rattle.net.specs.declared.Cause.TheVariants.{Short, Over}
use Rattle.net.proofs.Meaning.{deterministic}
use Rattle.std.specs.Prelude.{Ok}
use Rattle.refusals.specs.Given.{Answer, Fault, refused, Fine}
use Rattle.refusals.proofs.Exactly.{not_refused}
use Rattle.complement.proofs.Meaning.{complement_wired}
use Rattle.replay.specs.Entry.{Replayed, Refusal as ReplayRefusal}
use Rattle.plays.specs.declared.Replay.{Replay}
use Rattle.plays.specs.declared.Replay.TheVariants.{Fired, Blocked}
use Rattle.replay.proofs.Meaning.{answered_allowed as replayable, refused_exactly as replay-refused-exactly, blocked_cause}
use Rattle.complement.specs.Complement.{Changed, made, made_places, complement_places, complement_net, complement_marking, Related}
use Rattle.complement.specs.Told.{Told, Countable}
use Rattle.complement.specs.Entry.{Rooms, written, Complemented, Allowed}
use Rattle.complement.specs.Held.{held_net, OldPlace, NewPlace, MadeInOrder, NewOf, Tied, TiedBlock, Ready, RoomsFor}
use Rattle.complement.proofs.Changes.{loop_unchanged, unchanged_stays}
use Rattle.complement.proofs.Choice.{chosen_has, chosen_order, wanted_made}
use Rattle.complement.proofs.Entries.{pre_old, post_old, pre_new, post_new, light_stays}
use Rattle.complement.proofs.Meaning.{arc_from, arc_to, pocket_arcs, made_place, made_cap, made_why, answered_allowed, allowed_made, fine_within, starts_related, sized_stays, fine_stays, word_to, word_from, replay_same, places_answered_allowed, places_told}
use Rattle.complement.proofs.Blocks.{refusal_same, answered_related, blocks_tied, blocks_tied_only}

-- "Each capped place, in order of number, gets a new place", if it is a pocket or "some transition changes" it: these do, and no other
pub made_in_order : (net : Net) → MadeInOrder net (made_places net)
made_in_order net =
    record {
      here = made_place net;
      capped = made_cap net;
      wanted = made_why net;
      each = λ p h c d. chosen_has (made net) 0 net.places p (record { from = zero-le; below = omega arith; passes = wanted_made net p c d });
      order = chosen_order (made net) 0 net.places;
    }

-- a plain capped place that only loops touch, each of which puts back what it takes, gets none: it would hang loose
pub loop_no_place : (net : Net) (p : ℕ) → mark net p ≡ 0 → ((t : ℕ) → t < net.transitions → Pre net p t ≡ Post net p t) → (q : ℕ) → NewOf net p q → ⊥
loop_no_place net p plain same q x = go (rw x.stands at (made_why net x.number x.here))
  where
    go : Pocket net p ⊎ Changed net p → ⊥
    go (inl k) = k plain
    go (inr c) = loop_unchanged net p same c

-- that of a capped pocket "is always made"
pub pocket_place : (net : Net) (p : ℕ) → p < net.places → Capped net p → Pocket net p → (q : ℕ) × NewOf net p q
pocket_place net p h c k =
    let f = (made_in_order net).each p h c (inl k) in
    (net.places + f.0, record { number = f.0; here = f.1; stands = f.2; after = refl })

-- a replay that fired or is blocked is no refusal
fired_answered : {s : Answer Replay} (k : ℕ) → s ≡ Ok (Fired k) → (n at : ℕ) → s ≡ refused n at → ⊥
fired_answered k e n at q = not_refused (Fired k) n at (sym e ∙ q)

blocked_answered : {s : Answer Replay} (i : ℕ) (why : Cause) → s ≡ Ok (Blocked i why) → (n at : ℕ) → s ≡ refused n at → ⊥
blocked_answered i why e n at q = not_refused (Blocked i why) n at (sym e ∙ q)

module _ (net : Net) (initial : List ℕ) (rooms : Rooms) (r : Fault) (rooms' : Rooms) (promise : Complemented net initial rooms r rooms') (e : r ≡ Ok tt) where
  -- what was lent was allowed
  pub made_allowed : Allowed net initial rooms
  made_allowed = answered_allowed net initial rooms r rooms' promise (λ n at q. not_refused tt n at (sym e ∙ q))

  rooms_are : rooms' ≡ written net initial
  rooms_are = (allowed_made net initial rooms r rooms' promise made_allowed).1

  -- the rooms hold the complement net, and the last its initial marking
  pub made_net : held_net net.transitions rooms' ≡ complement_net net
  made_net = rw (rooms_are, table_length (λ p. no_capacity) (complement_places net))

  pub made_initial : rooms'.initial ≡ complement_marking net initial
  made_initial = rw rooms_are

  inside : Within net initial
  inside = fine_within net made_allowed.sized initial made_allowed.marked made_allowed.fine

  start : Related net initial (complement_marking net initial)
  start = starts_related net made_allowed.sized initial made_allowed.marked made_allowed.fine

  -- The complement net fires the very same words., and along them "old places agree, and each new place holds capacity minus tokens"
  pub made_fires : (w m : List ℕ) → Fires net initial w m → (m' : List ℕ) × Fires (held_net net.transitions rooms') rooms'.initial w m' × Related net m m'
  made_fires w m f = rw (made_net, made_initial) (word_to net made_allowed.sized (complement_marking net initial) inside start f)

  pub made_fires_only : (w m' : List ℕ) → Fires (held_net net.transitions rooms') rooms'.initial w m' → (m : List ℕ) × Fires net initial w m × Related net m m'
  made_fires_only w m' f = word_from net made_allowed.sized initial inside start (rw (made_net, made_initial) at f)

  pub made_fires_same : (w : List ℕ) → ((m : List ℕ) × Fires net initial w m) ↔ ((m' : List ℕ) × Fires (held_net net.transitions rooms') rooms'.initial w m')
  made_fires_same w = (λ f. let a = made_fires w f.0 f.1 in (a.0, a.1), λ f. let a = made_fires_only w f.0 f.1 in (a.0, a.1))

  -- so whatever markings a word leads to in the two are related
  pub made_fires_related : (w m m' : List ℕ) → Fires net initial w m → Fires (held_net net.transitions rooms') rooms'.initial w m' → Related net m m'
  made_fires_related w m m' f g = let a = made_fires w m f in rw (deterministic g a.1) a.2

  -- a place that no transition changes holds its first tokens after every word of the made net too: within its capacity, if it has one
  pub made_unchanged_stays : (p : ℕ) → p < net.places → (Changed net p → ⊥) → (w m' : List ℕ) → Fires (held_net net.transitions rooms') rooms'.initial w m' → (tokens m' p ≡ tokens initial p) × (tokens m' p ≤ capacity net p)
  made_unchanged_stays p h u w m' f =
      let a = made_fires_only w m' f in
      let e : tokens m' p ≡ tokens initial p = a.2.old p h ∙ unchanged_stays net p h u a.1 in
      (e, rw e (made_allowed.fine.within p (omega (arith, made_allowed.marked))))

  -- what the complement net has, the held net has
  held_has : (Q : Net → Type 0) → Q (complement_net net) → Q (held_net net.transitions rooms')
  held_has Q q = rw made_net q

  -- the old places, and after them those that are made (`made_in_order`)
  pub made_places_lem : (held_net net.transitions rooms').places ≡ net.places + length (made_places net)
  made_places_lem = held_has (λ k. k.places ≡ complement_places net) refl

  -- "No capacities remain."
  pub made_no_capacity : (q : ℕ) → q < (held_net net.transitions rooms').places → capacity (held_net net.transitions rooms') q ≡ no_capacity
  made_no_capacity = held_has (λ k. (q : ℕ) → q < k.places → capacity k q ≡ no_capacity) (λ q h. table_at (λ p. no_capacity) (complement_places net) q 0 h)

  -- "The complement net's places are all plain."
  pub made_plain : (q : ℕ) → q < (held_net net.transitions rooms').places → mark (held_net net.transitions rooms') q ≡ 0
  made_plain = held_has (λ k. (q : ℕ) → q < k.places → mark k q ≡ 0) (λ q h. table_at (λ p. 0) (complement_places net) q 0 h)

  -- arcs and tokens of the old places are the net's
  pub made_old_places : (p : ℕ) → p < net.places → OldPlace net initial (held_net net.transitions rooms') rooms'.initial p
  made_old_places p h =
      rw (made_net, made_initial)
      (record { takes = λ t l. pre_old net made_allowed.sized t l p h; puts = λ t l. post_old net made_allowed.sized t l p h; holds = start.old p h })

  new_at : (j : ℕ) → j < length (made_places net) → NewPlace net initial (complement_net net) (complement_marking net initial) (get_or (made_places net) j 0) (net.places + j)
  new_at j h =
      let p = get_or (made_places net) j 0 in
      let c = made_cap net j h in
      record {
        takes = λ z t l. pre_new net made_allowed.sized t l j h ∙ arc_from net p t c z;
        puts = λ z t l. post_new net made_allowed.sized t l j h ∙ arc_to net p t c z;
        pocket_takes = λ k t l. pre_new net made_allowed.sized t l j h ∙ (pocket_arcs net p t c k).0;
        pocket_puts = λ k t l. post_new net made_allowed.sized t l j h ∙ (pocket_arcs net p t c k).1;
        holds = start.new j h;
      }

  -- "starting with capacity minus tokens. Change > 0 becomes an arc from it, change < 0 an arc to it."; a pocket's has "arcs of weight
  -- Post from it and of weight Pre to it"
  pub made_new_places : (p q : ℕ) → NewOf net p q → NewPlace net initial (held_net net.transitions rooms') rooms'.initial p q
  made_new_places p q x = rw (made_net, made_initial, x.after, ← x.stands) (new_at x.number x.here)

  -- of the made net and its initial marking nothing is refused
  pub made_ready : (room : List ℕ) → length room ≡ (held_net net.transitions rooms').places → Ready (held_net net.transitions rooms') rooms'.initial room
  made_ready room long =
      let l : length room ≡ complement_places net = long ∙ made_places_lem in
      let x : Ready (complement_net net) (complement_marking net initial) room = record {
        sized = sized_stays net made_allowed.sized made_allowed.few;
        light = light_stays net made_allowed.light;
        marked = start.long;
        roomy = l;
        fine = fine_stays net made_allowed.sized initial made_allowed.marked made_allowed.fine;
        wired = complement_wired net made_allowed.sized made_allowed.wired;
      } in
      rw (made_net, made_initial) x

  -- two replays of one word, or of one stretch: on the net from its initial marking, and on the made net from the made marking
  module _ (w : List ℕ) (within : Bool) (room room'' : List ℕ) (long : length room ≡ net.places) (long'' : length room'' ≡ (held_net net.transitions rooms').places)
      (s s'' : Answer Replay) (left left'' : List ℕ) (p : Replayed net initial w within room s left) (p'' : Replayed (held_net net.transitions rooms') rooms'.initial w within room'' s'' left'') where
    -- where one is not refused, the stretch is inside its word
    answered_inside : ((n at : ℕ) → s ≡ refused n at → ⊥) → within ≡ true
    answered_inside h = (replayable net initial w within room s left p h).inside

    answered_inside'' : ((n at : ℕ) → s'' ≡ refused n at → ⊥) → within ≡ true
    answered_inside'' h = (replayable (held_net net.transitions rooms') rooms'.initial w within room'' s'' left'' p'' h).inside

    on_net : within ≡ true → Replayed net initial w true room s left
    on_net q = rw q at p

    on_complement : within ≡ true → Replayed (complement_net net) (complement_marking net initial) w true room'' s'' left''
    on_complement q = rw (q, made_net, made_initial) at p''

    -- where nothing is refused the two leave related markings, whether fired or blocked
    pub made_left_related : ((n at : ℕ) → s ≡ refused n at → ⊥) → Related net left left''
    made_left_related h =
        let q = answered_inside h in
        answered_related net initial rooms made_allowed w room room'' long (long'' ∙ made_places_lem) s s'' left left'' (on_net q) (on_complement q) h

    -- one is refused exactly if the other is, with the same number and position
    pub made_refused_same : (n at : ℕ) → (s ≡ refused n at) ↔ (s'' ≡ refused n at)
    made_refused_same n at = (
      λ f. other.1 (refusal_same net held initial rooms'.initial w within room room'' refl ready (made_ready room'' long'') n at (one.0 f)),
      λ f. one.1 (refusal_same held net rooms'.initial initial w within room'' room refl (made_ready room'' long'') ready n at (other.0 f)),
    )
      where
        held : Net
        held = held_net net.transitions rooms'

        ready : Ready net initial room
        ready = record { sized = made_allowed.sized; light = made_allowed.light; marked = made_allowed.marked; roomy = long; fine = made_allowed.fine; wired = made_allowed.wired }

        one : (s ≡ refused n at) ↔ ReplayRefusal net initial w within room n at
        one = replay-refused-exactly net initial w within room s left p n at

        other : (s'' ≡ refused n at) ↔ ReplayRefusal (held_net net.transitions rooms') rooms'.initial w within room'' n at
        other = replay-refused-exactly (held_net net.transitions rooms') rooms'.initial w within room'' s'' left'' p'' n at

    -- one has fired the whole word exactly if the other has
    pub made_fired_same : (n : ℕ) → (s ≡ Ok (Fired n)) ↔ (s'' ≡ Ok (Fired n))
    made_fired_same n = (λ f. (same (answered_inside (fired_answered n f))).0 f, λ f. (same (answered_inside'' (fired_answered n f))).1 f)
      where
        same : within ≡ true → (s ≡ Ok (Fired n)) ↔ (s'' ≡ Ok (Fired n))
        same q = replay_same net initial rooms made_allowed w room room'' long (long'' ∙ made_places_lem) s s'' left left'' (on_net q) (on_complement q) n

    -- one is blocked exactly if the other is, at the same position, and their causes are tied
    pub made_blocked : (i : ℕ) (why : Cause) → s ≡ Ok (Blocked i why) → (why'' : Cause) × (s'' ≡ Ok (Blocked i why'')) × Tied net why why''
    made_blocked i why f =
        let q = answered_inside (blocked_answered i why f) in
        blocks_tied net initial rooms made_allowed w room room'' long (long'' ∙ made_places_lem) s s'' left left'' (on_net q) (on_complement q) i why f

    pub made_blocked_only : (i : ℕ) (why'' : Cause) → s'' ≡ Ok (Blocked i why'') → (why : Cause) × (s ≡ Ok (Blocked i why)) × Tied net why why''
    made_blocked_only i why'' f =
        let q = answered_inside'' (blocked_answered i why'' f) in
        blocks_tied_only net initial rooms made_allowed w room room'' long (long'' ∙ made_places_lem) s s'' left left'' (on_net q) (on_complement q) i why'' f

    pub made_blocked_same : (i : ℕ) → ((why : Cause) × (s ≡ Ok (Blocked i why))) ↔ ((why'' : Cause) × (s'' ≡ Ok (Blocked i why'')))
    made_blocked_same i = (λ f. let a = made_blocked i f.0 f.1 in (a.0, a.1), λ f. let a = made_blocked_only i f.0 f.1 in (a.0, a.1))

    -- of both blocks, all that 01 says of one, and what ties them
    pub made_block_means : (i : ℕ) (why why'' : Cause) → s ≡ Ok (Blocked i why) → s'' ≡ Ok (Blocked i why'') → TiedBlock net (held_net net.transitions rooms') w left left'' i why why''
    made_block_means i why why'' f g =
        let a = replayable net initial w within room s left p (blocked_answered i why f) in
        let b = replayable (held_net net.transitions rooms') rooms'.initial w within room'' s'' left'' p'' (blocked_answered i why'' g) in
        let c = blocked_cause net initial w within room s left p a i why f in
        let d = blocked_cause (held_net net.transitions rooms') rooms'.initial w within room'' s'' left'' p'' b i why'' g in
        record { here = c.0; markings = made_left_related (blocked_answered i why f); named = c.1; named' = d.1; causes = go (made_blocked i why f) }
      where
        go : (x : Cause) × (s'' ≡ Ok (Blocked i x)) × Tied net why x → Tied net why why''
        go (x, h, t) = let y : x ≡ why'' = cc in rw y at t

    -- short at an old place in the one exactly if in the other: it is the lowest short place of both
    pub made_blocked_short : (i q : ℕ) → (s ≡ Ok (Blocked i (Short q))) ↔ ((q < net.places) × (s'' ≡ Ok (Blocked i (Short q))))
    made_blocked_short i q = (λ f. to (made_blocked i (Short q) f), λ f. from f.0 (made_blocked_only i (Short q) f.1))
      where
        to : (why'' : Cause) × (s'' ≡ Ok (Blocked i why'')) × Tied net (Short q) why'' → (q < net.places) × (s'' ≡ Ok (Blocked i (Short q)))
        to (Short k, f, t) = (t.0, f ∙ ap (λ (z : ℕ). Ok (Blocked i (Short z))) t.1)
        to (Over k, f, t) = absurd t

        from : q < net.places → (why : Cause) × (s ≡ Ok (Blocked i why)) × Tied net why (Short q) → s ≡ Ok (Blocked i (Short q))
        from h (Short k, f, t) = f ∙ ap (λ (z : ℕ). Ok (Blocked i (Short z))) (sym t.1)
        from h (Over k, f, t) = let a = t.after in absurd (omega arith)

    -- over at a place of the net exactly if short at its new place: where no old place is short, that is the lowest short place
    pub made_blocked_over : (i q : ℕ) → (s ≡ Ok (Blocked i (Over q))) ↔ ((k : ℕ) × NewOf net q k × (s'' ≡ Ok (Blocked i (Short k))))
    made_blocked_over i q = (λ f. to (made_blocked i (Over q) f), λ f. from f.0 f.1 (made_blocked_only i (Short f.0) f.2))
      where
        to : (why'' : Cause) × (s'' ≡ Ok (Blocked i why'')) × Tied net (Over q) why'' → (k : ℕ) × NewOf net q k × (s'' ≡ Ok (Blocked i (Short k)))
        to (Short k, f, t) = (k, t, f)
        to (Over k, f, t) = absurd t

        from : (k : ℕ) → NewOf net q k → (why : Cause) × (s ≡ Ok (Blocked i why)) × Tied net why (Short k) → s ≡ Ok (Blocked i (Over q))
        from k a (Short j, f, t) = let x = t.0 in let y = t.1 in let z = a.after in absurd (omega arith)
        from k a (Over j, f, t) =
            let x = a.after in
            let y = t.after in
            let n : t.number ≡ a.number = omega arith in
            f ∙ ap (λ (z : ℕ). Ok (Blocked i (Over z))) (sym t.stands ∙ ap (λ (z : ℕ). get_or (made_places net) z 0) n ∙ a.stands)

    -- the complement net is never over
    pub made_never_over : (i q : ℕ) → s'' ≡ Ok (Blocked i (Over q)) → ⊥
    made_never_over i q f = go (made_blocked_only i (Over q) f)
      where
        go : (why : Cause) × (s ≡ Ok (Blocked i why)) × Tied net why (Over q) → ⊥
        go (Short k, f, t) = t
        go (Over k, f, t) = t

-- `complement_places` answers n: the places of the net that `complement_net` makes, and of the rooms that it wants for it
module _ (net : Net) (r : Answer ℕ) (promise : Told net r) (n : ℕ) (e : r ≡ Ok n) where
  told_countable : Countable net
  told_countable = places_answered_allowed net r promise (λ k at q. not_refused n k at (sym e ∙ q))

  told_is : complement_places net ≡ n
  told_is = let q = places_told net r promise told_countable in cc

  module _ (initial : List ℕ) (rooms : Rooms) (a : Fault) (rooms' : Rooms) (answer : Complemented net initial rooms a rooms') where
    -- n is how many places the made net has
    pub told_places : a ≡ Ok tt → (held_net net.transitions rooms').places ≡ n
    told_places f = made_places_lem net initial rooms a rooms' answer f ∙ told_is

    -- with a marking that may be given, rooms of these lengths are all that is wanted, and no others will do
    pub told_rooms : length initial ≡ net.places → Fine net.caps initial → (a ≡ Ok tt) ↔ RoomsFor net.transitions n rooms
    told_rooms marked fine = (there, back)
      where
        there : a ≡ Ok tt → RoomsFor net.transitions n rooms
        there f =
            let y = (made_allowed net initial rooms a rooms' answer f).roomy in
            rw (← told_is) (record { pres = y.pres; posts = y.posts; caps = y.capped; marks = y.noted; initials = y.initials })

        back : RoomsFor net.transitions n rooms → a ≡ Ok tt
        back y =
            let z = rw (← told_is) at y in
            (allowed_made net initial rooms a rooms' answer
            (record { sized = told_countable.sized; light = told_countable.light; marked = marked; roomy = record { pres = z.pres; posts = z.posts; capped = z.caps; noted = z.marks; initials = z.initials }; fine = fine; wired = told_countable.wired; few = told_countable.few })).0
