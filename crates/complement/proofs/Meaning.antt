-- What the complement net is for: the demands of document 01, over the published relation. Assumes nothing.
use Prim.Native.Nat.{ℕ, ◌+◌, ◌-◌, ◌≤◌, ◌<◌, zero-le}
use mathlib.Core.Path.{◌≡◌, refl, sym, ap, ◌∙◌}
use mathlib.Core.Bool.{Bool, true, false}
use mathlib.Core.List.{List}
use mathlib.Core.Logic.{◌⊎◌, inl, inr, ◌↔◌}
use native.Mathlib.Omega.{arith}
use native.Mathlib.Decide.{dec_lt}
use lib.ListN.{length, get_or, length-append, length-map, get_or-append, get_or-eq_default}
use lib.Seq.{ext_get_or, get_or-append-add}
use borrow.Author.Tests.{le-ltb, ltb-false}
use Rattle.ground.specs.Limits.{count_limit, no_capacity, token_limit}
use Rattle.ground.specs.Parts.{up, dn}
use Rattle.ground.proofs.Parts.{moved_is, up_sub, dn_sub, minus_is}
use Rattle.ground.proofs.Fill.{table_length, table_at}
use Rattle.net.specs.Net.{Net, Pre, Post, Change, rise, capacity, Capped, mark, Pocket, tokens, Sized}
use Rattle.net.specs.Firing.{Keeps, Enabled, Gives, Firing, Fires, nothing, letter, Within}
use Rattle.net.specs.Letter.{fired_at}
use Rattle.net.proofs.Judged.{gives_fired}
use Rattle.net.proofs.Meaning.{gives_plain, gives_one, firing_within}
use Rattle.net.proofs.Rule.{leaves_plain, leaves_pocket, force_capped, keeps_rise}
use Rattle.wiring.specs.Wired.{PlaceWired, TransitionWired, Wired}
use Rattle.refusals.proofs.Exactly.{Chain, Reads, tells_test, reads_test, reads_both, reads_all, net_reads, marked_reads, Answers, answers_ok, not_refused, same_refusal, fault_is, exactly_refused, is_answered, is_allowed}
use Rattle.std.specs.Prelude.{Ok, Err}
use Rattle.refusals.specs.Given.{Answer, Fault, refused, Fine}
use Rattle.refusals.specs.First.{First, Given}
use Rattle.replay.specs.Entry.{Replayed, Allowed as Replayable}
use Rattle.plays.specs.declared.Replay.{Replay}
use Rattle.plays.specs.declared.Replay.TheVariants.{Fired}
use Rattle.replay.proofs.Meaning.{answered_allowed as replayable, fired_means, fires_fired}
use Rattle.complement.specs.Complement.{Changed, made, made_places, at_made, complement_places, fall, complement_net, complement_marking, Related}
use Rattle.complement.specs.Told.{limit_fault, places_fault, places_of, places_numbers, Told, Countable, PlacesRefusal}
use Rattle.complement.specs.Entry.{Rooms, rooms_fit, complement_fault, written, complement_of, numbers, Complemented, Allowed, Refusal}
use Rattle.complement.proofs.Changes.{zero_change}
use Rattle.complement.proofs.Answers.{roomy_of, of_roomy, allowed_of, of_allowed, countable_of, of_countable}
use Rattle.complement.proofs.Choice.{chosen_is, chosen_has, map_at_lem, made_capped, made_wanted, unmade_flat}
use Rattle.complement.proofs.Entries.{pre_long, post_long, pre_old, post_old, pre_new, post_new, arcs_even, never_capped, light_stays}

-- the arcs of the new place of p, which has a capacity, with t
module _ (net : Net) (p t : ℕ) (c : Capped net p) where
  -- of a plain place "Change > 0 becomes an arc from it": what is taken from it
  pub arc_from : mark net p ≡ 0 → rise net p t ≡ up (Change net p t)
  arc_from z = rw (force_capped (capacity net p) (mark net p) c, leaves_plain (mark net p) (Pre net p t) z) (sym (ap up (minus_is (Post net p t) (Pre net p t)) ∙ up_sub (Post net p t) (Pre net p t)))

  -- "change < 0 an arc to it": what is put to it
  pub arc_to : mark net p ≡ 0 → fall net p t ≡ dn (Change net p t)
  arc_to z =
      let d = ap dn (minus_is (Post net p t) (Pre net p t)) ∙ dn_sub (Post net p t) (Pre net p t) in
      rw (force_capped (capacity net p) (mark net p) c, leaves_plain (mark net p) (Pre net p t) z) (omega (arith, d))

  -- that of a pocket "has arcs of weight Post from it and of weight Pre to it"
  pub pocket_arcs : Pocket net p → (rise net p t ≡ Post net p t) × (fall net p t ≡ Pre net p t)
  pocket_arcs k = rw (force_capped (capacity net p) (mark net p) c, leaves_pocket (mark net p) (Pre net p t) k) (omega arith, omega arith)

-- place q of the complement net: an old one, or the new place number j
pub data Place (net : Net) (q : ℕ) : Type 0 where
  old : q < net.places → Place net q
  new : (j : ℕ) → j < length (made_places net) → q ≡ net.places + j → Place net q

pub place : (net : Net) (q : ℕ) → q < complement_places net → Place net q
place net q h = go (dec_lt q net.places)
  where
    go : Dec (q < net.places) → Place net q
    go (yes b) = old b
    go (no n) = new (q - net.places) (omega arith) (omega arith)

-- the place that new place j stands for is one of the net's, has a capacity, and is a pocket or some transition changes it
module _ (net : Net) (j : ℕ) (h : j < length (made_places net)) where
  pub made_place : get_or (made_places net) j 0 < net.places
  made_place = omega (arith, (chosen_is (made net) 0 net.places j h).below)

  pub made_cap : Capped net (get_or (made_places net) j 0)
  made_cap = made_capped net (get_or (made_places net) j 0) (chosen_is (made net) 0 net.places j h).passes

  pub made_why : Pocket net (get_or (made_places net) j 0) ⊎ Changed net (get_or (made_places net) j 0)
  made_why = made_wanted net (get_or (made_places net) j 0) (chosen_is (made net) 0 net.places j h).passes

-- a marking within capacities has one related marking, the one that is written
module _ (net : Net) where
  pub marking_related : (m : List ℕ) → Within net m → Related net m (complement_marking net m)
  marking_related m w =
      record {
        long = length-append m (at_made net (λ p. capacity net p - tokens m p)) ∙ omega (arith, w.long, length-map (made_places net) (λ p. capacity net p - tokens m p));
        old = λ p h. get_or-append m (at_made net (λ p. capacity net p - tokens m p)) 0 p (omega (arith, w.long));
        new = λ j h. fresh j h;
      }
    where
      fresh : (j : ℕ) → j < length (made_places net) → tokens (complement_marking net m) (net.places + j) + tokens m (get_or (made_places net) j 0) ≡ capacity net (get_or (made_places net) j 0)
      fresh j h =
          let e : tokens (complement_marking net m) (net.places + j) ≡ capacity net (get_or (made_places net) j 0) - tokens m (get_or (made_places net) j 0) =
          ap (λ (k : ℕ). tokens (complement_marking net m) (k + j)) (sym w.long)
          ∙ get_or-append-add m (at_made net (λ p. capacity net p - tokens m p)) j 0
          ∙ map_at_lem (λ p. capacity net p - tokens m p) (made_places net) j h in
          omega (arith, e, w.at (get_or (made_places net) j 0) (made_place net j h) (made_cap net j h))

  pub related_one : (m a b : List ℕ) → Related net m a → Related net m b → a ≡ b
  related_one m a b x y =
      ext_get_or 0 a b (x.long ∙ sym y.long) (λ q h. go q (place net q (omega (arith, x.long))))
    where
      go : (q : ℕ) → Place net q → tokens a q ≡ tokens b q
      go q (old h) = x.old q h ∙ sym (y.old q h)
      go q (new j h e) = rw e (omega (arith, x.new j h, y.new j h))

-- "The same words fire": one letter, from related markings, the first within capacities
module _ (net : Net) (sized : Sized net) (m m' : List ℕ) (within : Within net m) (related : Related net m m') (t : ℕ) (named : t < net.transitions) where
  enabled_to : Enabled net m t → Enabled (complement_net net) m' t
  enabled_to e = record { covers = λ q h. go q (place net q h); keeps = λ q h c. absurd (never_capped net q h c) }
    where
      go : (q : ℕ) → Place net q → Pre (complement_net net) q t ≤ tokens m' q
      go q (old h) = omega (arith, pre_old net sized t named q h, related.old q h, e.covers q h)
      go q (new j h eq) =
          let p = get_or (made_places net) j 0 in
          let k = (keeps_rise net m t p (within.at p (made_place net j h))).0 (e.keeps p (made_place net j h)) (made_cap net j h) in
          rw eq (omega (arith, pre_new net sized t named j h, related.new j h, k))

  enabled_from : Enabled (complement_net net) m' t → Enabled net m t
  enabled_from e = record { covers = λ p h. omega (arith, pre_old net sized t named p h, related.old p h, e.covers p (omega arith)); keeps = λ p h. kept p h }
    where
      -- there is room for the rise: the new place covers it; or there is none, since the place is plain and no transition changes it, and
      -- then nothing rises and the tokens are within the capacity as they are
      room : (p : ℕ) → p < net.places → Capped net p → (b : Bool) → made net p ≡ b → tokens m p + rise net p t ≤ capacity net p
      room p h c true q =
          let f = chosen_has (made net) 0 net.places p (record { from = zero-le; below = omega arith; passes = q }) in
          let x : get_or (made_places net) f.0 0 ≡ p = f.2 in
          omega (arith, rw x at (pre_new net sized t named f.0 f.1), rw x at (related.new f.0 f.1), e.covers (net.places + f.0) (omega (arith, f.1)))
      room p h c false q = omega (arith, unmade_flat net p t named c q, within.at p h c)

      kept : (p : ℕ) → p < net.places → Keeps net m t p
      kept p h = (keeps_rise net m t p (within.at p h)).1 (λ c. room p h c (made net p) refl)

  -- a letter is enabled in the one net exactly when in the other
  pub letter_same : Enabled net m t ↔ Enabled (complement_net net) m' t
  letter_same = (enabled_to, enabled_from)

  gives_to : (n n' : List ℕ) → Gives net m t n → Related net n n' → Gives (complement_net net) m' t n'
  gives_to n n' g r = record { long = r.long; at = λ q h. (moved_is (tokens m' q) (Post (complement_net net) q t) (Pre (complement_net net) q t) (tokens n' q)).1 (go q (place net q h)) }
    where
      go : (q : ℕ) → Place net q → tokens n' q + Pre (complement_net net) q t ≡ tokens m' q + Post (complement_net net) q t
      go q (old h) =
          omega (arith, pre_old net sized t named q h, post_old net sized t named q h, related.old q h, r.old q h, gives_plain g q h)
      go q (new j h eq) =
          rw eq
          (omega (arith, pre_new net sized t named j h, post_new net sized t named j h, arcs_even net (get_or (made_places net) j 0) t, related.new j h, r.new j h, gives_plain g (get_or (made_places net) j 0) (made_place net j h)))

  -- and it leads to related markings
  pub letter_to : (n : List ℕ) → Firing net m t n → (n' : List ℕ) × Firing (complement_net net) m' t n' × Related net n n'
  letter_to n f =
      let r = marking_related net n (firing_within f) in
      (complement_marking net n, record { named = named; enabled = enabled_to f.enabled; gives = gives_to n (complement_marking net n) f.gives r }, r)

  pub letter_from : (n' : List ℕ) → Firing (complement_net net) m' t n' → (n : List ℕ) × Firing net m t n × Related net n n'
  letter_from n' f =
      let e = enabled_from f.enabled in
      let g : Firing net m t (fired_at net t m) = record { named = named; enabled = e; gives = gives_fired net m t within.long e } in
      let r = marking_related net (fired_at net t m) (firing_within g) in
      let q = gives_one (gives_to (fired_at net t m) (complement_marking net (fired_at net t m)) g.gives r) f.gives in
      (fired_at net t m, g, rw q at r)

-- So a word fires in the one exactly when in the other, with the same marking on old places. Of a capped place without a new place the
-- complement net knows no limit, and needs none: it is plain and no transition changes it, so it keeps its tokens (`unchanged_stays`), and those of the
-- first marking are within its capacity (`Within`, which an initial marking that may be given has: `fine_within`).
module _ (net : Net) (sized : Sized net) where
  pub word_to : {m w n : List ℕ} (m' : List ℕ) → Within net m → Related net m m' → Fires net m w n → (n' : List ℕ) × Fires (complement_net net) m' w n' × Related net n n'
  word_to m' i r nothing = (m', nothing, r)
  word_to m' i r (letter f l) =
      let a = letter_to net sized _ m' i r _ f.named _ f in
      let b = word_to a.0 (firing_within f) a.2 l in
      (b.0, letter a.1 b.1, b.2)

  pub word_from : {m' w n' : List ℕ} (m : List ℕ) → Within net m → Related net m m' → Fires (complement_net net) m' w n' → (n : List ℕ) × Fires net m w n × Related net n n'
  word_from m i r nothing = (m, nothing, r)
  word_from m i r (letter f l) =
      let a = letter_from net sized m _ i r _ f.named _ f in
      let b = word_from a.0 (firing_within a.1) a.2 l in
      (b.0, letter a.1 b.1, b.2)

  pub words_same : (m m' w : List ℕ) → Within net m → Related net m m' → ((n : List ℕ) × Fires net m w n) ↔ ((n' : List ℕ) × Fires (complement_net net) m' w n')
  words_same m m' w i r = (λ f. let a = word_to m' i r f.1 in (a.0, a.1), λ f. let a = word_from m i r f.1 in (a.0, a.1))

-- what is written is a net and a marking that every entry accepts
module _ (net : Net) (sized : Sized net) where
  pub sized_stays : complement_places net ≤ count_limit → Sized (complement_net net)
  sized_stays few =
      record {
        some_places = omega (arith, sized.some_places);
        few_places = few;
        some_transitions = sized.some_transitions;
        few_transitions = sized.few_transitions;
        pres = pre_long net sized;
        posts = post_long net sized;
        capped = table_length (λ p. no_capacity) (complement_places net);
        noted = table_length (λ p. 0) (complement_places net);
      }

  -- nothing hangs loose in it, where nothing did: a new place has an arc with each transition that changes the place it stands for, and
  -- that of a pocket with each that has one with the pocket
  pub complement_wired : Wired net → Wired (complement_net net)
  complement_wired w = record { places = λ q h. go q (place net q h); transitions = λ t h. old_arc t h (w.transitions t h) }
    where
      old_arc : (t : ℕ) → t < net.transitions → TransitionWired net t → TransitionWired (complement_net net) t
      old_arc t h a =
          record { place = a.place; here = omega (arith, a.here); arc = omega (arith, a.arc, pre_old net sized t h a.place a.here, post_old net sized t h a.place a.here) }

      go : (q : ℕ) → Place net q → PlaceWired (complement_net net) q
      go q (old b) =
          let a = w.places q b in
          record { transition = a.transition; named = a.named; arc = omega (arith, a.arc, pre_old net sized a.transition a.named q b, post_old net sized a.transition a.named q b) }
      go q (new j b e) = rw e (new_arc (made_why net j b))
        where
          p : ℕ
          p = get_or (made_places net) j 0

          new_arc : Pocket net p ⊎ Changed net p → PlaceWired (complement_net net) (net.places + j)
          new_arc (inl k) =
              let a = w.places p (made_place net j b) in
              let x = pre_new net sized a.transition a.named j b in
              let y = post_new net sized a.transition a.named j b in
              record { transition = a.transition; named = a.named; arc = omega (arith, a.arc, pocket_arcs net p a.transition (made_cap net j b) k) }
          new_arc (inr c) =
              let x = pre_new net sized c.transition c.named j b in
              let y = post_new net sized c.transition c.named j b in
              let z : Pre net p c.transition ≡ Post net p c.transition → ⊥ = λ d. c.changes ((zero_change net p c.transition).1 d) in
              record { transition = c.transition; named = c.named; arc = omega (arith, arcs_even net p c.transition) }

  module _ (m : List ℕ) (marked : length m ≡ net.places) (fine : Fine net.caps m) where
    pub fine_within : Within net m
    fine_within = record { long = marked; at = λ p h c. fine.within p (omega (arith, marked)) }

    -- the initial markings are related
    pub starts_related : Related net m (complement_marking net m)
    starts_related = marking_related net m fine_within

    few_tokens : (q : ℕ) → Dec (q < complement_places net) → tokens (complement_marking net m) q ≤ token_limit
    few_tokens q (yes h) = go q (place net q h)
      where
        go : (q : ℕ) → Place net q → tokens (complement_marking net m) q ≤ token_limit
        go q (old b) = rw (starts_related.old q b) (fine.few.at q)
        go q (new j b e) = let c = made_cap net j b in rw e (omega (arith, starts_related.new j b))
    few_tokens q (no h) = rw (get_or-eq_default (complement_marking net m) 0 {n = q} (omega (arith, starts_related.long))) zero-le

    pub fine_stays : Fine (complement_net net).caps (complement_marking net m)
    fine_stays =
        record {
          few = record { at = λ q. few_tokens q (dec_lt q (complement_places net)) };
          within = λ q h.
              omega (arith, few_tokens q (dec_lt q (complement_places net)), table_at (λ p. no_capacity) (complement_places net) q 0 (omega (arith, starts_related.long)));
        }

-- so the replay of any word on it answers fired exactly when on the original, and the rooms then hold related markings
module _ (net : Net) (initial : List ℕ) (rooms : Rooms) (allowed : Allowed net initial rooms) (w room room' : List ℕ)
    (long : length room ≡ net.places) (long' : length room' ≡ complement_places net)
    (r r' : Answer Replay) (left left' : List ℕ) (p : Replayed net initial w true room r left) (p' : Replayed (complement_net net) (complement_marking net initial) w true room' r' left') where
  inside : Within net initial
  inside = fine_within net allowed.sized initial allowed.marked allowed.fine

  start : Related net initial (complement_marking net initial)
  start = starts_related net allowed.sized initial allowed.marked allowed.fine

  pub to_other : Replayable net initial w true room → Replayable (complement_net net) (complement_marking net initial) w true room'
  to_other a =
      record {
        sized = sized_stays net allowed.sized allowed.few;
        light = light_stays net allowed.light;
        marked = start.long;
        roomy = long';
        inside = refl;
        fine = fine_stays net allowed.sized initial allowed.marked allowed.fine;
        wired = complement_wired net allowed.sized allowed.wired;
        short = a.short;
        letters = a.letters;
      }

  pub from_other : Replayable (complement_net net) (complement_marking net initial) w true room' → Replayable net initial w true room
  from_other a =
      record { sized = allowed.sized; light = allowed.light; marked = allowed.marked; roomy = long; inside = refl; fine = allowed.fine; wired = allowed.wired; short = a.short; letters = a.letters }

  fired_to : (n : ℕ) → r ≡ Ok (Fired n) → (r' ≡ Ok (Fired n)) × Related net left left'
  fired_to n e =
      let a = replayable net initial w true room r left p (λ k at q. not_refused (Fired n) k at (sym e ∙ q)) in
      let f = fired_means net initial w true room r left p a n e in
      let g = word_to net allowed.sized (complement_marking net initial) inside start f.1 in
      let h = fires_fired (complement_net net) (complement_marking net initial) w true room' r' left' p' (to_other a) g.0 g.1 in
      (h.0 ∙ ap (λ (k : ℕ). Ok (Fired k)) (sym f.0), rw h.1 g.2)

  fired_from : (n : ℕ) → r' ≡ Ok (Fired n) → r ≡ Ok (Fired n)
  fired_from n e =
      let a = replayable (complement_net net) (complement_marking net initial) w true room' r' left' p' (λ k at q. not_refused (Fired n) k at (sym e ∙ q)) in
      let f = fired_means (complement_net net) (complement_marking net initial) w true room' r' left' p' a n e in
      let g = word_from net allowed.sized initial inside start f.1 in
      let h = fires_fired net initial w true room r left p (from_other a) g.0 g.1 in
      h.0 ∙ ap (λ (k : ℕ). Ok (Fired k)) (sym f.0)

  pub replay_same : (n : ℕ) → (r ≡ Ok (Fired n)) ↔ (r' ≡ Ok (Fired n))
  replay_same n = (λ e. (fired_to n e).0, fired_from n)

  pub replay_related : (n : ℕ) → r ≡ Ok (Fired n) → Related net left left'
  replay_related n e = (fired_to n e).1

-- ---- the answers: `numbers` tells any two apart, and each promise has one answer
pub places_apart : (a b : Answer ℕ) → places_numbers a ≡ places_numbers b → a ≡ b
places_apart (Ok n) (Ok k) e = ap Ok (cc)
places_apart (Ok n) (Err r) e = let z : ◌≡◌ {A = ℕ} 0x81 0x82 = cc in absurd (omega arith)
places_apart (Err r) (Ok k) e = let z : ◌≡◌ {A = ℕ} 0x82 0x81 = cc in absurd (omega arith)
places_apart (Err r) (Err s) e = same_refusal r s (cc) (cc)

pub numbers_apart : (a b : Fault) → numbers a ≡ numbers b → a ≡ b
numbers_apart (Ok _) (Ok _) e = refl
numbers_apart (Ok _) (Err r) e = let z : ◌≡◌ {A = ℕ} 0x81 0x82 = cc in absurd (omega arith)
numbers_apart (Err r) (Ok _) e = let z : ◌≡◌ {A = ℕ} 0x82 0x81 = cc in absurd (omega arith)
numbers_apart (Err r) (Err s) e = same_refusal r s (cc) (cc)

pub places_unique : (net : Net) (r r' : Answer ℕ) → Told net r → Told net r' → r ≡ r'
places_unique net r r' a b = places_apart r r' (a.answer ∙ sym b.answer)

pub unique : (net : Net) (initial : List ℕ) (rooms : Rooms) (r r' : Fault) (a b : Rooms) → Complemented net initial rooms r a → Complemented net initial rooms r' b → (r ≡ r') × (a ≡ b)
unique net initial rooms r r' a b x y = (numbers_apart r r' (x.answer ∙ sym y.answer), x.left ∙ sym y.left)

-- the chains of refusals, read demand by demand
limit_reads : (net : Net) → Reads (limit_fault (complement_places net)) (λ n at Next. First (complement_places net ≤ count_limit) (Given 10 0 n at) Next)
unfolding limit_fault
limit_reads net = reads_test (tells_test _ 10 0 (λ e. ltb-false count_limit (complement_places net) e) (λ h. le-ltb count_limit (complement_places net) h))

places_chain : (net : Net) → Chain (places_fault net) (PlacesRefusal net)
unfolding places_fault
places_chain net = reads_all (reads_both (net_reads net true {Others = Unit {0}} (λ e. tt) (λ u. refl)) (limit_reads net))

net_chain : (net : Net) (initial : List ℕ) (rooms : Rooms) → Chain (complement_fault net initial (rooms_fit net rooms)) (Refusal net initial rooms)
unfolding complement_fault
net_chain net initial rooms = reads_all (reads_both (marked_reads net initial (rooms_fit net rooms) (roomy_of net rooms) (of_roomy net rooms)) (limit_reads net))

-- how many places: told exactly where nothing is refused, and then the number of the complement net's
module _ (net : Net) (r : Answer ℕ) (promise : Told net r) where
  told_is : r ≡ places_of net
  told_is = places_apart r (places_of net) promise.answer

  told_answers : Answers (places_fault net) r
  told_answers = answers_ok (places_fault net) (complement_places net) r told_is

  -- a refusal has the number and position of the first of 01's demands that does not hold, and is given exactly then
  pub places_refused_exactly : (n at : ℕ) → (r ≡ refused n at) ↔ PlacesRefusal net n at
  places_refused_exactly = exactly_refused told_answers (places_chain net)

  pub places_allowed_answered : Countable net → (n at : ℕ) → r ≡ refused n at → ⊥
  places_allowed_answered = is_answered told_answers (of_countable net)

  pub places_answered_allowed : ((n at : ℕ) → r ≡ refused n at → ⊥) → Countable net
  places_answered_allowed = is_allowed told_answers (countable_of net)

  pub places_told : Countable net → r ≡ Ok (complement_net net).places
  places_told c = told_is ∙ rw (of_countable net c)

-- the net: written exactly where nothing is refused, and then it is the complement net by its definition
module _ (net : Net) (initial : List ℕ) (rooms : Rooms) (r : Fault) (rooms' : Rooms) (p : Complemented net initial rooms r rooms') where
  answer_is : r ≡ (complement_of net initial rooms).answer
  answer_is = numbers_apart r (complement_of net initial rooms).answer p.answer

  net_answers : Answers (complement_fault net initial (rooms_fit net rooms)) r
  net_answers = record { given = λ n at f. answer_is ∙ rw f; never = λ f n at e. not_refused tt n at (sym (rw f at answer_is) ∙ e) }

  -- a refusal has the number and position of the first of 01's demands that does not hold, and is given exactly then
  pub refused_exactly : (n at : ℕ) → (r ≡ refused n at) ↔ Refusal net initial rooms n at
  refused_exactly = exactly_refused net_answers (net_chain net initial rooms)

  -- "A refusal leaves lent memory as found."
  pub refused_as_found : (n at : ℕ) → r ≡ refused n at → rooms' ≡ rooms
  refused_as_found n at e = let f = fault_is net_answers n at e in rw f at p.left

  pub allowed_answered : Allowed net initial rooms → (n at : ℕ) → r ≡ refused n at → ⊥
  allowed_answered = is_answered net_answers (of_allowed net initial rooms)

  pub answered_allowed : ((n at : ℕ) → r ≡ refused n at → ⊥) → Allowed net initial rooms
  answered_allowed = is_allowed net_answers (allowed_of net initial rooms)

  pub allowed_made : Allowed net initial rooms → (r ≡ Ok tt) × (rooms' ≡ written net initial)
  allowed_made a = let f = of_allowed net initial rooms a in (rw f at answer_is, rw f at p.left)
