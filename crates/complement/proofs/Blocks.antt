-- Where a letter is stopped in the net and in its complement net, the causes are tied: and so are two replays' blocks. Assumes nothing.
use Prim.Native.Nat.{ℕ, ◌+◌, ◌*◌, ◌<◌, zero-le}
use mathlib.Core.Path.{◌≡◌, refl, sym, ap, ◌∙◌}
use mathlib.Core.Bool.{Bool, true, false}
use mathlib.Core.List.{List}
use mathlib.Core.Logic.{◌↔◌}
use native.Mathlib.Omega.{arith}
use native.Mathlib.Decide.{dec_lt}
use lib.ListN.{length, get_or}
use lib.Signed.{clash_ℤ}
use Rattle.net.specs.Net.{Net, capacity, mark, Sized}
use Rattle.net.specs.Firing.{Within, ShortAt, OverAt, Names}
use Rattle.net.specs.declared.Cause.{Cause}
use Rattle.net.specs.declared.Cause.TheVariants.{Short, Over}
use Rattle.net.proofs.Meaning.{deterministic}
use Rattle.net.proofs.Rule.{force_capped, level_lt}
use Rattle.weights.specs.Heavy.{LightAt}
use Rattle.std.specs.Prelude.{Ok, Err}
use Rattle.refusals.specs.Given.{Answer, refused}
use Rattle.refusals.proofs.Exactly.{not_refused}
use Rattle.refusals.specs.First.{First, fails, holds, Counts, Lengths}
use Rattle.replay.specs.Entry.{Replayed, Allowed as Replayable, Refusal, letters_fired, Longest}
use Rattle.plays.specs.declared.Replay.{Replay}
use Rattle.plays.specs.declared.Replay.TheVariants.{Fired, Blocked}
use Rattle.replay.proofs.Meaning.{answered_allowed as replayable, allowed_answered as never_refused, fired_means, fired_longest, blocked_cause, left_within}
use Rattle.complement.specs.Complement.{made, made_places, complement_places, complement_net, complement_marking, Related}
use Rattle.complement.specs.Entry.{Rooms, Allowed}
use Rattle.complement.specs.Held.{NewOf, Tied, Ready}
use Rattle.complement.proofs.Choice.{chosen_has, chosen_order, unmade_flat}
use Rattle.complement.proofs.Entries.{pre_old, pre_new, never_capped}
use Rattle.complement.proofs.Meaning.{Place, old, new, place, made_place, made_cap, fine_within, starts_related, word_to, word_from, to_other, from_other}

-- one letter, from related markings, the first within capacities
module _ (net : Net) (sized : Sized net) (m m' : List ℕ) (within : Within net m) (related : Related net m m') (t : ℕ) (named : t < net.transitions) where
  -- an old place is short in the one exactly where it is in the other
  pub short_old : (p : ℕ) → p < net.places → ShortAt net m t p ↔ ShortAt (complement_net net) m' t p
  short_old p h =
      let a = pre_old net sized t named p h in
      let b = related.old p h in
      (λ s. omega arith, λ s. omega arith)

  -- what is over at a place is short at its new place
  pub over_new : (j : ℕ) → j < length (made_places net) → OverAt net m t (get_or (made_places net) j 0) ↔ ShortAt (complement_net net) m' t (net.places + j)
  over_new j h =
      let p = get_or (made_places net) j 0 in
      let c = made_cap net j h in
      let x = level_lt net m t p (capacity net p) in
      let w = within.at p (made_place net j h) c in
      let a = rw (force_capped (capacity net p) (mark net p) c) at (pre_new net sized t named j h) in
      let b = related.new j h in
      (λ o. let y = x.0 o.1 in omega arith, λ s. (c, x.1 (omega arith)))

  -- a place that is over has a new place
  over_made : (p : ℕ) → p < net.places → OverAt net m t p → (j : ℕ) × (j < length (made_places net)) × (get_or (made_places net) j 0 ≡ p)
  over_made p h o = go (made net p) refl
    where
      go : (b : Bool) → made net p ≡ b → (j : ℕ) × (j < length (made_places net)) × (get_or (made_places net) j 0 ≡ p)
      go true q = chosen_has (made net) 0 net.places p (record { from = zero-le; below = omega arith; passes = q })
      go false q =
          let x = (level_lt net m t p (capacity net p)).0 o.1 in
          let f = rw (force_capped (capacity net p) (mark net p) o.0) at (unmade_flat net p t named o.0 q) in
          let w = within.at p h o.0 in
          absurd (omega arith)

  -- the lowest of one is tied to the lowest of the other: short comes before over, and old places before new ones
  pub causes_tied : (why why' : Cause) → Names net m t why → Names (complement_net net) m' t why' → Tied net why why'
  causes_tied (Short p) (Short q) a b = (a.here, go (dec_lt p q) (dec_lt q p))
    where
      go : Dec (p < q) → Dec (q < p) → q ≡ p
      go (yes h) k = let s = (short_old p a.here).0 a.short in let c = b.lowest p h in absurd (omega arith)
      go (no h) (yes k) = let l = a.here in let s = (short_old q (omega arith)).1 b.short in let c = a.lowest q k in absurd (omega arith)
      go (no h) (no k) = omega arith
  causes_tied (Over p) (Short q) a b = go (place net q b.here) (over_made p a.here a.over)
    where
      go : Place net q → (j : ℕ) × (j < length (made_places net)) × (get_or (made_places net) j 0 ≡ p) → NewOf net p q
      go (old h) f = let s = (short_old q h).1 b.short in let c = a.covers q h in absurd (omega arith)
      go (new j h e) f = record { number = j; here = h; stands = ap (λ (k : ℕ). get_or (made_places net) k 0) (same (dec_lt f.0 j) (dec_lt j f.0)) ∙ f.2; after = e }
        where
          same : Dec (f.0 < j) → Dec (j < f.0) → j ≡ f.0
          same (yes l) k =
              let s = (over_new f.0 f.1).0 (rw f.2 a.over) in
              let c = b.lowest (net.places + f.0) (omega arith) in
              absurd (omega arith)
          same (no l) (yes k) =
              let o = (over_new j h).1 (rw e at b.short) in
              absurd (clash_ℤ o.1 (a.lowest (get_or (made_places net) j 0) (rw f.2 at (chosen_order (made net) 0 net.places j f.0 k f.1)) o.0))
          same (no l) (no k) = omega arith
  causes_tied (Short p) (Over q) a b = never_capped net q b.here b.over.0
  causes_tied (Over p) (Over q) a b = never_capped net q b.here b.over.0

-- what is refused of two nets that are ready lies in the word, and is alike where they have as many transitions
ready_counts : {net : Net} {m room : List ℕ} → Ready net m room → Counts net
ready_counts a =
    record { some_places = a.sized.some_places; few_places = a.sized.few_places; some_transitions = a.sized.some_transitions; few_transitions = a.sized.few_transitions }

both_hold : {D D' G G' N N' : Type 0} → D → D' → (N → N') → First D G N → First D' G' N'
both_hold d d' f (fails n g) = absurd (n d)
both_hold d d' f (holds x k) = holds d' (f k)

hold_alike : {D D' G N N' : Type 0} → (D → D') → (D' → D) → (N → N') → First D G N → First D' G N'
hold_alike to from f (fails n g) = fails (λ d. n (from d)) g
hold_alike to from f (holds x k) = holds (to x) (f k)

pub refusal_same : (net net' : Net) (m m' w : List ℕ) (within : Bool) (room room' : List ℕ) → net'.transitions ≡ net.transitions → Ready net m room → Ready net' m' room' → (n at : ℕ) → Refusal net m w within room n at → Refusal net' m' w within room' n at
refusal_same net net' m m' w within room room' e a b n at =
    both_hold (ready_counts a) (ready_counts b) (hold_alike (λ l. lengths b l.others.1.1) (λ l. lengths a l.others.1.1) (both_hold (lights a) (lights b) (both_hold a.fine b.fine
    (both_hold a.wired.places b.wired.places (both_hold a.wired.transitions b.wired.transitions (λ x. rw e x))))))
  where
    lengths : {k : Net} {u v : List ℕ} → Ready k u v → within ≡ true → Lengths k ((length u ≡ k.places) × ((length v ≡ k.places) × (within ≡ true)))
    lengths c i = record { pres = c.sized.pres; posts = c.sized.posts; capped = c.sized.capped; noted = c.sized.noted; others = (c.marked, (c.roomy, i)) }

    lights : {k : Net} {u v : List ℕ} → Ready k u v → (t : ℕ) → t < k.transitions → LightAt k t
    lights {k} c t h = record { pre = λ p l. c.light.pre (t * k.places + p); post = λ p l. c.light.post (t * k.places + p) }

-- two replays of one word, as `replay_same` has them
module _ (net : Net) (initial : List ℕ) (rooms : Rooms) (allowed : Allowed net initial rooms) (w room room' : List ℕ)
    (long : length room ≡ net.places) (long' : length room' ≡ complement_places net)
    (r r' : Answer Replay) (left left' : List ℕ) (p : Replayed net initial w true room r left) (p' : Replayed (complement_net net) (complement_marking net initial) w true room' r' left') where
  inside : Within net initial
  inside = fine_within net allowed.sized initial allowed.marked allowed.fine

  start : Related net initial (complement_marking net initial)
  start = starts_related net allowed.sized initial allowed.marked allowed.fine

  -- neither is refused: both fire as many letters, and leave related markings
  module _ (a : Replayable net initial w true room) (b : Replayable (complement_net net) (complement_marking net initial) w true room') where
    one : Longest net initial w (letters_fired r) left
    one = fired_longest net initial w true room r left p a

    other : Longest (complement_net net) (complement_marking net initial) w (letters_fired r') left'
    other = fired_longest (complement_net net) (complement_marking net initial) w true room' r' left' p' b

    as_many : letters_fired r' ≡ letters_fired r
    as_many = go (dec_lt (letters_fired r') (letters_fired r)) (dec_lt (letters_fired r) (letters_fired r'))
      where
        go : Dec (letters_fired r' < letters_fired r) → Dec (letters_fired r < letters_fired r') → letters_fired r' ≡ letters_fired r
        go (yes h) k = let f = word_to net allowed.sized (complement_marking net initial) inside start one.fires in absurd (other.more (letters_fired r) h one.within f.0 f.1)
        go (no h) (yes k) = let f = word_from net allowed.sized initial inside start other.fires in absurd (one.more (letters_fired r') k other.within f.0 f.1)
        go (no h) (no k) = omega arith

    pub left_related : Related net left left'
    left_related =
        let f = word_to net allowed.sized (complement_marking net initial) inside start one.fires in
        rw (deterministic (rw as_many at other.fires) f.1) f.2

    -- both blocked: at the same position, for tied causes
    both_blocked : (i k : ℕ) (why why' : Cause) → r ≡ Ok (Blocked i why) → r' ≡ Ok (Blocked k why') → (k ≡ i) × Tied net why why'
    both_blocked i k why why' e e' =
        let q : k ≡ i = sym (ap letters_fired e') ∙ as_many ∙ ap letters_fired e in
        let c = blocked_cause net initial w true room r left p a i why e in
        let d = blocked_cause (complement_net net) (complement_marking net initial) w true room' r' left' p' b k why' e' in
        (q, causes_tied net allowed.sized left left' (left_within net initial w true room r left p a) left_related (get_or w i 0) (a.letters.at i c.0) why why' c.1 (rw q at d.1))

    -- one blocked: so is the other, since neither has fired the whole word
    blocked_to : (i : ℕ) (why : Cause) → r ≡ Ok (Blocked i why) → (why' : Cause) × (r' ≡ Ok (Blocked i why')) × Tied net why why'
    blocked_to i why e = go r' refl
      where
        go : (x : Answer Replay) → r' ≡ x → (why' : Cause) × (r' ≡ Ok (Blocked i why')) × Tied net why why'
        go (Ok (Fired n)) q =
            let l = (fired_means (complement_net net) (complement_marking net initial) w true room' r' left' p' b n q).0 in
            let c = (blocked_cause net initial w true room r left p a i why e).0 in
            let k : n ≡ i = sym (ap letters_fired q) ∙ as_many ∙ ap letters_fired e in
            absurd (omega arith)
        go (Ok (Blocked k why')) q = let t = both_blocked i k why why' e q in (why', q ∙ ap (λ (z : ℕ). Ok (Blocked z why')) t.0, t.1)
        go (Err y) q = absurd (never_refused (complement_net net) (complement_marking net initial) w true room' r' left' p' b y.number y.at q)

    blocked_from : (i : ℕ) (why' : Cause) → r' ≡ Ok (Blocked i why') → (why : Cause) × (r ≡ Ok (Blocked i why)) × Tied net why why'
    blocked_from i why' e = go r refl
      where
        go : (x : Answer Replay) → r ≡ x → (why : Cause) × (r ≡ Ok (Blocked i why)) × Tied net why why'
        go (Ok (Fired n)) q =
            let l = (fired_means net initial w true room r left p a n q).0 in
            let c = (blocked_cause (complement_net net) (complement_marking net initial) w true room' r' left' p' b i why' e).0 in
            let k : i ≡ n = sym (ap letters_fired e) ∙ as_many ∙ ap letters_fired q in
            absurd (omega arith)
        go (Ok (Blocked k why)) q = let t = both_blocked k i why why' q e in (why, q ∙ ap (λ (z : ℕ). Ok (Blocked z why)) (sym t.0), t.1)
        go (Err y) q = absurd (never_refused net initial w true room r left p a y.number y.at q)

  pub answered_related : ((n at : ℕ) → r ≡ refused n at → ⊥) → Related net left left'
  answered_related h =
      let a = replayable net initial w true room r left p h in
      left_related a (to_other net initial rooms allowed w room room' long long' r r' left left' p p' a)

  -- what is blocked is not refused
  pub blocks_tied : (i : ℕ) (why : Cause) → r ≡ Ok (Blocked i why) → (why' : Cause) × (r' ≡ Ok (Blocked i why')) × Tied net why why'
  blocks_tied i why e =
      let a = replayable net initial w true room r left p (λ k at q. not_refused (Blocked i why) k at (sym e ∙ q)) in
      blocked_to a (to_other net initial rooms allowed w room room' long long' r r' left left' p p' a) i why e

  pub blocks_tied_only : (i : ℕ) (why' : Cause) → r' ≡ Ok (Blocked i why') → (why : Cause) × (r ≡ Ok (Blocked i why)) × Tied net why why'
  blocks_tied_only i why' e =
      let b = replayable (complement_net net) (complement_marking net initial) w true room' r' left' p' (λ k at q. not_refused (Blocked i why') k at (sym e ∙ q)) in
      blocked_from (from_other net initial rooms allowed w room room' long long' r r' left left' p p' b) b i why' e
