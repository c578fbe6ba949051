-- What the answer to a part means, over the published relation: the part is played from the state's marking. Assumes nothing.
use Rattle.std.specs.Prelude.{Ok}
use Rattle.refusals.specs.Given.{Answer}
use Prim.Native.Nat.{ℕ, ◌+◌, ◌<◌}
use mathlib.Core.Path.{◌≡◌, refl, ap, ◌∙◌}
use mathlib.Core.List.{List}
use mathlib.Core.Logic.{◌↔◌}
use native.Mathlib.Omega.{arith}
use lib.ListN.{length, get_or, take}
use lib.Seq.{take-length}
use Rattle.net.specs.Net.{Net}
use Rattle.net.specs.Firing.{Fires, Reachable, Within, Names, cause_number}
use Rattle.net.specs.declared.Cause.{Cause}
use Rattle.net.proofs.Judged.{named_stops}
use Rattle.net.proofs.Meaning.{deterministic, within_stays}
use Rattle.plays.specs.Replay.{play_from}
use Rattle.replay.proofs.Ending.{Ending, whole, stops, no_more}
use Rattle.running.specs.State.{held, cause_place, fed_of}
use Rattle.running.specs.Entry.{Promised, Allowed}
use Rattle.running.specs.Cutting.{Slotted, Resumed, BlockedBy}
use Rattle.running.specs.declared.Running.{Running}
use Rattle.running.specs.declared.Part.{Part}
use Rattle.running.specs.declared.Part.TheVariants.{Fired, Blocked}
use Rattle.running.specs.declared.Fed.{Fed}
use Rattle.running.proofs.TwoParts.{fed_stuck, fed_fires, fed_stops, next_held, held_within, part_ending}

-- how a part ended, of the state s' and the answer r that it left
data Went (net : Net) (s : Running) (w : List ℕ) (s' : Running) (r : Answer Part) : Type 0 where
  went : r ≡ Ok (Fired (s.fired + length w)) → s'.fired ≡ s.fired + length w → Fires net (held net s) w (held net s') → Went net s w s' r
  halted : (k : ℕ) (why : Cause) → r ≡ Ok (Blocked (cause_number why) (s.fired + k) (cause_place why)) → s'.fired ≡ s.fired + k → k < length w → Fires net (held net s) (take k w) (held net s') → Names net (held net s') (get_or w k 0) why → Went net s w s' r

module _ (net : Net) (s : Running) (w : List ℕ) (a : Allowed net s w) (slots : Slotted s) (q : s.blocked ≡ 0) where
  went_as : Went net s w (fed_of net s w).state (fed_of net s w).answer
  went_as = go (part_ending net s w a slots)
    where
      go : Ending net s.fired (held net s) w (play_from net s.fired (held net s) w) → Went net s w (fed_of net s w).state (fed_of net s w).answer
      go (whole e f) = rw (fed_fires net s w a q (s.fired + length w) e) (went refl refl (rw (next_held net s w a slots) f))
      go (stops k why e h f n) =
          rw (fed_stops net s w a q (s.fired + k) why e) (halted k why refl refl h (rw (next_held net s w a slots) f) (rw (next_held net s w a slots) n))

  module _ (s' : Running) (r : Answer Part) (p : Promised net s w s' r) where
    ended : Went net s w s' r
    ended = rw (p.0, p.1) went_as

    -- "fired" exactly when the whole part fires from the state's marking, and then the state has the marking that it fires to
    pub fired_means : (n : ℕ) → r ≡ Ok (Fired n) → (n ≡ s.fired + length w) × Fires net (held net s) w (held net s')
    fired_means n e = go ended
      where
        go : Went net s w s' r → (n ≡ s.fired + length w) × Fires net (held net s) w (held net s')
        go (went f c g) = (cc, g)
        go (halted k why f c h g i) = let z : ◌≡◌ {A = ℕ} 0 1 = cc in absurd (omega arith)

    pub fires_fired : (m : List ℕ) → Fires net (held net s) w m → (r ≡ Ok (Fired (s.fired + length w))) × (held net s' ≡ m)
    fires_fired m d = go ended
      where
        go : Went net s w s' r → (r ≡ Ok (Fired (s.fired + length w))) × (held net s' ≡ m)
        go (went f c g) = (f, deterministic g d)
        go (halted k why f c h g i) = absurd (no_more w k h g (named_stops net (held net s') (get_or w k 0) why i) (length w) h m (rw take-length d))

    pub fires_exactly : (r ≡ Ok (Fired (s.fired + length w))) ↔ ((m : List ℕ) × Fires net (held net s) w m)
    fires_exactly = (λ e. (held net s', (fired_means (s.fired + length w) e).1), λ f. (fires_fired f.0 f.1).0)

    -- the letters that it adds are the longest prefix that fires, which leads to the state's marking
    pub resumes : Resumed net s w s'
    resumes = go ended
      where
        go : Went net s w s' r → Resumed net s w s'
        go (went f c g) =
            record { letters = length w; counted = c; longest = record { within = omega arith; fires = rw take-length g; more = λ j h l. absurd (omega arith) } }
        go (halted k why f c h g i) =
            record {
              letters = k;
              counted = c;
              longest = record { within = omega arith; fires = g; more = λ j l b. no_more w k h g (named_stops net (held net s') (get_or w k 0) why i) j l };
            }

    -- a block's cause is true of the marking left, and its position counts from the first part
    pub blocked_cause : (c n x : ℕ) → r ≡ Ok (Blocked c n x) → BlockedBy net s w s' c n x
    blocked_cause c n x e = go ended
      where
        go : Went net s w s' r → BlockedBy net s w s' c n x
        go (went f d g) = let z : ◌≡◌ {A = ℕ} 0 1 = cc in absurd (omega arith)
        go (halted k why f d h g i) = record { letter = k; why = why; here = h; named = i; counted = cc; caused = cc; placed = cc }

    -- the marking left is reachable from the state's, and within capacities
    pub part_reaches : Reachable net (held net s) (held net s')
    part_reaches = record { word = take resumes.letters w; fires = resumes.longest.fires }

    pub part_within : Within net (held net s')
    part_within = within_stays resumes.longest.fires (held_within net s w a slots)

-- "A block held in a lent state is handed back as it stands"
pub handed_back : (net : Net) (s : Running) (w : List ℕ) → Allowed net s w → (s.blocked ≡ 0 → ⊥) → (s' : Running) (r : Answer Part) → Promised net s w s' r → (s' ≡ s) × (r ≡ Ok (Blocked s.blocked s.position s.place))
handed_back net s w a b s' r p =
    let e = fed_stuck net s w a b in
    (p.0 ∙ ap (λ (f : Fed). f.state) e, p.1 ∙ ap (λ (f : Fed). f.answer) e)
