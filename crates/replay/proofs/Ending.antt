-- How a word's replay ends, by the published relation: the whole word fires, or a prefix does and the next letter's cause is true. Assumes nothing.
use Prim.Native.Nat.{ℕ, zero, suc, ◌+◌, ◌<◌, zero-le, suc-le-suc}
use mathlib.Core.Path.{◌≡◌, refl, ap, ◌∙◌}
use mathlib.Core.List.{List, [], ◌∷◌}
use native.Mathlib.Omega.{arith}
use native.Mathlib.Nat.{not-suc-le-zero, le_of_suc-le-suc}
use lib.ListN.{length, get_or, take}
use Rattle.ground.proofs.Fill.{map_at_length}
use Rattle.net.specs.Net.{Net}
use Rattle.net.specs.Firing.{Enabled, Firing, Fires, nothing, letter, Names}
use Rattle.net.specs.Letter.{arcs_at, after, judge_at, fired_at}
use Rattle.net.specs.declared.Cause.{Cause}
use Rattle.std.specs.Prelude.{Result, Ok, Err}
use Rattle.net.proofs.Judged.{enabled_of, gives_fired, names_of, passes_judged}
use Rattle.net.proofs.Meaning.{gives_one, fires_nil, fires_cons}
use Rattle.refusals.specs.Given.{Letters}
use Rattle.plays.specs.Replay.{Ran, play_from}
use Rattle.plays.specs.declared.Replay.TheVariants.{Fired, Blocked}

-- the replay of w from m ended as `ran`, its first letter being number i
pub data Ending (net : Net) (i : ℕ) (m w : List ℕ) (ran : Ran) : Type 0 where
  whole : ran.answer ≡ Fired (i + length w) → Fires net m w ran.left → Ending net i m w ran
  stops : (k : ℕ) (why : Cause) → ran.answer ≡ Blocked (i + k) why → k < length w → Fires net m (take k w) ran.left → Names net ran.left (get_or w k 0) why → Ending net i m w ran

ending_cons : (net : Net) (i : ℕ) (m m₁ : List ℕ) (t : ℕ) (w : List ℕ) (ran : Ran) → Firing net m t m₁ → Ending net (i + 1) m₁ w ran → Ending net i m (t ∷ w) ran
ending_cons net i m m₁ t w ran f (whole e g) =
    let q : i + 1 + length w ≡ i + suc (length w) = omega arith in
    whole (e ∙ ap Fired q) (letter f g)
ending_cons net i m m₁ t w ran f (stops k why e h g n) =
    let q : i + 1 + k ≡ i + suc k = omega arith in
    stops (suc k) why (e ∙ ap (λ (z : ℕ). Blocked z why) q) (suc-le-suc h) (letter f g) n

pub ending : (net : Net) (i : ℕ) (m w : List ℕ) → length m ≡ net.places → Letters net.transitions w → Ending net i m w (play_from net i m w)
unfolding play_from
ending net i m [] h b = let q : i ≡ i + 0 = omega arith in whole (ap Fired q) nothing
ending net i m (t ∷ w) h b =
    go (judge_at net t m) refl
    (ending net (i + 1) (fired_at net t m) w (map_at_length (after (arcs_at net t).takes (arcs_at net t).puts) m ∙ h) (record { at = λ k l. b.at (suc k) (suc-le-suc l) }))
  where
    go : (l : Result Unit Cause) → judge_at net t m ≡ l → Ending net (i + 1) (fired_at net t m) w (play_from net (i + 1) (fired_at net t m) w) → Ending net i m (t ∷ w) (play_from net i m (t ∷ w))
    go (Ok _) e r =
        let en = enabled_of net m t h (passes_judged net m t e) in
        rw (e, play_from) (ending_cons net i m (fired_at net t m) t w _ (record { named = b.at 0 (suc-le-suc zero-le); enabled = en; gives = gives_fired net m t h en }) r)
    go (Err why) e r =
        let q : i ≡ i + 0 = omega arith in
        rw (e, play_from) (stops 0 why (ap (λ (z : ℕ). Blocked z why) q) (suc-le-suc zero-le) nothing (names_of net m t h why e))

-- past a letter that is not enabled no prefix fires
pub no_more : {net : Net} {m m' : List ℕ} (w : List ℕ) (k : ℕ) → k < length w → Fires net m (take k w) m' → (Enabled net m' (get_or w k 0) → ⊥) → (j : ℕ) → k < j → (m'' : List ℕ) → Fires net m (take j w) m'' → ⊥
no_more [] k h f n j l m'' g = absurd (not-suc-le-zero h)
no_more (t ∷ w) zero h f n zero l m'' g = absurd (not-suc-le-zero l)
no_more (t ∷ w) zero h f n (suc j) l m'' g = n (rw (fires_nil f) at (fires_cons g).1.enabled)
no_more (t ∷ w) (suc k) h f n zero l m'' g = absurd (not-suc-le-zero l)
no_more {net = net} {m = m} {m' = m'} (t ∷ w) (suc k) h f n (suc j) l m'' g =
    let a = fires_cons f in
    let b = fires_cons g in
    no_more {m = (fires_cons f).0} w k (le_of_suc-le-suc h) a.2 n j (le_of_suc-le-suc l) m'' (rw (gives_one b.1.gives a.1.gives) at b.2)
