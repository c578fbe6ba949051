-- Laws of a word's replay, letter by letter. Assumes nothing.
use Prim.Native.Nat.{ℕ, ◌+◌, ◌*◌, ◌≤◌, ◌<◌, zero-le}
use mathlib.Core.Path.{◌≡◌, refl, sym, ap, ◌∙◌}
use mathlib.Core.Bool.{Bool, true, false}
use mathlib.Core.List.{List}
use native.Mathlib.Omega.{arith}
use native.Mathlib.Numerals.{add-one}
use native.Mathlib.Decide.{dec_lt}
use lib.ListN.{length, get_or, drop, get_or-eq_default, drop_of_length-le}
use lib.Seq.{drop-cons}
use Rattle.ground.specs.Limits.{weight_limit, word_limit, tokens_after, replay_limit}
use Rattle.ground.specs.Lists.{map_at}
use Rattle.ground.proofs.Fill.{map_at_length, map_at_at}
use Rattle.net.specs.Net.{Net, Light}
use Rattle.net.specs.Letter.{arcs_at, passes, after, judge_at, fired_at, Small, Played}
use Rattle.net.specs.declared.Cause.{Cause}
use Rattle.std.specs.Prelude.{Result, Ok, Err}
use Rattle.net.proofs.Rows.{row_at}
use Rattle.refusals.specs.Given.{Letters}
use Rattle.plays.specs.Replay.{Ran, play_from, Ended}
use Rattle.plays.specs.declared.Replay.TheVariants.{Fired, Blocked}

-- n letters fired before the word; after i of its letters the marking is m: what is left of the word plays on as the whole did
pub record Running (net : Net) (n : ℕ) (m₀ w : List ℕ) (i : ℕ) (m : List ℕ) : Type 0 where
  pub passed : i ≤ length w
  pub long : length m ≡ length m₀
  pub small : Small (tokens_after (n + i)) m
  pub same : play_from net (n + i) m (drop i w) ≡ play_from net n m₀ w

pub run_start : (net : Net) (n : ℕ) (m w : List ℕ) → Small (tokens_after n) m → Running net n m w 0 m
run_start net n m w h = let z : n + 0 ≡ n = omega arith in record { passed = zero-le; long = refl; small = rw z h; same = rw z refl }

-- a letter puts at most a weight in a place
fired_small : (net : Net) (m : List ℕ) (t b : ℕ) → length m ≡ net.places → Light net → Small b m → Small (b + weight_limit) (fired_at net t m)
fired_small net m t b e y s = record { at = λ p. go p (dec_lt p (length m)) }
  where
    go : (p : ℕ) → Dec (p < length m) → get_or (map_at (after (arcs_at net t).takes (arcs_at net t).puts) m) p 0 ≤ b + weight_limit
    go p (yes l) =
        rw (map_at_at (after (arcs_at net t).takes (arcs_at net t).puts) m p 0 0 l)
        (omega (arith, s.at p, y.post (t * net.places + p), row_at net.places t net.post p (rw e at l)))
    go p (no n) =
        rw (get_or-eq_default (map_at (after (arcs_at net t).takes (arcs_at net t).puts) m) 0 {n = p} (rw (map_at_length (after (arcs_at net t).takes (arcs_at net t).puts) m) (omega arith))) zero-le

-- what a letter's answer says: whether it passed, and the marking left
passed_by : (net : Net) (t : ℕ) (m : List ℕ) (r : Result Unit Cause) (m' : List ℕ) → Played (arcs_at net t) m r m' → r ≡ Ok tt → m' ≡ fired_at net t m
passed_by net t m r m' s q = go (passes (arcs_at net t) m) refl
  where
    go : (b : Bool) → passes (arcs_at net t) m ≡ b → m' ≡ fired_at net t m
    go true e = rw e at s.left
    go false e = let z : ◌≡◌ {A = ℕ} 0 1 = cc (rw e at s.answer) in absurd (omega arith)

stopped_at : (net : Net) (t : ℕ) (m : List ℕ) (r : Result Unit Cause) (why : Cause) (m' : List ℕ) → Played (arcs_at net t) m r m' → r ≡ Err why → m' ≡ m
stopped_at net t m r why m' s q = go (passes (arcs_at net t) m) refl
  where
    go : (b : Bool) → passes (arcs_at net t) m ≡ b → m' ≡ m
    go true e = let z : ◌≡◌ {A = ℕ} 0 1 = cc (rw e at s.answer) in absurd (omega arith)
    go false e = rw e at s.left

-- the next letter, by cases; k letters fired before it
play_letter : (net : Net) (k i : ℕ) (m w : List ℕ) → i < length w → judge_at net (get_or w i 0) m ≡ Ok tt → play_from net k m (drop i w) ≡ play_from net (k + 1) (fired_at net (get_or w i 0) m) (drop (i + 1) w)
unfolding play_from
play_letter net k i m w h e = rw (drop-cons w i 0 h, e, play_from) (ap (λ (j : ℕ). play_from net (k + 1) (fired_at net (get_or w i 0) m) (drop j w)) (sym (add-one i)))

play_block : (net : Net) (k i : ℕ) (m w : List ℕ) (why : Cause) → i < length w → judge_at net (get_or w i 0) m ≡ Err why → play_from net k m (drop i w) ≡ record { answer = Blocked k why; left = m }
unfolding play_from
play_block net k i m w why h e = rw (drop-cons w i 0 h, e, play_from)

module _ (net : Net) (n : ℕ) (m₀ w : List ℕ) (i : ℕ) (m : List ℕ) (run : Running net n m₀ w i m) where
  pub run_passes : (r : Result Unit Cause) (m' : List ℕ) → i < length w → length m₀ ≡ net.places → Light net → Played (arcs_at net (get_or w i 0)) m r m' → r ≡ Ok tt → Running net n m₀ w (i + 1) m'
  run_passes r m' h e y s q =
      let f : m' ≡ fired_at net (get_or w i 0) m = passed_by net (get_or w i 0) m r m' s q in
      let l = fired_small net m (get_or w i 0) (tokens_after (n + i)) (run.long ∙ e) y run.small in
      let z : n + (i + 1) ≡ n + i + 1 = omega arith in
      rw f
      (record {
        passed = omega arith;
        long = map_at_length (after (arcs_at net (get_or w i 0)).takes (arcs_at net (get_or w i 0)).puts) m ∙ run.long;
        small = record { at = λ p. omega (arith, l.at p) };
        same = rw z (sym (play_letter net (n + i) i m w h (sym s.answer ∙ q)) ∙ run.same);
      })

  -- k is the position that the code gives
  pub run_stops : (r : Result Unit Cause) (why : Cause) (m' : List ℕ) (k : ℕ) → i < length w → Played (arcs_at net (get_or w i 0)) m r m' → r ≡ Err why → k ≡ n + i → Ended net n m₀ w (Blocked k why) m'
  run_stops r why m' k h s q z =
      let f : m' ≡ m = stopped_at net (get_or w i 0) m r why m' s q in
      let a : record { answer = Blocked (n + i) why; left = m } ≡ play_from net n m₀ w = sym (play_block net (n + i) i m w why h (sym s.answer ∙ q)) ∙ run.same in
      record { answer = ap (λ (j : ℕ). Blocked j why) z ∙ ap (λ (z : Ran). z.answer) a; left = f ∙ ap (λ (z : Ran). z.left) a }

  pub run_ends : length w ≤ i → Ended net n m₀ w (Fired (n + i)) m
  unfolding play_from
  run_ends h =
      let a : record { answer = Fired (n + i); left = m } ≡ play_from net n m₀ w = rw (drop_of_length-le w {i = i} h) at run.same in
      record { answer = ap (λ (z : Ran). z.answer) a; left = ap (λ (z : Ran). z.left) a }

  pub run_long : length m₀ ≡ net.places → length m ≡ net.places
  run_long e = run.long ∙ e

  pub run_small : i < length w → n + length w ≤ word_limit → Small replay_limit m
  run_small h l = record { at = λ p. omega (arith, run.small.at p) }

pub letter_at_lem : (n : ℕ) (w : List ℕ) (i : ℕ) → Letters n w → i < length w → get_or w i 0 < n
letter_at_lem n w i l h = l.at i h

pub ruleset runs = (run_start, run_passes, run_stops, run_ends, run_long, run_small, letter_at_lem)
