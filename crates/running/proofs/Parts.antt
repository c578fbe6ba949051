-- Laws of a part: what holds where nothing is refused, and the state and the answer that it leads to. Assumes nothing.
use Rattle.std.specs.Prelude.{Ok}
use Rattle.refusals.specs.Given.{Fault}
use Prim.Native.Nat.{ℕ, ◌+◌, ◌^◌, ◌≤◌, ◌<◌, zero-le}
use mathlib.Core.Path.{◌≡◌, refl, sym, subst}
use mathlib.Core.Bool.{Bool, true, false, ◌&&◌, cond}
use mathlib.Core.List.{List, [], ◌∷◌}
use native.Mathlib.Omega.{arith}
use native.Mathlib.Decide.{dec_lt}
use lib.ListN.{length, get_or, length-take, get_or-eq_default}
use lib.Seq.{get_or-take}
use lib.Dec.{ltb, leb}
use borrow.Author.Tests.{lt-ltb, ltb-false, leb-false, eq-eqb, ne_eqb}
use Rattle.ground.specs.Limits.{count_limit, no_capacity, word_limit, tokens_after}
use Rattle.ground.proofs.Tests.{or-false}
use Rattle.ground.proofs.Scan.{first_below, first_most}
use Rattle.ground.proofs.Fill.{map_at_length}
use Rattle.net.specs.Net.{Net}
use Rattle.net.specs.Letter.{Small, arcs_at, passes, after, fired_at, short, over, lowest_short, lowest_over, cause}
use Rattle.net.specs.declared.Cause.TheVariants.{Short, Over}
use Rattle.refusals.specs.Given.{refuse, or_else, counts_fault, loose_fault, bad_letter, Letters}
use Rattle.refusals.proofs.Chains.{or_sound, refuse_sound}
use Rattle.refusals.proofs.Refusals.{counts_met, loose_met}
use Rattle.plays.specs.Replay.{Ran, play_from}
use Rattle.plays.specs.declared.Replay.{Replay}
use Rattle.plays.specs.declared.Replay.TheVariants as replay
use Rattle.running.specs.State.{held, is_blocked, tokens_over, bad_tokens, tokens_fault, state_fault, letters_fault, block_fault, part_fault, cause_place, played_on, held_block, fed_of}
use Rattle.running.specs.Entry.{TokensAt, Allowed}
use Rattle.running.specs.Walk.{Brief}
use Rattle.running.specs.declared.Running.{Running}
use Rattle.running.specs.declared.Fed.{Fed}

-- what holds where nothing is refused, chain by chain
pub tokens_at_lem : (net : Net) (s : Running) (p : ℕ) → tokens_over s.fired (get_or net.caps p 0) (get_or s.marking p 0) ≡ false → TokensAt net s p
tokens_at_lem net s p e =
    let o = or-false (ltb (tokens_after s.fired) (get_or s.marking p 0)) (ltb (get_or net.caps p 0) no_capacity && ltb (get_or net.caps p 0) (get_or s.marking p 0)) e in
    record {
      few = ltb-false (tokens_after s.fired) (get_or s.marking p 0) o.0;
      within = λ c. ltb-false (get_or net.caps p 0) (get_or s.marking p 0) (rw (lt-ltb (get_or net.caps p 0) no_capacity c) at o.1);
    }

tokens_met : (net : Net) (s : Running) → tokens_fault net.places net.caps s.fired s.marking ≡ Ok tt → (p : ℕ) → p < net.places → TokensAt net s p
unfolding tokens_fault
tokens_met net s e p h =
    let x = ltb-false (bad_tokens net.places net.caps s.fired s.marking) net.places (refuse_sound _ 3 _ e) in
    tokens_at_lem net s p (first_below (λ p. tokens_over s.fired (get_or net.caps p 0) (get_or s.marking p 0)) net.places p (omega arith))

letters_met : (T fired : ℕ) (w : List ℕ) → letters_fault T fired w ≡ Ok tt → (fired + length w ≤ word_limit) × Letters T w
unfolding letters_fault
letters_met T fired w e =
    let a = or_sound (refuse (ltb word_limit (fired + length w)) 4 0) (refuse (ltb (bad_letter T w) (length w)) 5 (bad_letter T w)) e in
    let x = ltb-false (bad_letter T w) (length w) (refuse_sound _ 5 (bad_letter T w) a.1) in
    (ltb-false word_limit (fired + length w) (refuse_sound _ 4 0 a.0), record { at = λ k h. leb-false T (get_or w k 0) (first_below (λ k. leb T (get_or w k 0)) (length w) k (omega arith)) })

block_met : (P blocked place : ℕ) → block_fault P blocked place ≡ Ok tt → is_blocked blocked ≡ true → place < P
unfolding block_fault
block_met P blocked place e q = leb-false P place (rw q at (refuse_sound (is_blocked blocked && leb P place) 13 0 e))

pub sound_allowed : (net : Net) (s : Running) (w : List ℕ) → part_fault net s w ≡ Ok tt → Allowed net s w
unfolding part_fault state_fault
sound_allowed net s w e =
    let a = or_sound (or_else (counts_fault net true) (or_else (tokens_fault net.places net.caps s.fired s.marking) (loose_fault net))) _ e in
    let b = or_sound (counts_fault net true) (or_else (tokens_fault net.places net.caps s.fired s.marking) (loose_fault net)) a.0 in
    let d = or_sound (tokens_fault net.places net.caps s.fired s.marking) (loose_fault net) b.1 in
    let f = or_sound (letters_fault net.transitions s.fired w) (block_fault net.places s.blocked s.place) a.1 in
    let m = counts_met net true b.0 in
    let l = letters_met net.transitions s.fired w f.0 in
    record {
      sized = m.sized;
      light = m.light;
      tokens = tokens_met net s d.0;
      wired = loose_met net d.1;
      short = l.0;
      letters = l.1;
      placed = block_met net.places s.blocked s.place f.1;
    }

-- the marking that is played: as many tokens as so many letters can have led to
pub held_small : (net : Net) (s : Running) (w : List ℕ) → Allowed net s w → Small (tokens_after s.fired) (held net s)
held_small net s w a = record { at = λ p. go p (dec_lt p net.places) }
  where
    go : (p : ℕ) → Dec (p < net.places) → get_or (held net s) p 0 ≤ tokens_after s.fired
    go p (yes h) = rw (get_or-take net.places s.marking p 0 h) (a.tokens p h).few
    go p (no n) = rw (get_or-eq_default (held net s) 0 {n = p} (rw length-take (omega arith))) zero-le

-- the numbers of a word that is played fit 32 bits
cause_brief : (net : Net) (t : ℕ) (m : List ℕ) → length m ≤ count_limit → cause_place (cause (arcs_at net t) m) < 2 ^ 32
cause_brief net t m h = go (ltb (lowest_short (arcs_at net t).takes m) (length m))
  where
    go : (b : Bool) → cause_place (cond b (Short (lowest_short (arcs_at net t).takes m)) (Over (lowest_over (arcs_at net t) m))) < 2 ^ 32
    go true = omega (arith, first_most (short (arcs_at net t).takes m) (length m))
    go false = omega (arith, first_most (over (arcs_at net t) m) (length m))

pub next_passes : (net : Net) (n t : ℕ) (m w : List ℕ) → passes (arcs_at net t) m ≡ true → play_from net n m (t ∷ w) ≡ play_from net (n + 1) (fired_at net t m) w
unfolding play_from
next_passes net n t m w e = rw (e, play_from)

pub next_stops : (net : Net) (n t : ℕ) (m w : List ℕ) → passes (arcs_at net t) m ≡ false → play_from net n m (t ∷ w) ≡ record { answer = replay.Blocked n (cause (arcs_at net t) m); left = m }
unfolding play_from
next_stops net n t m w e = rw (e, play_from)

play_brief : (net : Net) (n : ℕ) (m w : List ℕ) → length m ≤ count_limit → n + length w ≤ word_limit → Brief (play_from net n m w).answer
unfolding play_from
play_brief net n m [] h l = omega arith
play_brief net n m (t ∷ w) h l =
    go (passes (arcs_at net t) m) refl
    (play_brief net (n + 1) (fired_at net t m) w (rw (map_at_length (after (arcs_at net t).takes (arcs_at net t).puts) m) h) (omega arith))
  where
    go : (b : Bool) → passes (arcs_at net t) m ≡ b → Brief (play_from net (n + 1) (fired_at net t m) w).answer → Brief (play_from net n m (t ∷ w)).answer
    go true e ih = subst (λ (z : Ran). Brief z.answer) (sym (next_passes net n t m w e)) ih
    go false e ih = subst (λ (z : Ran). Brief z.answer) (sym (next_stops net n t m w e)) (omega arith, cause_brief net t m h)

-- ran is what the code got of it, m the marking that it left
module _ (net : Net) (s : Running) (w : List ℕ) (ran : Replay) (e : ran ≡ (play_from net s.fired (held net s) w).answer) where
  pub ran_brief : Allowed net s w → Brief ran
  ran_brief a =
      let z = a.sized.few_places in
      rw e (play_brief net s.fired (held net s) w (rw length-take (omega arith)) a.short)

-- what a part makes of a state; `found` is what the code found of its refusals
module _ (net : Net) (s : Running) (w : List ℕ) (found : Fault) (e : found ≡ part_fault net s w) where
  pub fed_played : (r : Fed) → found ≡ Ok tt → s.blocked ≡ 0 → r ≡ played_on net s w → r ≡ fed_of net s w
  unfolding fed_of
  fed_played r q b k = rw (← e, q, eq-eqb s.blocked 0 b) k

  pub fed_held : (r : Fed) → found ≡ Ok tt → (s.blocked ≡ 0 → ⊥) → r ≡ held_block s → r ≡ fed_of net s w
  unfolding fed_of
  fed_held r q b k = rw (← e, q, ne_eqb s.blocked 0 b) k
