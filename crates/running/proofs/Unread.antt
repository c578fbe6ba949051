-- "slots past P aren't read": what stands in them changes no answer, and nothing of the state but themselves. Assumes nothing.
use Rattle.std.specs.Prelude.{Ok, Err}
use Rattle.refusals.specs.Given.{Fault}
use Prim.Native.Nat.{ℕ, zero, suc, ◌<◌, zero-le, suc-le-suc}
use mathlib.Core.Path.{◌≡◌, refl, sym, ap, ◌∙◌}
use mathlib.Core.Bool.{Bool, true, false, cond}
use mathlib.Core.List.{List}
use lib.ListN.{length, get_or, take}
use lib.Seq.{get_or-take}
use Rattle.ground.specs.Limits.{count_limit}
use Rattle.ground.specs.Lists.{first}
use Rattle.net.specs.Net.{Net}
use Rattle.plays.specs.Replay.{play_from}
use Rattle.plays.specs.declared.Replay.{Replay}
use Rattle.plays.specs.declared.Replay.TheVariants as replay
use Rattle.running.specs.State.{held, is_blocked, tokens_over, tokens_fault, state_fault, part_fault, went_on, played_on, held_block, fed_by, fed_of}
use Rattle.running.specs.Entry.{Allowed}
use Rattle.running.specs.Cutting.{Slotted, Alike}
use Rattle.running.specs.declared.Running.{Running}
use Rattle.running.proofs.Parts.{sound_allowed}
use Rattle.running.proofs.TwoParts.{next, next_held}

-- a scan looks at nothing past its end
first_same : (f g : ℕ → Bool) (n : ℕ) → ((k : ℕ) → k < n → f k ≡ g k) → first f n ≡ first g n
unfolding first
first_same f g zero h = refl
first_same f g (suc n) h =
    ap (λ (b : Bool). cond b zero (suc (first (λ k. f (suc k)) n))) (h zero (suc-le-suc zero-le))
    ∙ ap (λ (m : ℕ). cond (g zero) zero (suc m)) (first_same (λ k. f (suc k)) (λ k. g (suc k)) n (λ k l. h (suc k) (suc-le-suc l)))

-- the state with another marking
abbrev pub marked : Running → List ℕ → Running
marked s l = record { marking = l; fired = s.fired; position = s.position; place = s.place; blocked = s.blocked }

module _ (net : Net) (s : Running) (l : List ℕ) (same : take net.places l ≡ held net s) where
  at_same : (p : ℕ) → p < net.places → get_or l p 0 ≡ get_or s.marking p 0
  at_same p h = sym (get_or-take net.places l p 0 h) ∙ ap (λ (m : List ℕ). get_or m p 0) same ∙ get_or-take net.places s.marking p 0 h

  same_tokens : tokens_fault net.places net.caps s.fired l ≡ tokens_fault net.places net.caps s.fired s.marking
  unfolding tokens_fault
  same_tokens =
      rw (first_same (λ p. tokens_over s.fired (get_or net.caps p 0) (get_or l p 0)) (λ p. tokens_over s.fired (get_or net.caps p 0) (get_or s.marking p 0)) net.places
      (λ p h. ap (tokens_over s.fired (get_or net.caps p 0)) (at_same p h)))

  same_fault : (w : List ℕ) → part_fault net (marked s l) w ≡ part_fault net s w
  unfolding part_fault state_fault
  same_fault w = rw same_tokens

  -- a part
  pub slots_unread : (w : List ℕ) → Slotted s → length l ≡ count_limit → Alike net (fed_of net (marked s l) w) (fed_of net s w)
  unfolding fed_of
  slots_unread w slots long = faulty (part_fault net s w) refl
    where
      went : (r : Replay) (m m' : List ℕ) → take net.places m ≡ take net.places m' → Alike net (went_on (marked s l) m r) (went_on s m' r)
      went (replay.Fired n) m m' e = record { answer = refl; marking = e; fired = refl; position = refl; place = refl; blocked = refl }
      went (replay.Blocked n why) m m' e = record { answer = refl; marking = e; fired = refl; position = refl; place = refl; blocked = refl }

      played : Allowed net s w → Allowed net (marked s l) w → Alike net (played_on net (marked s l) w) (played_on net s w)
      played a b =
          let e = next_held net (marked s l) w b long ∙ ap (λ (m : List ℕ). (play_from net s.fired m w).left) same ∙ sym (next_held net s w a slots) in
          rw (ap (λ (m : List ℕ). (play_from net s.fired m w).answer) same)
          (went (play_from net s.fired (held net s) w).answer (next net (marked s l) w) (next net s w) e)

      held_or : Allowed net s w → Allowed net (marked s l) w → (b : Bool) → Alike net (cond b (held_block (marked s l)) (played_on net (marked s l) w)) (cond b (held_block s) (played_on net s w))
      held_or a b true = record { answer = refl; marking = same; fired = refl; position = refl; place = refl; blocked = refl }
      held_or a b false = played a b

      faulty : (f : Fault) → part_fault net s w ≡ f → Alike net (fed_by (part_fault net (marked s l) w) net (marked s l) w) (fed_by (part_fault net s w) net s w)
      faulty (Ok _) e =
          rw (same_fault w, e) (held_or (sound_allowed net s w e) (sound_allowed net (marked s l) w (same_fault w ∙ e)) (is_blocked s.blocked))
      faulty (Err r) e = rw (same_fault w, e) (record { answer = refl; marking = same; fired = refl; position = refl; place = refl; blocked = refl })
