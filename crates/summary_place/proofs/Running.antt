-- The loop that takes a word at one place letter by letter: what it has at letter i. Assumes nothing.
use Prim.Native.Nat.{ℕ, ◌+◌, ◌*◌, ◌≤◌, ◌<◌, zero-le}
use mathlib.Core.Path.{◌≡◌, refl, sym, ap, ap₂, ◌∙◌}
use mathlib.Core.List.{List}
use native.Mathlib.Omega.{arith}
use native.Mathlib.Numerals.{add-one}
use native.Mathlib.Decide.{dec_lt}
use borrow.Author.Tests.{lt-ltb, le-ltb}
use lib.ListN.{length, take, get_or, replicate, length-replicate, get_or-replicate}
use lib.Seq.{take_all, ext_get_or}
use lib.IntN.{ℤ, sub_ℕ}
use Rattle.ground.specs.Limits.{count_limit, weight_limit}
use Rattle.ground.specs.Lists.{most}
use Rattle.ground.proofs.Most.{most_none}
use Rattle.ground.proofs.Fill.{Filled, table_length, table_at}
use Rattle.net.specs.Net.{Net, Pre, Post, capacity, mark, in_force, rise_of, Light, Sized}
use Rattle.net.proofs.Rows.{pre_in, post_in}
use Rattle.refusals.specs.Given.{Letters}
use Rattle.summary_place.specs.Place.{Move, letter_at}
use Rattle.summary_place.specs.Slots.{nil, slot_of, slot_at, slots_of}
use Rattle.summary_place.specs.Walk.{step}
use Rattle.summary_place.specs.declared.Slot.{Slot}
use Rattle.summary_place.proofs.Peaks.{total, total_more, height_at, peak_more}
use Rattle.summary_place.proofs.Words.{takes, puts, rise, change_is, need_most, climb_most}

pub record Running (at : ℕ → Move) (w : List ℕ) (gained lost need climb i : ℕ) : Type 0 where
  pub gains : gained ≡ total (puts at) (take i w)
  pub losses : lost ≡ total (takes at) (take i w)
  pub needs : need ≡ most i (height_at (takes at) (takes at) (puts at) w)
  pub climbs : climb ≡ most i (height_at (rise at) (puts at) (takes at) w)
  pub few_gained : gained ≤ weight_limit * i
  pub few_lost : lost ≤ weight_limit * i

module _ (at : ℕ → Move) (w : List ℕ) where
  pub run_start : Running at w 0 0 0 0 0
  run_start =
      record {
        gains = refl;
        losses = refl;
        needs = sym (most_none _);
        climbs = sym (most_none _);
        few_gained = zero-le;
        few_lost = zero-le;
      }

  module _ (g l n k i : ℕ) (run : Running at w g l n k i) where
    pub run_next : (x y r n' k' : ℕ) → i < length w → x ≡ takes at (get_or w i 0) → y ≡ puts at (get_or w i 0) → r ≡ rise at (get_or w i 0) → n' ≡ step n x l g → k' ≡ step k r g l → x ≤ weight_limit → y ≤ weight_limit → Running at w (g + y) (l + x) n' k' (i + 1)
    run_next x y r n' k' h ex ey er en ek p q =
        record {
          gains = ap₂ ◌+◌ run.gains ey ∙ rw (add-one i) (sym (total_more (puts at) w i h));
          losses = ap₂ ◌+◌ run.losses ex ∙ rw (add-one i) (sym (total_more (takes at) w i h));
          needs = en ∙ (λ j. step (run.needs j) (ex j) (run.losses j) (run.gains j)) ∙ peak_more (takes at) (takes at) (puts at) w i;
          climbs = ek ∙ (λ j. step (run.climbs j) (er j) (run.gains j) (run.losses j)) ∙ peak_more (rise at) (puts at) (takes at) w i;
          few_gained = omega arith;
          few_lost = omega arith;
        }

    pub run_end : (c : ℤ) → i ≤ length w → length w ≤ i → c ≡ sub_ℕ g l → ◌≡◌ {A = Slot} (record { need = n; climb = k; change = c }) (slot_of at w)
    unfolding slot_of
    run_end c b h e =
        let q : i ≡ length w = omega arith in
        let t : take i w ≡ w = take_all i w h in
        λ j. record {
          need = (run.needs ∙ ap (λ (m : ℕ). most m (height_at (takes at) (takes at) (puts at) w)) q ∙ sym (need_most at w)) j;
          climb = (run.climbs ∙ ap (λ (m : ℕ). most m (height_at (rise at) (puts at) (takes at) w)) q ∙ sym (climb_most at w)) j;
          change = (e ∙ ap₂ sub_ℕ (run.gains ∙ ap (total (puts at)) t) (run.losses ∙ ap (total (takes at)) t) ∙ sym (change_is at w)) j;
        }

-- one letter of a net: f is the mark in force, x and y are its cells, whose limit is the net's
module _ (net : Net) (light : Light net) (p : ℕ) (w : List ℕ) (g l n k i : ℕ) (run : Running (letter_at net p) w g l n k i) where
  pub run_letter : (t f x y r n' k' : ℕ) → i < length w → t ≡ get_or w i 0 → f ≡ in_force (capacity net p) (mark net p) → x ≡ Pre net p t → y ≡ Post net p t → r ≡ rise_of f x y → n' ≡ step n x l g → k' ≡ step k r g l → Running (letter_at net p) w (g + y) (l + x) n' k' (i + 1)
  run_letter t f x y r n' k' h et ef ex ey er en ek =
      run_next (letter_at net p) w g l n k i run x y r n' k' h (ex ∙ ap (Pre net p) et) (ey ∙ ap (Post net p) et)
      (er ∙ (λ j. rise_of (ef j) (ex j) (ey j)) ∙ ap (λ (u : ℕ). rise_of (in_force (capacity net p) (mark net p)) (Pre net p u) (Post net p u)) et) en ek
      (rw ex (light.pre (t * net.places + p))) (rw ey (light.post (t * net.places + p)))

pub ruleset runs = (run_start, run_end)

-- the loop over the places, from slots that are all zero
module _ (net : Net) (w : List ℕ) (slots₀ : List Slot) (zero-slots : slots₀ ≡ replicate count_limit nil) (p : ℕ) (slots : List Slot) (f : Filled nil (λ k x. slot_of (letter_at net k) w) slots₀ p slots) where
  pub slots_end : p ≤ net.places → net.places ≤ p → slots ≡ slots_of net w
  slots_end h l =
      ext_get_or nil slots (slots_of net w) (f.long ∙ ap length zero-slots ∙ length-replicate count_limit nil ∙ sym (table_length (slot_at net w) count_limit))
      (λ k b. let c : k < count_limit = omega (arith, f.long, ap length zero-slots, length-replicate count_limit nil) in
      go k c (dec_lt k net.places) ∙ sym (table_at (slot_at net w) count_limit k nil c))
    where
      here : (k : ℕ) → k < net.places → slot_at net w k ≡ slot_of (letter_at net k) w
      here k q = rw (lt-ltb k net.places q)

      past : (k : ℕ) → net.places ≤ k → slot_at net w k ≡ nil
      past k q = rw (le-ltb k net.places q)

      go : (k : ℕ) → k < count_limit → Dec (k < net.places) → get_or slots k nil ≡ slot_at net w k
      go k c (yes q) = f.done k (omega arith) ∙ sym (here k q)
      go k c (no q) = let o : net.places ≤ k = omega arith in f.rest k (omega arith) ∙ ap (λ (l : List Slot). get_or l k nil) zero-slots ∙ get_or-replicate count_limit k nil nil c ∙ sym (past k o)
