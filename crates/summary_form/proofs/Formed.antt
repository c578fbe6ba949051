-- Laws of a well-formed summary: as the code tests it and as published; of a word, and empty. Assumes nothing.
use Rattle.std.specs.Prelude.{Ok}
use Prim.Native.Nat.{ℕ, ◌+◌, ◌*◌, ◌≤◌, ◌<◌, zero-le}
use mathlib.Core.Path.{◌≡◌}
use mathlib.Core.Bool.{Bool, true, false, cond}
use mathlib.Core.List.{List}
use native.Mathlib.Decide.{dec_lt}
use native.Mathlib.Omega.{arith}
use lib.ListN.{length, get_or, replicate, length-replicate, get_or-replicate}
use lib.Dec.{ltb}
use lib.IntN.{pos}
use borrow.Author.Tests.{lt-ltb, le-ltb}
use Rattle.ground.specs.Limits.{count_limit, weight_limit, word_limit}
use Rattle.ground.proofs.Fill.{table_length, table_at}
use Rattle.ground.proofs.Parts.{parts_eq, le_pos, neg_le}
use Rattle.net.specs.Net.{Net, Light}
use Rattle.summary_place.specs.Place.{letter_at}
use Rattle.summary_place.specs.Slots.{nil, slot_of, slot_at}
use Rattle.summary_place.specs.Walk.{Well}
use Rattle.summary_place.specs.declared.Slot.{Slot}
use Rattle.summary_place.proofs.Words.{slot_well}
use Rattle.summary_slots.proofs.Tests.{wells_of, nil_well}
use Rattle.summary_form.specs.Summary.{summary_of, empty_summary, shape_fault, FormedAt, WellFormed, Count}
use Rattle.summary_form.specs.declared.Summary.{Summary}
use Rattle.summary_form.proofs.Shapes.{shape_sound, sound_shape}
use Rattle.summary_form.proofs.Places.{rising}
use Rattle.refusals.specs.Given.{outside}
use Rattle.refusals.proofs.Refusals.{inside_of, inside_is}

-- the bound of slot p in a summary of P places
abbrev pub bound : ℕ → ℕ → ℕ → ℕ
bound P n p = cond (ltb p P) (weight_limit * n) 0

zero_well : (s : Slot) → Well 0 s → s ≡ nil
zero_well s w =
    let n : s.need ≡ 0 = omega arith in
    let k : s.climb ≡ 0 = omega arith in
    let c : s.change ≡ pos 0 = parts_eq s.change (pos 0) (omega arith) (omega arith) in
    λ i. record { need = n i; climb = k i; change = c i }

-- a slot is well formed by its parts exactly where it is as published
module _ (s : Summary) (p : ℕ) where
  pub formed_at : Well (bound s.places s.letters p) (get_or s.slots p nil) → FormedAt weight_limit s p
  formed_at w =
      record {
        at = λ h. let v = here h in record { need = v.need; climb = v.climb; low = (neg_le _ _).1 v.down; high = (le_pos _ _).1 v.top };
        past = λ h. zero_well (get_or s.slots p nil) (there h);
      }
    where
      here : p < s.places → Well (weight_limit * s.letters) (get_or s.slots p nil)
      here h = rw (lt-ltb p s.places h) at w

      there : s.places ≤ p → Well 0 (get_or s.slots p nil)
      there h = rw (le-ltb p s.places h) at w

  pub at_formed : FormedAt weight_limit s p → Well (bound s.places s.letters p) (get_or s.slots p nil)
  at_formed f = go (dec_lt p s.places)
    where
      go : Dec (p < s.places) → Well (bound s.places s.letters p) (get_or s.slots p nil)
      go (yes h) =
          let w = f.at h in
          rw (lt-ltb p s.places h)
          (record { need = w.need; climb = w.climb; down = (neg_le (get_or s.slots p nil).change (get_or s.slots p nil).need).0 w.low; top = (le_pos (get_or s.slots p nil).change (get_or s.slots p nil).climb).0 w.high })
      go (no h) = let o : s.places ≤ p = omega arith in rw (le-ltb p s.places o, f.past o) (nil_well 0)

-- nothing is refused by 6 exactly where the summary is well formed as published
pub formed_of_lem : (s : Summary) → shape_fault s ≡ Ok tt → WellFormed s
formed_of_lem s e =
    let a = shape_sound s e in
    record { few = a.0; slots = record { each = λ p l. formed_at s p (wells_of s.places (weight_limit * s.letters) s.slots a.1 p l) } }

pub of_formed : (s : Summary) → WellFormed s → shape_fault s ≡ Ok tt
of_formed s f = sound_shape s f.few (λ p l. at_formed s p (f.slots.each p l))

-- a summary as the code holds one: 64 slots, well formed
pub record Shaped (s : Summary) : Type 0 where
  pub slots : length s.slots ≡ count_limit
  pub shaped : shape_fault s ≡ Ok tt

pub wells_at : (s : Summary) → Shaped s → (p : ℕ) → p < count_limit → Well (bound s.places s.letters p) (get_or s.slots p nil)
wells_at s f p h = wells_of s.places (weight_limit * s.letters) s.slots (shape_sound s f.shaped).1 p h

-- the summary of a word
module _ (net : Net) (light : Light net) where
  word_well : (w : List ℕ) (p : ℕ) → Well (weight_limit * length w) (slot_of (letter_at net p) w)
  word_well w p =
      slot_well (letter_at net p) (rising net p) weight_limit (λ t. light.pre (t * net.places + p)) (λ t. light.post (t * net.places + p))
      (λ t. omega (arith, light.post (t * net.places + p))) w

  pub word_shaped : (w : List ℕ) → length w ≤ word_limit → Shaped (summary_of net w)
  word_shaped w h =
      record {
        slots = table_length (slot_at net w) count_limit;
        shaped = sound_shape (summary_of net w) h (λ p l. rw (table_at (slot_at net w) count_limit p nil l) (go p (ltb p net.places)));
      }
    where
      go : (p : ℕ) (b : Bool) → Well (cond b (weight_limit * length w) 0) (cond b (slot_of (letter_at net p) w) nil)
      go p true = word_well w p
      go p false = nil_well 0

-- the empty summary
pub none_long : length (replicate count_limit nil) ≡ count_limit
none_long = length-replicate count_limit nil

pub none_at : (k : ℕ) → k < count_limit → get_or (replicate count_limit nil) k nil ≡ nil
none_at k h = get_or-replicate count_limit k nil nil h

pub empty_shaped : (P : ℕ) → Shaped (empty_summary P)
empty_shaped P =
    record { slots = none_long; shaped = sound_shape (empty_summary P) zero-le (λ p h. rw (none_at p h) (nil_well (bound P 0 p))) }

-- a place count is not refused exactly where it is in range
pub count_of : (n : ℕ) → outside n ≡ false → Count n
count_of n e = let i = inside_of n e in record { some = i.0; few = i.1 }

pub of_count : (n : ℕ) → Count n → outside n ≡ false
of_count n c = inside_is n c.some c.few
