-- What a summary means: its numbers are the published ones, and it is well formed exactly where refusal 6 is not given. Assumes nothing.
use Rattle.std.specs.Prelude.{Ok}
use Prim.Native.Nat.{ℕ, ◌-◌, ◌*◌, ◌≤◌, ◌<◌}
use mathlib.Core.Path.{◌≡◌, refl, sym, ap, ◌∙◌}
use mathlib.Core.Bool.{Bool, true, false, cond}
use mathlib.Core.List.{List, []}
use mathlib.Core.Logic.{◌↔◌}
use native.Mathlib.Nat.{le_trans, mul-le-mul_right}
use native.Mathlib.Decide.{dec_lt}
use native.Mathlib.Omega.{arith}
use lib.ListN.{length, get_or, replicate, length-replicate, get_or-replicate}
use lib.Dec.{ltb, eqb}
use lib.Seq.{ext_get_or}
use borrow.Author.Tests.{lt-ltb, eqb-true, eqb-false}
use Rattle.ground.specs.Limits.{count_limit, weight_limit, word_limit, no_capacity}
use Rattle.ground.specs.Lists.{most}
use Rattle.ground.proofs.Fill.{table_length, table_at}
use Rattle.net.specs.Net.{Net, Pre, Post, capacity, Capped, mark, Pocket, in_force, Light, Sized}
use Rattle.net.proofs.Rule.{leaves_plain, leaves_pocket, force_capped, force_uncapped}
use Rattle.summary_place.specs.Place.{Move, letter_at, need, climb, change, prefix_climb, pocket_climb, published_climb}
use Rattle.summary_place.specs.Slots.{nil, slot_of, slot_at, slots_of}
use Rattle.summary_place.specs.declared.Slot.{Slot}
use Rattle.summary_place.proofs.Words.{climb_prefix, climb_puts}
use Rattle.summary_form.specs.Summary.{summary_of, empty_summary, shape_fault, WellAt, FormedAt, WellFormedBy, WellFormed, Count, Held}
use Rattle.summary_form.specs.declared.Summary.{Summary}
use Rattle.summary_form.proofs.Formed.{Shaped, formed_of_lem, of_formed, word_shaped, empty_shaped}

-- ---- the numbers are the published ones
-- the mark in force is 0 at a place that is no pocket with a capacity
force_plain : (cap mark : ℕ) → (cap < no_capacity → mark ≡ 0) → in_force cap mark ≡ 0
force_plain cap mark h =
    elim (dec_lt cap no_capacity) [
      | yes c ↦ force_capped cap mark c ∙ h c
      | no n ↦ force_uncapped cap mark (omega arith)
    ]

-- climb is, at a place that is no pocket with a capacity, "the largest change over all prefixes, the empty one (0) included"
pub climb_published : (net : Net) (p : ℕ) (w : List ℕ) → (Capped net p → mark net p ≡ 0) → climb (letter_at net p) w ≡ prefix_climb (letter_at net p) w
climb_published net p w h = climb_prefix (letter_at net p) (λ t. ap (λ (n : ℕ). Post net p t - n) (leaves_plain _ (Pre net p t) (force_plain (capacity net p) (mark net p) h))) w

-- at a pocket with a capacity "the largest of 0 and, for each letter, the change before it plus its Post"
pub climb_pocket : (net : Net) (p : ℕ) (w : List ℕ) → Capped net p → Pocket net p → climb (letter_at net p) w ≡ pocket_climb (letter_at net p) w
climb_pocket net p w c k = climb_puts (letter_at net p) (λ t. rw (force_capped (capacity net p) (mark net p) c, leaves_pocket (mark net p) (Pre net p t) k) (omega arith)) w

published_plain : (net : Net) (p : ℕ) (w : List ℕ) → eqb (in_force (capacity net p) (mark net p)) 0 ≡ true → published_climb net p w ≡ prefix_climb (letter_at net p) w
unfolding published_climb
published_plain net p w e = rw e

published_pocket : (net : Net) (p : ℕ) (w : List ℕ) → eqb (in_force (capacity net p) (mark net p)) 0 ≡ false → published_climb net p w ≡ pocket_climb (letter_at net p) w
unfolding published_climb
published_pocket net p w e = rw e

-- so it is the climb of the mixed net, by capacity and mark
pub climb_by_mark : (net : Net) (p : ℕ) (w : List ℕ) → climb (letter_at net p) w ≡ published_climb net p w
climb_by_mark net p w = go (eqb (in_force (capacity net p) (mark net p)) 0) refl
  where
    go : (b : Bool) → eqb (in_force (capacity net p) (mark net p)) 0 ≡ b → climb (letter_at net p) w ≡ published_climb net p w
    go true e =
        let z = eqb-true (in_force (capacity net p) (mark net p)) 0 e in
        climb_published net p w (λ c. sym (force_capped (capacity net p) (mark net p) c) ∙ z) ∙ sym (published_plain net p w e)
    go false e =
        let z = eqb-false (in_force (capacity net p) (mark net p)) 0 e in
        let c : Capped net p = capped (dec_lt (capacity net p) no_capacity) z in
        climb_pocket net p w c (λ h. z (force_capped (capacity net p) (mark net p) c ∙ h)) ∙ sym (published_pocket net p w e)
      where
        capped : Dec (Capped net p) → (in_force (capacity net p) (mark net p) ≡ 0 → ⊥) → Capped net p
        capped (yes c) z = c
        capped (no n) z = absurd (z (force_uncapped (capacity net p) (mark net p) (omega arith)))

pub slot_here : (net : Net) (w : List ℕ) (p : ℕ) → net.places ≤ count_limit → p < net.places → get_or (slots_of net w) p nil ≡ slot_of (letter_at net p) w
slot_here net w p h l = table_at (slot_at net w) count_limit p nil (omega arith) ∙ rw (lt-ltb p net.places l)

-- a word's summary holds, at each place, its need, climb and change as published
pub summary_published : (net : Net) (w : List ℕ) (p : ℕ) → net.places ≤ count_limit → p < net.places → get_or (summary_of net w).slots p nil ≡ record { need = need (letter_at net p) w; climb = published_climb net p w; change = change (letter_at net p) w }
unfolding slot_of
summary_published net w p h l =
    slot_here net w p h l
    ∙ (λ i. record { need = need (letter_at net p) w; climb = climb_by_mark net p w i; change = change (letter_at net p) w })

-- the summary of the empty word is the empty summary
slot_none : (at : ℕ → Move) → slot_of at [] ≡ nil
unfolding slot_of need climb change most
slot_none at = refl

pub empty_word : (net : Net) → summary_of net [] ≡ empty_summary net.places
empty_word net = λ i. record { places = net.places; letters = 0; slots = same i }
  where
    each : (p : ℕ) (b : Bool) → cond b (slot_of (letter_at net p) []) nil ≡ nil
    each p true = slot_none (letter_at net p)
    each p false = refl

    same : slots_of net [] ≡ replicate count_limit nil
    same =
        ext_get_or nil (slots_of net []) (replicate count_limit nil) (table_length (slot_at net []) count_limit ∙ sym (length-replicate count_limit nil))
        (λ k h. let l : k < count_limit = omega (arith, table_length (slot_at net []) count_limit) in
        table_at (slot_at net []) count_limit k nil l ∙ each k (ltb k net.places) ∙ sym (get_or-replicate count_limit k nil nil l))

-- ---- well formed
-- refusal 6 is not given exactly where a summary is well formed as published
pub well_formed_iff : (s : Summary) → (shape_fault s ≡ Ok tt) ↔ WellFormed s
well_formed_iff s = (formed_of_lem s, of_formed s)

-- "so every stored summary stays well formed" (document 02, E6): what is well formed by one limit of weights is so by every larger one
pub still_well_formed : (a b : ℕ) → a ≤ b → (s : Summary) → WellFormedBy a s → WellFormedBy b s
still_well_formed a b h s w = record { few = w.few; slots = record { each = λ p l. formed p (w.slots.each p l) } }
  where
    more : a * s.letters ≤ b * s.letters
    more = mul-le-mul_right s.letters h

    well : (x : Slot) → WellAt a s.letters x → WellAt b s.letters x
    well x v = record { need = le_trans v.need more; climb = le_trans v.climb more; low = v.low; high = v.high }

    formed : (p : ℕ) → FormedAt a s p → FormedAt b s p
    formed p f = record { at = λ k. well (get_or s.slots p nil) (f.at k); past = f.past }

-- so one that was stored under any limit up to the one of now, as 01's is, is not refused with 6
pub stored_stays : (limit : ℕ) → limit ≤ weight_limit → (s : Summary) → WellFormedBy limit s → shape_fault s ≡ Ok tt
stored_stays limit h s w = of_formed s (still_well_formed limit weight_limit h s w)

pub word_well_formed : (net : Net) (w : List ℕ) → Sized net → Light net → length w ≤ word_limit → Held net.places (summary_of net w)
word_well_formed net w sized light h =
    record {
      range = record { some = sized.some_places; few = sized.few_places };
      count = refl;
      slots = (word_shaped net light w h).slots;
      formed = formed_of_lem (summary_of net w) (word_shaped net light w h).shaped;
    }

pub shaped : {P : ℕ} {s : Summary} → Held P s → Shaped s
shaped {P} {s} h = record { slots = h.slots; shaped = of_formed s h.formed }

pub in_range : {P : ℕ} {s : Summary} → Held P s → Count s.places
in_range {P} {s} h = rw h.count h.range

pub empty_held : (P : ℕ) → Count P → Held P (empty_summary P)
empty_held P c = record { range = c; count = refl; slots = (empty_shaped P).slots; formed = formed_of_lem (empty_summary P) (empty_shaped P).shaped }
