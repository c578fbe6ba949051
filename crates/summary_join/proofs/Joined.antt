-- Laws of a join, place by place: of words, of well-formed summaries, grouped, and with the empty summary. Assumes nothing.
use Prim.Native.Nat.{ℕ, ◌+◌, ◌*◌, ◌≤◌, ◌<◌}
use mathlib.Core.Path.{◌≡◌, sym, ap, ap₂, ◌∙◌}
use mathlib.Core.Bool.{Bool, true, false, cond}
use mathlib.Core.List.{List, ◌++◌}
use native.Mathlib.Nat.{add_assoc, mul-add}
use native.Mathlib.Omega.{arith}
use lib.ListN.{length, get_or, replicate, length-append}
use lib.Seq.{ext_get_or}
use lib.Dec.{ltb}
use Rattle.ground.specs.Limits.{count_limit, weight_limit, word_limit}
use Rattle.ground.proofs.Fill.{table_length, table_at}
use Rattle.net.specs.Net.{Net}
use Rattle.summary_place.specs.Place.{letter_at}
use Rattle.summary_place.specs.Slots.{nil, slot_of, slot_at, slots_of, joined, joined_all}
use Rattle.summary_place.specs.Walk.{Well}
use Rattle.summary_place.specs.declared.Slot.{Slot}
use Rattle.summary_place.proofs.Words.{slot_append}
use Rattle.summary_slots.proofs.Joins.{joined_well, nil_joined, joined_nil, all_length, all-at, all_assoc}
use Rattle.summary_form.specs.Summary.{summary_of, empty_summary}
use Rattle.summary_join.specs.Join.{join_summary}
use Rattle.summary_form.specs.declared.Summary.{Summary}
use Rattle.summary_form.proofs.Shapes.{sound_shape}
use Rattle.summary_form.proofs.Places.{rising}
use Rattle.summary_form.proofs.Formed.{Shaped, wells_at, bound, none_long, none_at}

-- joined place by place
pub words_joined : (net : Net) (u w : List ℕ) → join_summary (summary_of net u) (summary_of net w) ≡ summary_of net (u ++ w)
words_joined net u w = λ i. record { places = net.places; letters = sym (length-append u w) i; slots = slots i }
  where
    both : (p : ℕ) (b : Bool) → joined (cond b (slot_of (letter_at net p) u) nil) (cond b (slot_of (letter_at net p) w) nil) ≡ cond b (slot_of (letter_at net p) (u ++ w)) nil
    both p true = sym (slot_append (letter_at net p) (rising net p) u w)
    both p false = nil_joined nil

    long : length (slots_of net u) ≡ count_limit
    long = table_length (slot_at net u) count_limit

    slots : joined_all (slots_of net u) (slots_of net w) ≡ slots_of net (u ++ w)
    slots =
        ext_get_or nil (joined_all (slots_of net u) (slots_of net w)) (slots_of net (u ++ w))
        (all_length (slots_of net u) (slots_of net w) ∙ long ∙ sym (table_length (slot_at net (u ++ w)) count_limit))
        (λ k h.
        let l : k < count_limit = omega (arith, all_length (slots_of net u) (slots_of net w), long) in
        all-at (slots_of net u) (slots_of net w) k (omega (arith, long))
        ∙ ap₂ joined (table_at (slot_at net u) count_limit k nil l) (table_at (slot_at net w) count_limit k nil l)
        ∙ both k (ltb k net.places)
        ∙ sym (table_at (slot_at net (u ++ w)) count_limit k nil l))

pub join_shaped : (a b : Summary) → Shaped a → Shaped b → a.places ≡ b.places → a.letters + b.letters ≤ word_limit → Shaped (join_summary a b)
join_shaped a b x y e h =
    record { slots = all_length a.slots b.slots ∙ x.slots; shaped = sound_shape (join_summary a b) h each }
  where
    cap : (t : Bool) (s u : Slot) → Well (cond t (weight_limit * a.letters) 0) s → Well (cond t (weight_limit * b.letters) 0) u → Well (cond t (weight_limit * (a.letters + b.letters)) 0) (joined s u)
    cap true s u p q = rw (mul-add weight_limit a.letters b.letters) (joined_well s u (weight_limit * a.letters) (weight_limit * b.letters) p q)
    cap false s u p q = joined_well s u 0 0 p q

    each : (p : ℕ) → p < count_limit → Well (bound a.places (a.letters + b.letters) p) (get_or (joined_all a.slots b.slots) p nil)
    each p l =
        rw (all-at a.slots b.slots p (omega (arith, x.slots)))
        (cap (ltb p a.places) (get_or a.slots p nil) (get_or b.slots p nil) (wells_at a x p l) (rw e (wells_at b y p l)))

pub join_grouped : (a b c : Summary) → Shaped a → Shaped b → join_summary (join_summary a b) c ≡ join_summary a (join_summary b c)
join_grouped a b c x y =
    λ i. record {
      places = a.places;
      letters = add_assoc a.letters b.letters c.letters i;
      slots = all_assoc a.slots b.slots c.slots (y.slots ∙ sym x.slots) i;
    }

-- the empty summary on either side
pub empty_then : (s : Summary) → Shaped s → join_summary (empty_summary s.places) s ≡ s
empty_then s f = λ i. record { places = s.places; letters = plus s.letters i; slots = slots i }
  where
    plus : (n : ℕ) → 0 + n ≡ n
    plus n = omega arith

    slots : joined_all (replicate count_limit nil) s.slots ≡ s.slots
    slots =
        ext_get_or nil (joined_all (replicate count_limit nil) s.slots) s.slots (all_length (replicate count_limit nil) s.slots ∙ none_long ∙ sym f.slots)
        (λ k h.
        let l : k < count_limit = omega (arith, all_length (replicate count_limit nil) s.slots, none_long) in
        all-at (replicate count_limit nil) s.slots k (omega (arith, none_long))
        ∙ ap (λ (x : Slot). joined x (get_or s.slots k nil)) (none_at k l) ∙ nil_joined (get_or s.slots k nil))

pub then_empty : (s : Summary) → Shaped s → join_summary s (empty_summary s.places) ≡ s
then_empty s f = λ i. record { places = s.places; letters = plus s.letters i; slots = slots i }
  where
    plus : (n : ℕ) → n + 0 ≡ n
    plus n = omega arith

    slots : joined_all s.slots (replicate count_limit nil) ≡ s.slots
    slots =
        ext_get_or nil (joined_all s.slots (replicate count_limit nil)) s.slots (all_length s.slots (replicate count_limit nil))
        (λ k h.
        let l : k < count_limit = omega (arith, all_length s.slots (replicate count_limit nil), f.slots) in
        all-at s.slots (replicate count_limit nil) k (omega (arith, f.slots))
        ∙ ap (joined (get_or s.slots k nil)) (none_at k l)
        ∙ joined_nil (bound s.places s.letters k) (get_or s.slots k nil) (wells_at s f k l))
