-- What a summary asked means: demand 3 of document 01, over the published relation. Assumes nothing.
use Rattle.std.specs.Prelude.{Ok}
use Rattle.refusals.specs.Given.{Answer}
use Prim.Native.Nat.{ℕ, ◌<◌}
use mathlib.Core.Path.{◌≡◌, refl, sym, ap, ◌∙◌}
use mathlib.Core.Bool.{true}
use mathlib.Core.List.{List}
use mathlib.Core.Logic.{◌↔◌}
use native.Mathlib.Omega.{arith}
use lib.ListN.{length, get_or}
use lib.Seq.{ext_get_or}
use lib.IntN.{ℤ, pos, ◌+ℤ◌}
use Rattle.ground.specs.Limits.{count_limit}
use Rattle.ground.specs.Parts.{up}
use Rattle.ground.proofs.Fill.{table_length, table_at}
use Rattle.ground.proofs.Parts.{parts_eq, up_sum, dn_sum}
use Rattle.net.specs.Net.{Net, tokens}
use Rattle.net.specs.Firing.{Fires, Within}
use Rattle.net.proofs.Meaning.{within_stays}
use Rattle.refusals.specs.Given.{Letters}
use Rattle.replay.specs.Entry.{Replayed, Allowed}
use Rattle.plays.specs.declared.Replay.{Replay}
use Rattle.plays.specs.declared.Replay.TheVariants.{Fired}
use Rattle.replay.proofs.Meaning.{fired_means, fires_fired}
use Rattle.summary_place.specs.Place.{letter_at, change}
use Rattle.summary_place.specs.Slots.{nil, slot_of, slots_of}
use Rattle.summary_asked.specs.Asked.{end_at, ends, Suffices}
use Rattle.summary_place.specs.declared.Slot.{Slot}
use Rattle.summary_form.specs.Summary.{summary_of}
use Rattle.summary_ask.specs.Ask.{Replied, SufficesWord}
use Rattle.summary_ask.specs.Allowed.{AskAllowed}
use Rattle.summary_form.specs.declared.Summary.{Summary}
use Rattle.summary_ask.specs.declared.Asked.{Asked}
use Rattle.summary_ask.specs.declared.Asked.TheVariants.{Yes, No}
use Rattle.summary_ask.proofs.Asking.{asked_apart, slots_asked, yes_means, means_yes, no_means}
use Rattle.summary_form.proofs.Places.{ends_at}
use Rattle.summary_form.proofs.Formed.{at_formed}
use Rattle.summary_form.proofs.Meaning.{climb_by_mark, slot_here, word_well_formed}
use Rattle.summary_form.proofs.Fits.{fires_fits, fits_fires}

-- ---- the promise has one answer, and one content of the room
pub ask_unique : (net : Net) (m : List ℕ) (s : Summary) (room : List ℕ) (r r' : Answer Asked) (l l' : List ℕ) → Replied net m s room r l → Replied net m s room r' l' → (r ≡ r') × (l ≡ l')
ask_unique net m s room r r' l l' a b = (asked_apart r r' (a.answer ∙ sym b.answer), a.left ∙ sym b.left)

-- ---- demand 3
-- from a marking within capacities a word fires exactly where the need is covered at each place and marking plus climb keeps to each capacity
pub fires_iff : (net : Net) (w m : List ℕ) → Within net m → Letters net.transitions w → ((m' : List ℕ) × Fires net m w m') ↔ SufficesWord net w m
fires_iff net w m i letters = (
  λ f. record { at = λ p h. let q = fires_fits f.1 i p h in record { covers = q.0; keeps = q.1 } },
  λ k. fits_fires net w m i.long letters (λ p h. ((k.at p h).covers, (k.at p h).keeps)),
)

pub fires_ends : {net : Net} {m w m' : List ℕ} → Fires net m w m' → (p : ℕ) → p < net.places → pos (tokens m' p) ≡ pos (tokens m p) +ℤ change (letter_at net p) w
fires_ends f p h = ends_at f p h

-- ---- asking
-- of any summary: yes exactly where the arithmetic holds, and then the room has marking plus change; a no leaves the room
module _ (net : Net) (m : List ℕ) (s : Summary) (room : List ℕ) (allowed : AskAllowed net m s room) (r : Answer Asked) (room' : List ℕ) (p : Replied net m s room r room') where
  pub ask_yes : (r ≡ Ok Yes) ↔ Suffices s.slots net.caps m
  ask_yes =
      let j = slots_asked net m s room allowed r room' p in
      (λ e. (yes_means s.slots net.caps m room r room' j e).0, means_yes s.slots net.caps m room r room' j)

  pub ask_left : r ≡ Ok Yes → room' ≡ ends s.slots m
  ask_left e = (yes_means s.slots net.caps m room r room' (slots_asked net m s room allowed r room' p) e).1

  -- in signed numbers
  pub ask_ends : r ≡ Ok Yes → (k : ℕ) → k < net.places → pos (tokens room' k) ≡ pos (tokens m k) +ℤ (get_or s.slots k nil).change
  ask_ends e k h =
      let y = yes_means s.slots net.caps m room r room' (slots_asked net m s room allowed r room' p) e in
      let l : k < length m = omega (arith, allowed.marked) in
      let b : k < count_limit = omega (arith, allowed.sized.few_places) in
      let w = at_formed s k (allowed.formed.slots.each k b) in
      let c : ℤ = (get_or s.slots k nil).change in
      let a : tokens room' k ≡ end_at (get_or s.slots k nil) (tokens m k) = ap (λ (x : List ℕ). get_or x k 0) y.1 ∙ table_at (λ k. end_at (get_or s.slots k nil) (get_or m k 0)) (length m) k 0 l in
      let n = (y.0.at k l).covers in
      let d = w.down in
      parts_eq (pos (tokens room' k)) (pos (tokens m k) +ℤ c) (omega (arith, up_sum (pos (tokens m k)) c)) (omega (arith, dn_sum (pos (tokens m k)) c))

  pub ask_no : r ≡ Ok No → room' ≡ room
  ask_no e = (no_means s.slots net.caps m room r room' (slots_asked net m s room allowed r room' p) e).0

-- of a word's summary: yes exactly where the word fires, with the same end marking
module _ (net : Net) (m w room : List ℕ) (allowed : Allowed net m w true room) where
  ask_allowed : AskAllowed net m (summary_of net w) room
  ask_allowed =
      record {
        sized = allowed.sized;
        light = allowed.light;
        marked = allowed.marked;
        roomy = allowed.roomy;
        counted = refl;
        fine = allowed.fine;
        wired = allowed.wired;
        formed = (word_well_formed net w allowed.sized allowed.light allowed.short).formed;
      }

  within_given : Within net m
  within_given = record { long = allowed.marked; at = λ p h c. allowed.fine.within p (omega (arith, allowed.marked)) }

  slot_is : (p : ℕ) → p < net.places → get_or (slots_of net w) p nil ≡ slot_of (letter_at net p) w
  slot_is p h = slot_here net w p allowed.sized.few_places h

  word_suffices : Suffices (slots_of net w) net.caps m → SufficesWord net w m
  unfolding slot_of
  word_suffices k = record { at = λ p h. rw (slot_is p h, climb_by_mark net p w) at (k.at p (omega (arith, allowed.marked))) }

  suffices_word : SufficesWord net w m → Suffices (slots_of net w) net.caps m
  unfolding slot_of
  suffices_word k = record { at = λ p h. let l : p < net.places = omega (arith, allowed.marked) in rw (slot_is p l, climb_by_mark net p w) (k.at p l) }

  ends_is : (m' : List ℕ) → Fires net m w m' → ends (slots_of net w) m ≡ m'
  unfolding slot_of
  ends_is m' f =
      let long = (within_stays f within_given).long in
      ext_get_or 0 (ends (slots_of net w) m) m' (table_length (λ p. end_at (get_or (slots_of net w) p nil) (get_or m p 0)) (length m) ∙ allowed.marked ∙ sym long)
      (λ p h.
      let t = table_length (λ p. end_at (get_or (slots_of net w) p nil) (get_or m p 0)) (length m) in
      let l : p < net.places = omega (arith, allowed.marked) in
      table_at (λ p. end_at (get_or (slots_of net w) p nil) (get_or m p 0)) (length m) p 0 (omega arith)
      ∙ ap (λ (s : Slot). end_at s (get_or m p 0)) (slot_is p l)
      ∙ omega (arith, up_sum (pos (get_or m p 0)) (change (letter_at net p) w), ap up (ends_at f p l)))

  module _ (r : Answer Asked) (room' : List ℕ) (p : Replied net m (summary_of net w) room r room') where
    pub ask_fires : r ≡ Ok Yes → Fires net m w room'
    ask_fires e =
        let k = word_suffices ((ask_yes net m (summary_of net w) room ask_allowed r room' p).0 e) in
        let f = (fires_iff net w m within_given allowed.letters).1 k in
        rw (ask_left net m (summary_of net w) room ask_allowed r room' p e ∙ ends_is f.0 f.1) f.1

    pub fires_ask : (m' : List ℕ) → Fires net m w m' → (r ≡ Ok Yes) × (room' ≡ m')
    fires_ask m' f =
        let y = (ask_yes net m (summary_of net w) room ask_allowed r room' p).1 (suffices_word ((fires_iff net w m within_given allowed.letters).0 (m', f))) in
        (y, ask_left net m (summary_of net w) room ask_allowed r room' p y ∙ ends_is m' f)

    -- `ask_summary` of `summary_word` answers yes exactly where `replay_word` answers fired, with the same end marking
    module _ (x : Answer Replay) (left : List ℕ) (q : Replayed net m w true room x left) where
      pub ask_replays : (r ≡ Ok Yes) ↔ (x ≡ Ok (Fired (length w)))
      ask_replays = (
        λ e. (fires_fired net m w true room x left q allowed room' (ask_fires e)).0,
        λ e. (fires_ask left (fired_means net m w true room x left q allowed (length w) e).1).0,
      )

      pub ask_replays_left : r ≡ Ok Yes → room' ≡ left
      ask_replays_left e = sym (fires_fired net m w true room x left q allowed room' (ask_fires e)).1
