-- What a join means: the summary of one word followed by the other, grouped either way, with the empty summary neutral. Assumes nothing.
use Rattle.std.specs.Prelude.{Ok}
use Rattle.refusals.specs.Given.{Answer, refused}
use Prim.Native.Nat.{ℕ, ◌+◌, ◌≤◌, ◌<◌}
use mathlib.Core.Path.{◌≡◌, sym, ap, ◌∙◌}
use mathlib.Core.List.{List, ◌++◌}
use native.Mathlib.Decide.{dec_le}
use native.Mathlib.Omega.{arith}
use lib.ListN.{length}
use Rattle.ground.specs.Limits.{word_limit}
use Rattle.net.specs.Net.{Net, Light, Sized}
use Rattle.summary_form.specs.Summary.{summary_of, empty_summary, Held}
use Rattle.summary_join.specs.Join.{join_summary, join_answer, then_join}
use Rattle.summary_form.specs.declared.Summary.{Summary}
use Rattle.summary_join.proofs.Joining.{of_join_allowed, over_joined}
use Rattle.summary_form.proofs.Formed.{formed_of_lem}
use Rattle.summary_join.proofs.Joined.{words_joined, join_shaped, join_grouped, empty_then, then_empty}
use Rattle.summary_form.proofs.Meaning.{word_well_formed, shaped, in_range, empty_held}

-- ---- the promise has one answer
pub join_unique : (s t : Summary) (r r' : Answer Summary) → r ≡ join_answer s t → r' ≡ join_answer s t → r ≡ r'
join_unique s t r r' a b = a ∙ sym b

-- ---- joining
module _ {P : ℕ} {a b : Summary} (x : Held P a) (y : Held P b) where
  -- a join is refused exactly where 7 says so
  pub join_done : a.letters + b.letters ≤ word_limit → join_answer a b ≡ Ok (join_summary a b)
  join_done h =
      rw (of_join_allowed a b (record { first_count = in_range x; second_count = in_range y; like = x.count ∙ sym y.count; first_formed = x.formed; second_formed = y.formed; few = h }))

  pub join_over : word_limit < a.letters + b.letters → join_answer a b ≡ refused 7 0
  join_over h = rw (over_joined a b (in_range x) (in_range y) (x.count ∙ sym y.count) x.formed y.formed h)

  -- the join of two well-formed summaries is one
  pub join_held : a.letters + b.letters ≤ word_limit → Held P (join_summary a b)
  join_held h =
      let j = join_shaped a b (shaped x) (shaped y) (x.count ∙ sym y.count) h in
      record { range = x.range; count = x.count; slots = j.slots; formed = formed_of_lem (join_summary a b) j.shaped }

-- the join of two words' summaries is the summary of the word that they make, refused exactly where that word is too long
module _ (net : Net) (u w : List ℕ) (sized : Sized net) (light : Light net) (hu : length u ≤ word_limit) (hw : length w ≤ word_limit) where
  pub join_of_words : length u + length w ≤ word_limit → join_answer (summary_of net u) (summary_of net w) ≡ Ok (summary_of net (u ++ w))
  join_of_words h =
      join_done (word_well_formed net u sized light hu) (word_well_formed net w sized light hw) h
      ∙ ap (λ (s : Summary). Ok s) (words_joined net u w)

  pub join_of_long_words : word_limit < length u + length w → join_answer (summary_of net u) (summary_of net w) ≡ refused 7 0
  join_of_long_words h = join_over (word_well_formed net u sized light hu) (word_well_formed net w sized light hw) h

-- "Of three well-formed summaries of one place count, either both groupings give the same summary or both are refused."
pub join_associative : {P : ℕ} {a b c : Summary} → Held P a → Held P b → Held P c → then_join (join_answer a b) (λ s. join_answer s c) ≡ then_join (join_answer b c) (λ s. join_answer a s)
join_associative {P} {a} {b} {c} x y z = elim (dec_le (a.letters + b.letters) word_limit) [ yes h ↦ left h | no h ↦ left_over (omega arith) ]
  where
    go : (j : Answer Summary) (s : Summary) → j ≡ Ok s → (f : Summary → Answer Summary) → then_join j f ≡ f s
    go j s e f = ap (λ (k : Answer Summary). then_join k f) e

    stop : (j : Answer Summary) → j ≡ refused 7 0 → (f : Summary → Answer Summary) → then_join j f ≡ refused 7 0
    stop j e f = ap (λ (k : Answer Summary). then_join k f) e

    -- the right grouping, where all three do not fit
    right_over : word_limit < a.letters + (b.letters + c.letters) → then_join (join_answer b c) (λ s. join_answer a s) ≡ refused 7 0
    right_over h =
        elim (dec_le (b.letters + c.letters) word_limit) [
          | yes k ↦ go _ _ (join_done y z k) (λ s. join_answer a s) ∙ join_over x (join_held y z k) h
          | no k ↦ stop _ (join_over y z (omega arith)) (λ s. join_answer a s)
        ]

    left_over : word_limit < a.letters + b.letters → then_join (join_answer a b) (λ s. join_answer s c) ≡ then_join (join_answer b c) (λ s. join_answer a s)
    left_over h = stop _ (join_over x y h) (λ s. join_answer s c) ∙ sym (right_over (omega arith))

    left : a.letters + b.letters ≤ word_limit → then_join (join_answer a b) (λ s. join_answer s c) ≡ then_join (join_answer b c) (λ s. join_answer a s)
    left h =
        elim (dec_le (a.letters + b.letters + c.letters) word_limit) [
          | yes k ↦
              go _ _ (join_done x y h) (λ s. join_answer s c) ∙ join_done (join_held x y h) z k
              ∙ ap (λ (s : Summary). Ok s) (join_grouped a b c (shaped x) (shaped y))
              ∙ sym (go _ _ (join_done y z (omega arith)) (λ s. join_answer a s) ∙ join_done x (join_held y z (omega arith)) (omega arith))
          | no k ↦ go _ _ (join_done x y h) (λ s. join_answer s c) ∙ join_over (join_held x y h) z (omega arith) ∙ sym (right_over (omega arith))
        ]

-- the empty summary is neutral on both sides, for whole summaries
pub empty_left : {P : ℕ} {s : Summary} → Held P s → join_answer (empty_summary P) s ≡ Ok s
empty_left {P} {s} h =
    join_done (empty_held P h.range) h (omega (arith, h.formed.few))
    ∙ ap (λ (t : Summary). Ok t) (ap (λ (Q : ℕ). join_summary (empty_summary Q) s) (sym h.count) ∙ empty_then s (shaped h))

pub empty_right : {P : ℕ} {s : Summary} → Held P s → join_answer s (empty_summary P) ≡ Ok s
empty_right {P} {s} h =
    join_done h (empty_held P h.range) (omega (arith, h.formed.few))
    ∙ ap (λ (t : Summary). Ok t) (ap (λ (Q : ℕ). join_summary s (empty_summary Q)) (sym h.count) ∙ then_empty s (shaped h))
