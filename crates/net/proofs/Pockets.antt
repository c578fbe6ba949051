-- What a place's mark does, and what it does not: document 02, E5. Assumes nothing.
use Prim.Native.Nat.{ℕ, ◌+◌, ◌-◌, ◌≤◌, ◌<◌}
use mathlib.Core.Path.{◌≡◌, refl, sym, ap, ◌∙◌}
use mathlib.Core.Bool.{Bool, true, false, cond, ◌&&◌, ◌||◌}
use mathlib.Core.List.{List}
use mathlib.Core.Logic.{◌↔◌, ◌⊎◌, ⊎_elim}
use native.Mathlib.Omega.{arith}
use native.Mathlib.Decide.{dec_lt}
use lib.ListN.{length, get_or, get_or-eq_default}
use lib.Dec.{ltb, eqb}
use borrow.Author.Tests.{ltb-true, eqb-true, eqb-false}
use Rattle.ground.specs.Limits.{no_capacity}
use Rattle.ground.specs.Lists.{first, tally}
use Rattle.net.specs.Net.{Net, Pre, Post, capacity, Capped, mark, Pocket, leaves_first, rise, tokens}
use Rattle.net.specs.Firing.{Keeps, Enabled, Fires, nothing, letter}
use Rattle.net.specs.Letter.{arcs_at, short, over, lowest_short, passes, judge_at}
use Rattle.net.specs.Marks.{remarked, MarksAlike}
use Rattle.net.specs.declared.Cause.TheVariants.{Short, Over}
use Rattle.std.specs.Prelude.{Ok, Err}
use Rattle.net.proofs.Rule.{leaves_plain, leaves_pocket, force_capped, force_uncapped, level_le}

-- "01's rule passes runs that jam": a loop that puts back as much as it takes fires at a full plain place, and not at a full pocket
module _ (net : Net) (m : List ℕ) (t p : ℕ) (capped : Capped net p) (full : tokens m p ≡ capacity net p) (loop : Pre net p t ≡ Post net p t) where
  pub plain_passes : mark net p ≡ 0 → Keeps net m t p
  plain_passes h c = (level_le net m t p (capacity net p)).1 (rw (leaves_plain (mark net p) (Pre net p t) h) (omega arith))

  pub pocket_jams : Pocket net p → p < net.places → 1 ≤ Post net p t → Enabled net m t → ⊥
  pocket_jams h l s e =
      let k = (level_le net m t p (capacity net p)).0 (e.keeps p l capped) in
      omega (arith, leaves_pocket (mark net p) (Pre net p t) h)

-- one place: marks that are alike let as much leave first
leaves_same : (a b takes : ℕ) → (a ≡ 0) ↔ (b ≡ 0) → leaves_first a takes ≡ leaves_first b takes
leaves_same a b takes s = go (eqb a 0) refl
  where
    go : (x : Bool) → eqb a 0 ≡ x → leaves_first a takes ≡ leaves_first b takes
    go true e = let z = eqb-true a 0 e in leaves_plain a takes z ∙ sym (leaves_plain b takes (s.0 z))
    go false e = let z = eqb-false a 0 e in leaves_pocket a takes z ∙ sym (leaves_pocket b takes (λ h. z (s.1 h)))

-- marks that are alike change no answer; "A pocket without capacity behaves as plain" and "any other pocket, all alike" are the two ways to be so
module _ (net : Net) (marks : List ℕ) (alike : MarksAlike net.caps net.marks marks) where
  pub same_mark : (p : ℕ) → Capped net p → (mark net p ≡ 0) ↔ (get_or marks p 0 ≡ 0)
  same_mark p c = go (dec_lt p (length net.marks))
    where
      go : Dec (p < length net.marks) → (mark net p ≡ 0) ↔ (get_or marks p 0 ≡ 0)
      go (yes h) = alike.same p h c
      go (no n) =
          let l = alike.long in
          (λ e. get_or-eq_default marks 0 {n = p} (omega arith), λ e. get_or-eq_default net.marks 0 {n = p} (omega arith))

  same_leaves : (p takes : ℕ) → Capped net p → leaves_first (mark net p) takes ≡ leaves_first (get_or marks p 0) takes
  same_leaves p takes c = leaves_same (mark net p) (get_or marks p 0) takes (same_mark p c)

  same_over : (t : ℕ) (m : List ℕ) (p : ℕ) → over (arcs_at net t) m p ≡ over (arcs_at (remarked net marks) t) m p
  same_over t m p = go (ltb (capacity net p) no_capacity) refl
    where
      go : (b : Bool) → ltb (capacity net p) no_capacity ≡ b → over (arcs_at net t) m p ≡ over (arcs_at (remarked net marks) t) m p
      go true e =
          ap (λ (k : ℕ). ltb (capacity net p) no_capacity && ltb (capacity net p + k) (get_or m p 0 + get_or (arcs_at net t).puts p 0))
          (same_leaves p (get_or (arcs_at net t).takes p 0) (ltb-true (capacity net p) no_capacity e))
      go false e = rw e

  same_tests : (t : ℕ) (m : List ℕ) → over (arcs_at net t) m ≡ over (arcs_at (remarked net marks) t) m
  same_tests t m = λ j p. same_over t m p j

  -- each letter is judged the same, at every marking
  pub alike_passes : (t : ℕ) (m : List ℕ) → passes (arcs_at net t) m ≡ passes (arcs_at (remarked net marks) t) m
  alike_passes t m = ap (λ (f : ℕ → Bool). eqb (tally (λ p. short (arcs_at net t).takes m p || f p) (length m)) 0) (same_tests t m)

  pub alike_judge : (t : ℕ) (m : List ℕ) → judge_at net t m ≡ judge_at (remarked net marks) t m
  alike_judge t m =
      ap
      (λ (f : ℕ → Bool).
      cond (eqb (tally (λ p. short (arcs_at net t).takes m p || f p) (length m)) 0) (Ok tt)
      (Err (cond (ltb (lowest_short (arcs_at net t).takes m) (length m)) (Short (lowest_short (arcs_at net t).takes m)) (Over (first f (length m))))))
      (same_tests t m)

  -- every word fires the same
  alike_keeps : (m : List ℕ) (t p : ℕ) → Keeps net m t p → Keeps (remarked net marks) m t p
  alike_keeps m t p k c =
      (level_le (remarked net marks) m t p (capacity net p)).1
      (omega (arith, (level_le net m t p (capacity net p)).0 (k c), same_leaves p (Pre net p t) c))

  pub alike_fires : {m w m' : List ℕ} → Fires net m w m' → Fires (remarked net marks) m w m'
  alike_fires nothing = nothing
  alike_fires (letter f l) =
      letter
      (record {
        named = f.named;
        enabled = record { covers = f.enabled.covers; keeps = λ p h. alike_keeps _ _ p (f.enabled.keeps p h) };
        gives = record { long = f.gives.long; at = f.gives.at };
      })
      (alike_fires l)

  -- each letter rises as far
  pub alike_rise : (p t : ℕ) → rise net p t ≡ rise (remarked net marks) p t
  alike_rise p t = go (dec_lt (capacity net p) no_capacity)
    where
      go : Dec (Capped net p) → rise net p t ≡ rise (remarked net marks) p t
      go (yes c) =
          rw (force_capped (capacity net p) (mark net p) c, force_capped (capacity net p) (get_or marks p 0) c)
          (ap (λ (k : ℕ). Post net p t - k) (same_leaves p (Pre net p t) c))
      go (no n) =
          rw (force_uncapped (capacity net p) (mark net p) (omega arith), force_uncapped (capacity net p) (get_or marks p 0) (omega arith))

-- alike both ways
pub alike_back : (net : Net) (marks : List ℕ) → MarksAlike net.caps net.marks marks → MarksAlike net.caps marks net.marks
alike_back net marks a =
    record {
      long = sym a.long;
      same = λ p h c. let s = a.same p (let l = a.long in omega arith) c in (s.1, s.0);
    }

-- "A pocket without capacity behaves as plain": any mark at an uncapped place; "any other pocket, all alike": any two marks that are not 0
pub uncapped_plain : (caps marks marks' : List ℕ) → length marks' ≡ length marks → ((p : ℕ) → p < length marks → get_or caps p 0 < no_capacity → get_or marks' p 0 ≡ get_or marks p 0) → MarksAlike caps marks marks'
uncapped_plain caps marks marks' long same =
    record { long = long; same = λ p h c. let e = same p h c in (λ z. e ∙ z, λ z. sym e ∙ z) }

pub marks_alike : (caps marks marks' : List ℕ) → length marks' ≡ length marks → ((p : ℕ) → p < length marks → (get_or marks' p 0 ≡ get_or marks p 0) ⊎ ((get_or marks p 0 ≡ 0 → ⊥) × (get_or marks' p 0 ≡ 0 → ⊥))) → MarksAlike caps marks marks'
marks_alike caps marks marks' long same =
    record {
      long = long;
      same = λ p h c.
          ⊎_elim (λ e. (λ (z : get_or marks p 0 ≡ 0). e ∙ z, λ (z : get_or marks' p 0 ≡ 0). sym e ∙ z))
          (λ n. (λ (z : get_or marks p 0 ≡ 0). absurd (n.0 z), λ (z : get_or marks' p 0 ≡ 0). absurd (n.1 z)))
          (same p h);
    }
