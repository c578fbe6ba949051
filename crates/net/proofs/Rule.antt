-- Laws of the capacity rule that a place's mark chooses: 001's for a plain place, 002's for a pocket. Assumes nothing.
use Prim.Native.Nat.{ℕ, ◌+◌, ◌≤◌, ◌<◌, zero-le}
use mathlib.Core.Path.{◌≡◌, refl}
use mathlib.Core.Bool.{Bool, true, false, cond}
use mathlib.Core.List.{List}
use mathlib.Core.Logic.{◌↔◌}
use native.Mathlib.Omega.{arith}
use lib.Dec.{eqb}
use lib.IntN.{pos}
use lib.Signed.{◌≤ℤ◌, ◌<ℤ◌}
use borrow.Author.Tests.{lt-ltb, le-ltb, eq-eqb, ne_eqb, eqb-true, eqb-false}
use Rattle.ground.specs.Limits.{no_capacity}
use Rattle.ground.proofs.Parts.{moved_le, moved_lt, le_pos, pos_lt}
use Rattle.net.specs.Net.{Net, Pre, Post, capacity, Capped, mark, Pocket, in_force, leaves_first, rise, tokens}
use Rattle.net.specs.Firing.{plain_level, pocket_level, level, Keeps}

-- ---- what leaves first
pub leaves_plain : (mark takes : ℕ) → mark ≡ 0 → leaves_first mark takes ≡ takes
unfolding leaves_first
leaves_plain mark takes h = rw (eq-eqb mark 0 h)

pub leaves_pocket : (mark takes : ℕ) → (mark ≡ 0 → ⊥) → leaves_first mark takes ≡ 0
unfolding leaves_first
leaves_pocket mark takes h = rw (ne_eqb mark 0 h)

pub leaves_most : (mark takes : ℕ) → leaves_first mark takes ≤ takes
unfolding leaves_first
leaves_most mark takes = go (eqb mark 0)
  where
    go : (b : Bool) → cond b takes 0 ≤ takes
    go true = omega arith
    go false = zero-le

-- ---- the mark that counts
pub force_capped : (cap mark : ℕ) → cap < no_capacity → in_force cap mark ≡ mark
unfolding in_force
force_capped cap mark h = rw (lt-ltb cap no_capacity h)

pub force_uncapped : (cap mark : ℕ) → no_capacity ≤ cap → in_force cap mark ≡ 0
unfolding in_force
force_uncapped cap mark h = rw (le-ltb cap no_capacity h)

-- ---- the rule
module _ (net : Net) (m : List ℕ) (t p : ℕ) where
  -- a plain place's level is 001's, a pocket's is 002's
  pub level_plain : mark net p ≡ 0 → level net m t p ≡ plain_level net m t p
  unfolding level
  level_plain h = rw (eq-eqb (mark net p) 0 h)

  pub level_pocket : Pocket net p → level net m t p ≡ pocket_level net m t p
  unfolding level
  level_pocket h = rw (ne_eqb (mark net p) 0 h)

  -- it keeps to c, or is above it, in numbers that are not signed
  pub level_le : (c : ℕ) → level net m t p ≤ℤ pos c ↔ tokens m p + Post net p t ≤ c + leaves_first (mark net p) (Pre net p t)
  level_le c = go (eqb (mark net p) 0) refl
    where
      go : (b : Bool) → eqb (mark net p) 0 ≡ b → level net m t p ≤ℤ pos c ↔ tokens m p + Post net p t ≤ c + leaves_first (mark net p) (Pre net p t)
      go true e =
          let z = eqb-true (mark net p) 0 e in
          rw (level_plain z, leaves_plain (mark net p) (Pre net p t) z) (moved_le (tokens m p) (Post net p t) (Pre net p t) c)
      go false e =
          let z = eqb-false (mark net p) 0 e in
          let l = le_pos (pos (tokens m p + Post net p t)) c in
          rw (level_pocket z, leaves_pocket (mark net p) (Pre net p t) z) (λ h. omega (arith, l.0 h), λ h. l.1 (omega arith))

  pub level_lt : (c : ℕ) → pos c <ℤ level net m t p ↔ c + leaves_first (mark net p) (Pre net p t) < tokens m p + Post net p t
  level_lt c = go (eqb (mark net p) 0) refl
    where
      go : (b : Bool) → eqb (mark net p) 0 ≡ b → pos c <ℤ level net m t p ↔ c + leaves_first (mark net p) (Pre net p t) < tokens m p + Post net p t
      go true e =
          let z = eqb-true (mark net p) 0 e in
          rw (level_plain z, leaves_plain (mark net p) (Pre net p t) z) (moved_lt (tokens m p) (Post net p t) (Pre net p t) c)
      go false e =
          let z = eqb-false (mark net p) 0 e in
          let l = pos_lt (pos (tokens m p + Post net p t)) c in
          rw (level_pocket z, leaves_pocket (mark net p) (Pre net p t) z) (λ h. omega (arith, l.0 h), λ h. l.1 (omega arith))

  -- at a place that is within its capacity the rule keeps exactly where there is room for tokens plus rise
  pub keeps_rise : (Capped net p → tokens m p ≤ capacity net p) → Keeps net m t p ↔ (Capped net p → tokens m p + rise net p t ≤ capacity net p)
  keeps_rise within = (
    λ k c. let w = within c in rw (force_capped (capacity net p) (mark net p) c) (omega (arith, (level_le (capacity net p)).0 (k c))),
    λ r c. (level_le (capacity net p)).1 (let h = rw (force_capped (capacity net p) (mark net p) c) at (r c) in let w = within c in omega arith),
  )
