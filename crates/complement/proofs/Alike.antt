-- Marks that no answer tells apart (02, E5: "0 plain, any other pocket, all alike"; "A pocket without capacity behaves as plain") give one
-- complement net and one answer. Assumes nothing.
use Prim.Native.Nat.{ℕ, ◌+◌, ◌-◌}
use mathlib.Core.Path.{◌≡◌, refl, ap, ◌∙◌}
use mathlib.Core.Bool.{Bool, true, false, ◌&&◌, ◌||◌}
use mathlib.Core.List.{List, ◌++◌}
use mathlib.Core.Logic.{◌↔◌}
use lib.ListN.{get_or}
use lib.Dec.{ltb, eqb}
use borrow.Author.Tests.{ltb-true, eq-eqb, ne_eqb, eqb-true, eqb-false}
use Rattle.ground.specs.Limits.{no_capacity}
use Rattle.net.specs.Net.{Net, Pre, Post, capacity, Capped, mark}
use Rattle.net.specs.Letter.{row}
use Rattle.net.specs.Marks.{remarked, MarksAlike}
use Rattle.net.proofs.Pockets.{same_mark, alike_rise}
use Rattle.refusals.proofs.Marks.{remarked_net, remarked_marked}
use Rattle.complement.specs.Complement.{changed, pocket_of, made, at_made, pre_row, post_row, complement_net, complement_marking}
use Rattle.complement.specs.Told.{places_fault, places_of}
use Rattle.complement.specs.Entry.{Rooms, rooms_of, rooms_fit, complement_fault, written, answered, complement_of}
use Rattle.complement.proofs.Written.{joined_same}

module _ (net : Net) (marks : List ℕ) (alike : MarksAlike net.caps net.marks marks) where
  same_pocket : (p : ℕ) → Capped net p → pocket_of (mark net p) ≡ pocket_of (get_or marks p 0)
  same_pocket p c = go (eqb (mark net p) 0) refl
    where
      s : (mark net p ≡ 0) ↔ (get_or marks p 0 ≡ 0)
      s = same_mark net marks alike p c

      go : (b : Bool) → eqb (mark net p) 0 ≡ b → pocket_of (mark net p) ≡ pocket_of (get_or marks p 0)
      go true e = rw (e, eq-eqb (get_or marks p 0) 0 (s.0 (eqb-true (mark net p) 0 e)))
      go false e = rw (e, ne_eqb (get_or marks p 0) 0 (λ z. eqb-false (mark net p) 0 e (s.1 z)))

  -- the same places get a new place
  pub alike_made : (p : ℕ) → made net p ≡ made (remarked net marks) p
  unfolding made changed
  alike_made p = go (ltb (capacity net p) no_capacity) refl
    where
      go : (b : Bool) → ltb (capacity net p) no_capacity ≡ b → (ltb (capacity net p) no_capacity && (pocket_of (mark net p) || changed net p)) ≡ (ltb (capacity net p) no_capacity && (pocket_of (get_or marks p 0) || changed net p))
      go true e = rw (e, same_pocket p (ltb-true (capacity net p) no_capacity e))
      go false e = rw e

  made_same : made net ≡ made (remarked net marks)
  made_same = λ j p. alike_made p j

  -- so the complement net and its initial marking are the same
  same_pre : (t : ℕ) → pre_row net t ≡ pre_row (remarked net marks) t
  same_pre t = ap (λ (f : ℕ → ℕ). row net.places t net.pre ++ at_made net f) (λ j p. alike_rise net marks alike p t j) ∙ rw made_same

  same_post : (t : ℕ) → post_row net t ≡ post_row (remarked net marks) t
  same_post t =
      ap (λ (f : ℕ → ℕ). row net.places t net.post ++ at_made net (λ p. f p + Pre net p t - Post net p t)) (λ j p. alike_rise net marks alike p t j)
      ∙ rw made_same

  pub alike_net : complement_net net ≡ complement_net (remarked net marks)
  alike_net =
      rw (
        joined_same (pre_row net) (pre_row (remarked net marks)) net.transitions (λ t h. same_pre t),
        joined_same (post_row net) (post_row (remarked net marks)) net.transitions (λ t h. same_post t),
        made_same,
      )

  pub alike_marking : (m : List ℕ) → complement_marking net m ≡ complement_marking (remarked net marks) m
  alike_marking m = rw made_same

  -- and so are the answers
  pub alike_places : places_of net ≡ places_of (remarked net marks)
  unfolding places_fault
  alike_places = rw (remarked_net net marks alike.long true, made_same)

  same_fault : (initial : List ℕ) (rooms : Rooms) → complement_fault net initial (rooms_fit net rooms) ≡ complement_fault (remarked net marks) initial (rooms_fit (remarked net marks) rooms)
  unfolding complement_fault
  same_fault initial rooms = rw (remarked_marked net marks alike.long initial (rooms_fit net rooms), made_same)

  same_written : (initial : List ℕ) → written net initial ≡ written (remarked net marks) initial
  same_written initial = λ j. rooms_of (alike_net j).pre (alike_net j).post (alike_net j).caps (alike_net j).marks (alike_marking initial j)

  pub alike_complement : (initial : List ℕ) (rooms : Rooms) → complement_of net initial rooms ≡ complement_of (remarked net marks) initial rooms
  alike_complement initial rooms = λ j. answered (same_fault initial rooms j) (same_written initial j) rooms
