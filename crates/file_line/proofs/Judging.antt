-- The chain as the code comes to it, test by test. Assumes nothing.
use Rattle.std.specs.Prelude.{Ok, Err}
use Rattle.refusals.specs.Given.{Answer, Fault}
use mathlib.Core.Path.{◌≡◌, refl, sym, ◌∙◌}
use mathlib.Core.Logic.{◌⊎◌, inl, inr}
use native.Mathlib.Omega.{arith}
use mathlib.Core.Bool.{Bool, true, false, not, ◌||◌}
use mathlib.Core.List.{List, []}
use Prim.Native.Nat.{ℕ, ◌+◌, ◌≤◌}
use lib.Dec.{ltb, eqb}
use lib.ListN.{length}
use borrow.Author.Tests.{ne_eqb, not-false}
use Rattle.ground.specs.Limits.{weight_limit, word_limit}
use Rattle.weights.specs.Heavy.{row_over}
use Rattle.refusals.specs.Given.{refuse, or_else, outside, bad_token, bad_letter}
use Rattle.refusals.specs.declared.Refusal.{Refusal}
use Rattle.refusals.proofs.Chains.{refused_one, not_sound, or-none, refuse_sound}
use Rattle.file_digits.specs.Frame.{byte_at}
use Rattle.file_row.specs.Row.{narrow_row, wide_row, is_row, takes_in, puts_in}
use Rattle.file_line.specs.declared.Reading.{Reading}
use Rattle.file_line.specs.declared.Rooms.{Rooms}
use Rattle.file_line.specs.Read.{rooms, kind_of, tokens_in, letters_in, word_part, stored, counts_bad, weights_bad, tokens_bad, loose_bad, word_over, letters_bad, line_here, rule_of, formed_of, judge_of, advanced, kept_by, line_of, rooms_of}
use Rattle.std.proofs.lemmas.Result.{err_from_is_err_and}
use Rattle.std.specs.Result.{IsErrAnd}
use Rattle.file_line.specs.Walk.{asked_of, GoodTook}
use Rattle.file_line.proofs.Weights.{row_kinds}

-- behind a test of what must hold, it holds
pub passed : (b : Bool) (n at : ℕ) (u : Unit) → Ok u ≡ refuse (not b) n at → b ≡ true
passed b n at u e = not-false b (refuse_sound (not b) n at (sym e))

-- what a `?` answers
pub err_is : {A : Type 0} (r : Answer A) (e : Refusal) → IsErrAnd r (λ y. y ≡ e) → r ≡ Err e
err_is r e h = let p = err_from_is_err_and r h in rw (p.1, p.2)

-- a line that is refused has a refusal's number
pub refused_good : (r : Answer Reading) (e : Refusal) → IsErrAnd r (λ y. y ≡ e) → 1 ≤ e.number → GoodTook r
refused_good r e h q = rw (err_is r e h) q

-- the chain before a line is stored
module _ (s : Reading) (d : List ℕ) (x : Rooms) where
  module _ (r : rule_of d ≡ true) (f : formed_of s d ≡ true) where
    pub judge_01 : (a : Fault) → kind_of d ≡ 1 → a ≡ refuse (outside (byte_at d 1) || outside (byte_at d 2)) 1 (line_here s) → a ≡ asked_of s d x
    unfolding asked_of
    judge_01 a k e = rw (r, f, k) (e ∙ sym (or-none _))

    pub judge_03 : (a : Fault) → kind_of d ≡ 3 → a ≡ refuse (ltb (bad_token x.caps (tokens_in s d)) (length (tokens_in s d))) 3 (line_here s) → a ≡ asked_of s d x
    unfolding asked_of
    judge_03 a k e = rw (r, f, k) (e ∙ sym (or-none _))

    pub judge_05 : (a : Fault) → kind_of d ≡ 5
        → a ≡ or_else (refuse (ltb word_limit (s.letters + letters_in d)) 4 (line_here s)) (refuse (ltb (bad_letter s.transitions (word_part d)) (length (word_part d))) 5 (line_here s))
        → a ≡ asked_of s d x
    unfolding asked_of
    judge_05 a k e = rw (r, f, k) e

    pub judge_07 : (a : Fault) → kind_of d ≡ 7 → a ≡ refuse (row_over weight_limit (takes_in wide_row d s.places) (puts_in wide_row d s.places)) 18 (line_here s) → a ≡ asked_of s d x
    unfolding asked_of
    judge_07 a k e = rw (r, f, k) (e ∙ sym (or-none _))

    pub judge_rest : (kind_of d ≡ 1 → ⊥) → (kind_of d ≡ 3 → ⊥) → (kind_of d ≡ 5 → ⊥) → (kind_of d ≡ 7 → ⊥) → Ok tt ≡ asked_of s d x
    unfolding asked_of
    judge_rest a b c g = rw (r, f, ne_eqb (kind_of d) 1 a, ne_eqb (kind_of d) 3 b, ne_eqb (kind_of d) 5 c, ne_eqb (kind_of d) 7 g)

-- only the capacities are looked at
judge_caps : (s : Reading) (d : List ℕ) (x : Rooms) (a : Fault) → a ≡ asked_of s d (rooms x.caps [] [] [] [] []) → asked_of s d x ≡ a
unfolding asked_of
judge_caps s d x a e = sym e

-- 17 may be asked behind 4 and 5, since they are asked of other lines
swap : (a b c f e l w v : Fault) → (l ≡ Ok tt) ⊎ ((w ≡ Ok tt) × (v ≡ Ok tt))
    → or_else a (or_else b (or_else c (or_else f (or_else e (or_else l (or_else w v)))))) ≡ or_else (or_else a (or_else b (or_else c (or_else f (or_else e (or_else w v)))))) l
swap (Err r) b c f e l w v h = refl
swap (Ok _) (Err r) c f e l w v h = refl
swap (Ok _) (Ok _) (Err r) f e l w v h = refl
swap (Ok _) (Ok _) (Ok _) (Err r) e l w v h = refl
swap (Ok _) (Ok _) (Ok _) (Ok _) (Err r) l w v h = refl
swap (Ok _) (Ok _) (Ok _) (Ok _) (Ok _) l w v (inl p) = rw p (sym (or-none _))
swap (Ok _) (Ok _) (Ok _) (Ok _) (Ok _) l w v (inr p) = rw (p.0, p.1) (or-none _)

pub judge_split : (s : Reading) (d : List ℕ) (x : Rooms) → judge_of s d x ≡ or_else (asked_of s d x) (refuse (loose_bad s d (stored s d x)) 17 (line_here s))
unfolding judge_of asked_of
judge_split s d x =
    swap (refuse (not (rule_of d)) 11 (line_here s)) (refuse (not (formed_of s d)) 12 (line_here s)) (refuse (counts_bad d) 1 (line_here s)) (refuse (weights_bad s d) 18 (line_here s))
    (refuse (tokens_bad s d x) 3 (line_here s)) _ _ _ (go (is_row (kind_of d)) refl)
  where
    rest : (kind_of d ≡ narrow_row) ⊎ (kind_of d ≡ wide_row) → (refuse (word_over s d) 4 (line_here s) ≡ Ok tt) × (refuse (letters_bad s d) 5 (line_here s) ≡ Ok tt)
    rest (inl e) = (rw e, rw e)
    rest (inr e) = (rw e, rw e)

    go : (b : Bool) → is_row (kind_of d) ≡ b
        → (refuse (loose_bad s d (stored s d x)) 17 (line_here s) ≡ Ok tt) ⊎ ((refuse (word_over s d) 4 (line_here s) ≡ Ok tt) × (refuse (letters_bad s d) 5 (line_here s) ≡ Ok tt))
    go false q = inl (rw q)
    go true q = inr (rest (row_kinds (kind_of d) q))

-- what is asked before is not 17
record Early (f : Fault) : Type 0 where
  other : (r : Refusal) → f ≡ Err r → r.number ≡ 17 → ⊥

early_test : (b : Bool) (n at : ℕ) → (n ≡ 17 → ⊥) → Early (refuse b n at)
early_test true n at h = record { other = λ r e o. h ((refused_one {A = Unit} n at r.number r.at e).0 ∙ o) }
early_test false n at h = record { other = λ r e. not_sound r.number r.at (sym e) }

early_or : (f g : Fault) → Early f → Early g → Early (or_else f g)
early_or (Ok _) g p q = q
early_or (Err r) g p q = p

asked_early : (s : Reading) (d : List ℕ) (x : Rooms) → Early (asked_of s d x)
unfolding asked_of
asked_early s d x =
    early_or (refuse (not (rule_of d)) 11 (line_here s)) _ (early_test (not (rule_of d)) 11 (line_here s) (λ o. omega arith))
    (early_or (refuse (not (formed_of s d)) 12 (line_here s)) _ (early_test (not (formed_of s d)) 12 (line_here s) (λ o. omega arith))
    (early_or (refuse (counts_bad d) 1 (line_here s)) _ (early_test (counts_bad d) 1 (line_here s) (λ o. omega arith))
    (early_or (refuse (weights_bad s d) 18 (line_here s)) _ (early_test (weights_bad s d) 18 (line_here s) (λ o. omega arith))
    (early_or (refuse (tokens_bad s d x) 3 (line_here s)) _ (early_test (tokens_bad s d x) 3 (line_here s) (λ o. omega arith))
    (early_or (refuse (word_over s d) 4 (line_here s)) _ (early_test (word_over s d) 4 (line_here s) (λ o. omega arith))
    (early_test (letters_bad s d) 5 (line_here s) (λ o. omega arith)))))))

-- a line that is refused before it is stored, and one that is not: a is what `judge` found
module _ (s : Reading) (d : List ℕ) (x : Rooms) (a : Fault) (e : a ≡ asked_of s d (rooms x.caps [] [] [] [] [])) where
  pub asked_refused : (r : Refusal) → a ≡ Err r → (judge_of s d x ≡ Err r) × (eqb r.number 17 ≡ false)
  asked_refused r q =
      let f = judge_caps s d x a e ∙ q in
      (judge_split s d x ∙ rw f, ne_eqb r.number 17 ((asked_early s d x).other r f))

  module _ (q : a ≡ Ok tt) where
    asked_sound : judge_of s d x ≡ refuse (loose_bad s d (stored s d x)) 17 (line_here s)
    asked_sound = let f = judge_caps s d x a e ∙ q in judge_split s d x ∙ rw f

    -- its numbers are in the rooms y, which 17 is asked of
    module _ (y : Rooms) (h : y ≡ stored s d x) where
      pub stored_took : (r : Answer Reading) → r ≡ or_else (refuse (loose_bad s d y) 17 (line_here s)) (Ok (advanced s d)) → r ≡ line_of s d x
      unfolding line_of
      stored_took r g = g ∙ rw (h, asked_sound)

      pub stored_rooms : y ≡ rooms_of s d x
      unfolding rooms_of
      stored_rooms = h ∙ rw asked_sound (kept (loose_bad s d (stored s d x)))
        where
          kept : (b : Bool) → stored s d x ≡ kept_by (refuse b 17 (line_here s)) (stored s d x) x
          kept true = refl
          kept false = refl
