-- Laws of the refusals of a word: which one is given, and what holds where none is. Assumes nothing.
use Rattle.std.specs.Prelude.{Ok}
use Prim.Native.Nat.{ℕ, ◌≤◌}
use mathlib.Core.Path.{◌≡◌}
use mathlib.Core.List.{List}
use native.Mathlib.Omega.{arith}
use lib.ListN.{length, get_or}
use lib.Dec.{ltb, leb}
use borrow.Author.Tests.{le-ltb, ltb-false, lt-leb, leb-false}
use Rattle.ground.specs.Limits.{word_limit}
use Rattle.ground.proofs.Scan.{first_none, first_below}
use Rattle.refusals.specs.Given.{refuse, bad_letter, word_fault, Letters}
use Rattle.refusals.proofs.Chains.{or_sound, sound_or, refuse_sound, sound_refuse}

-- what holds where nothing is refused
pub record WordMet (n : ℕ) (w : List ℕ) : Type 0 where
  pub short : length w ≤ word_limit
  pub letters : Letters n w

module _ (n : ℕ) (w : List ℕ) where
  -- nothing of 4 and 5 is refused exactly where the word is not too long and each letter names a transition
  pub word_met : word_fault n w ≡ Ok tt → WordMet n w
  unfolding word_fault
  word_met e =
      let a = or_sound (refuse (ltb word_limit (length w)) 4 0) (refuse (ltb (bad_letter n w) (length w)) 5 (bad_letter n w)) e in
      let x = ltb-false (bad_letter n w) (length w) (refuse_sound _ 5 (bad_letter n w) a.1) in
      record {
        short = ltb-false word_limit (length w) (refuse_sound _ 4 0 a.0);
        letters = record { at = λ k h. leb-false n (get_or w k 0) (first_below (λ k. leb n (get_or w k 0)) (length w) k (omega arith)) };
      }

  pub met_word : WordMet n w → word_fault n w ≡ Ok tt
  unfolding word_fault
  met_word m =
      let e = first_none (λ k. leb n (get_or w k 0)) (length w) (λ k b. lt-leb n (get_or w k 0) (m.letters.at k b)) in
      sound_or _ _ (sound_refuse _ 4 0 (le-ltb word_limit (length w) m.short)) (sound_refuse _ 5 (bad_letter n w) (le-ltb (bad_letter n w) (length w) (omega arith)))
