-- Laws of the refusals of a join: which one is given, and that none is exactly where the two summaries may be joined. Assumes nothing.
use Rattle.std.specs.Prelude.{Ok, Err}
use Rattle.refusals.specs.Given.{refusal}
use Prim.Native.Nat.{◌+◌, ◌<◌}
use mathlib.Core.Path.{◌≡◌}
use mathlib.Core.Bool.{◌||◌}
use lib.Dec.{ltb}
use borrow.Author.Tests.{lt-ltb, le-ltb, ltb-false, eq-eqb}
use Rattle.ground.specs.Limits.{word_limit}
use Rattle.ground.proofs.Tests.{or-false, both_false, unlike_false, like_false}
use Rattle.refusals.specs.Given.{refuse, outside, unlike}
use Rattle.refusals.proofs.Chains.{or_sound, sound_or, refuse_sound, sound_refuse}
use Rattle.summary_form.specs.Summary.{shape_fault, WellFormed, Count}
use Rattle.summary_join.specs.Join.{later_fault, join_fault}
use Rattle.summary_join.specs.Allowed.{JoinAllowed}
use Rattle.summary_form.specs.declared.Summary.{Summary}
use Rattle.summary_form.proofs.Formed.{formed_of_lem, of_formed, count_of, of_count}

-- nothing is refused exactly where two summaries may be joined
pub join_allowed_of : (a b : Summary) → join_fault a b ≡ Ok tt → JoinAllowed a b
unfolding join_fault later_fault
join_allowed_of a b e =
    let p = or_sound (refuse (outside a.places || outside b.places) 1 0) _ e in
    let q = or_sound (refuse (unlike a.places b.places) 2 0) _ p.1 in
    let s = or_sound (shape_fault a) _ q.1 in
    let t = or_sound (shape_fault b) (refuse (ltb word_limit (a.letters + b.letters)) 7 0) s.1 in
    let o = or-false (outside a.places) (outside b.places) (refuse_sound _ 1 0 p.0) in
    record {
      first_count = count_of a.places o.0;
      second_count = count_of b.places o.1;
      like = unlike_false _ _ (refuse_sound _ 2 0 q.0);
      first_formed = formed_of_lem a s.0;
      second_formed = formed_of_lem b t.0;
      few = ltb-false _ _ (refuse_sound _ 7 0 t.1);
    }

pub of_join_allowed : (a b : Summary) → JoinAllowed a b → join_fault a b ≡ Ok tt
unfolding join_fault later_fault
of_join_allowed a b j =
    sound_or _ _ (sound_refuse _ 1 0 (both_false _ _ (of_count a.places j.first_count) (of_count b.places j.second_count)))
    (sound_or _ _ (sound_refuse _ 2 0 (like_false _ _ j.like))
    (sound_or _ _ (of_formed a j.first_formed) (sound_or _ _ (of_formed b j.second_formed) (sound_refuse _ 7 0 (le-ltb word_limit (a.letters + b.letters) j.few)))))

-- lengths that are too large together are the last thing that is looked at
pub over_joined : (a b : Summary) → Count a.places → Count b.places → a.places ≡ b.places → WellFormed a → WellFormed b → word_limit < a.letters + b.letters → join_fault a b ≡ Err (refusal 7 0)
unfolding join_fault later_fault
over_joined a b x y e p q h =
    rw (of_count a.places x, of_count b.places y, eq-eqb a.places b.places e, of_formed a p, of_formed b q, lt-ltb word_limit (a.letters + b.letters) h)
