use Prim.Native.Nat.{◌≤◌}
use lib.ListN.{length}
use native.Mathlib.Omega.{arith}
use Rattle.running.proofs.Fronts.{front_set}
use borrow.Author.Rules.{rules}
use Rattle.running.proofs.play_front.Goals as goal

pub returns : goal.returns
returns c =
    let h : c.args.sized.now.net.places ≤ length c.args.marking.now = omega (arith, c.args.sized.now.sized.few_places, c.requires.count_limit_in_bounds.0) in
    (c.play_word.ensures.answer, front_set _ _ h _ _ (search rules) c.play_word.ensures.left)
