use Rattle.std.proofs.lemmas.List.{length_push}
use Rattle.file_out.proofs.Joined.{lines_none, lettered_room, lettered_next}
use Rattle.file_out.proofs.put_word.Goals as goal

pub loop-letters-init : goal.loop-letters-init
loop-letters-init c =
    let s = c.chunks-letters-items.ensures in
    rw c.into_iter-letters-iterator.ensures.into_iter_gives (record { written = lines_none _ _; sized = s.size; rest = s.rest })

pub put_letters-requires : goal.put_letters-requires
put_letters-requires c = lettered_room c.loop-letters.invariant _ _ c.in-Some.ensures.steps.1 c.requires.0

pub loop-letters-preserved : goal.loop-letters-preserved
loop-letters-preserved c =
    lettered_next c.loop-letters.invariant _ _ c.in-Some.ensures.steps.1 _ _ (length_push c.loop-letters.yielded c.in-Some.letters) c.in-Some.ensures.steps.0 c.put_letters.ensures
