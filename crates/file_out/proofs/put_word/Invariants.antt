use lib.ListN.{length}
use Rattle.std.specs.Slice.Iter.{chunks_rest, chunks_size}
use Rattle.file_out.proofs.Joined.{Lettered}
use Rattle.file_out.proofs.put_word.Given as goal

abbrev pub invariant-loop-letters : goal.invariant-loop-letters
invariant-loop-letters l = Lettered l.initial.sheet l.word (length l.yielded) (chunks_size l.letters-iterator) (chunks_rest l.letters-iterator) l.sheet
