use Rattle.file_line.specs.Read.{rooms}
use Rattle.file_parts.specs.File.{both}
use Rattle.file_parts.specs.Held.{abs, Sound}
use Rattle.file_reads.specs.declared.Input.TheVariants.{More}
use Rattle.file_reads.specs.Reads.{state}
use Rattle.file_reads.specs.Walk.{MoreReads}
use Rattle.file_parts.proofs.Line.{Same}
use Rattle.file_input.proofs.read_all.Given as goal

abbrev pub invariant-loop : goal.invariant-loop
invariant-loop g l = (Sound l.held) × (Same (rooms l.caps l.marks l.initial' l.pre l.post l.word) (rooms l.initial.caps l.initial.marks l.initial.initial' l.initial.pre l.initial.post l.initial.word))
    × (MoreReads (state (both (abs l.initial.held) (rooms l.initial.caps l.initial.marks l.initial.initial' l.initial.pre l.initial.post l.initial.word)) More) l.counter (state (both (abs l.held) (rooms l.caps l.marks l.initial' l.pre l.post l.word)) More))
