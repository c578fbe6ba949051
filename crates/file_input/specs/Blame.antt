-- To be believed: whom a failure blames.
use Rattle.file_input.specs.declared.source.Failure.{Failure}
use Rattle.file_input.specs.declared.source.Failure.TheVariants.{Input, Output}

-- the input failed, and not the output
abbrev pub BlamesInput : Failure → Type 0
BlamesInput (Input e) = Unit {0}
BlamesInput (Output e) = ⊥
