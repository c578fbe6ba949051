use mir.Syntax.{w64}
use mir.Facts.{to_z-of_z}
use Rattle.file_input.proofs.Asked.{read_one}
use Rattle.file_input.proofs.read_some.Goals as goal

pub returns : goal.returns
returns g c = record { sound = c.take_read.ensures.sound; step = read_one _ _ c.read_once-read.result.got _ _ _ (to_z-of_z {w = w64} (record { sfits = c.read_once-read.type_inv.1.1.0.1 })) c.read_once-read.ensures.bound c.take_read.ensures.value }
