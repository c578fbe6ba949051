use native.Mathlib.Omega.{arith}
use Rattle.file_put.specs.Put.{twos}
use Rattle.file_put.proofs.Twos.{twos_then, twos_one}
use Rattle.file_put.proofs.Sheets.{spelled_none, spelled_next, spelled_all, twos_at}
use Rattle.file_put.proofs.Sheet.put_twos.Goals as goal

pub loop-n-init : goal.loop-n-init
unfolding twos
loop-n-init c = spelled_none _

pub loop-n-preserved : goal.loop-n-preserved
loop-n-preserved c = spelled_next twos twos_then _ _ c.loop-n.invariant (omega arith) (rw twos_one c.put_two.ensures)

pub put_two-requires : goal.put_two-requires
put_two-requires c = omega (arith, c.requires, twos_at _ _ c.loop-n.invariant (omega arith))

pub returns : goal.returns
returns c = spelled_all twos _ _ c.loop-n.invariant (omega arith)
