use mathlib.Core.Path.{refl}
use native.Mathlib.Omega.{arith}
use lib.ListN.{length-set}
use Rattle.file_put.proofs.Puts.{put_one}
use Rattle.file_put.proofs.Sheet.put_byte.Goals as goal

pub returns : goal.returns
returns c =
    let p = put_one _ _ _ _ _ _ _ c.digit.ensures (omega arith) c.digit-2.ensures (omega arith) in
    record { written = record { same = refl; long = simp length-set; appended = p }; next = refl }
