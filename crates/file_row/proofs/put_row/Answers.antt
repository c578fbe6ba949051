use native.Mathlib.Omega.{arith}
use lib.ListN.{length}
use mathlib.Core.Path.{refl}
use Rattle.file_row.proofs.Weights.{text_long}
use Rattle.file_row.proofs.Narrow.{row_alike, takes_fit, puts_fit}
use Rattle.file_row.proofs.Listed.{row_spelled}
use Rattle.file_row.proofs.put_row.Goals as goal

pub put_weights-requires : goal.put_weights-requires
put_weights-requires c =
    let e = row_alike {n = length c.args.takes.now} c.row_kind-kind.ensures refl in
    (omega arith, rw c.row_kind-kind.ensures (takes_fit c.args.takes.now c.args.puts.now))

pub put_weights-requires-2 : goal.put_weights-requires-2
put_weights-requires-2 c =
    let e = row_alike {n = length c.args.takes.now} c.row_kind-kind.ensures refl in
    let g = row_alike c.row_kind-kind.ensures c.requires.1 in
    (omega (arith, text_long c.row_kind-kind.result c.args.takes.now), rw c.row_kind-kind.ensures (puts_fit c.args.takes.now c.args.puts.now c.requires.1))

pub put_feed-requires : goal.put_feed-requires
put_feed-requires c =
    let e = row_alike {n = length c.args.takes.now} c.row_kind-kind.ensures refl in
    let g = row_alike c.row_kind-kind.ensures c.requires.1 in
    omega (arith, text_long c.row_kind-kind.result c.args.takes.now, text_long c.row_kind-kind.result c.args.puts.now)

pub returns : goal.returns
returns c = row_spelled c.args.t c.args.takes.now c.args.puts.now c.row_kind-kind.ensures c.put_bytes.ensures c.put_weights.ensures c.put_weights-2.ensures c.put_feed.ensures
