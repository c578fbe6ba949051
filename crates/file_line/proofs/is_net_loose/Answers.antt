use Rattle.file_line.proofs.Hanging.{last_some}
use Rattle.file_line.proofs.is_net_loose.Goals as goal

pub is_loose-requires : goal.is_loose-requires
is_loose-requires c =
    let z = last_some c.args.s c.args.d.now _ c.byte_at-kind.ensures _ c.is_last_row.ensures c.if-is_last_row.true c.requires.0 c.requires.1 in
    c.net_at.ensures.sized z.0 z.1
