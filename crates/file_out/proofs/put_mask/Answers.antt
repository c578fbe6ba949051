use Rattle.file_put.proofs.Sheets.{spelled_then, spelled_line}
use Rattle.file_out.proofs.put_mask.Goals as goal

pub returns : goal.returns
returns c = spelled_line (spelled_then c.put_byte.ensures c.put_eight.ensures) c.put_feed.ensures
