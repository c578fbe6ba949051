use Rattle.file_put.proofs.Sheets.{spelled_line}
use Rattle.file_out.proofs.put_counts.Goals as goal

pub returns : goal.returns
returns c = spelled_line c.put_bytes.ensures c.put_feed.ensures
