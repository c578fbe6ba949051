use Rattle.file_put.proofs.Sheets.{spelled_then, spelled_line}
use Rattle.verdict_text.proofs.write_fired.Goals as goal

pub returns : goal.returns
returns c = spelled_line (spelled_then c.put_bytes.ensures (spelled_then c.put_four.ensures c.put_marking.ensures)) c.put_feed.ensures
