use native.Mathlib.Omega.{arith}
use Rattle.net.specs.Lent.{lent}
use Rattle.file_text.specs.Text.{file_of}
use Rattle.file_put.proofs.Sheets.{written_then}
use Rattle.file_out.proofs.Length.{counts_long, numbers_long, pockets_long, rows_all}
use Rattle.file_out.proofs.put_frames.Goals as goal

pub put_numbers-requires : goal.put_numbers-requires
put_numbers-requires c = omega (arith, c.args.sized.now.sized.capped, counts_long c.args.sized.now.net.places c.args.sized.now.net.transitions)

pub put_pockets-requires : goal.put_pockets-requires
put_pockets-requires c = (
  omega (arith, c.args.sized.now.sized.noted, c.args.sized.now.sized.few_places),
  omega (arith, c.args.sized.now.sized.capped, counts_long c.args.sized.now.net.places c.args.sized.now.net.transitions, numbers_long 2 c.args.sized.now.net.caps.now),
)

pub put_numbers-requires-2 : goal.put_numbers-requires-2
put_numbers-requires-2 c = omega (arith, c.args.sized.now.sized.capped, counts_long c.args.sized.now.net.places c.args.sized.now.net.transitions, numbers_long 2 c.args.sized.now.net.caps.now, pockets_long c.args.sized.now.net.marks.now)

pub put_rows-requires : goal.put_rows-requires
put_rows-requires c = omega (arith, c.args.sized.now.sized.capped, counts_long c.args.sized.now.net.places c.args.sized.now.net.transitions, numbers_long 2 c.args.sized.now.net.caps.now, pockets_long c.args.sized.now.net.marks.now, numbers_long 3 c.args.initial.now)

pub put_word-requires : goal.put_word-requires
put_word-requires c = (
  omega (arith, c.args.sized.now.sized.capped, counts_long c.args.sized.now.net.places c.args.sized.now.net.transitions, numbers_long 2 c.args.sized.now.net.caps.now, pockets_long c.args.sized.now.net.marks.now, numbers_long 3 c.args.initial.now, rows_all (lent c.args.sized.now.net) c.args.sized.now.sized.pres c.args.sized.now.sized.posts),
  c.requires.lists.1,
)

pub returns : goal.returns
unfolding file_of
returns c = written_then (written_then (written_then (written_then (written_then c.put_counts.ensures c.put_numbers.ensures) c.put_pockets.ensures) c.put_numbers-2.ensures) c.put_rows.ensures) c.put_word.ensures
