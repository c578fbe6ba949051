use Prim.Native.Nat.{ℕ, ◌*◌}
use mathlib.Core.Path.{◌≡◌, ap, ◌∙◌}
use native.Mathlib.Omega.{arith}
use lib.ListN.{length}
use lib.Seq.{sets}
use Rattle.ground.proofs.Fill.{map_at_length}
use Rattle.net.specs.Lent.{lent}
use Rattle.net.specs.Letter.{row}
use Rattle.net.proofs.Rows.{row_end, row_length_lem}
use Rattle.complement.specs.Walk.{taken_row, put_row, new_pre, new_post}
use Rattle.complement.proofs.Written.{rows_start, rows_next, rows_end}
use Rattle.complement.proofs.write_rows.Goals as goal

pub loop-t-init : goal.loop-t-init
loop-t-init c = (rows_start _ _ _, rows_start _ _ _)

pub loop-t-preserved : goal.loop-t-preserved
loop-t-preserved c =
    let net = lent c.args.sized.now.net in
    let t = c.loop-t.t in
    let sources = c.args.sources.now in
    let takes = row net.places t net.pre in
    let puts = row net.places t net.post in
    let f = row_length_lem net.places t net.post (rw c.args.sized.now.sized.posts (row_end t net.transitions net.places c.loop-t-test.true)) in (
      rows_next (new_pre net sources) (length sources) c.args.pre2.now t c.loop-t.pre2 c.loop-t.invariant.0 _ (map_at_length _ sources)
          (rw (c.takes.ensures, c.puts.ensures) at c.write_row.ensures.pre2_after ∙ ap (λ (n : ℕ). sets c.loop-t.pre2 (t * length sources) (taken_row n takes puts net.marks sources)) f),
      rows_next (new_post net sources) (length sources) c.args.post2.now t c.loop-t.post2 c.loop-t.invariant.1 _ (map_at_length _ sources)
          (rw (c.takes.ensures, c.puts.ensures) at c.write_row.ensures.post2_after ∙ ap (λ (n : ℕ). sets c.loop-t.post2 (t * length sources) (put_row n takes puts net.marks sources)) f),
    )

pub returns : goal.returns
returns c =
    let net = lent c.args.sized.now.net in
    let wide = length c.args.sources.now in
    let e : c.loop-t.t ≡ net.transitions = omega (arith, c.loop-t-test.false, c.loop-t.auto.t-end) in record {
      pre2_after = rows_end (new_pre net c.args.sources.now) wide c.args.pre2.now c.loop-t.t c.loop-t.pre2 c.loop-t.invariant.0 net.transitions e c.requires.pre2_len;
      post2_after = rows_end (new_post net c.args.sources.now) wide c.args.post2.now c.loop-t.t c.loop-t.post2 c.loop-t.invariant.1 net.transitions e c.requires.post2_len;
    }
