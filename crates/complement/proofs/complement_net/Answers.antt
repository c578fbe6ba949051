use mathlib.Core.Path.{sym}
use native.Mathlib.Omega.{arith}
use Rattle.net.specs.Lent.{lent}
use Rattle.complement.specs.Entry.{rooms_of}
use Rattle.complement.proofs.Answers.{allowed_of, net_made, pre_cells, post_cells, marked_caps, front_count, front_inside, front_room, written_of}
use Rattle.complement.proofs.complement_net.Goals as goal

pub invariant_of-sized : goal.invariant_of-sized
invariant_of-sized c =
    let a = c.args in
    record { sized = (allowed_of (lent a.net.now) a.initial.now (rooms_of a.pre2.now a.post2.now a.caps2.now a.marks2.now a.initial2.now) (sym c.in_ok-find_fault.ensures)).sized }

pub find_sources-found-requires : goal.find_sources-found-requires
find_sources-found-requires c =
    let a = c.args in
    let y = allowed_of (lent a.net.now) a.initial.now (rooms_of a.pre2.now a.post2.now a.caps2.now a.marks2.now a.initial2.now) (sym c.in_ok-find_fault.ensures) in
    y.few

pub slice_bounds-found-end : goal.slice_bounds-found-end
slice_bounds-found-end c =
    let a = c.args in
    let y = allowed_of (lent a.net.now) a.initial.now (rooms_of a.pre2.now a.post2.now a.caps2.now a.marks2.now a.initial2.now) (sym c.in_ok-find_fault.ensures) in
    omega (arith, y.roomy.capped, y.few)

pub slice_bounds-sources-end : goal.slice_bounds-sources-end
slice_bounds-sources-end c =
    let a = c.args in
    let rooms = rooms_of a.pre2.now a.post2.now a.caps2.now a.marks2.now a.initial2.now in
    let y = allowed_of (lent a.net.now) a.initial.now rooms (sym c.in_ok-find_fault.ensures) in
    front_count (lent a.net.now) a.initial.now rooms y _ c.find_sources-found.ensures

pub write_rows-requires : goal.write_rows-requires
write_rows-requires c =
    let a = c.args in
    let rooms = rooms_of a.pre2.now a.post2.now a.caps2.now a.marks2.now a.initial2.now in
    let y = allowed_of (lent a.net.now) a.initial.now rooms (sym c.in_ok-find_fault.ensures) in
    record {
      inside = front_inside (lent a.net.now) a.initial.now rooms y _ c.find_sources-found.ensures;
      pre2_len = pre_cells (lent a.net.now) a.initial.now rooms y _ c.find_sources-found.ensures;
      post2_len = post_cells (lent a.net.now) a.initial.now rooms y _ c.find_sources-found.ensures;
    }

pub write_tokens-requires : goal.write_tokens-requires
write_tokens-requires c =
    let a = c.args in
    let rooms = rooms_of a.pre2.now a.post2.now a.caps2.now a.marks2.now a.initial2.now in
    let y = allowed_of (lent a.net.now) a.initial.now rooms (sym c.in_ok-find_fault.ensures) in
    record {
      initial_len = marked_caps (lent a.net.now) a.initial.now rooms y;
      fine = y.fine;
      inside = rw y.sized.capped (front_inside (lent a.net.now) a.initial.now rooms y _ c.find_sources-found.ensures);
      sources_len = front_room (lent a.net.now) a.initial.now rooms y _ c.find_sources-found.ensures;
    }

pub returns : goal.returns
returns c =
    let a = c.args in
    let rooms = rooms_of a.pre2.now a.post2.now a.caps2.now a.marks2.now a.initial2.now in
    let y = allowed_of (lent a.net.now) a.initial.now rooms (sym c.in_ok-find_fault.ensures) in
    net_made (lent a.net.now) a.initial.now rooms _ c.in_ok-find_fault.ensures
    (written_of (lent a.net.now) a.initial.now rooms y _ c.find_sources-found.ensures _ _ _ _ _ c.write_rows.ensures.pre2_after c.write_rows.ensures.post2_after
    (c.fill.ensures.after (λ y e. e)) (c.fill-2.ensures.after (λ y e. e)) c.write_tokens.ensures)
