use Prim.Native.Nat.{ℕ}
use mathlib.Core.Path.{◌≡◌, refl}
use mathlib.Core.Bool.{true}
use mathlib.Core.List.{List}
use lib.ListN.{length}
use Rattle.net.specs.Net.{Net}
use Rattle.net.specs.Lent.{lent, arcs_in}
use Rattle.net.specs.Letter.{Arcs, arcs_at, passes, fired, fired_at, Enough, Rows}
use Rattle.net.proofs.Letters.{enough_of}
use Rattle.net.proofs.Rows.{rows_of}
use Rattle.net.proofs.fire_at.Goals as goal

-- arcs that are a transition's
module _ (a : Arcs) (net : Net) (m : List ℕ) (t : ℕ) (e : a ≡ arcs_at net t) where
  ready : Rows (arcs_at net t) m → passes (arcs_at net t) m ≡ true → (length a.takes ≡ length m) × (length a.puts ≡ length m) × Enough a.takes m
  ready r p = rw e (r.taken, r.put, enough_of (arcs_at net t) m _ r.taken refl p)

  fires : fired a.takes a.puts m ≡ fired_at net t m
  fires = rw e refl

pub fire-requires : goal.fire-requires
fire-requires c =
    let net = lent c.args.net.now in
    let r = rows_of net c.args.marking.now c.args.t c.requires.sized c.requires.t_lt_transitions c.requires.marking_len c.requires.small in
    let f = ready (arcs_in c.arcs_at-row.result) net c.args.marking.now c.args.t c.arcs_at-row.ensures r c.requires.marking_value in
    record { takes_len = f.0; puts_len = f.1; small = c.requires.small; enough = f.2 }

pub returns : goal.returns
returns c = rw c.fire.ensures (fires (arcs_in c.arcs_at-row.result) (lent c.args.net.now) c.args.marking.now c.args.t c.arcs_at-row.ensures)
