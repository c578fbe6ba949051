-- To be believed: which net, and which transition of it, a value of the code's types holds.
use Rattle.std.specs.Prelude.{ℕ}
use Rattle.net.specs.Net.{Net, net_of}
use Rattle.net.specs.Letter.{Arcs, arcs_of}
use Rattle.net.specs.declared.Lent.{Lent}
use Rattle.net.specs.declared.Arcs.{Arcs as Held}

abbrev pub lent : Lent ℕ ℕ → Net
lent n = net_of n.places n.transitions n.pre.now n.post.now n.caps.now n.marks.now

abbrev pub arcs_in : Held → Arcs
arcs_in a = arcs_of a.takes.now a.puts.now a.caps.now a.marks.now
