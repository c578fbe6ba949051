-- To be believed: what `read_case` leaves of a net, its initial marking and a word at the fronts of its rooms.
use Rattle.std.specs.Prelude.{ℕ, ◌*◌, List, take}
use Rattle.net.specs.Net.{Net, net_of}
use Rattle.file_line.specs.declared.Rooms.{Rooms}

-- the net, the marking and the word at the fronts of the rooms, by the counts that were answered
abbrev pub front_net : ℕ → ℕ → Rooms → Net
front_net P T x = net_of P T (take (T * P) x.pre) (take (T * P) x.post) (take P x.caps) (take P x.marks)

abbrev pub front_marking : ℕ → Rooms → List ℕ
front_marking P x = take P x.initial

abbrev pub front_word : ℕ → Rooms → List ℕ
front_word n x = take n x.word
