-- To be believed: one of document 01's "Edges to run" that is proved too, the closed list of the case's net; and the smallest net on which a mark tells
-- (document 02, E5).
use Rattle.std.specs.Prelude.{ℕ, List, [], ◌∷◌, ◌++◌}
use Rattle.net.specs.Net.{Net, net_of}

-- the markings in which places 0 and 1 hold a and b, and place 2 from 0 to 4
abbrev pub up_to_four : ℕ → ℕ → List ℕ
up_to_four a b = a ∷ b ∷ 0 ∷ a ∷ b ∷ 1 ∷ a ∷ b ∷ 2 ∷ a ∷ b ∷ 3 ∷ a ∷ b ∷ 4 ∷ []

-- eleven of "all 12 markings (one of places 0 and 1 marked, place 2 from 0 to 5)": "(0,1,5) is struck out"
abbrev pub struck_out : List ℕ
struck_out = up_to_four 1 0 ++ (1 ∷ 0 ∷ 5 ∷ []) ++ up_to_four 0 1

-- all twelve
abbrev pub all_twelve : List ℕ
all_twelve = struck_out ++ (0 ∷ 1 ∷ 5 ∷ [])

-- a place of capacity 1, with this mark, and a transition that takes a token from it and puts it back
abbrev pub belt : ℕ → Net
belt mark = net_of 1 1 (1 ∷ []) (1 ∷ []) (1 ∷ []) (mark ∷ [])
