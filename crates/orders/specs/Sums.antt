-- Only for proofs and the code's walk: what a word takes from a place and puts there, all letters together. However its letters come, these are the same.
use Rattle.std.specs.Prelude.{ℕ, ◌+◌, List, [], ◌∷◌}
use Rattle.net.specs.Net.{Net, Pre, Post}

-- what the letters of a word take from place p, all together, and what they put there
unfoldable pub taken : Net → ℕ → List ℕ → ℕ
taken net p [] = 0
taken net p (t ∷ w) = Pre net p t + taken net p w

unfoldable pub put : Net → ℕ → List ℕ → ℕ
put net p [] = 0
put net p (t ∷ w) = Post net p t + put net p w
