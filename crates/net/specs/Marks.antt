-- To be believed: what a mark is good for (document 02, E5): two lists of marks that no answer tells apart.
use Rattle.std.specs.Prelude.{ℕ, ◌<◌, ◌≡◌, ◌↔◌, List, length, get_or}
use Rattle.ground.specs.Limits.{no_capacity}
use Rattle.net.specs.Net.{Net, net_of}

-- the same net with other marks
abbrev pub remarked : Net → List ℕ → Net
remarked net marks = net_of net.places net.transitions net.pre net.post net.caps marks

-- "0 plain, any other pocket, all alike" and "A pocket without capacity behaves as plain": where a place has a capacity, both lists mark
-- it plain or both a pocket; elsewhere they may differ
pub record MarksAlike (caps marks marks' : List ℕ) : Type 0 where
  pub long : length marks' ≡ length marks
  pub same : (p : ℕ) → p < length marks → get_or caps p 0 < no_capacity → (get_or marks p 0 ≡ 0) ↔ (get_or marks' p 0 ≡ 0)
