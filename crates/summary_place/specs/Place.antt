-- To be believed: a word at one place, as document 01 ("Summaries") and for pockets document 02 (E5) say it: change, need and climb. A letter is seen there by three numbers.
use Rattle.std.specs.Prelude.{ℕ, suc, cond, List, [], ◌∷◌, length, take, get_or, eqb, ℤ, pos, ◌+ℤ◌, ◌-ℤ◌}
use Rattle.ground.specs.Lists.{most}
use Rattle.ground.specs.Parts.{up}
use Rattle.net.specs.Net.{Net, Pre, Post, capacity, mark, in_force, rise}

-- what a letter takes from a place and puts there, and how far above its tokens the place rises on the way
pub record Move : Type 0 where
  pub takes : ℕ
  pub puts : ℕ
  pub rise : ℕ

-- letter t at place p of a net; the rise is the capacity rule's
abbrev pub letter_at : Net → ℕ → ℕ → Move
letter_at net p t = record { takes = Pre net p t; puts = Post net p t; rise = rise net p t }

-- letter number i of a word
abbrev pub letter_of : (ℕ → Move) → List ℕ → ℕ → Move
letter_of at w i = at (get_or w i 0)

-- "change = sum of Change over the letters"
unfoldable pub change : (ℕ → Move) → List ℕ → ℤ
change at [] = pos 0
change at (t ∷ w) = (pos (at t).puts -ℤ pos (at t).takes) +ℤ change at w

-- "need = the largest of 0 and, for each letter t with u before it, Pre(p,t) - change(u)"
unfoldable pub need : (ℕ → Move) → List ℕ → ℕ
need at w = most (length w) (λ i. up (pos (letter_of at w i).takes -ℤ change at (take i w)))

-- the largest of 0 and, for each letter with u before it, change(u) + its rise: the published climb, whichever rule the place has (`climb_by_mark` in summary_form)
unfoldable pub climb : (ℕ → Move) → List ℕ → ℕ
climb at w = most (length w) (λ i. up (change at (take i w) +ℤ pos (letter_of at w i).rise))

-- "climb = the largest change over all prefixes, the empty one (0) included"
unfoldable pub prefix_climb : (ℕ → Move) → List ℕ → ℕ
prefix_climb at w = most (suc (length w)) (λ i. up (change at (take i w)))

-- for pockets "climb is the largest of 0 and, for each letter, the change before it plus its Post"
unfoldable pub pocket_climb : (ℕ → Move) → List ℕ → ℕ
pocket_climb at w = most (length w) (λ i. up (change at (take i w) +ℤ pos (letter_of at w i).puts))

-- the climb of the mixed net: a pocket's by 02, a plain place's by 01; "A pocket without capacity behaves as plain, its climb too"
unfoldable pub published_climb : Net → ℕ → List ℕ → ℕ
published_climb net p w =
    cond (eqb (in_force (capacity net p) (mark net p)) 0) (prefix_climb (letter_at net p) w) (pocket_climb (letter_at net p) w)
