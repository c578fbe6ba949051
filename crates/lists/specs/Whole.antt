-- To be believed: a list of markings as lent, flat, P numbers a marking.
use Rattle.std.specs.Prelude.{ℕ, ◌*◌, ◌/◌, ◌≡◌, List, length}
use Rattle.net.specs.Letter.{row}
use Rattle.lists.specs.declared.Markings.{Markings}

-- how many markings the list has
abbrev pub count : ℕ → List ℕ → ℕ
count P list = length list / P

-- marking number k of the list
abbrev pub marking_at : ℕ → List ℕ → ℕ → List ℕ
marking_at P list k = row P k list

-- the code's own value for such a list: it has so many whole markings
abbrev pub Whole : Markings → Type 0
Whole l = length l.list.now ≡ l.count * l.places

-- ... marking number k of it
abbrev pub marking_of : Markings → ℕ → List ℕ
marking_of l k = marking_at l.places l.list.now k

-- ... and the one that stands for a list
pub record Listing (P : ℕ) (list : List ℕ) (l : Markings) : Type 0 where
  pub places_are : l.places ≡ P
  pub count_is : l.count ≡ count P list
  pub list_is : l.list.now ≡ list
