-- To be believed: what document 01 asks of a list and of a target that are lent, demand by demand.
use Rattle.std.specs.Prelude.{ℕ, ◌*◌, ◌%◌, ◌≤◌, ◌<◌, ◌≡◌, List, length, get_or}
use Rattle.ground.specs.Limits.{token_limit, list_limit}
use Rattle.refusals.specs.First.{First, Given, GivenAt}
use Rattle.lists.specs.Whole.{count}
use Rattle.lists.specs.declared.Kind.{Kind}
use Rattle.lists.specs.declared.Kind.TheVariants.{Closed, Cover}

-- 2 unless the list's length agrees with the counts: it has so many whole markings
pub record WholeMarkings (P : ℕ) (list : List ℕ) : Type 0 where
  pub some_places : 1 ≤ P
  pub number : ℕ
  pub long : length list ≡ number * P

-- 3 unless at each entry of a closed list: no more tokens than may be given, nor than the capacity of its place
pub record EntryFine (P : ℕ) (caps list : List ℕ) (k : ℕ) : Type 0 where
  pub few : get_or list k 0 ≤ token_limit
  pub within : get_or list k 0 ≤ get_or caps (k % P) 0

pub record EntriesFine (P : ℕ) (caps list : List ℕ) : Type 0 where
  pub at : (k : ℕ) → k < length list → EntryFine P caps list k

-- 3 unless no place of a target holds 65,535
pub record TargetFine (target : List ℕ) : Type 0 where
  pub at : (p : ℕ) → p < length target → get_or target p 0 ≤ token_limit

-- 9 unless there are 1 to 4,096 markings
pub record SomeMarkings (P : ℕ) (list : List ℕ) : Type 0 where
  pub some : 1 ≤ count P list
  pub many : count P list ≤ list_limit

-- The refusals of Given.antt, read so; `Next` is what comes after them.
-- the list's own 3, at the lowest such entry; a cover list has none
abbrev pub EntriesFirst : Kind → ℕ → List ℕ → List ℕ → ℕ → ℕ → Type 0 → Type 0
EntriesFirst Closed P caps list n at Next = First (EntriesFine P caps list) (GivenAt 3 (EntryFine P caps list) (length list) n at) Next
EntriesFirst Cover P caps list n at Next = Next

-- a target's 3, at the lowest place
abbrev pub TargetFirst : List ℕ → ℕ → ℕ → Type 0 → Type 0
TargetFirst target n at Next = First (TargetFine target) (GivenAt 3 (λ p. get_or target p 0 ≤ token_limit) (length target) n at) Next

-- the list's 9
abbrev pub SizeFirst : ℕ → List ℕ → ℕ → ℕ → Type 0 → Type 0
SizeFirst P list n at Next = First (SomeMarkings P list) (Given 9 0 n at) Next
