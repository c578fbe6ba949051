-- To be believed: the refusals of a list and of a target.
use Rattle.refusals.specs.Given.{Fault}
use Rattle.std.specs.Prelude.{ℕ, ◌%◌, Bool, ◌&&◌, ◌||◌, List, length, get_or, ltb, eqb}
use Rattle.ground.specs.Limits.{token_limit, list_limit}
use Rattle.ground.specs.Lists.{first}
use Rattle.refusals.specs.Given.{refuse, or_else, token_bad}
use Rattle.lists.specs.declared.Kind.{Kind}
use Rattle.lists.specs.declared.Kind.TheVariants.{Closed, Cover}
use Rattle.lists.specs.Whole.{count}

-- 2: the list's length "disagrees with the counts" where it is no multiple of P
abbrev pub whole : ℕ → List ℕ → Bool
whole P list = ltb 0 P && eqb (length list % P) 0

-- 3: "65,535 tokens .., or tokens above capacity"; the first such entry of a closed list, or the number of entries
abbrev pub bad_entry : ℕ → List ℕ → List ℕ → ℕ
bad_entry P caps list = first (λ k. token_bad (get_or caps (k % P) 0) (get_or list k 0)) (length list)

-- "tokens above capacity outside cover lists", and "A cover list may hold 65,535": it has no such entry
unfoldable pub first_bad : Kind → ℕ → List ℕ → List ℕ → ℕ
first_bad Closed P caps list = bad_entry P caps list
first_bad Cover P caps list = length list

-- its position: "in a list, marking number x P + place"
unfoldable pub entry_fault : Kind → ℕ → List ℕ → List ℕ → Fault
entry_fault kind P caps list = refuse (ltb (first_bad kind P caps list) (length list)) 3 (first_bad kind P caps list)

-- the lowest place with 65,535, or the number of places
abbrev pub lowest_any : List ℕ → ℕ
lowest_any m = first (λ p. ltb token_limit (get_or m p 0)) (length m)

-- 3: "In a target 65,535 gives 3." Position the place
unfoldable pub target_fault : List ℕ → Fault
target_fault target = refuse (ltb (lowest_any target) (length target)) 3 (lowest_any target)

-- 9: "a list of 0 or over 4,096 markings"
unfoldable pub size_fault : ℕ → List ℕ → Fault
size_fault P list = refuse (ltb (count P list) 1 || ltb list_limit (count P list)) 9 0

-- 3 in the list, then what comes between (`next`: 3 in the marking that follows it, and 17), then 9
unfoldable pub list_fault : Kind → ℕ → List ℕ → List ℕ → Fault → Fault
list_fault kind P caps list next = or_else (entry_fault kind P caps list) (or_else next (size_fault P list))
