-- To be believed: the public question beside writing a case file, how long it is: refusals 1, 2, 18, 3, 17, 4 and 5 in order, else the length.
use Rattle.std.specs.Prelude.{Ok, Err}
use Rattle.refusals.specs.Given.{Answer, Fault}
use Rattle.std.specs.Prelude.{ℕ, ◌≤◌, ◌≡◌, true, List, [], ◌∷◌, length}
use Rattle.ground.specs.Limits.{word_limit}
use Rattle.net.specs.Net.{Net, Sized, Light}
use Rattle.wiring.specs.Wired.{Wired}
use Rattle.refusals.specs.Given.{or_else, marked_fault, word_fault, Fine, Letters}
use Rattle.refusals.specs.First.{MarkedFirst, WordFirst}
use Rattle.file_text.specs.Text.{file_of}

-- 1, 2, 18, 3 and 17 for the net and its initial marking, then 4 and 5 for the word; beside these nothing is lent
unfoldable pub text_fault : Net → List ℕ → List ℕ → Fault
text_fault net initial w = or_else (marked_fault net initial true) (word_fault net.transitions w)

-- the length, where nothing is refused
abbrev pub length_of : Net → List ℕ → List ℕ → Answer ℕ
length_of net initial w = or_else (text_fault net initial w) (Ok (length (file_of net initial w)))

-- numbers for each case of an answer that is a length: 81 00 and the length; 82, a refusal's number and position
abbrev pub numbers : Answer ℕ → List ℕ
numbers (Ok n) = 0x81 ∷ 0 ∷ n ∷ []
numbers (Err r) = 0x82 ∷ r.number ∷ r.at ∷ []

-- what the question promises of its answer r
pub record LengthTold (net : Net) (initial w : List ℕ) (r : Answer ℕ) : Type 0 where
  pub answer : numbers r ≡ numbers (length_of net initial w)

-- all that document 01 asks of a net, its initial marking and a word: nothing is refused exactly where this holds
pub record Writable (net : Net) (initial w : List ℕ) : Type 0 where
  pub sized : Sized net
  pub light : Light net
  pub marked : length initial ≡ net.places
  pub fine : Fine net.caps initial
  pub wired : Wired net
  pub short : length w ≤ word_limit
  pub letters : Letters net.transitions w

-- these demands in order, each refusal exactly when its demand is the first that does not hold; `Next` is what comes after them
abbrev pub TextFirst : Net → List ℕ → List ℕ → ℕ → ℕ → Type 0 → Type 0
TextFirst net initial w n at Next = MarkedFirst net initial (Unit {0}) n at (WordFirst net.transitions w n at Next)

-- what refusal n at position at means
abbrev pub LengthRefusal : Net → List ℕ → List ℕ → ℕ → ℕ → Type 0
LengthRefusal net initial w n at = TextFirst net initial w n at ⊥
