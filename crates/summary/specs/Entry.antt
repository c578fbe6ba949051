-- To be believed: what is answered for the empty summary and for the summary of a word or of a stretch.
use Rattle.refusals.specs.Given.{Answer, Fault}
use Rattle.std.specs.Prelude.{ℕ, Bool, List, Ok}
use Rattle.net.specs.Net.{Net}
use Rattle.refusals.specs.Given.{refuse, or_else, outside, net_fault, word_fault}
use Rattle.summary_form.specs.declared.Summary.{Summary}
use Rattle.summary_form.specs.Summary.{summary_of, empty_summary}

-- the empty summary's answer: refusal 1
abbrev pub empty_answer : ℕ → Answer Summary
empty_answer P = or_else (refuse (outside P) 1 0) (Ok (empty_summary P))

-- a word's refusals, 1, 2, 18 and 17, then 4 and 5; `within` tells whether it is a stretch inside its word
unfoldable pub part_fault : Net → List ℕ → Bool → Fault
part_fault net w within = or_else (net_fault net within) (word_fault net.transitions w)

abbrev pub word_answer : Net → List ℕ → Bool → Answer Summary
word_answer net w within = or_else (part_fault net w within) (Ok (summary_of net w))
