-- Each promise about a summary made of a word has one answer. What the numbers mean is said in summary_form. Assumes nothing.
use Prim.Native.Nat.{ℕ}
use mathlib.Core.Path.{◌≡◌, sym, ◌∙◌}
use mathlib.Core.Bool.{true}
use mathlib.Core.List.{List}
use Rattle.net.specs.Net.{Net}
use Rattle.refusals.specs.Given.{Answer, stretch, inside}
use Rattle.summary.specs.Entry.{empty_answer, word_answer}
use Rattle.summary_form.specs.declared.Summary.{Summary}

pub empty_unique : (P : ℕ) (r r' : Answer Summary) → r ≡ empty_answer P → r' ≡ empty_answer P → r ≡ r'
empty_unique P r r' a b = a ∙ sym b

pub word_unique : (net : Net) (w : List ℕ) (r r' : Answer Summary) → r ≡ word_answer net w true → r' ≡ word_answer net w true → r ≡ r'
word_unique net w r r' a b = a ∙ sym b

pub stretch_unique : (net : Net) (w : List ℕ) (i j : ℕ) (r r' : Answer Summary) → r ≡ word_answer net (stretch w i j) (inside w i j) → r' ≡ word_answer net (stretch w i j) (inside w i j) → r ≡ r'
stretch_unique net w i j r r' a b = a ∙ sym b
