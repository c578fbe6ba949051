-- Marks that are alike change no answer that carries a word's or a stretch's summary (document 02, E5; `uncapped_plain` and `marks_alike` of crate net
-- say which are). Assumes nothing.
use Prim.Native.Nat.{ℕ}
use mathlib.Core.Path.{◌≡◌, sym, ap₂, ◌∙◌}
use mathlib.Core.Bool.{Bool, true}
use mathlib.Core.List.{List}
use Rattle.net.specs.Net.{Net}
use Rattle.net.specs.Marks.{remarked, MarksAlike}
use Rattle.refusals.specs.Given.{stretch, inside}
use Rattle.refusals.proofs.Marks.{remarked_net}
use Rattle.refusals.specs.Given.{Answer, Fault, or_else}
use Rattle.std.specs.Prelude.{Ok}
use Rattle.summary_form.specs.declared.Summary.{Summary}
use Rattle.summary_form.proofs.Marks.{summary_alike}
use Rattle.summary.specs.Entry.{part_fault, word_answer}

module _ (net : Net) (marks : List ℕ) (alike : MarksAlike net.caps net.marks marks) where
  same_fault : (w : List ℕ) (within : Bool) → part_fault net w within ≡ part_fault (remarked net marks) w within
  unfolding part_fault
  same_fault w within = rw (remarked_net net marks alike.long within)

  same_answer : (w : List ℕ) (within : Bool) → word_answer net w within ≡ word_answer (remarked net marks) w within
  same_answer w within = ap₂ (λ (f : Fault) (s : Summary). or_else f (Ok s)) (same_fault w within) (summary_alike net marks alike w)

  -- two summaries that differ in the marks only are one, and so are two refusals
  pub word_alike : (w : List ℕ) (r r' : Answer Summary) → r ≡ word_answer net w true → r' ≡ word_answer (remarked net marks) w true → r ≡ r'
  word_alike w r r' a b = a ∙ same_answer w true ∙ sym b

  pub stretch_alike : (w : List ℕ) (i j : ℕ) (r r' : Answer Summary) → r ≡ word_answer net (stretch w i j) (inside w i j) → r' ≡ word_answer (remarked net marks) (stretch w i j) (inside w i j) → r ≡ r'
  stretch_alike w i j r r' a b = a ∙ same_answer (stretch w i j) (inside w i j) ∙ sym b
