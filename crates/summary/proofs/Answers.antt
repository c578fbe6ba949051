-- Laws of a word's and a stretch's answer: when nothing is refused, and that a stretch is a part of its word. Assumes nothing.
use Rattle.std.specs.Prelude.{Ok, Err}
use Rattle.refusals.specs.Given.{Answer, Fault, or_else}
use Prim.Native.Nat.{ℕ, ◌≤◌, ◌<◌}
use mathlib.Core.Path.{◌≡◌, refl, sym}
use mathlib.Core.Bool.{Bool, true, false, and-false}
use mathlib.Core.List.{List}
use mathlib.Core.Logic.{◌⊎◌, inl, inr}
use lib.ListN.{length}
use lib.Dec.{leb}
use borrow.Author.Tests.{le-leb, lt-leb}
use Rattle.ground.specs.Limits.{word_limit}
use Rattle.ground.proofs.Tests.{never}
use Rattle.net.specs.Net.{Net, Light, Sized}
use Rattle.wiring.specs.Wired.{Wired}
use Rattle.refusals.specs.Given.{counts_fault, net_fault, word_fault, stretch, inside, Letters}
use Rattle.refusals.proofs.Chains.{or_sound, sound_or}
use Rattle.refusals.proofs.Refusals.{counts_met, net_met, met_net, counts_unfit, net_unfit}
use Rattle.refusals.proofs.Words.{word_met, met_word}
use Rattle.summary_form.specs.Summary.{summary_of}
use Rattle.summary.specs.Entry.{part_fault, word_answer}
use Rattle.summary_form.specs.declared.Summary.{Summary}

-- nothing is refused exactly where all this holds
pub record Sane (net : Net) (w : List ℕ) (within : Bool) : Type 0 where
  pub sized : Sized net
  pub light : Light net
  pub fitting : within ≡ true
  pub wired : Wired net
  pub short : length w ≤ word_limit
  pub letters : Letters net.transitions w

pub sane_of : (net : Net) (w : List ℕ) (within : Bool) → part_fault net w within ≡ Ok tt → Sane net w within
unfolding part_fault
sane_of net w within e =
    let a = or_sound (net_fault net within) (word_fault net.transitions w) e in
    let f = net_met net within a.0 in
    let l = word_met net.transitions w a.1 in
    record { sized = f.sized; light = f.light; fitting = f.fitting; wired = f.wired; short = l.short; letters = l.letters }

pub sane_is : (net : Net) (w : List ℕ) (within : Bool) → Sane net w within → part_fault net w within ≡ Ok tt
unfolding part_fault
sane_is net w within s =
    sound_or _ _ (met_net net within (record { sized = s.sized; light = s.light; fitting = s.fitting; wired = s.wired })) (met_word net.transitions w (record { short = s.short; letters = s.letters }))

-- where the stretch does not fit, the letters do not matter
pub unfit_part : (net : Net) (w : List ℕ) → part_fault net w false ≡ counts_fault net false
unfolding part_fault
unfit_part net w = rw (net_unfit net) (counts_unfit net (word_fault net.transitions w))

unfit_same : (net : Net) (u w : List ℕ) → word_answer net u false ≡ word_answer net w false
unfit_same net u w = rw (unfit_part net u, unfit_part net w) (go (counts_fault net false) refl)
  where
    go : (f : Fault) → counts_fault net false ≡ f → or_else (counts_fault net false) (Ok (summary_of net u)) ≡ or_else (counts_fault net false) (Ok (summary_of net w))
    go (Err r) e = rw e
    go (Ok _) e = never (sym (counts_met net false e).fitting)

-- a stretch that is no part of its word is refused whatever its letters
module _ (net : Net) (w : List ℕ) (a b : ℕ) where
  not_inside : (b < a) ⊎ (length w < b) → inside w a b ≡ false
  not_inside (inl h) = rw (lt-leb a b h)
  not_inside (inr h) = rw (lt-leb b (length w) h) (and-false (leb a b))

  pub stretch_none : (r : Answer Summary) → (b < a) ⊎ (length w < b) → r ≡ word_answer net w false → r ≡ word_answer net (stretch w a b) (inside w a b)
  stretch_none r h p = rw (not_inside h, unfit_same net (stretch w a b) w) p

  -- and one that is a part of it is that part
  pub stretch_some : (part : List ℕ) (r : Answer Summary) → a ≤ b → b ≤ length w → part ≡ stretch w a b → r ≡ word_answer net part true → r ≡ word_answer net (stretch w a b) (inside w a b)
  stretch_some part r h l e p = rw (le-leb a b h, le-leb b (length w) l, ← e) p
