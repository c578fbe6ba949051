-- A net as its file has it, each mark 0 or 1, is within the limits where the net is, but for its marks, which may be any. Assumes nothing.
use Prim.Native.Nat.{ℕ, ◌≤◌}
use mathlib.Core.Path.{◌≡◌, ◌∙◌}
use mathlib.Core.List.{List}
use lib.ListN.{length, length-map}
use Rattle.ground.specs.Limits.{no_capacity, word_limit}
use Rattle.net.specs.Net.{Net, Sized, Light}
use Rattle.net.specs.Letter.{Small}
use Rattle.wiring.specs.Wired.{Wired}
use Rattle.refusals.specs.Given.{Fine, Letters}
use Rattle.file_mask.specs.Mask.{bit_of}
use Rattle.file_mask.proofs.Masks.{mask_filed, bits_filed}
use Rattle.file_text.specs.Text.{pockets_count, Limited, filed}

module _ (net : Net) where
  pub filed_sized : Sized net → Sized (filed net)
  filed_sized s =
      record {
        some_places = s.some_places;
        few_places = s.few_places;
        some_transitions = s.some_transitions;
        few_transitions = s.few_transitions;
        pres = s.pres;
        posts = s.posts;
        capped = s.capped;
        noted = length-map net.marks bit_of ∙ s.noted;
      }

  pub filed_light : Light net → Light (filed net)
  filed_light l = record { pre = l.pre; post = l.post }

  pub filed_wired : Wired net → Wired (filed net)
  filed_wired w =
      record {
        places = λ p h. let a = w.places p h in record { transition = a.transition; named = a.named; arc = a.arc };
        transitions = λ t h. let a = w.transitions t h in record { place = a.place; here = a.here; arc = a.arc };
      }

  pub wired_filed : Wired (filed net) → Wired net
  wired_filed w =
      record {
        places = λ p h. let a = w.places p h in record { transition = a.transition; named = a.named; arc = a.arc };
        transitions = λ t h. let a = w.transitions t h in record { place = a.place; here = a.here; arc = a.arc };
      }

  pub filed_count : pockets_count (filed net).marks ≡ pockets_count net.marks
  unfolding pockets_count
  filed_count = rw (mask_filed net.marks)

  pub filed_limited : (initial w : List ℕ) → Sized net → Wired net → Light net → Small no_capacity net.caps → length initial ≡ net.places → Fine net.caps initial → length w ≤ word_limit
      → Letters net.transitions w → Limited (filed net) initial w
  filed_limited initial w sized wired weights capacities marked fine short letters =
      record {
        sized = filed_sized sized;
        wired = filed_wired wired;
        weights = filed_light weights;
        capacities = capacities;
        bits = bits_filed net.marks;
        marked = marked;
        fine = fine;
        short = short;
        letters = letters;
      }
