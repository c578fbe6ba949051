-- Marks that are alike change no summary (document 02, E5; `uncapped_plain` and `marks_alike` of crate net say which are). Assumes nothing.
use Prim.Native.Nat.{ℕ}
use mathlib.Core.Path.{◌≡◌}
use mathlib.Core.Bool.{cond}
use mathlib.Core.List.{List}
use lib.ListN.{length}
use lib.Dec.{ltb}
use Rattle.ground.specs.Limits.{count_limit}
use Rattle.ground.specs.Lists.{table}
use Rattle.net.specs.Net.{Net, Pre, Post}
use Rattle.net.specs.Marks.{remarked, MarksAlike}
use Rattle.net.proofs.Pockets.{alike_rise}
use Rattle.summary_place.specs.Place.{letter_at}
use Rattle.summary_place.specs.Slots.{nil, slot_of}
use Rattle.summary_form.specs.Summary.{summary_of}

module _ (net : Net) (marks : List ℕ) (alike : MarksAlike net.caps net.marks marks) where
  same_letters : letter_at net ≡ letter_at (remarked net marks)
  same_letters = λ i p t. record { takes = Pre net p t; puts = Post net p t; rise = alike_rise net marks alike p t i }

  pub summary_alike : (w : List ℕ) → summary_of net w ≡ summary_of (remarked net marks) w
  summary_alike w =
      λ i. record {
        places = net.places;
        letters = length w;
        slots = table (λ p. cond (ltb p net.places) (slot_of (same_letters i p) w) nil) count_limit;
      }
