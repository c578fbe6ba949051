-- Document 02, E6: an 07 "is used for a transition exactly when one of its weights is over 255", and else an 04. Assumes nothing.
use Prim.Native.Nat.{ℕ, ◌<◌}
use mathlib.Core.Path.{◌≡◌, refl}
use mathlib.Core.Bool.{Bool, true, false}
use mathlib.Core.Logic.{◌⊎◌, inl, inr, ⊎_elim, ◌↔◌}
use mathlib.Core.List.{List}
use native.Mathlib.Omega.{arith}
use lib.ListN.{length}
use Rattle.net.specs.Net.{Net, Pre, Post, Sized}
use Rattle.net.specs.Letter.{row}
use Rattle.net.proofs.Rows.{row_at}
use Rattle.weights.proofs.Heavies.{rows_long}
use Rattle.file_row.specs.Row.{byte_limit, narrow_row, wide_row, is_wide, row_kind}
use Rattle.file_row.proofs.Narrow.{kind_wide, kind_narrow, wide_kind}
use Rattle.weights.proofs.SomeOver.{SomeOver, some_over, over_some}

-- one of the weights of transition t, in Pre or in Post, is over 255
pub record SomeWide (net : Net) (t : ℕ) : Type 0 where
  pub place : ℕ
  pub here : place < net.places
  pub wide : (byte_limit < Pre net place t) ⊎ (byte_limit < Post net place t)

module _ (net : Net) (t : ℕ) (sized : Sized net) (h : t < net.transitions) where
  abbrev takes : List ℕ
  takes = row net.places t net.pre

  abbrev puts : List ℕ
  puts = row net.places t net.post

  long : length takes ≡ net.places
  long = (rows_long net t sized h).0

  some_of : SomeOver byte_limit takes puts → SomeWide net t
  some_of o =
      let l : o.place < net.places = rw long at o.here in
      record {
        place = o.place;
        here = l;
        wide = ⊎_elim (λ q. inl (rw (row_at net.places t net.pre o.place l) at q)) (λ q. inr (rw (row_at net.places t net.post o.place l) at q)) o.over;
      }

  of_some : SomeWide net t → SomeOver byte_limit takes puts
  of_some w =
      record {
        place = w.place;
        here = rw long w.here;
        over = ⊎_elim (λ q. inl (rw (row_at net.places t net.pre w.place w.here) q)) (λ q. inr (rw (row_at net.places t net.post w.place w.here) q)) w.wide;
      }

  -- the first byte of its frame, by its weights
  pub wide_exactly : (row_kind takes puts ≡ wide_row) ↔ SomeWide net t
  wide_exactly = (
    λ e. some_of (some_over byte_limit takes puts (wide_kind takes puts e)),
    λ w. kind_wide takes puts (over_some byte_limit takes puts (of_some w)),
  )

  pub narrow_exactly : (row_kind takes puts ≡ narrow_row) ↔ (SomeWide net t → ⊥)
  narrow_exactly = (λ e w. let q = wide_exactly.1 w in omega arith, back (is_wide takes puts) refl)
    where
      back : (b : Bool) → is_wide takes puts ≡ b → (SomeWide net t → ⊥) → row_kind takes puts ≡ narrow_row
      back true q none = absurd (none (wide_exactly.0 (kind_wide takes puts q)))
      back false q none = kind_narrow takes puts q
