-- Laws of the three lists: loops that fill one, their lengths, and that the slots read are the slots written. Assumes nothing.
use Prim.Native.Nat.{ℕ, ◌≤◌, ◌<◌}
use mathlib.Core.Path.{◌≡◌, sym, ◌∙◌}
use mathlib.Core.Bool.{true, ◌&&◌}
use mathlib.Core.List.{List}
use native.Mathlib.Omega.{arith}
use lib.ListN.{length, get_or}
use lib.Seq.{ext_get_or}
use lib.Dec.{eqb}
use lib.IntN.{pos}
use borrow.Author.Tests.{eqb-true}
use Rattle.ground.specs.Limits.{count_limit}
use Rattle.ground.specs.Lists.{table}
use Rattle.ground.proofs.Tests.{and-true}
use Rattle.ground.proofs.Fill.{Made, make_end, table_length, table_at}
use Rattle.summary_place.specs.Slots.{nil}
use Rattle.summary_place.specs.declared.Slot.{Slot}
use Rattle.c_summary_lists.specs.Columns.{Columns, fits, slots_from, columns_from}

pub made_end : {A : Type 0} (d : A) (f : ℕ → A) (r₀ : List A) (p : ℕ) (r : List A) → Made d f r₀ p r → length r₀ ≡ count_limit → count_limit ≤ p → r ≡ table f count_limit
made_end d f r₀ p r m e h = make_end d f r₀ p r m (omega arith) ∙ rw e

-- what a test of the lengths says
pub fit_long : (l : Columns) → fits l ≡ true → (length l.needs ≡ count_limit) × ((length l.climbs ≡ count_limit) × (length l.changes ≡ count_limit))
fit_long l e =
    let x = and-true (eqb (length l.needs) count_limit) (eqb (length l.climbs) count_limit && eqb (length l.changes) count_limit) e in
    let y = and-true (eqb (length l.climbs) count_limit) (eqb (length l.changes) count_limit) x.1 in
    (eqb-true _ _ x.0, (eqb-true _ _ y.0, eqb-true _ _ y.1))

-- the slots of the lists that slots were written as are these slots
pub read_written : (slots : List Slot) → length slots ≡ count_limit → slots_from (columns_from slots) ≡ slots
read_written slots e =
    ext_get_or nil (slots_from (columns_from slots)) slots (table_length _ count_limit ∙ sym e)
    (λ p h. let b : p < count_limit = rw (table_length _ count_limit) at h in
    table_at _ count_limit p nil b ∙ (λ i. record { need = table_at (λ p. (get_or slots p nil).need) count_limit p 0 b i; climb = table_at (λ p. (get_or slots p nil).climb) count_limit p 0 b i; change = table_at (λ p. (get_or slots p nil).change) count_limit p (pos 0) b i }))
