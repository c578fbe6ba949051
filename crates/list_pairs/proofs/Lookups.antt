-- Laws of what a lookup needs, by the list's kind. Assumes nothing.
use Prim.Native.Nat.{ℕ}
use mathlib.Core.Path.{◌≡◌, sym, ◌∙◌}
use mathlib.Core.List.{List}
use native.Mathlib.Omega.{arith}
use Rattle.lists.specs.declared.Kind.{Kind}
use Rattle.lists.specs.declared.Kind.TheVariants.{Closed, Cover}
use Rattle.list_index.specs.Index.{hash_of}
use Rattle.list_arcs.specs.Arc.{Skips}
use Rattle.list_pairs.specs.Look.{Hashed}

pub hashed_closed : (kind : Kind) (h : ℕ) (m : List ℕ) → h ≡ hash_of m → Hashed kind h m
hashed_closed kind h m e = record { known = λ q. e }

-- what `Tabled` asks of the skips: of a closed list those of its net, and of a cover list nothing
module _ (kind : Kind) (P : ℕ) (pre post skips : List ℕ) where
  pub skipped_closed : Skips P pre post skips → kind ≡ Closed → Skips P pre post skips
  skipped_closed s q = s

  pub skipped_cover : kind ≡ Cover → kind ≡ Closed → Skips P pre post skips
  skipped_cover e q = other (sym q ∙ e)
    where
      other : Closed ≡ Cover → Skips P pre post skips
      other s = let z : ◌≡◌ {A = ℕ} 0 1 = cc in absurd (omega arith)
