-- Laws of a sheet that is written on. Assumes nothing.
use mathlib.Core.Path.{◌≡◌, refl, ◌∙◌}
use mathlib.Core.List.{List, [], ◌∷◌, ◌++◌}
use Prim.Native.Nat.{ℕ, ◌+◌, ◌*◌, ◌≤◌, ◌<◌}
use native.Mathlib.Omega.{arith}
use native.Mathlib.Numerals.{add-one}
use lib.ListN.{length, get_or, take, length-append}
use lib.Seq.{length-take-le, take-suc, take_all}
use Rattle.file_digits.specs.Frame.{line_feed}
use Rattle.file_put.specs.declared.Sheet.{Sheet}
use Rattle.file_put.specs.Put.{digits_of, twos, line_text}
use Rattle.file_put.specs.Sheet.{Written, Spelled}
use Rattle.file_put.proofs.Appends.{append_then}
use Rattle.file_put.proofs.Twos.{twos_long}
use Rattle.file_put.proofs.Round.{digits_then}

-- nothing written, and two texts written are one
pub written_none : (s : Sheet) → Written s [] s
written_none s = record { same = refl; long = refl; appended = record { made = refl; next = omega arith } }

pub written_then : {s t u : Sheet} {a b : List ℕ} → Written s a t → Written t b u → Written s (a ++ b) u
written_then p q = record { same = q.same ∙ p.same; long = q.long ∙ p.long; appended = append_then p.appended q.appended }

-- bytes and bytes
pub spelled_then : {s t u : Sheet} {a b : List ℕ} → Spelled s a t → Spelled t b u → Spelled s (a ++ b) u
spelled_then {a = a} {b} p q = record { written = rw (digits_then a b) (written_then p.written q.written); next = omega (arith, p.next, q.next, length-append a b) }

-- bytes and the line feed
pub spelled_line : {s t u : Sheet} {a : List ℕ} → Spelled s a t → Written t (line_feed ∷ []) u → Written s (line_text a) u
spelled_line p q = written_then p.written q

-- what is told of each entry of a list: none yet, one more, all
pub spelled_none : (s : Sheet) → Spelled s [] s
unfolding digits_of
spelled_none s = record { written = written_none s; next = omega arith }

module _ (f : List ℕ → List ℕ) (joined : (a b : List ℕ) → f (a ++ b) ≡ f a ++ f b) where
  pub spelled_next : {s t u : Sheet} (m : List ℕ) (k : ℕ) → Spelled s (f (take k m)) t → k < length m → Spelled t (f (get_or m k 0 ∷ [])) u → Spelled s (f (take (k + 1) m)) u
  spelled_next m k p h q =
      let g : take (k + 1) m ≡ take k m ++ (get_or m k 0 ∷ []) = rw (add-one k) (take-suc m k 0 h) in
      rw (g, joined (take k m) (get_or m k 0 ∷ [])) (spelled_then p q)

pub spelled_all : {s t : Sheet} (f : List ℕ → List ℕ) (m : List ℕ) (k : ℕ) → Spelled s (f (take k m)) t → length m ≤ k → Spelled s (f m) t
spelled_all f m k p h = rw (take_all k m h) at p

-- where the next number of two bytes is written
pub twos_at : {s t : Sheet} (m : List ℕ) (k : ℕ) → Spelled s (twos (take k m)) t → k ≤ length m → t.at ≡ s.at + 4 * k
twos_at m k p h = omega (arith, p.next, twos_long (take k m), length-take-le k m h)
