-- What the walk needs of a line that is taken, from document 01's demands, and that a good state stays good. Assumes nothing.
use Rattle.std.specs.Prelude.{Ok}
use mathlib.Core.Path.{◌≡◌, refl}
use mathlib.Core.Bool.{Bool, true, false, cond}
use mathlib.Core.Logic.{◌⊎◌, inl, inr}
use mathlib.Core.List.{List}
use Prim.Native.Nat.{ℕ, zero, suc, ◌+◌, ◌*◌, ◌≤◌, ◌<◌}
use native.Mathlib.Omega.{arith}
use native.Mathlib.Nat.{not-suc-le-zero, suc-mul, mul-le-mul}
use lib.Dec.{eqb}
use lib.ListN.{length}
use lib.Seq.{sets}
use borrow.Author.Tests.{eqb-false}
use Rattle.ground.specs.Limits.{count_limit}
use Rattle.file_digits.specs.Frame.{byte_at}
use Rattle.file_row.specs.Row.{narrow_row, wide_row, weight_bytes, takes_in, puts_in}
use Rattle.file_line.specs.declared.Reading.{Reading}
use Rattle.file_line.specs.declared.Rooms.{Rooms}
use Rattle.file_line.specs.Read.{cell_limit, rooms, kind_of, judge_of, advanced, advanced_kind, stored, stored_kind}
use Rattle.file_line.specs.Line.{Ruled, Formed, CountsInRange, WordNotOver}
use Rattle.file_line.specs.Walk.{Good, asked_of, Accepted}
use Rattle.file_line.proofs.Weights.{row_kinds, kinds_row}
use Rattle.file_line.proofs.Order.{formed_kind_lem, formed_01, formed_02, formed_03, formed_row, formed_05, formed_06, taken_of, asked_of_line}

pub row_fits : (t p n : ℕ) → t < n → n ≤ count_limit → p ≤ count_limit → t * p + p ≤ cell_limit
row_fits t p n h k l =
    let z : suc t ≤ count_limit = omega arith in
    omega (arith, suc-mul t p, mul-le-mul z l)

module _ (s : Reading) (d : List ℕ) where
  accepted_by : Ruled d → Formed s d → CountsInRange d → WordNotOver s d → Accepted s d
  accepted_by ruled formed counts word =
      let k = formed_kind_lem s d formed in
      record {
        least = ruled.least;
        counts = λ q.
            let f = formed_01 s d formed q in
            let p = counts.places q in
            let r = counts.transitions q in
            (f.0, f.1, p.1, r.0, r.1, p.0);
        caps = λ q. formed_02 s d formed q;
        pockets = λ q. let f = formed_06 s d formed q in (f.0, f.1);
        tokens = λ q. formed_03 s d formed q;
        row = λ q. let f = formed_row s d formed (row_kinds (kind_of d) q) in (f.0, f.1);
        letters = λ q. let f = formed_05 s d formed q in (f.0, f.2, f.3, word.few q);
        kind = k.1;
        kind_least = k.0;
      }

  pub accepted : (x : Rooms) → judge_of s d x ≡ Ok tt → Accepted s d
  accepted x e = let t = taken_of s d x e in accepted_by t.ruled t.formed t.counts t.word

  -- a line has it before it is stored
  pub asked_accepted : (x : Rooms) → asked_of s d x ≡ Ok tt → Accepted s d
  asked_accepted x e = let t = asked_of_line s d x e in accepted_by t.0 t.1 t.2 t.3

  -- a transition's weights are in the line, and have room
  pub row_room : Good s → Accepted s d → (k : ℕ) → k ≡ kind_of d → (k ≡ narrow_row) ⊎ (k ≡ wide_row)
      → (length d ≡ 4 + 4 * (weight_bytes k * s.places)) × (s.places ≤ count_limit) × (s.next * s.places + s.places ≤ cell_limit)
  row_room g a k e q =
      let z = a.row (rw (← e) (kinds_row k q)) in
      (rw e z.1, g.places, row_fits s.next s.places s.transitions (g.rows z.0) g.transitions g.places)

  -- a good state stays good
  pub good_advanced : Good s → Accepted s d → Good (advanced s d)
  unfolding advanced_kind
  good_advanced g a = go (byte_at d 0) refl a.kind_least a.kind where
    -- after 02, 06 and 03: f is the kind that comes next
    early : (f : ℕ) → 2 ≤ s.phase → s.next ≡ 0 → s.letters ≡ 0 → 3 ≤ f → f ≤ 6 → s.line + 1 ≤ f → (f ≡ 6 → s.line + 1 ≤ 2)
        → Good (record { phase = f; places = s.places; transitions = s.transitions; next = 0; letters = 0; line = s.line + 1 })
    early f e n w l m h p =
        let t = g.some (omega arith) in
        let u = g.some_places (omega arith) in
        record {
          phase_least = omega arith;
          phase = omega arith;
          places = omega arith;
          transitions = omega arith;
          some = λ _. t;
          some_places = λ _. u;
          next = omega arith;
          rows = λ _. omega arith;
          early = λ _. refl;
          wordless = λ _. refl;
          pockets = λ q. (refl, refl, p q);
          letters = omega arith;
          line_early = λ q. omega arith;
          line = omega arith;
        }

    -- 03 comes after 06, or where it may come
    tokens : (s.phase ≡ 6) ⊎ (s.phase ≡ 3)
        → Good (record { phase = 4; places = s.places; transitions = s.transitions; next = 0; letters = 0; line = s.line + 1 })
    tokens (inl e) = let p = g.pockets e in early 4 (omega arith) p.0 p.1 (omega arith) (omega arith) (omega (arith, p.2)) (λ q. omega arith)
    tokens (inr e) =
        let n = g.early (omega arith) in
        let w = g.wordless (omega arith) in
        early 4 (omega arith) n w (omega arith) (omega arith) (omega (arith, g.line)) (λ q. omega arith)

    row : (b : Bool) → eqb (s.next + 1) s.transitions ≡ b → s.phase ≡ 4
        → Good (record { phase = cond b 5 4; places = s.places; transitions = s.transitions; next = s.next + 1; letters = 0; line = s.line + 1 })
    row true e h =
        let r = g.rows h in
        let w = g.wordless (omega arith) in
        record {
          phase_least = omega arith;
          phase = omega arith;
          places = omega arith;
          transitions = omega arith;
          some = λ _. omega arith;
          some_places = λ _. g.some_places (omega arith);
          next = omega arith;
          rows = λ q. omega arith;
          early = λ q. omega arith;
          wordless = λ q. refl;
          pockets = λ q. omega arith;
          letters = omega arith;
          line_early = λ q. omega arith;
          line = omega arith;
        }
    row false e h =
        let r = g.rows h in
        let w = g.wordless (omega arith) in
        let f : s.next + 1 ≡ s.transitions → ⊥ = eqb-false _ _ e in
        record {
          phase_least = omega arith;
          phase = omega arith;
          places = omega arith;
          transitions = omega arith;
          some = λ _. omega arith;
          some_places = λ _. g.some_places (omega arith);
          next = omega arith;
          rows = λ q. omega arith;
          early = λ q. omega arith;
          wordless = λ q. refl;
          pockets = λ q. omega arith;
          letters = omega arith;
          line_early = λ q. omega arith;
          line = omega arith;
        }

    go : (k : ℕ) → byte_at d 0 ≡ k → 1 ≤ k → k ≤ 7 → Good (advanced_kind k s d)
    go zero e l m = absurd (not-suc-le-zero l)
    go (suc zero) e l m =
        let h = a.counts e in
        let n = g.early (omega arith) in
        let w = g.wordless (omega arith) in
        let i = g.line_early (omega arith) in
        record {
          phase_least = omega arith;
          phase = omega arith;
          places = h.2;
          transitions = h.4;
          some = λ _. h.3;
          some_places = λ _. h.5;
          next = omega arith;
          rows = λ q. omega arith;
          early = λ q. refl;
          wordless = λ q. refl;
          pockets = λ q. omega arith;
          letters = omega arith;
          line_early = λ q. omega arith;
          line = omega arith;
        }
    go (suc (suc zero)) e l m =
        let p = (a.caps e).0 in
        let n = g.early (omega arith) in
        let w = g.wordless (omega arith) in
        let i = g.line_early (omega arith) in
        early 6 (omega arith) n w (omega arith) (omega arith) (omega arith) (λ q. omega arith)
    go (suc (suc (suc zero))) e l m = tokens (a.tokens e).0
    go (suc (suc (suc (suc zero)))) e l m = row _ refl (a.row (kinds_row (kind_of d) (inl e))).0
    go (suc (suc (suc (suc (suc zero))))) e l m =
        let h = a.letters e in
        let t = g.some (omega arith) in
        let u = g.some_places (omega arith) in
        record {
          phase_least = omega arith;
          phase = omega arith;
          places = omega arith;
          transitions = omega arith;
          some = λ _. t;
          some_places = λ _. u;
          next = omega arith;
          rows = λ q. omega arith;
          early = λ q. omega arith;
          wordless = λ q. omega arith;
          pockets = λ q. omega arith;
          letters = h.3;
          line_early = λ q. omega arith;
          line = omega arith;
        }
    go (suc (suc (suc (suc (suc (suc zero)))))) e l m =
        let p = (a.pockets e).0 in
        let q = g.pockets p in
        early 3 (omega arith) q.0 q.1 (omega arith) (omega arith) (omega (arith, q.2)) (λ z. omega arith)
    go (suc (suc (suc (suc (suc (suc (suc zero))))))) e l m = row _ refl (a.row (kinds_row (kind_of d) (inr e))).0
    go (suc (suc (suc (suc (suc (suc (suc (suc k)))))))) e l m = absurd (omega arith)

-- the rooms after a line of kind k, as the code makes them
module _ (s : Reading) (d : List ℕ) (x : Rooms) (k : ℕ) where
  pub stored_row : (a b : List ℕ) → k ≡ kind_of d → (k ≡ narrow_row) ⊎ (k ≡ wide_row) → a ≡ sets x.pre (s.next * s.places) (takes_in k d s.places) → b ≡ sets x.post (s.next * s.places) (puts_in k d s.places)
      → rooms x.caps x.marks x.initial a b x.word ≡ stored s d x
  unfolding stored_kind
  stored_row a b e (inl q) f g = rw (f, g, ← e, q)
  stored_row a b e (inr q) f g = rw (f, g, ← e, q)
