-- Laws of the refusals of a list with its net: which one is given, and what holds where none is. Assumes nothing.
use Rattle.std.specs.Prelude.{Ok, Err}
use Rattle.refusals.specs.Given.{Fault}
use Prim.Native.Nat.{ℕ, ◌+◌, ◌*◌, ◌%◌, ◌≤◌, ◌<◌}
use mathlib.Core.Path.{◌≡◌, refl, sym, ◌∙◌}
use mathlib.Core.Bool.{Bool, true, ◌&&◌}
use mathlib.Core.List.{List}
use native.Mathlib.Omega.{arith}
use native.Mathlib.Nat.{mod-eq_of_lt, mul-add-mod_self_right}
use lib.ListN.{length, get_or}
use Rattle.ground.proofs.Tests.{and-true}
use Rattle.net.specs.Net.{Net, Light}
use Rattle.net.proofs.Rows.{row_at}
use Rattle.wiring.specs.Wired.{Wired}
use Rattle.refusals.specs.Given.{or_else, start_fault, loose_fault, Fine}
use Rattle.refusals.proofs.Chains.{or_sound, sound_or}
use Rattle.refusals.proofs.Refusals.{start_met, met_start, loose_met, met_loose}
use Rattle.lists.specs.Whole.{count, marking_at}
use Rattle.lists.proofs.Wholes.{marking_end, marking_long}
use Rattle.list_refusals.specs.Given.{whole, entry_fault, size_fault, list_fault}
use Rattle.lists.specs.declared.Kind.{Kind}
use Rattle.lists.specs.declared.Kind.TheVariants.{Closed}
use Rattle.lists.specs.declared.ListAnswer.{ListAnswer}
use Rattle.list_refusals.specs.Demands.{EntriesFine, SomeMarkings}
use Rattle.list_refusals.proofs.Wholes.{whole_long}
use Rattle.list_refusals.proofs.Exactly.{of_markings, entries_of, of_entries, size_of, of_size}
use Rattle.list_pairs.specs.Look.{Ready, Kept, looked}
use Rattle.list_check.specs.Given.{given_fault, list_of}

-- what is lent where nothing is refused
pub record Lent (kind : Kind) (net : Net) (initial list : List ℕ) (fits : Bool) (next : Fault) : Type 0 where
  pub ready : Ready net (count net.places list) list
  pub light : Light net
  pub start : length initial ≡ net.places
  pub fine : Fine net.caps initial
  pub agrees : fits ≡ true
  pub follows : next ≡ Ok tt
  pub entries : kind ≡ Closed → EntriesFine net.places net.caps list
  pub wired : Wired net
  pub some : SomeMarkings net.places list

-- a closed list is then within the capacities, marking by marking
pub kept_of : (kind : Kind) (net : Net) (initial list : List ℕ) (fits : Bool) (next : Fault) → Lent kind net initial list fits next → Kept kind net (count net.places list) list
kept_of kind net initial list fits next l = record { at = λ k h. record { within = λ q. record { at = go k h q } } }
  where
    go : (k : ℕ) → k < count net.places list → kind ≡ Closed → (p : ℕ) → p < length (marking_at net.places list k) → get_or (marking_at net.places list k) p 0 ≤ get_or net.caps p 0
    go k h q p b =
        let long = l.ready.long in
        let in_row : p < net.places = omega (arith, marking_long net.places (count net.places list) list k long h) in
        let place : (k * net.places + p) % net.places ≡ p = mul-add-mod_self_right k net.places p ∙ mod-eq_of_lt in_row in
        let f = ((l.entries q).at (k * net.places + p) (omega (arith, marking_end net.places (count net.places list) list k long h))).within in
        rw (row_at net.places k list p in_row) (rw place at f)

module _ (kind : Kind) (net : Net) (initial list : List ℕ) (fits : Bool) (next : Fault) where
  pub lent_of : given_fault kind net initial list fits next ≡ Ok tt → Lent kind net initial list fits next
  unfolding given_fault list_fault
  lent_of e =
      let a = or_sound (start_fault net initial (whole net.places list && fits)) _ e in
      let f = start_met net initial (whole net.places list && fits) a.0 in
      let w = and-true (whole net.places list) fits f.fitting in
      let b = or_sound (entry_fault kind net.places net.caps list) _ a.1 in
      let d = or_sound (or_else next (loose_fault net)) (size_fault net.places list) b.1 in
      let l = or_sound next (loose_fault net) d.0 in
      record {
        ready = record { sized = f.sized; long = whole_long net.places list w.0 };
        light = f.light;
        start = f.marked;
        fine = f.fine;
        agrees = w.1;
        follows = l.0;
        entries = entries_of kind net.places net.caps list b.0;
        wired = loose_met net l.1;
        some = size_of net.places list d.1;
      }

  -- and back: what 01 allows is not refused
  pub of_lent : Lent kind net initial list fits next → given_fault kind net initial list fits next ≡ Ok tt
  unfolding given_fault list_fault
  of_lent g =
      let w = of_markings net.places list (record { some_places = g.ready.sized.some_places; number = count net.places list; long = g.ready.long }) in
      sound_or _ _ (met_start net initial (whole net.places list && fits) (record { sized = g.ready.sized; light = g.light; marked = g.start; fitting = rw w g.agrees; fine = g.fine }))
      (sound_or _ _ (of_entries kind net.places net.caps list g.entries)
      (sound_or _ _ (sound_or _ _ g.follows (met_loose net g.wired)) (of_size net.places list g.some)))

  -- what is found is the fault: where it is none, all was lent as it should be
  pub check_lent : (found : Fault) → found ≡ given_fault kind net initial list fits next → found ≡ Ok tt → Lent kind net initial list fits next
  check_lent found e q = lent_of (sym e ∙ q)

  -- only where nothing is refused is a list accepted or its failure told
  pub looked_sound : (a : ListAnswer) → list_of kind net initial list fits next ≡ Ok a → (given_fault kind net initial list fits next ≡ Ok tt) × (looked kind net initial list ≡ a)
  unfolding list_of
  looked_sound a = go (given_fault kind net initial list fits next) refl
    where
      go : (f : Fault) → given_fault kind net initial list fits next ≡ f → or_else (given_fault kind net initial list fits next) (Ok (looked kind net initial list)) ≡ Ok a → (given_fault kind net initial list fits next ≡ Ok tt) × (looked kind net initial list ≡ a)
      go (Ok _) e q = let s = rw e at q in let k : looked kind net initial list ≡ a = cc in (e, k)
      go (Err r) e q = let s = rw e at q in let z : ◌≡◌ {A = ℕ} 0 1 = cc in absurd (omega arith)

  pub sound_looked : (a : ListAnswer) → given_fault kind net initial list fits next ≡ Ok tt → looked kind net initial list ≡ a → list_of kind net initial list fits next ≡ Ok a
  unfolding list_of
  sound_looked a q k = rw (q, k)

  -- an accepted list was lent as it should be, and so was one that fails
  pub answered_lent : (a : ListAnswer) → Ok a ≡ list_of kind net initial list fits next → Lent kind net initial list fits next
  answered_lent a e = lent_of (looked_sound a (sym e)).0
