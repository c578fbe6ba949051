-- "Exactly when" for a list and for a target, of either kind: what is allowed is answered, what is answered was allowed, and each
-- refusal is given exactly as 01's table says. Assumes nothing.
use Rattle.std.specs.Prelude.{Ok}
use Rattle.refusals.specs.Given.{Answer, Fault, refused}
use Prim.Native.Nat.{ℕ}
use mathlib.Core.Path.{◌≡◌, refl}
use mathlib.Core.Bool.{Bool, true, ◌&&◌}
use mathlib.Core.List.{List}
use mathlib.Core.Logic.{◌↔◌}
use lib.ListN.{length}
use lib.Dec.{eqb}
use borrow.Author.Tests.{eq-eqb, eqb-true}
use Rattle.ground.proofs.Tests.{and-true}
use Rattle.net.specs.Net.{Net}
use Rattle.refusals.specs.First.{StartFirst, LooseFirst}
use Rattle.refusals.proofs.Exactly.{Chain, Reads, reads_both, reads_all, start_reads, loose_reads, Answers, answers_ok, exactly_refused, is_answered, is_allowed}
use Rattle.lists.specs.Whole.{count}
use Rattle.list_refusals.specs.Given.{whole, target_fault, list_fault}
use Rattle.list_refusals.specs.Demands.{WholeMarkings, EntriesFirst, SizeFirst}
use Rattle.lists.specs.Match.{held}
use Rattle.lists.specs.Answers.{claim_of}
use Rattle.lists.specs.declared.Kind.{Kind}
use Rattle.lists.proofs.Answers.{refused_claim}
use Rattle.list_refusals.proofs.Wholes.{whole_long}
use Rattle.list_refusals.proofs.Exactly.{none_reads, markings_of, of_markings, entries_reads, target_of_lem, of_target_lem, target_reads, size_reads}
use Rattle.list_pairs.specs.Look.{looked}
use Rattle.list_check.specs.Given.{given_fault, list_of, target_of}
use Rattle.list_check.specs.Allowed.{ListAllowed, ListRefused, TargetAllowed, TargetRefused}
use Rattle.list_check.proofs.Refusals.{lent_of, of_lent}

-- the chain of a list's refusals, with what follows it read as R
module _ (kind : Kind) (net : Net) (initial l : List ℕ) (fits : Bool) {Others : Type 0} (there : (whole net.places l && fits) ≡ true → Others) (back : Others → (whole net.places l && fits) ≡ true) {next : Fault} {R : ℕ → ℕ → Type 0 → Type 0} (r : Reads next R) where
  given_reads : Reads (given_fault kind net initial l fits next) (λ n at Next. StartFirst net initial Others n at (EntriesFirst kind net.places net.caps l n at (R n at (LooseFirst net n at (SizeFirst net.places l n at Next)))))
  unfolding given_fault list_fault
  given_reads =
      reads_both (start_reads net initial (whole net.places l && fits) there back)
      (reads_both (entries_reads kind net.places net.caps l) (reads_both (reads_both r (loose_reads net)) (size_reads net.places l)))

-- the three theorems of one answer r: each entry states them by its own names
pub record Exact {A : Type 0} (r : Answer A) (Allowed : Type 0) (Refused : ℕ → ℕ → Type 0) : Type 0 where
  pub allowed_answered : Allowed → (n at : ℕ) → r ≡ refused n at → ⊥
  pub answered_allowed : ((n at : ℕ) → r ≡ refused n at → ⊥) → Allowed
  pub refused_exactly : (n at : ℕ) → (r ≡ refused n at) ↔ Refused n at

-- a list's answer is a refusal exactly where there is a fault, and so is that of a claim about it
module _ (kind : Kind) (net : Net) (initial l : List ℕ) (fits : Bool) (next : Fault) where
  list_answers : Answers (given_fault kind net initial l fits next) (list_of kind net initial l fits next)
  unfolding list_of
  list_answers = answers_ok _ (looked kind net initial l) _ refl

  claim_answers : (leftOpen : Bool) → Answers (given_fault kind net initial l fits next) (claim_of (list_of kind net initial l fits next) leftOpen)
  unfolding claim_of
  claim_answers leftOpen =
      record {
        given = λ n at e. rw (list_answers.given n at e);
        never = λ e n at q. list_answers.never e n at (refused_claim (list_of kind net initial l fits next) leftOpen n at q);
      }

-- ---- a list alone
module _ (kind : Kind) (net : Net) (initial l : List ℕ) where
  allowed_of : given_fault kind net initial l true (Ok tt) ≡ Ok tt → ListAllowed kind net initial l
  allowed_of e =
      let g = lent_of kind net initial l true (Ok tt) e in
      record {
        sized = g.ready.sized;
        light = g.light;
        marked = g.start;
        whole = record { some_places = g.ready.sized.some_places; number = count net.places l; long = g.ready.long };
        fine = g.fine;
        entries = g.entries;
        wired = g.wired;
        some = g.some;
      }

  pub of_allowed : ListAllowed kind net initial l → given_fault kind net initial l true (Ok tt) ≡ Ok tt
  of_allowed a =
      of_lent kind net initial l true (Ok tt)
      (record {
        ready = record { sized = a.sized; long = whole_long net.places l (of_markings net.places l a.whole) };
        light = a.light;
        start = a.marked;
        fine = a.fine;
        agrees = refl;
        follows = refl;
        entries = a.entries;
        wired = a.wired;
        some = a.some;
      })

  -- what is allowed is not refused, and what is not refused is allowed
  pub list_sound : (given_fault kind net initial l true (Ok tt) ≡ Ok tt) ↔ ListAllowed kind net initial l
  list_sound = (allowed_of, of_allowed)

  list_chain : Chain (given_fault kind net initial l true (Ok tt)) (ListRefused kind net initial l)
  list_chain = reads_all (given_reads kind net initial l true there back none_reads)
    where
      there : (whole net.places l && true) ≡ true → WholeMarkings net.places l
      there e = markings_of net.places l (and-true (whole net.places l) true e).0

      back : WholeMarkings net.places l → (whole net.places l && true) ≡ true
      back w = rw (of_markings net.places l w)

  pub list_exact : Exact (list_of kind net initial l true (Ok tt)) (ListAllowed kind net initial l) (ListRefused kind net initial l)
  list_exact =
      record {
        allowed_answered = is_answered (list_answers kind net initial l true (Ok tt)) of_allowed;
        answered_allowed = is_allowed (list_answers kind net initial l true (Ok tt)) allowed_of;
        refused_exactly = exactly_refused (list_answers kind net initial l true (Ok tt)) list_chain;
      }

  -- and a claim about it
  pub claim_exact : (leftOpen : Bool) → Exact (claim_of (list_of kind net initial l true (Ok tt)) leftOpen) (ListAllowed kind net initial l) (ListRefused kind net initial l)
  claim_exact leftOpen =
      record {
        allowed_answered = is_answered (claim_answers kind net initial l true (Ok tt) leftOpen) of_allowed;
        answered_allowed = is_allowed (claim_answers kind net initial l true (Ok tt) leftOpen) allowed_of;
        refused_exactly = exactly_refused (claim_answers kind net initial l true (Ok tt) leftOpen) list_chain;
      }

-- ---- a list with a target
module _ (kind : Kind) (net : Net) (initial l m : List ℕ) where
  aimed_of : given_fault kind net initial l (eqb (length m) net.places) (target_fault m) ≡ Ok tt → TargetAllowed kind net initial l m
  aimed_of e =
      let g = lent_of kind net initial l (eqb (length m) net.places) (target_fault m) e in
      record {
        listed = record {
          sized = g.ready.sized;
          light = g.light;
          marked = g.start;
          whole = record { some_places = g.ready.sized.some_places; number = count net.places l; long = g.ready.long };
          fine = g.fine;
          entries = g.entries;
          wired = g.wired;
          some = g.some;
        };
        long = eqb-true _ _ g.agrees;
        fine = target_of_lem m g.follows;
      }

  pub of_aimed : TargetAllowed kind net initial l m → given_fault kind net initial l (eqb (length m) net.places) (target_fault m) ≡ Ok tt
  of_aimed a =
      of_lent kind net initial l (eqb (length m) net.places) (target_fault m)
      (record {
        ready = record { sized = a.listed.sized; long = whole_long net.places l (of_markings net.places l a.listed.whole) };
        light = a.listed.light;
        start = a.listed.marked;
        fine = a.listed.fine;
        agrees = eq-eqb _ _ a.long;
        follows = of_target_lem m a.fine;
        entries = a.listed.entries;
        wired = a.listed.wired;
        some = a.listed.some;
      })

  pub target_sound : (given_fault kind net initial l (eqb (length m) net.places) (target_fault m) ≡ Ok tt) ↔ TargetAllowed kind net initial l m
  target_sound = (aimed_of, of_aimed)

  target_chain : Chain (given_fault kind net initial l (eqb (length m) net.places) (target_fault m)) (TargetRefused kind net initial l m)
  target_chain = reads_all (given_reads kind net initial l (eqb (length m) net.places) there back (target_reads m))
    where
      there : (whole net.places l && eqb (length m) net.places) ≡ true → WholeMarkings net.places l × (length m ≡ net.places)
      there e =
          let a = and-true (whole net.places l) (eqb (length m) net.places) e in
          (markings_of net.places l a.0, eqb-true _ _ a.1)

      back : WholeMarkings net.places l × (length m ≡ net.places) → (whole net.places l && eqb (length m) net.places) ≡ true
      back w = rw (of_markings net.places l w.0, eq-eqb _ _ w.1)

  pub target_exact : Exact (target_of kind net initial l m) (TargetAllowed kind net initial l m) (TargetRefused kind net initial l m)
  target_exact =
      let x = claim_answers kind net initial l (eqb (length m) net.places) (target_fault m) (held kind net.places (count net.places l) l m) in
      record {
        allowed_answered = is_answered x of_aimed;
        answered_allowed = is_allowed x aimed_of;
        refused_exactly = exactly_refused x target_chain;
      }
