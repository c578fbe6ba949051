-- Which places some transition changes: the test says what the demand does, and a place that none changes keeps its tokens. Assumes nothing.
use Prim.Native.Nat.{ℕ, ◌<◌}
use mathlib.Core.Path.{◌≡◌, refl, sym, ap, ◌∙◌}
use mathlib.Core.Bool.{Bool, true, false, not}
use mathlib.Core.List.{List}
use mathlib.Core.Logic.{◌↔◌}
use native.Mathlib.Omega.{arith}
use lib.Dec.{eqb}
use lib.IntN.{pos}
use borrow.Author.Tests.{ltb-true, ltb-false, lt-ltb, ne_eqb}
use Rattle.ground.specs.Lists.{first}
use Rattle.ground.specs.Parts.{up, dn}
use Rattle.ground.proofs.Parts.{minus_is, up_sub, dn_sub, parts_eq}
use Rattle.ground.proofs.Scan.{first_below, first_passes, first_found}
use Rattle.ground.proofs.Tests.{never, unlike_false, like_false}
use Rattle.net.specs.Net.{Net, Pre, Post, Change, tokens}
use Rattle.net.specs.Firing.{Fires, nothing, letter}
use Rattle.net.proofs.Meaning.{gives_plain}
use Rattle.complement.specs.Complement.{Changed, change_of, changed}

pub unlike_true : (a b : ℕ) → not (eqb a b) ≡ true → a ≡ b → ⊥
unlike_true a b e q = never (sym e ∙ like_false a b q)

module _ (net : Net) (p : ℕ) where
  -- whether transition t changes the place
  abbrev pub changes_at : ℕ → Bool
  changes_at t = change_of (Pre net p t) (Post net p t)

  -- Change is 0 exactly where as much is put as is taken
  pub zero_change : (t : ℕ) → Change net p t ≡ pos 0 ↔ Pre net p t ≡ Post net p t
  zero_change t =
      let u = ap up (minus_is (Post net p t) (Pre net p t)) ∙ up_sub (Post net p t) (Pre net p t) in
      let d = ap dn (minus_is (Post net p t) (Pre net p t)) ∙ dn_sub (Post net p t) (Pre net p t) in (
        λ e. omega (arith, u, d, ap up e, ap dn e),
        λ e. parts_eq (Change net p t) (pos 0) (omega (arith, u)) (omega (arith, d)),
      )

  -- where the test fails every transition puts back what it takes
  pub unchanged_flat : changed net p ≡ false → (t : ℕ) → t < net.transitions → Pre net p t ≡ Post net p t
  unfolding changed
  unchanged_flat e t h = unlike_false _ _ (first_below changes_at net.transitions t (omega (arith, ltb-false _ net.transitions e)))

  -- the test holds exactly where some transition changes the place
  pub changed_means : changed net p ≡ true → Changed net p
  unfolding changed
  changed_means e =
      let h = ltb-true (first changes_at net.transitions) net.transitions e in
      record {
        transition = first changes_at net.transitions;
        named = h;
        changes = λ z. never (sym (first_passes changes_at net.transitions h) ∙ like_false _ _ ((zero_change (first changes_at net.transitions)).0 z));
      }

  pub means_changed : Changed net p → changed net p ≡ true
  unfolding changed
  means_changed c =
      let e : changes_at c.transition ≡ true = ap not (ne_eqb _ _ (λ q. c.changes ((zero_change c.transition).1 q))) in
      lt-ltb _ net.transitions (first_found changes_at net.transitions c.transition c.named e)

  -- a loop that puts back what it takes changes nothing
  pub loop_unchanged : ((t : ℕ) → t < net.transitions → Pre net p t ≡ Post net p t) → Changed net p → ⊥
  loop_unchanged same c = c.changes ((zero_change c.transition).1 (same c.transition c.named))

  -- a place that no transition changes keeps its tokens, whatever word fires: so it stays within its capacity without a complement place
  pub unchanged_stays : p < net.places → (Changed net p → ⊥) → {m w n : List ℕ} → Fires net m w n → tokens n p ≡ tokens m p
  unchanged_stays h u nothing = refl
  unchanged_stays h u (letter f l) =
      let x = gives_plain f.gives p h in
      let y = unchanged_flat (untested (changed net p) refl) _ f.named in
      unchanged_stays h u l ∙ omega arith
    where
      untested : (b : Bool) → changed net p ≡ b → changed net p ≡ false
      untested true q = absurd (u (changed_means q))
      untested false q = q
