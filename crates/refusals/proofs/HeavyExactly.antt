-- 18: given exactly when 1 and 2 are not and the net is not light, in each of the four chains. Assumes nothing.
use Rattle.std.specs.Prelude.{Ok, Err}
use Rattle.refusals.specs.Given.{Fault, refusal}
use Prim.Native.Nat.{ℕ, ◌<◌}
use mathlib.Core.Path.{◌≡◌, refl}
use mathlib.Core.Bool.{Bool, true}
use mathlib.Core.List.{List}
use mathlib.Core.Logic.{◌↔◌}
use native.Mathlib.Omega.{arith}
use lib.ListN.{length}
use Rattle.net.specs.Net.{Net, Light, Sized}
use Rattle.weights.specs.Heavy.{LightAt}
use Rattle.weights.proofs.Heavies.{light_each}
use Rattle.refusals.specs.Given.{weights_fault, counts_fault, net_fault, start_fault, marked_fault}
use Rattle.refusals.specs.First.{First, fails, holds, GivenAt, CountsFirst, LooseFirst}
use Rattle.refusals.proofs.Refusals.{weights_met}
use Rattle.refusals.proofs.Exactly.{reads_all, weights_reads, counts_reads, net_reads, start_reads, marked_reads}

-- at is the lowest transition with a weight over the limit, over Pre and Post together
abbrev pub HeavyAt : Net → ℕ → Type 0
HeavyAt net at = GivenAt 18 (LightAt net) net.transitions 18 at

-- the first demand that does not hold is that of the weights: counts and lengths are right
heavy_first : {net : Net} {Others Next : Type 0} {at : ℕ} → (Next → ⊥) → CountsFirst net Others 18 at Next → (Sized net × Others) × HeavyAt net at
heavy_first none (fails miss g) = let z = g.number in absurd (omega arith)
heavy_first none (holds c (fails miss g)) = let z = g.number in absurd (omega arith)
heavy_first none (holds c (holds l (fails miss g))) = (
  (
    record {
      some_places = c.some_places;
      few_places = c.few_places;
      some_transitions = c.some_transitions;
      few_transitions = c.few_transitions;
      pres = l.pres;
      posts = l.posts;
      capped = l.capped;
      noted = l.noted;
    },
    l.others,
  ),
  g,
)
heavy_first none (holds c (holds l (holds w h))) = absurd (none h)

first_heavy : {net : Net} {Others Next : Type 0} {at : ℕ} → (Sized net × Others) × HeavyAt net at → CountsFirst net Others 18 at Next
first_heavy {net} {Others} {Next} {at} ((s, o), g) =
    holds (record { some_places = s.some_places; few_places = s.few_places; some_transitions = s.some_transitions; few_transitions = s.few_transitions })
    (holds (record { pres = s.pres; posts = s.posts; capped = s.capped; noted = s.noted; others = o }) (fails (λ all. g.fails (all at g.here)) g))

-- what comes after it has another number
marking_no_18 : {D Next : Type 0} {M : ℕ → Type 0} {count at : ℕ} → (Next → ⊥) → First D (GivenAt 3 M count 18 at) Next → ⊥
marking_no_18 none (fails miss g) = let z = g.number in omega arith
marking_no_18 none (holds d h) = none h

loose_no_18 : {net : Net} {at : ℕ} → LooseFirst net 18 at ⊥ → ⊥
loose_no_18 (fails miss g) = let z = g.number in omega arith
loose_no_18 (holds p (fails miss g)) = let z = g.told.number in omega arith
loose_no_18 (holds p (holds t z)) = z

-- 18, "after 2 and before 3": given exactly when 1 and 2 are not and a weight is over the limit; its position is the lowest transition with one
module _ (net : Net) (fits : Bool) (at : ℕ) where
  pub heavy_exactly : (counts_fault net fits ≡ Err (refusal 18 at)) ↔ ((Sized net × (fits ≡ true)) × HeavyAt net at)
  heavy_exactly =
      let c = (reads_all (counts_reads net fits {Others = fits ≡ true} (λ h. h) (λ h. h))).exactly 18 at in
      (λ e. heavy_first (λ z. z) (c.0 e), λ h. c.1 (first_heavy h))

  pub heavy_net_exactly : (net_fault net fits ≡ Err (refusal 18 at)) ↔ ((Sized net × (fits ≡ true)) × HeavyAt net at)
  heavy_net_exactly =
      let c = (reads_all (net_reads net fits {Others = fits ≡ true} (λ h. h) (λ h. h))).exactly 18 at in
      (λ e. heavy_first loose_no_18 (c.0 e), λ h. c.1 (first_heavy h))

  -- ... whatever the marking is, as long as it has a number for each place
  module _ (initial : List ℕ) where
    pub heavy_start_exactly : (start_fault net initial fits ≡ Err (refusal 18 at)) ↔ ((Sized net × ((length initial ≡ net.places) × (fits ≡ true))) × HeavyAt net at)
    heavy_start_exactly =
        let c = (reads_all (start_reads net initial fits {Others = fits ≡ true} (λ h. h) (λ h. h))).exactly 18 at in
        (λ e. heavy_first (marking_no_18 (λ z. z)) (c.0 e), λ h. c.1 (first_heavy h))

    pub heavy_marked_exactly : (marked_fault net initial fits ≡ Err (refusal 18 at)) ↔ ((Sized net × ((length initial ≡ net.places) × (fits ≡ true))) × HeavyAt net at)
    heavy_marked_exactly =
        let c = (reads_all (marked_reads net initial fits {Others = fits ≡ true} (λ h. h) (λ h. h))).exactly 18 at in
        (λ e. heavy_first (marking_no_18 loose_no_18) (c.0 e), λ h. c.1 (first_heavy h))

-- a net is light, or 18 has a position for it
heavy_somewhere : (net : Net) → Sized net → (Light net → ⊥) → (at : ℕ) × HeavyAt net at
heavy_somewhere net sized none = go (weights_fault net) refl
  where
    eighteen : {n at : ℕ} → First ((t : ℕ) → t < net.transitions → LightAt net t) (GivenAt 18 (LightAt net) net.transitions n at) ⊥ → HeavyAt net at
    eighteen (fails miss g) = record { number = refl; here = g.here; fails = g.fails; lowest = g.lowest }
    eighteen (holds w z) = absurd z

    go : (x : Fault) → weights_fault net ≡ x → (at : ℕ) × HeavyAt net at
    go (Ok _) e = absurd (none (weights_met net sized e))
    go (Err r) e = (r.at, eighteen (((reads_all (weights_reads net)).exactly r.number r.at).0 e))

-- Told at: 18 is given with position at
not_light : {Others : Type 0} {Told : ℕ → Type 0} (net : Net) → ((at : ℕ) → Told at ↔ ((Sized net × Others) × HeavyAt net at)) → ((at : ℕ) × Told at) ↔ ((Sized net × Others) × (Light net → ⊥))
not_light net exact = (
  λ g. let h = (exact g.0).0 g.1 in (h.0, λ l. h.1.fails (light_each net l g.0)),
  λ h. let s = heavy_somewhere net h.0.0 h.1 in (s.0, (exact s.0).1 (h.0, s.1)),
)

-- so 18 is given, whatever its position, exactly when 1 and 2 are not and the net is not light
module _ (net : Net) (fits : Bool) where
  pub not_light_exactly : ((at : ℕ) × (counts_fault net fits ≡ Err (refusal 18 at))) ↔ ((Sized net × (fits ≡ true)) × (Light net → ⊥))
  not_light_exactly = not_light net (heavy_exactly net fits)

  pub not_light_net_exactly : ((at : ℕ) × (net_fault net fits ≡ Err (refusal 18 at))) ↔ ((Sized net × (fits ≡ true)) × (Light net → ⊥))
  not_light_net_exactly = not_light net (heavy_net_exactly net fits)

  module _ (initial : List ℕ) where
    pub not_light_start_exactly : ((at : ℕ) × (start_fault net initial fits ≡ Err (refusal 18 at))) ↔ ((Sized net × ((length initial ≡ net.places) × (fits ≡ true))) × (Light net → ⊥))
    not_light_start_exactly = not_light net (λ at. heavy_start_exactly net fits at initial)

    pub not_light_marked_exactly : ((at : ℕ) × (marked_fault net initial fits ≡ Err (refusal 18 at))) ↔ ((Sized net × ((length initial ≡ net.places) × (fits ≡ true))) × (Light net → ⊥))
    not_light_marked_exactly = not_light net (λ at. heavy_marked_exactly net fits at initial)
