-- What an invariant weighting means along any firing word, whoever says that it is one. Assumes nothing.
use Prim.Native.Nat.{ℕ, ◌+◌, ◌<◌}
use mathlib.Core.Path.{◌≡◌, refl, sym, ap, ◌∙◌}
use mathlib.Core.List.{List}
use native.Mathlib.Omega.{arith}
use lib.ListN.{length}
use lib.Seq.{ext_get_or}
use lib.Dec.{eqb}
use lib.IntN.{ℤ, pos, ◌+ℤ◌, ◌*ℤ◌, +ℤ_assoc, +ℤ_idr, *ℤ-zero, pos-+ℤ-pos}
use Rattle.ground.specs.Lists.{bit}
use Rattle.ground.specs.Parts.{up}
use Rattle.net.specs.Net.{Net, Change, tokens}
use Rattle.net.specs.Firing.{Gives, Fires, nothing, letter, Reachable}
use Rattle.net.proofs.Meaning.{kept}
use Rattle.weighting_sums.specs.Weighting.{sum, entry, place_sum, PlaceInvariant, TransitionInvariant, weight, count}
use Rattle.weighting_sums.proofs.Sum.{mul_plus, sum_same, sum_both, sum_none, sum_at}

-- one firing adds the published sum of its transition
pub weight_firing : {net : Net} {m m' : List ℕ} {t : ℕ} (y : List ℤ) → Gives net m t m' → weight net y m' ≡ weight net y m +ℤ place_sum net y t
weight_firing {net} {m} {m'} {t} y g =
    sum_same net.places (λ p. entry y p *ℤ pos (tokens m' p)) (λ p. entry y p *ℤ pos (tokens m p) +ℤ entry y p *ℤ Change net p t)
    (λ p h. ap (λ (z : ℤ). entry y p *ℤ z) (g.at p h) ∙ mul_plus (entry y p) (pos (tokens m p)) (Change net p t))
    ∙ sum_both net.places (λ p. entry y p *ℤ pos (tokens m p)) (λ p. entry y p *ℤ Change net p t)

-- an invariant place weighting keeps its sum
pub keeps_sum : {net : Net} {m w m' : List ℕ} (y : List ℤ) → PlaceInvariant net y → Fires net m w m' → weight net y m' ≡ weight net y m
keeps_sum {net} {m} y i f =
    kept net (λ m'. weight net y m' ≡ weight net y m)
    (λ a b t g q. weight_firing y g.gives ∙ ap (λ (z : ℤ). weight net y a +ℤ z) (i.at t g.named) ∙ +ℤ_idr (weight net y a) ∙ q)
    f refl

-- so a marking with another sum is never reached
pub never_reached : {net : Net} {m m' : List ℕ} (y : List ℤ) → PlaceInvariant net y → (weight net y m' ≡ weight net y m → ⊥) → Reachable net m m' → ⊥
never_reached y i n r = n (keeps_sum y i r.fires)

-- the state equation: a word changes each place by the sum of Change times the letter counts
pub state_equation : {net : Net} {m w m' : List ℕ} → Fires net m w m' → (p : ℕ) → p < net.places → pos (tokens m' p) ≡ pos (tokens m p) +ℤ sum net.transitions (λ t. Change net p t *ℤ pos (count w t))
unfolding count
state_equation {net} {m} nothing p h =
    sym (ap (λ (z : ℤ). pos (tokens m p) +ℤ z) (sum_none net.transitions (λ t. Change net p t *ℤ pos 0) (λ t l. *ℤ-zero (Change net p t))) ∙ +ℤ_idr (pos (tokens m p)))
state_equation {net} {m} (letter {m' = m'} {t = t} {w = w} g l) p h =
    state_equation l p h
    ∙ ap (λ (z : ℤ). z +ℤ sum net.transitions (λ u. Change net p u *ℤ pos (count w u))) (g.gives.at p h)
    ∙ +ℤ_assoc (pos (tokens m p)) (Change net p t) (sum net.transitions (λ u. Change net p u *ℤ pos (count w u)))
    ∙ ap (λ (z : ℤ). pos (tokens m p) +ℤ z) (sym more)
  where
    more : sum net.transitions (λ u. Change net p u *ℤ pos (bit (eqb t u) + count w u)) ≡ Change net p t +ℤ sum net.transitions (λ u. Change net p u *ℤ pos (count w u))
    more =
        sum_same net.transitions (λ u. Change net p u *ℤ pos (bit (eqb t u) + count w u)) (λ u. Change net p u *ℤ pos (bit (eqb t u)) +ℤ Change net p u *ℤ pos (count w u))
        (λ u k. ap (λ (z : ℤ). Change net p u *ℤ z) (sym (pos-+ℤ-pos (bit (eqb t u)) (count w u))) ∙ mul_plus (Change net p u) (pos (bit (eqb t u))) (pos (count w u)))
        ∙ sum_both net.transitions (λ u. Change net p u *ℤ pos (bit (eqb t u))) (λ u. Change net p u *ℤ pos (count w u))
        ∙ ap (λ (z : ℤ). z +ℤ sum net.transitions (λ u. Change net p u *ℤ pos (count w u))) (sum_at net.transitions t (λ u. Change net p u) g.named)

-- a word whose letter counts are an invariant transition weighting leads back to where it started, if it fires
pub counts_return : {net : Net} {m w m' : List ℕ} (x : List ℤ) → TransitionInvariant net x → ((t : ℕ) → t < net.transitions → entry x t ≡ pos (count w t)) → length m ≡ net.places → Fires net m w m' → m' ≡ m
counts_return {net} {m} {w} {m'} x i c long f =
    ext_get_or 0 m' m (end ∙ sym long) (λ p h. let l : p < net.places = omega (arith, end) in ap up (same p l))
  where
    end : length m' ≡ net.places
    end = kept net (λ m. length m ≡ net.places) (λ a b t g q. g.gives.long) f long

    same : (p : ℕ) → p < net.places → pos (tokens m' p) ≡ pos (tokens m p)
    same p h =
        state_equation f p h
        ∙ ap (λ (z : ℤ). pos (tokens m p) +ℤ z) (sum_same net.transitions (λ t. Change net p t *ℤ pos (count w t)) (λ t. Change net p t *ℤ entry x t) (λ t l. ap (λ (z : ℤ). Change net p t *ℤ z) (sym (c t l))) ∙ i.at p h)
        ∙ +ℤ_idr (pos (tokens m p))
