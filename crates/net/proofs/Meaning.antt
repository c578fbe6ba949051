-- Firing as published: what the other crates rest on. Assumes nothing.
use Prim.Native.Nat.{ℕ, ◌+◌, ◌*◌, ◌≤◌, ◌<◌, zero-le}
use mathlib.Core.Path.{◌≡◌, refl, sym, ap, ◌∙◌}
use mathlib.Core.List.{List, [], ◌∷◌, ◌++◌}
use native.Mathlib.Omega.{arith}
use native.Mathlib.Decide.{dec_lt}
use lib.ListN.{length, get_or, get_or-eq_default}
use lib.Seq.{ext_get_or}
use Rattle.ground.specs.Limits.{weight_limit, token_limit, word_limit, replay_limit}
use Rattle.ground.specs.Parts.{up}
use Rattle.ground.proofs.Parts.{moved_is}
use Rattle.net.specs.Net.{Net, Pre, Post, capacity, mark, tokens, Light}
use Rattle.net.specs.Firing.{cause_number, cause_values, Gives, Firing, Fires, nothing, letter, Reachable, Within}
use Rattle.net.specs.Letter.{Small}
use Rattle.net.proofs.Rule.{leaves_most, level_le}
use Rattle.net.specs.declared.Cause.{Cause}
use Rattle.net.specs.declared.Cause.TheVariants.{Short, Over}

-- a cause's number and values tell it apart
pub cause_apart : (a b : Cause) → cause_number a ≡ cause_number b → cause_values a ≡ cause_values b → a ≡ b
cause_apart (Short p) (Short q) e v = let x : p ≡ q = cc in cc
cause_apart (Short p) (Over q) e v = let z : ◌≡◌ {A = ℕ} 1 2 = e in absurd (omega arith)
cause_apart (Over p) (Short q) e v = let z : ◌≡◌ {A = ℕ} 2 1 = e in absurd (omega arith)
cause_apart (Over p) (Over q) e v = let x : p ≡ q = cc in cc

pub cause_some : (why : Cause) → cause_number why ≡ 0 → ⊥
cause_some (Short p) e = omega arith
cause_some (Over p) e = omega arith

-- firing in numbers that are not signed
pub gives_plain : {net : Net} {m m' : List ℕ} {t : ℕ} → Gives net m t m' → (p : ℕ) → p < net.places → tokens m' p + Pre net p t ≡ tokens m p + Post net p t
gives_plain {net} {m} {m'} {t} g p h = (moved_is (tokens m p) (Post net p t) (Pre net p t) (tokens m' p)).0 (g.at p h)

-- firing is deterministic: one letter, and a word
pub gives_one : {net : Net} {m m' m'' : List ℕ} {t : ℕ} → Gives net m t m' → Gives net m t m'' → m' ≡ m''
gives_one {net} {m} {m'} {m''} f g =
    ext_get_or 0 m' m'' (f.long ∙ sym g.long)
    (λ p h. let l : p < net.places = omega (arith, f.long) in ap up (f.at p l ∙ sym (g.at p l)))

pub fires_nil : {net : Net} {m m' : List ℕ} → Fires net m [] m' → m ≡ m'
fires_nil nothing = refl

pub fires_cons : {net : Net} {m w m'' : List ℕ} {t : ℕ} → Fires net m (t ∷ w) m'' → (m' : List ℕ) × Firing net m t m' × Fires net m' w m''
fires_cons (letter {m' = m'} f l) = (m', f, l)

pub deterministic : {net : Net} {m m' m'' w : List ℕ} → Fires net m w m' → Fires net m w m'' → m' ≡ m''
deterministic nothing g = fires_nil g
deterministic (letter f l) g =
    let r = fires_cons g in
    deterministic l (rw (gives_one r.1.gives f.gives) at r.2)

-- u ++ w fires exactly when u fires, and w fires from where u ends
pub fires_both : {net : Net} {m m' m'' u w : List ℕ} → Fires net m u m' → Fires net m' w m'' → Fires net m (u ++ w) m''
fires_both nothing g = g
fires_both (letter f l) g = letter f (fires_both l g)

pub fires_apart : {net : Net} {m m'' : List ℕ} (u w : List ℕ) → Fires net m (u ++ w) m'' → (m' : List ℕ) × Fires net m u m' × Fires net m' w m''
fires_apart {m = m} [] w g = (m, nothing, g)
fires_apart {net = net} {m = m} {m'' = m''} (t ∷ u) w g =
    let r = fires_cons g in
    let q = fires_apart {m = (fires_cons g).0} u w r.2 in
    (q.0, letter r.1 q.1, q.2)

-- what each firing keeps, every firing word keeps, and every reachable marking has
pub kept : (net : Net) (Q : List ℕ → Type 0) → ((m m' : List ℕ) (t : ℕ) → Firing net m t m' → Q m → Q m') → {m w m' : List ℕ} → Fires net m w m' → Q m → Q m'
kept net Q f nothing q = q
kept net Q f (letter g l) q = kept net Q f l (f _ _ _ g q)

pub reachable_has : (net : Net) (Q : List ℕ → Type 0) → ((m m' : List ℕ) (t : ℕ) → Firing net m t m' → Q m → Q m') → {m m' : List ℕ} → Reachable net m m' → Q m → Q m'
reachable_has net Q f r q = kept net Q f r.fires q

-- one firing ends within capacities, so a marking within capacities stays so along every firing word
pub firing_within : {net : Net} {m m' : List ℕ} {t : ℕ} → Firing net m t m' → Within net m'
firing_within {net} {m} {m'} {t} f =
    record {
      long = f.gives.long;
      at = λ p h c. omega (arith, gives_plain f.gives p h, (level_le net m t p (capacity net p)).0 (f.enabled.keeps p h c), leaves_most (mark net p) (Pre net p t));
    }

pub within_stays : {net : Net} {m w m' : List ℕ} → Fires net m w m' → Within net m → Within net m'
within_stays {net} f i = kept net (Within net) (λ m m' t g q. firing_within g) f i

-- a firing adds at most a weight to a place, so a word at most a weight for each letter
firing_small : {net : Net} {m m' : List ℕ} {t : ℕ} (b : ℕ) → Light net → Firing net m t m' → Small b m → Small (b + weight_limit) m'
firing_small {net} {m} {m'} {t} b light f s = record { at = λ p. go p (dec_lt p net.places) }
  where
    go : (p : ℕ) → Dec (p < net.places) → get_or m' p 0 ≤ b + weight_limit
    go p (yes h) = omega (arith, gives_plain f.gives p h, s.at p, light.post (t * net.places + p))
    go p (no n) = rw (get_or-eq_default m' 0 {n = p} (omega (arith, f.gives.long))) zero-le

pub word_small : {net : Net} {m w m' : List ℕ} (b : ℕ) → Light net → Fires net m w m' → Small b m → Small (b + weight_limit * length w) m'
word_small b light nothing s = record { at = λ p. omega (arith, s.at p) }
word_small b light (letter {w = w} f l) s =
    let r = word_small (b + weight_limit) light l (firing_small b light f s) in
    record { at = λ p. omega (arith, r.at p) }

-- "A replay from these reaches at most 65,534 + 65,535 x 255 tokens in a place."
pub replay_reaches : {net : Net} {m w m' : List ℕ} → Light net → Fires net m w m' → Small token_limit m → length w ≤ word_limit → Small replay_limit m'
replay_reaches light f s h =
    let r = word_small token_limit light f s in
    record { at = λ p. omega (arith, r.at p) }
