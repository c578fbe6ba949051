-- The letter as the code judges and fires it is the published one: enabled, given and named as 001 and 01 say. Assumes nothing.
use Prim.Native.Nat.{ℕ, ◌+◌, ◌≤◌, ◌<◌}
use mathlib.Core.Path.{◌≡◌, refl, sym, ◌∙◌}
use mathlib.Core.Bool.{Bool, true, false, ◌&&◌}
use mathlib.Core.List.{List}
use native.Mathlib.Omega.{arith}
use native.Mathlib.Decide.{dec_lt}
use lib.ListN.{length, get_or}
use lib.Signed.{clash_ℤ}
use lib.Dec.{ltb}
use borrow.Author.Tests.{lt-ltb, le-ltb, ltb-true, ltb-false, eq-eqb}
use Rattle.ground.specs.Limits.{no_capacity}
use Rattle.ground.specs.Lists.{tally}
use Rattle.ground.proofs.Tests.{never, or-false, both_false, and-true}
use Rattle.ground.proofs.Scan.{first_below, first_passes, first_most, tally_none}
use Rattle.ground.proofs.Fill.{map_at_length, map_at_at}
use Rattle.ground.proofs.Parts.{moved_is}
use Rattle.net.specs.Net.{Net, Pre, Post, capacity, mark, leaves_first, tokens}
use Rattle.net.specs.Firing.{Covers, Keeps, Enabled, Gives, LowestShort, LowestOver, Names}
use Rattle.net.specs.Letter.{arcs_at, over_at, short, over, stops, lowest_short, lowest_over, cause, passes, after, judge_at, fired_at}
use Rattle.net.specs.declared.Cause.{Cause}
use Rattle.net.specs.declared.Cause.TheVariants.{Short, Over}
use Rattle.std.specs.Prelude.{Ok, Err}
use Rattle.net.proofs.Rule.{level_le, level_lt}
use Rattle.net.proofs.Letters.{none_stops}
use Rattle.net.proofs.Rows.{row_at}

-- one place's capacity test
over_no : (takes puts cap mark tokens : ℕ) → over_at takes puts cap mark tokens ≡ false → cap < no_capacity → tokens + puts ≤ cap + leaves_first mark takes
over_no takes puts cap mark tokens e h = ltb-false (cap + leaves_first mark takes) (tokens + puts) (rw (lt-ltb cap no_capacity h) at e)

no_over : (takes puts cap mark tokens : ℕ) → (cap < no_capacity → tokens + puts ≤ cap + leaves_first mark takes) → over_at takes puts cap mark tokens ≡ false
no_over takes puts cap mark tokens h = go (ltb cap no_capacity) refl
  where
    go : (b : Bool) → ltb cap no_capacity ≡ b → (ltb cap no_capacity && ltb (cap + leaves_first mark takes) (tokens + puts)) ≡ false
    go true e = rw e (le-ltb (cap + leaves_first mark takes) (tokens + puts) (h (ltb-true cap no_capacity e)))
    go false e = rw e

over_yes : (takes puts cap mark tokens : ℕ) → over_at takes puts cap mark tokens ≡ true → (cap < no_capacity) × (cap + leaves_first mark takes < tokens + puts)
over_yes takes puts cap mark tokens e =
    let a = and-true (ltb cap no_capacity) (ltb (cap + leaves_first mark takes) (tokens + puts)) e in
    (ltb-true cap no_capacity a.0, ltb-true (cap + leaves_first mark takes) (tokens + puts) a.1)

module _ (net : Net) (m : List ℕ) (t : ℕ) (long : length m ≡ net.places) where
  module _ (p : ℕ) (h : p < net.places) where
    pre_at : get_or (arcs_at net t).takes p 0 ≡ Pre net p t
    pre_at = row_at net.places t net.pre p h

    post_at : get_or (arcs_at net t).puts p 0 ≡ Post net p t
    post_at = row_at net.places t net.post p h

    -- the two tests of place p say what is published
    covers_of : short (arcs_at net t).takes m p ≡ false → Covers net m t p
    covers_of e = rw (← pre_at) (ltb-false _ _ e)

    of_covers : Covers net m t p → short (arcs_at net t).takes m p ≡ false
    of_covers c = le-ltb (tokens m p) (get_or (arcs_at net t).takes p 0) (rw pre_at c)

    keeps_of : over (arcs_at net t) m p ≡ false → Keeps net m t p
    keeps_of e c = (level_le net m t p (capacity net p)).1 (rw (← pre_at, ← post_at) (over_no _ _ _ _ _ e c))

    of_keeps : Keeps net m t p → over (arcs_at net t) m p ≡ false
    of_keeps k = no_over (get_or (arcs_at net t).takes p 0) (get_or (arcs_at net t).puts p 0) (capacity net p) (mark net p) (tokens m p) (λ c. rw (pre_at, post_at) ((level_le net m t p (capacity net p)).0 (k c)))

  -- a letter passes exactly where it is enabled
  pub enabled_of : passes (arcs_at net t) m ≡ true → Enabled net m t
  enabled_of e =
      let b = none_stops (arcs_at net t) m e in
      record {
        covers = λ p h. covers_of p h (or-false (short (arcs_at net t).takes m p) (over (arcs_at net t) m p) (b.none p (omega arith))).0;
        keeps = λ p h. keeps_of p h (or-false (short (arcs_at net t).takes m p) (over (arcs_at net t) m p) (b.none p (omega arith))).1;
      }

  pub passes_of : Enabled net m t → passes (arcs_at net t) m ≡ true
  passes_of e =
      eq-eqb (tally (stops (arcs_at net t) m) (length m)) 0
      (tally_none (stops (arcs_at net t) m) (length m)
      (record { none = λ p h. let l : p < net.places = omega arith in both_false _ _ (of_covers p l (e.covers p l)) (of_keeps p l (e.keeps p l)) }))

  -- what is fired is what firing gives, and nothing else is
  pub gives_fired : Enabled net m t → Gives net m t (fired_at net t m)
  gives_fired e =
      record {
        long = map_at_length (after (arcs_at net t).takes (arcs_at net t).puts) m ∙ long;
        at = λ p h.
            let a = map_at_at (after (arcs_at net t).takes (arcs_at net t).puts) m p 0 0 (omega arith) in
            let x = pre_at p h in
            let y = post_at p h in
            let k = e.covers p h in
            (moved_is (tokens m p) (Post net p t) (Pre net p t) (tokens (fired_at net t m) p)).1 (omega arith);
      }

  -- a letter that is stopped names a cause that is true of m
  pub names_of : (why : Cause) → judge_at net t m ≡ Err why → Names net m t why
  names_of why e = go (passes (arcs_at net t) m) refl (ltb (lowest_short (arcs_at net t).takes m) (length m)) refl
    where
      stopped : passes (arcs_at net t) m ≡ false → why ≡ cause (arcs_at net t) m
      stopped q = cc (rw q at e)

      lows : (q : ℕ) → q < lowest_short (arcs_at net t).takes m → Covers net m t q
      lows q h = covers_of q (omega (arith, first_most (short (arcs_at net t).takes m) (length m))) (first_below (short (arcs_at net t).takes m) (length m) q h)

      short_named : lowest_short (arcs_at net t).takes m < length m → LowestShort net m t (lowest_short (arcs_at net t).takes m)
      short_named h =
          let l : lowest_short (arcs_at net t).takes m < net.places = omega arith in
          record {
            here = l;
            short = rw (← pre_at _ l) (ltb-true _ _ (first_passes (short (arcs_at net t).takes m) (length m) h));
            lowest = lows;
          }

      over_named : passes (arcs_at net t) m ≡ false → length m ≤ lowest_short (arcs_at net t).takes m → LowestOver net m t (lowest_over (arcs_at net t) m)
      over_named q h = at_over (dec_lt (lowest_over (arcs_at net t) m) (length m))
        where
          covers : (p : ℕ) → p < net.places → Covers net m t p
          covers p b = lows p (omega arith)

          keeps : (p : ℕ) → p < net.places → p < lowest_over (arcs_at net t) m → Keeps net m t p
          keeps p b l = keeps_of p b (first_below (over (arcs_at net t) m) (length m) p l)

          at_over : Dec (lowest_over (arcs_at net t) m < length m) → LowestOver net m t (lowest_over (arcs_at net t) m)
          at_over (yes b) =
              let l : lowest_over (arcs_at net t) m < net.places = omega arith in
              let o = over_yes _ _ _ _ _ (first_passes (over (arcs_at net t) m) (length m) b) in
              record {
                here = l;
                covers = covers;
                over = (
                  o.0,
                  (level_lt net m t (lowest_over (arcs_at net t) m) (capacity net (lowest_over (arcs_at net t) m))).1
                      (rw (← pre_at _ l, ← post_at _ l) o.1),
                );
                lowest = λ p k. keeps p (omega arith) k;
              }
          at_over (no n) = never (sym (passes_of (record { covers = covers; keeps = λ p b. keeps p b (omega arith) })) ∙ q)

      go : (b : Bool) → passes (arcs_at net t) m ≡ b → (s : Bool) → ltb (lowest_short (arcs_at net t).takes m) (length m) ≡ s → Names net m t why
      go true q s k = let z : ◌≡◌ {A = ℕ} 0 1 = cc (rw q at e) in absurd (omega arith)
      go false q true k = rw (stopped q, k) (short_named (ltb-true _ _ k))
      go false q false k = rw (stopped q, k) (over_named q (ltb-false _ _ k))

-- the answer `Ok` says that no place stops the letter
pub passes_judged : (net : Net) (m : List ℕ) (t : ℕ) → judge_at net t m ≡ Ok tt → passes (arcs_at net t) m ≡ true
passes_judged net m t e = go (passes (arcs_at net t) m) refl
  where
    go : (b : Bool) → passes (arcs_at net t) m ≡ b → passes (arcs_at net t) m ≡ true
    go true q = q
    go false q = let z : ◌≡◌ {A = ℕ} 0 1 = cc (rw q at e) in absurd (omega arith)

-- a letter that has a cause named is not enabled
pub named_stops : (net : Net) (m : List ℕ) (t : ℕ) (why : Cause) → Names net m t why → Enabled net m t → ⊥
named_stops net m t (Short p) n e = let c = e.covers p n.here in let s = n.short in omega arith
named_stops net m t (Over p) n e = clash_ℤ n.over.1 (e.keeps p n.here n.over.0)
