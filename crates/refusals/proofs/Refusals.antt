-- Laws of the shared refusals: which one is given, and what holds where none is. Assumes nothing.
use Rattle.std.specs.Prelude.{Option, MatchOption, ⊤, Ok}
use Rattle.ground.specs.Lists.{found}
use Rattle.refusals.specs.Given.{Fault}
use Prim.Native.Nat.{ℕ, ◌+◌, ◌*◌, ◌≤◌, ◌<◌, zero-le}
use mathlib.Core.Path.{◌≡◌, refl, sym, ◌∙◌}
use mathlib.Core.Bool.{Bool, true, false, not, ◌&&◌, ◌||◌, and-false}
use mathlib.Core.List.{List}
use native.Mathlib.Omega.{arith}
use native.Mathlib.Nat.{mul-le-mul_right}
use native.Mathlib.Decide.{dec_lt}
use lib.ListN.{length, get_or, get_or-eq_default}
use lib.Dec.{ltb, eqb}
use mir.Syntax.{w64}
use mir.Val.{Fits}
use borrow.Author.Tests.{lt-ltb, le-ltb, ltb-false, eq-eqb, eqb-true, not-true, not-false}
use Rattle.ground.specs.Limits.{count_limit, token_limit}
use Rattle.ground.proofs.Tests.{never, or-false, both_false, and-true, unlike_false, like_false}
use Rattle.ground.proofs.Scan.{first_none, first_below, first_most}
use Rattle.net.specs.Net.{Net, Sized, Light}
use Rattle.wiring.specs.Wired.{Wired, loose_place, loose_transition, lowest_loose_place, lowest_loose_transition}
use Rattle.wiring.proofs.Loose.{wired_places, wired_transitions}
use Rattle.weights.specs.Heavy.{heavy, lowest_heavy}
use Rattle.weights.proofs.Heavies.{light_of, of_light}
use Rattle.refusals.specs.Given.{refuse, or_else, outside, unlike, misfit, sized_net, token_bad, bad_token, weights_fault, counts_fault, loose_fault, net_fault, marking_fault, start_fault, marked_fault, Fine}
use Rattle.refusals.proofs.Chains.{or_sound, sound_or, refuse_sound, sound_refuse}

pub cells_fit : (t p : ℕ) → p ≤ count_limit → t ≤ count_limit → Fits w64 (t * p)
cells_fit t p h l = record { fits = omega (arith, mul-le-mul_right p l) }

pub inside_of : (n : ℕ) → outside n ≡ false → (1 ≤ n) × (n ≤ count_limit)
inside_of n e = let a = or-false (ltb n 1) (ltb count_limit n) e in (ltb-false n 1 a.0, ltb-false count_limit n a.1)

pub few_of : (n : ℕ) (r : Bool) → r ≡ outside n → r ≡ false → n ≤ count_limit
few_of n r e q = (inside_of n (sym e ∙ q)).1

-- the tests of a sized net
sized_of : (net : Net) → (outside net.places || outside net.transitions) ≡ false → misfit net ≡ false → Sized net
sized_of net c l =
    let o = or-false (outside net.places) (outside net.transitions) c in
    let x = or-false (unlike (length net.pre) (net.transitions * net.places)) _ l in
    let y = or-false (unlike (length net.post) (net.transitions * net.places)) _ x.1 in
    let z = or-false (unlike (length net.caps) net.places) (unlike (length net.marks) net.places) y.1 in
    record {
      some_places = (inside_of net.places o.0).0;
      few_places = (inside_of net.places o.0).1;
      some_transitions = (inside_of net.transitions o.1).0;
      few_transitions = (inside_of net.transitions o.1).1;
      pres = unlike_false _ _ x.0;
      posts = unlike_false _ _ y.0;
      capped = unlike_false _ _ z.0;
      noted = unlike_false _ _ z.1;
    }

-- no weight is refused exactly where the net is light
pub weights_met : (net : Net) → Sized net → weights_fault net ≡ Ok tt → Light net
unfolding weights_fault
weights_met net sized e =
    let t = ltb-false (lowest_heavy net) net.transitions (refuse_sound _ 18 (lowest_heavy net) e) in
    light_of net sized (omega (arith, first_most (heavy net) net.transitions))

pub met_weights : (net : Net) → Sized net → Light net → weights_fault net ≡ Ok tt
unfolding weights_fault
met_weights net sized l =
    let t = of_light net sized l in sound_refuse _ 18 (lowest_heavy net) (le-ltb (lowest_heavy net) net.transitions (omega arith))

-- what holds where nothing is refused, a record for each chain, so that a demand more is a field more
pub record CountsMet (net : Net) (fits : Bool) : Type 0 where
  pub sized : Sized net
  pub light : Light net
  pub fitting : fits ≡ true

pub record NetMet (net : Net) (fits : Bool) : Type 0 where
  pub sized : Sized net
  pub light : Light net
  pub fitting : fits ≡ true
  pub wired : Wired net

pub record StartMet (net : Net) (initial : List ℕ) (fits : Bool) : Type 0 where
  pub sized : Sized net
  pub light : Light net
  pub marked : length initial ≡ net.places
  pub fitting : fits ≡ true
  pub fine : Fine net.caps initial

pub record MarkedMet (net : Net) (initial : List ℕ) (fits : Bool) : Type 0 where
  pub sized : Sized net
  pub light : Light net
  pub marked : length initial ≡ net.places
  pub fitting : fits ≡ true
  pub fine : Fine net.caps initial
  pub wired : Wired net

pub sized_true : (net : Net) → sized_net net ≡ true → Sized net
sized_true net e =
    let a = and-true (not (outside net.places || outside net.transitions)) (not (misfit net)) e in
    sized_of net (not-true _ a.0) (not-true _ a.1)

pub counts_met : (net : Net) (fits : Bool) → counts_fault net fits ≡ Ok tt → CountsMet net fits
unfolding counts_fault
counts_met net fits e =
    let a = or_sound (refuse (outside net.places || outside net.transitions) 1 0) (or_else (refuse (misfit net || not fits) 2 0) (weights_fault net)) e in
    let b = or_sound (refuse (misfit net || not fits) 2 0) (weights_fault net) a.1 in
    let f = or-false (misfit net) (not fits) (refuse_sound _ 2 0 b.0) in
    let z = sized_of net (refuse_sound _ 1 0 a.0) f.0 in
    record { sized = z; light = weights_met net z b.1; fitting = not-false fits f.1 }

pub inside_is : (n : ℕ) → 1 ≤ n → n ≤ count_limit → outside n ≡ false
inside_is n h l = both_false (ltb n 1) (ltb count_limit n) (le-ltb n 1 h) (le-ltb count_limit n l)

counts_inside : (net : Net) → Sized net → (outside net.places || outside net.transitions) ≡ false
counts_inside net s =
    both_false _ _ (inside_is net.places s.some_places s.few_places) (inside_is net.transitions s.some_transitions s.few_transitions)

lengths_like : (net : Net) → Sized net → misfit net ≡ false
lengths_like net s = both_false _ _ (like_false _ _ s.pres) (both_false _ _ (like_false _ _ s.posts) (both_false _ _ (like_false _ _ s.capped) (like_false _ _ s.noted)))

pub met_counts : (net : Net) (fits : Bool) → CountsMet net fits → counts_fault net fits ≡ Ok tt
unfolding counts_fault
met_counts net fits m =
    sound_or _ _ (sound_refuse _ 1 0 (counts_inside net m.sized))
    (sound_or _ _ (sound_refuse _ 2 0 (both_false _ _ (lengths_like net m.sized) (rw m.fitting))) (met_weights net m.sized m.light))

-- no node is refused exactly where the net is wired
pub loose_met : (net : Net) → loose_fault net ≡ Ok tt → Wired net
unfolding loose_fault
loose_met net e =
    let a = or_sound (refuse (ltb (lowest_loose_place net) net.places) 17 (lowest_loose_place net)) (refuse (ltb (lowest_loose_transition net) net.transitions) 17 (count_limit + lowest_loose_transition net)) e in
    let p = ltb-false (lowest_loose_place net) net.places (refuse_sound _ 17 (lowest_loose_place net) a.0) in
    let t = ltb-false (lowest_loose_transition net) net.transitions (refuse_sound _ 17 (count_limit + lowest_loose_transition net) a.1) in
    record {
      places = (wired_places net).0 (omega (arith, first_most (loose_place net) net.places));
      transitions = (wired_transitions net).0 (omega (arith, first_most (loose_transition net) net.transitions));
    }

pub met_loose : (net : Net) → Wired net → loose_fault net ≡ Ok tt
unfolding loose_fault
met_loose net w =
    let p = (wired_places net).1 w.places in
    let t = (wired_transitions net).1 w.transitions in
    sound_or _ _ (sound_refuse _ 17 (lowest_loose_place net) (le-ltb (lowest_loose_place net) net.places (omega arith)))
    (sound_refuse _ 17 (count_limit + lowest_loose_transition net) (le-ltb (lowest_loose_transition net) net.transitions (omega arith)))

pub net_met : (net : Net) (fits : Bool) → net_fault net fits ≡ Ok tt → NetMet net fits
unfolding net_fault
net_met net fits e =
    let a = or_sound (counts_fault net fits) (loose_fault net) e in
    let m = counts_met net fits a.0 in
    record { sized = m.sized; light = m.light; fitting = m.fitting; wired = loose_met net a.1 }

pub met_net : (net : Net) (fits : Bool) → NetMet net fits → net_fault net fits ≡ Ok tt
unfolding net_fault
met_net net fits m = sound_or _ _ (met_counts net fits (record { sized = m.sized; light = m.light; fitting = m.fitting })) (met_loose net m.wired)

-- where something else does not fit, 1 or 2 is given whatever follows
pub counts_unfit : (net : Net) (next : Fault) → or_else (counts_fault net false) next ≡ counts_fault net false
unfolding counts_fault
counts_unfit net next = go (outside net.places || outside net.transitions) (misfit net)
  where
    go : (a b : Bool) → or_else (or_else (refuse a 1 0) (or_else (refuse (b || true) 2 0) (weights_fault net))) next ≡ or_else (refuse a 1 0) (or_else (refuse (b || true) 2 0) (weights_fault net))
    go true b = refl
    go false true = refl
    go false false = refl

pub net_unfit : (net : Net) → net_fault net false ≡ counts_fault net false
unfolding net_fault
net_unfit net = counts_unfit net (loose_fault net)

pub start_unfit : (net : Net) (initial : List ℕ) → start_fault net initial false ≡ counts_fault net false
unfolding start_fault
start_unfit net initial = rw (and-false (eqb (length initial) net.places)) (counts_unfit net (marking_fault net.caps initial))

pub marked_unfit : (net : Net) (initial : List ℕ) → marked_fault net initial false ≡ counts_fault net false
unfolding marked_fault
marked_unfit net initial = rw (start_unfit net initial) (counts_unfit net (loose_fault net))

-- so it is where the net is not sized, whatever else is lent
pub unsized_unfit : (net : Net) (fits : Bool) → sized_net net ≡ false → counts_fault net fits ≡ counts_fault net false
unfolding counts_fault
unsized_unfit net fits e = go (outside net.places || outside net.transitions) (misfit net) fits e
  where
    go : (a b f : Bool) → (not a && not b) ≡ false → or_else (refuse a 1 0) (or_else (refuse (b || not f) 2 0) (weights_fault net)) ≡ or_else (refuse a 1 0) (or_else (refuse (b || true) 2 0) (weights_fault net))
    go true b f q = refl
    go false true f q = refl
    go false false f q = never q

pub start_unsized : (net : Net) (initial : List ℕ) (fits : Bool) → sized_net net ≡ false → start_fault net initial fits ≡ counts_fault net false
unfolding start_fault
start_unsized net initial fits u =
    rw (unsized_unfit net (eqb (length initial) net.places && fits) u) (counts_unfit net (marking_fault net.caps initial))

pub marked_unsized : (net : Net) (initial : List ℕ) (fits : Bool) → sized_net net ≡ false → marked_fault net initial fits ≡ counts_fault net false
unfolding marked_fault
marked_unsized net initial fits u = rw (start_unsized net initial fits u) (counts_unfit net (loose_fault net))

pub fine_of : (caps m : List ℕ) → marking_fault caps m ≡ Ok tt → Fine caps m
unfolding marking_fault
fine_of caps m e =
    let x = ltb-false (bad_token caps m) (length m) (refuse_sound _ 3 (bad_token caps m) e) in
    record { few = record { at = λ p. go p (dec_lt p (length m)) x }; within = λ p h. ltb-false _ _ (each p h x).1 }
  where
    each : (p : ℕ) → p < length m → length m ≤ bad_token caps m → (ltb token_limit (get_or m p 0) ≡ false) × (ltb (get_or caps p 0) (get_or m p 0) ≡ false)
    each p h x = or-false _ _ (first_below (λ p. token_bad (get_or caps p 0) (get_or m p 0)) (length m) p (omega arith))

    go : (p : ℕ) → Dec (p < length m) → length m ≤ bad_token caps m → get_or m p 0 ≤ token_limit
    go p (yes h) x = ltb-false token_limit (get_or m p 0) (each p h x).0
    go p (no n) x = rw (get_or-eq_default m 0 {n = p} (omega arith)) zero-le

pub fine_is : (caps m : List ℕ) → Fine caps m → marking_fault caps m ≡ Ok tt
unfolding marking_fault
fine_is caps m f =
    let e = first_none (λ p. token_bad (get_or caps p 0) (get_or m p 0)) (length m)
    (λ p h. both_false _ _ (le-ltb token_limit (get_or m p 0) (f.few.at p)) (le-ltb (get_or caps p 0) (get_or m p 0) (f.within p h))) in
    sound_refuse _ 3 (bad_token caps m) (le-ltb (bad_token caps m) (length m) (omega arith))

-- nothing of 1, 2, 18 and 3 is refused exactly where the net is sized and light, all lengths agree and the marking is fine
pub start_met : (net : Net) (initial : List ℕ) (fits : Bool) → start_fault net initial fits ≡ Ok tt → StartMet net initial fits
unfolding start_fault
start_met net initial fits e =
    let a = or_sound (counts_fault net (eqb (length initial) net.places && fits)) (marking_fault net.caps initial) e in
    let c = counts_met net (eqb (length initial) net.places && fits) a.0 in
    let f = and-true (eqb (length initial) net.places) fits c.fitting in
    record { sized = c.sized; light = c.light; marked = eqb-true _ _ f.0; fitting = f.1; fine = fine_of net.caps initial a.1 }

pub met_start : (net : Net) (initial : List ℕ) (fits : Bool) → StartMet net initial fits → start_fault net initial fits ≡ Ok tt
unfolding start_fault
met_start net initial fits m =
    sound_or _ _
    (met_counts net (eqb (length initial) net.places && fits)
    (record { sized = m.sized; light = m.light; fitting = rw (eq-eqb (length initial) net.places m.marked) m.fitting }))
    (fine_is net.caps initial m.fine)

pub marked_met : (net : Net) (initial : List ℕ) (fits : Bool) → marked_fault net initial fits ≡ Ok tt → MarkedMet net initial fits
unfolding marked_fault
marked_met net initial fits e =
    let a = or_sound (start_fault net initial fits) (loose_fault net) e in
    let m = start_met net initial fits a.0 in
    record { sized = m.sized; light = m.light; marked = m.marked; fitting = m.fitting; fine = m.fine; wired = loose_met net a.1 }

pub met_marked : (net : Net) (initial : List ℕ) (fits : Bool) → MarkedMet net initial fits → marked_fault net initial fits ≡ Ok tt
unfolding marked_fault
met_marked net initial fits m =
    sound_or _ _ (met_start net initial fits (record { sized = m.sized; light = m.light; marked = m.marked; fitting = m.fitting; fine = m.fine })) (met_loose net m.wired)

-- a loose transition that was found is one of them
pub loose_few : (net : Net) (o : Option ℕ) → Sized net → o ≡ found net.transitions (lowest_loose_transition net) → MatchOption o ⊤ (λ t. t ≤ count_limit)
loose_few net o z e = rw e (go (dec_lt (lowest_loose_transition net) net.transitions))
  where
    go : Dec (lowest_loose_transition net < net.transitions) → MatchOption (found net.transitions (lowest_loose_transition net)) ⊤ (λ t. t ≤ count_limit)
    go (yes h) = rw (lt-ltb _ _ h) (omega (arith, z.few_transitions))
    go (no h) = rw (le-ltb (lowest_loose_transition net) net.transitions (omega arith)) tt

-- where counts and lengths agree, the marking is as long as the capacities
pub start_counted : (net : Net) (initial : List ℕ) (fits : Bool) → counts_fault net (eqb (length initial) net.places && fits) ≡ Ok tt → length net.caps ≡ length initial
start_counted net initial fits e =
    let m = counts_met net (eqb (length initial) net.places && fits) e in
    m.sized.capped ∙ sym (eqb-true _ _ (and-true (eqb (length initial) net.places) fits m.fitting).0)
