-- Laws of the answers: the refusal that is given, or what was told or written. Assumes nothing.
use Rattle.std.specs.Prelude.{Ok, Err}
use Rattle.refusals.specs.Given.{Answer, Fault}
use Prim.Native.Nat.{ℕ, zero, suc, ◌+◌, ◌-◌, ◌*◌, ◌≤◌, ◌<◌}
use mathlib.Core.Path.{◌≡◌, refl, sym, ap, ◌∙◌}
use mathlib.Core.Bool.{Bool, true, false, not}
use mathlib.Core.List.{List, ◌∷◌, ◌++◌}
use native.Mathlib.Omega.{arith}
use native.Mathlib.Nat.{mul-le-mul_right}
use mir.Syntax.{w64}
use mir.Val.{Fits}
use native.Mathlib.Decide.{dec_lt}
use lib.ListN.{length, get_or, take, replicate, length-append, get_or-append}
use lib.Seq.{sets, get_or-append-add}
use lib.Dec.{eqb}
use borrow.Author.Tests.{le-ltb, ltb-false, eqb-true, eq-eqb, not-true, not-false}
use Rattle.ground.specs.Limits.{count_limit, no_capacity}
use Rattle.ground.specs.Lists.{table}
use Rattle.ground.proofs.Tests.{never, and-true}
use Rattle.net.specs.Net.{Net, rise_of, rise, capacity, mark, Sized}
use Rattle.net.proofs.Rule.{force_capped}
use Rattle.net.specs.Letter.{row}
use Rattle.net.proofs.Rows.{row_at, row_end, row_length_lem}
use Rattle.refusals.specs.Given.{or_else, sized_net, net_fault, marked_fault}
use Rattle.refusals.proofs.Chains.{or_sound, sound_or, refuse_sound}
use Rattle.refusals.proofs.Refusals.{sized_true, net_met, met_net, marked_met, met_marked, marked_unfit, marked_unsized}
use Rattle.ground.proofs.Fill.{table_length, table_at}
use Rattle.complement.specs.Complement.{made, made_places, complement_places, fall_of, fall, joined, pre_row, post_row, complement_marking}
use Rattle.complement.specs.Told.{limit_fault, places_fault, places_numbers, Told, Countable}
use Rattle.complement.specs.Entry.{Rooms, rooms_of, lengths_fit, net_fits, rooms_fit, complement_fault, written, Complemented, Roomy, Allowed}
use Rattle.complement.specs.Walk.{Inside, taken_from, put_to, tokens_at, new_pre, new_post, tokens_row}
use Rattle.complement.proofs.Choice.{chosen_few, chosen_is, chosen_map, made_capped}
use Rattle.complement.proofs.Written.{sources_front, by_sources, joined_same}

-- refusal 10 is not given exactly where there are not too many
limit_none : (n : ℕ) → n ≤ count_limit → Ok tt ≡ limit_fault n
unfolding limit_fault
limit_none n h = rw (le-ltb count_limit n h)

limit_sound : (n : ℕ) → limit_fault n ≡ Ok tt → n ≤ count_limit
unfolding limit_fault
limit_sound n e = ltb-false count_limit n (refuse_sound _ 10 0 e)

-- in a sized net the places can be counted, and what is made of their number does not overflow
module _ (net : Net) (s : Sized net) where
  pub made_few : length (made_places net) ≤ count_limit
  made_few = omega (arith, s.few_places, chosen_few (made net) 0 net.places)

  pub made_inside : Inside net.places (made_places net)
  made_inside = record { at = λ j h. omega (arith, (chosen_is (made net) 0 net.places j h).below) }

  pub wide_fits : (n : ℕ) → n ≡ length (made_places net) → Fits w64 (net.places + n)
  wide_fits n k = record { fits = omega (arith, s.few_places, made_few) }

  pub wide_cells : (n : ℕ) → n ≡ complement_places net → Fits w64 (net.transitions * n)
  wide_cells n k = record { fits = omega (arith, s.few_places, made_few, mul-le-mul_right n s.few_transitions) }

-- as the code comes to it by the test
pub test_sized : (net : Net) (r : Bool) → r ≡ sized_net net → not r ≡ false → Sized net
test_sized net r e q = sized_true net (sym e ∙ not-false r q)

-- which refusal
module _ (net : Net) (initial : List ℕ) where
  pub fault_unsized : (fits s : Bool) (r : Fault) → s ≡ sized_net net → not s ≡ true → r ≡ marked_fault net initial false → r ≡ complement_fault net initial fits
  unfolding complement_fault
  fault_unsized fits s r e q k = k ∙ go (marked_fault net initial false) refl
    where
      unsized : sized_net net ≡ false
      unsized = sym e ∙ not-true s q

      same : marked_fault net initial fits ≡ marked_fault net initial false
      same = marked_unsized net initial fits unsized ∙ sym (marked_unfit net initial)

      go : (f : Fault) → marked_fault net initial false ≡ f → marked_fault net initial false ≡ or_else (marked_fault net initial fits) (limit_fault (complement_places net))
      go (Ok _) p = never (sym (marked_met net initial false p).fitting)
      go (Err r) p = rw (same ∙ p) p

  pub fault_later : (k a b c d e : ℕ) (fit : Bool) (r : Fault) → k ≡ complement_places net → fit ≡ lengths_fit (net.transitions * k) k a b c d e → r ≡ or_else (marked_fault net initial fit) (limit_fault k) → r ≡ complement_fault net initial (net_fits net a b c d e)
  unfolding complement_fault
  fault_later k a b c d e fit r ek ef er = er ∙ rw (ef, ek)

pub ruleset faults = (fault_unsized, fault_later)

-- how many places is told, as the code comes to it: two faults, one after the other, and then the number
pub told_of : (net : Net) (r : Answer ℕ) → r ≡ or_else (net_fault net true) (or_else (limit_fault (complement_places net)) (Ok (complement_places net))) → Told net r
unfolding places_fault
told_of net r e = record { answer = ap places_numbers (e ∙ go (net_fault net true)) }
  where
    go : (f : Fault) → or_else f (or_else (limit_fault (complement_places net)) (Ok (complement_places net))) ≡ or_else (or_else f (limit_fault (complement_places net))) (Ok (complement_places net))
    go (Ok _) = refl
    go (Err r) = refl

-- one value everywhere
all_same : (n v : ℕ) → replicate n v ≡ table (λ p. v) n
unfolding table
all_same zero v = refl
all_same (suc n) v = ap (λ (l : List ℕ). v ∷ l) (all_same n v)

-- the places of the complement net by the old places that they stand for
abbrev sources_of : Net → List ℕ
sources_of net = table (λ p. p) net.places ++ made_places net

-- so written, the rows are those of the complement net
module _ (net : Net) (sized : Sized net) (t : ℕ) (h : t < net.transitions) where
  same_pre : new_pre net (sources_of net) t ≡ pre_row net t
  same_pre =
      let takes = row net.places t net.pre in
      let puts = row net.places t net.post in
      by_sources (λ b p. taken_from b (mark net p) (get_or takes p 0) (get_or puts p 0)) net.places takes (made_places net) (row_length_lem net.places t net.pre (rw sized.pres (row_end t net.transitions net.places h))) (λ p l. refl)
      ∙ ap (λ (l : List ℕ). takes ++ l)
      (chosen_map (made net) (λ p. rise_of (mark net p) (get_or takes p 0) (get_or puts p 0)) (λ p. rise net p t) 0 net.places
      (λ p b k. let l : p < net.places = omega arith in rw (row_at net.places t net.pre p l, row_at net.places t net.post p l, force_capped (capacity net p) (mark net p) (made_capped net p k))))

  same_post : new_post net (sources_of net) t ≡ post_row net t
  same_post =
      let takes = row net.places t net.pre in
      let puts = row net.places t net.post in
      by_sources (λ b p. put_to b (mark net p) (get_or takes p 0) (get_or puts p 0)) net.places puts (made_places net) (row_length_lem net.places t net.post (rw sized.posts (row_end t net.transitions net.places h))) (λ p l. refl)
      ∙ ap (λ (l : List ℕ). puts ++ l)
      (chosen_map (made net) (λ p. fall_of (mark net p) (get_or takes p 0) (get_or puts p 0)) (λ p. fall net p t) 0 net.places
      (λ p b k. let l : p < net.places = omega arith in rw (row_at net.places t net.pre p l, row_at net.places t net.post p l, force_capped (capacity net p) (mark net p) (made_capped net p k))))

-- the rooms of an allowed question, and what was written into them; r has the sources at its front
module _ (net : Net) (initial : List ℕ) (rooms : Rooms) (allowed : Allowed net initial rooms) where
  pub marked_caps : length initial ≡ length net.caps
  marked_caps = allowed.marked ∙ sym allowed.sized.capped

  pub wide_few : length rooms.caps ≤ count_limit
  wide_few = rw allowed.roomy.capped allowed.few

  same_tokens : tokens_row (length net.caps) net.caps initial (sources_of net) ≡ complement_marking net initial
  same_tokens =
      rw allowed.sized.capped
      (by_sources (λ b p. tokens_at b (get_or net.caps p 0) (get_or initial p 0)) net.places initial (made_places net) allowed.marked (λ p l. refl))

  module _ (r : List ℕ) (e : r ≡ sets (table (λ p. p) count_limit) net.places (made_places net)) where
    front : take (length rooms.caps) r ≡ sources_of net
    front = sources_front net.places (length rooms.caps) (made_places net) r allowed.roomy.capped wide_few e

    sources_long : length (sources_of net) ≡ complement_places net
    sources_long = length-append (table (λ p. p) net.places) (made_places net) ∙ omega (arith, table_length {A = ℕ} (λ p. p) net.places)

    pub front_count : length rooms.caps ≡ length (take (length rooms.caps) r)
    front_count = rw front (allowed.roomy.capped ∙ sym sources_long)

    pub front_inside : Inside net.places (take (length rooms.caps) r)
    front_inside = rw front (record { at = λ q h. go q (omega (arith, sources_long)) (dec_lt q net.places) })
      where
        own : length (table (λ p. p) net.places) ≡ net.places
        own = table_length (λ p. p) net.places

        after : (j : ℕ) → j < length (made_places net) → get_or (sources_of net) (net.places + j) 0 < net.places
        after j b =
            let x : get_or (sources_of net) (net.places + j) 0 ≡ get_or (made_places net) j 0 = ap (λ (k : ℕ). get_or (sources_of net) (k + j) 0) (sym own) ∙ get_or-append-add (table (λ p. p) net.places) (made_places net) j 0 in
            omega (arith, x, (made_inside net allowed.sized).at j b)

        go : (q : ℕ) → q < complement_places net → Dec (q < net.places) → get_or (sources_of net) q 0 < net.places
        go q b (yes l) = rw (get_or-append (table (λ p. p) net.places) (made_places net) 0 q (omega (arith, own)), table_at (λ p. p) net.places q 0 l) l
        go q b (no n) = let x : q ≡ net.places + (q - net.places) = omega arith in rw x (after (q - net.places) (omega arith))

    pub pre_cells : length rooms.pre ≡ net.transitions * length (take (length rooms.caps) r)
    pre_cells = rw (← front_count, allowed.roomy.capped) allowed.roomy.pres

    pub post_cells : length rooms.post ≡ net.transitions * length (take (length rooms.caps) r)
    post_cells = rw (← front_count, allowed.roomy.capped) allowed.roomy.posts

    pub front_room : length (take (length rooms.caps) r) ≡ length rooms.initial
    front_room = sym front_count ∙ allowed.roomy.capped ∙ sym allowed.roomy.initials

    pub written_of : (a b c k d : List ℕ) → a ≡ joined (new_pre net (take (length rooms.caps) r)) net.transitions → b ≡ joined (new_post net (take (length rooms.caps) r)) net.transitions → c ≡ replicate (length rooms.caps) no_capacity → k ≡ replicate (length rooms.marks) 0 → d ≡ tokens_row (length net.caps) net.caps initial (take (length rooms.caps) r) → rooms_of a b c k d ≡ written net initial
    written_of a b c k d ea eb ec ek ed =
        rw (
          rw front at ea ∙ joined_same _ (pre_row net) net.transitions (same_pre net allowed.sized),
          rw front at eb ∙ joined_same _ (post_row net) net.transitions (same_post net allowed.sized),
          ec ∙ all_same (length rooms.caps) no_capacity,
          ek ∙ all_same (length rooms.marks) 0,
          rw front at ed ∙ same_tokens,
          allowed.roomy.capped,
          allowed.roomy.noted,
        )

-- nothing is refused exactly where all that document 01 asks holds
module _ (net : Net) (rooms : Rooms) where
  pub roomy_of : rooms_fit net rooms ≡ true → Roomy net rooms
  roomy_of e =
      let x = and-true (eqb (length rooms.pre) _) _ e in
      let y = and-true (eqb (length rooms.post) _) _ x.1 in
      let z = and-true (eqb (length rooms.caps) _) _ y.1 in
      let u = and-true (eqb (length rooms.marks) _) _ z.1 in
      record { pres = eqb-true _ _ x.0; posts = eqb-true _ _ y.0; capped = eqb-true _ _ z.0; noted = eqb-true _ _ u.0; initials = eqb-true _ _ u.1 }

  pub of_roomy : Roomy net rooms → rooms_fit net rooms ≡ true
  of_roomy r = rw (eq-eqb _ _ r.pres, eq-eqb _ _ r.posts, eq-eqb _ _ r.capped, eq-eqb _ _ r.noted, eq-eqb _ _ r.initials)

module _ (net : Net) (initial : List ℕ) (rooms : Rooms) where
  pub allowed_of : complement_fault net initial (rooms_fit net rooms) ≡ Ok tt → Allowed net initial rooms
  unfolding complement_fault
  allowed_of e =
      let a = or_sound (marked_fault net initial (rooms_fit net rooms)) (limit_fault (complement_places net)) e in
      let m = marked_met net initial (rooms_fit net rooms) a.0 in
      record { sized = m.sized; light = m.light; marked = m.marked; roomy = roomy_of net rooms m.fitting; fine = m.fine; wired = m.wired; few = limit_sound (complement_places net) a.1 }

  pub of_allowed : Allowed net initial rooms → complement_fault net initial (rooms_fit net rooms) ≡ Ok tt
  unfolding complement_fault
  of_allowed a =
      sound_or _ _
      (met_marked net initial (rooms_fit net rooms) (record { sized = a.sized; light = a.light; marked = a.marked; fitting = of_roomy net rooms a.roomy; fine = a.fine; wired = a.wired }))
      (sym (limit_none (complement_places net) a.few))

  pub net_made : (rooms' : Rooms) → Ok tt ≡ complement_fault net initial (rooms_fit net rooms) → rooms' ≡ written net initial → Complemented net initial rooms (Ok tt) rooms'
  net_made rooms' q k = record { answer = rw (← q); left = rw (← q) k }

pub countable_of : (net : Net) → places_fault net ≡ Ok tt → Countable net
unfolding places_fault
countable_of net e =
    let a = or_sound (net_fault net true) (limit_fault (complement_places net)) e in
    let m = net_met net true a.0 in
    record { sized = m.sized; light = m.light; wired = m.wired; few = limit_sound (complement_places net) a.1 }

pub of_countable : (net : Net) → Countable net → places_fault net ≡ Ok tt
unfolding places_fault
of_countable net c = sound_or _ _ (met_net net true (record { sized = c.sized; light = c.light; fitting = refl; wired = c.wired })) (sym (limit_none (complement_places net) c.few))
