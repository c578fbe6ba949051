-- Laws of the next letter of a log. Assumes nothing.
use Prim.Native.Nat.{ℕ, zero, suc, ◌<◌}
use mathlib.Core.Path.{◌≡◌, sym, ◌∙◌}
use mathlib.Core.List.{List}
use native.Mathlib.Omega.{arith}
use native.Mathlib.Decide.{dec_lt}
use lib.ListN.{length, get_or, get_or-eq_default}
use Rattle.std.specs.Prelude.{Some, None}
use Rattle.std.specs.List.{slice_get}
use Rattle.std.proofs.lemmas.Option.{slice_get_within, slice_get-get_or, get_or_from_slice_get}
use Rattle.refusals.specs.Given.{Letters}
use Rattle.orders.specs.Orders.{Recorded}
use Rattle.orders.specs.Search.{letter_of, letter_at}
use Rattle.order_find.specs.Walk.{Ready, unread}

-- the letter that is unread is the one that is looked at, and names a transition
pub record Named (logs : Recorded) (which n k t : ℕ) : Type 0 where
  pub is : t ≡ letter_at logs which n k
  pub names : t < logs.net.transitions

in_log : (T : ℕ) (log : List ℕ) → Letters T log → (n t : ℕ) → Some t ≡ slice_get log n → (t ≡ get_or log n T) × (t < T)
in_log T log l n t e =
    let q = get_or_from_slice_get log n t 0 (sym e) in
    (sym (get_or_from_slice_get log n t T (sym e)), rw q at (l.at n (slice_get_within log n t (sym e))))

pub named : (logs : Recorded) → Ready logs → (which n k t letter : ℕ) → t ≡ letter → Some letter ≡ unread logs.first logs.second which n k → Named logs which n k t
named logs r zero n k t letter q e = let a = in_log logs.net.transitions logs.first r.letters_first n letter e in rw q (record { is = a.0; names = a.1 })
named logs r (suc x) n k t letter q e = let a = in_log logs.net.transitions logs.second r.letters_second k letter e in rw q (record { is = a.0; names = a.1 })

-- where no letter is left it is the number of transitions
past : (T : ℕ) (log : List ℕ) (n : ℕ) → None ≡ slice_get log n → T ≡ get_or log n T
past T log n e = go (dec_lt n (length log))
  where
    go : Dec (n < length log) → T ≡ get_or log n T
    go (yes h) = let q : None ≡ Some (get_or log n T) = e ∙ slice_get-get_or log n T h in absurd (cc)
    go (no f) = sym (get_or-eq_default log T {n = n} (omega arith))

pub none_left : (T : ℕ) (first second : List ℕ) (which n k : ℕ) → None ≡ unread first second which n k → T ≡ letter_of T first second which n k
none_left T first second zero n k e = past T first n e
none_left T first second (suc x) n k e = past T second k e

-- a letter that is one has a place in its log
pub there : (l : List ℕ) (n T : ℕ) → get_or l n T < T → n < length l
there l n T h = go (dec_lt n (length l))
  where
    go : Dec (n < length l) → n < length l
    go (yes y) = y
    go (no f) = let e = get_or-eq_default l T {n = n} (omega arith) in omega arith
