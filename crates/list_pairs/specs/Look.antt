-- Only for the code's walk, tied to what is published by proofs/Meaning.antt of closed and cover: a list of either kind looked through, by tests of a listed marking and a transition, and the first that fails.
use Rattle.std.specs.Prelude.{ℕ, ◌*◌, ◌<◌, ◌≡◌, Bool, not, ◌&&◌, List, length}
use Rattle.net.specs.Net.{Net, Sized}
use Rattle.net.specs.Letter.{arcs_at, passes, fired_at}
use Rattle.lists.specs.Whole.{count, marking_at}
use Rattle.lists.specs.Match.{held}
use Rattle.lists.specs.Pairs.{results_of, looked_of}
use Rattle.lists.specs.declared.Kind.{Kind}
use Rattle.lists.specs.declared.Kind.TheVariants.{Closed, Cover}
use Rattle.lists.specs.declared.ListAnswer.{ListAnswer}
use Rattle.list_index.specs.Index.{hash_of}
use Rattle.list_arcs.specs.Arc.{Within}
use Rattle.list_pairs.specs.Fire.{passes_any, fired_any}

-- what is lent: a net, and a list of n whole markings
pub record Ready (net : Net) (n : ℕ) (list : List ℕ) : Type 0 where
  pub sized : Sized net
  pub long : length list ≡ n * net.places

-- what the hash of a result needs: the hash of the marking for a closed list, and nothing for a cover list
pub record Hashed (kind : Kind) (h : ℕ) (m : List ℕ) : Type 0 where
  pub known : kind ≡ Closed → h ≡ hash_of m

-- what judging by arcs needs: a marking within the capacities, as no other is in a closed list that is not refused
pub record Fitting (kind : Kind) (caps m : List ℕ) : Type 0 where
  pub within : kind ≡ Closed → Within caps m

-- ... at each listed marking
pub record Kept (kind : Kind) (net : Net) (n : ℕ) (list : List ℕ) : Type 0 where
  pub at : (k : ℕ) → k < n → Fitting kind net.caps (marking_at net.places list k)

-- t is enabled at the marking l of a closed list, and the list does not hold its result
abbrev pub unlisted : Net → ℕ → List ℕ → ℕ → List ℕ → Bool
unlisted net n list t l = passes (arcs_at net t) l && not (held Closed net.places n list (fired_at net t l))

-- t is enabled at the marking l of a cover list, and the list does not cover its result
abbrev pub uncovered : ℕ → List ℕ → List ℕ → ℕ → List ℕ → ℕ → List ℕ → Bool
uncovered P pre post n list t l = passes_any P pre t l && not (held Cover P n list (fired_any P pre post t l))

-- the same by the list's kind
unfoldable pub absent : Kind → Net → ℕ → List ℕ → ℕ → List ℕ → Bool
absent Closed net n list t l = unlisted net n list t l
absent Cover net n list t l = uncovered net.places net.pre net.post n list t l

-- ... at marking number k
abbrev pub missing : Kind → Net → ℕ → List ℕ → ℕ → ℕ → Bool
missing kind net n list k t = absent kind net n list t (marking_at net.places list k)

-- the results of every listed marking looked for
abbrev pub results : Kind → Net → ℕ → List ℕ → ListAnswer
results kind net n list = results_of (missing kind net n list) net.transitions n

-- "A failure is: initial missing; else the first listed marking, and in it the lowest transition, whose result is absent." For a
-- cover list the same with "covered".
abbrev pub looked : Kind → Net → List ℕ → List ℕ → ListAnswer
looked kind net initial list =
    looked_of
    (held kind net.places (count net.places list) list initial)
    (missing kind net (count net.places list) list)
    net.transitions
    (count net.places list)
