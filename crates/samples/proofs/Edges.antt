-- "the closed list of all 12 markings .. accepted, and failing when (0,1,5) is struck out": there it is the result of transition 0 at
-- marking 5, which is (1,0,5). Proved by computing.
use Rattle.std.specs.Prelude.{Ok}
use Rattle.refusals.specs.Given.{Answer as OrRefusal}
use Prim.Native.Nat.{ℕ}
use mathlib.Core.Path.{◌≡◌, refl}
use mathlib.Core.Bool.{true}
use mathlib.Core.List.{List, [], ◌∷◌}
use Rattle.ground.specs.Lists.{first, tally, map_at}
use Rattle.net.specs.Net.{leaves_first}
use Rattle.net.specs.declared.Cause.TheVariants.{Over}
use Rattle.wiring.specs.Wired.{loose_place, loose_transition}
use Rattle.weights.specs.Heavy.{heavy}
use Rattle.refusals.specs.Given.{weights_fault, counts_fault, loose_fault, marking_fault, start_fault, marked_fault, word_fault}
use Rattle.plays.specs.Replay.{play_from}
use Rattle.replay.specs.Entry.{replay_fault, Replayed}
use Rattle.plays.specs.declared.Replay.{Replay}
use Rattle.plays.specs.declared.Replay.TheVariants.{Fired, Blocked}
use Rattle.replay.proofs.Meaning.{numbers_apart}
use Rattle.lists.specs.Some.{some, none}
use Rattle.list_refusals.specs.Given.{first_bad, entry_fault, size_fault, list_fault}
use Rattle.lists.specs.Match.{matches}
use Rattle.lists.specs.Pairs.{results_of, looked_of}
use Rattle.lists.specs.declared.Kind.TheVariants.{Closed}
use Rattle.lists.specs.declared.Failure.TheVariants.{ResultMissing}
use Rattle.lists.specs.declared.ListAnswer.TheVariants.{Accepted, Failed}
use Rattle.list_pairs.specs.Look.{absent}
use Rattle.list_check.specs.Given.{given_fault, list_of}
use Rattle.samples.specs.Samples.{net, initial}
use Rattle.samples.specs.Edges.{all_twelve, struck_out, belt}

pub edges : (list_of Closed net initial all_twelve true (Ok tt) ≡ Ok Accepted) × (list_of Closed net initial struck_out true (Ok tt) ≡ Ok (Failed (ResultMissing 5 0)))
unfolding first tally map_at leaves_first heavy weights_fault counts_fault loose_fault loose_place loose_transition marking_fault start_fault some none first_bad entry_fault size_fault list_fault matches results_of looked_of absent given_fault list_of
edges = (refl, refl)

-- document 02, E5: at the full plain place the loop fires, at the full pocket it is over, whatever a replay that keeps its promise gives back
pub belt_pair : (a : ℕ) (r r' : OrRefusal Replay) (m m' : List ℕ) → Replayed (belt 0) (1 ∷ []) (0 ∷ []) true (a ∷ []) r m → Replayed (belt 1) (1 ∷ []) (0 ∷ []) true (a ∷ []) r' m' → (r ≡ Ok (Fired 1)) × (r' ≡ Ok (Blocked 0 (Over 0)))
unfolding first tally map_at leaves_first heavy weights_fault counts_fault loose_fault loose_place loose_transition marking_fault start_fault marked_fault word_fault play_from replay_fault
belt_pair a r r' m m' p q = (numbers_apart r (Ok (Fired 1)) p.answer, numbers_apart r' (Ok (Blocked 0 (Over 0))) q.answer)
