-- Laws of reads one after another. Assumes nothing.
use Prim.Native.Nat.{ℕ, zero, suc, ◌+◌}
use mathlib.Core.Path.{◌≡◌, refl, sym, ap, subst, ◌∙◌}
use mathlib.Core.Bool.{Bool}
use mathlib.Core.List.{List, [], ◌∷◌, ◌++◌}
use native.Mathlib.Omega.{arith}
use lib.ListN.{length, length-append}
use lib.IntN.{ℤ, pos, negsuc}
use Rattle.ground.specs.Parts.{up}
use Rattle.file_line.specs.declared.Reading.{Reading}
use Rattle.file_line.specs.declared.Rooms.{Rooms}
use Rattle.file_line.specs.Read.{fresh}
use Rattle.file_parts.specs.declared.Held.{Held}
use Rattle.file_parts.specs.File.{Run, going, Both, both, feed_all}
use Rattle.file_parts.specs.Held.{abs}
use Rattle.file_parts.proofs.Line.{all_append}
use Rattle.file_reads.specs.declared.Input.{Input}
use Rattle.file_reads.specs.declared.Input.TheVariants.{More, Over, Failed}
use Rattle.file_reads.specs.Reads.{Read, Brings, State, state, unread, step_by, step_of, step_all, AllMore, AllBring, bytes_in, read_limit, InputEnds, by_last, used_up, InputRead}
use Rattle.file_reads.specs.Walk.{OneRead, MoreReads}

-- one read after others
pub step_last : (s : State) (rs : List Read) (r : Read) → step_all s (rs ++ (r ∷ [])) ≡ step_of (step_all s rs) r
unfolding step_all
step_last s [] r = refl
step_last s (q ∷ rs) r = step_last (step_of s q) rs r

more_last : (s : State) (rs : List Read) (r : Read) → AllMore s rs → (step_of (step_all s rs) r).input ≡ More → AllMore s (rs ++ (r ∷ []))
unfolding step_all AllMore
more_last s [] r m e = (e, tt)
more_last s (q ∷ rs) r m e = (m.0, more_last (step_of s q) rs r m.1 e)

bring_last : (rs : List Read) (r : Read) → AllBring rs → Brings r → AllBring (rs ++ (r ∷ []))
unfolding AllBring
bring_last [] r m e = (e, tt)
bring_last (q ∷ rs) r m e = (m.0, bring_last rs r m.1 e)

-- what was read after a reading was cleared was read from the first on
pub from_first : (s : Reading) (h : Held) (x : Rooms) (e : State) → s ≡ fresh → abs h ≡ going s [] → InputRead (state (both (abs h) x) More) e → InputRead (unread x) e
from_first s h x e es a r = subst (λ (z : Run). InputRead (state (both z x) More) e) (a ∙ ap (λ (t : Reading). going t []) es) r

-- no read yet
pub reads_none : (s : State) → MoreReads s 0 s
unfolding step_all AllMore AllBring
reads_none s = record { reads = []; count = refl; brought = tt; more = tt; stepped = refl }

module _ (s w : State) (made : ℕ) (m : MoreReads s made w) (z : Both) (i : Input) (o : OneRead w (state z i)) where
  came : state z i ≡ step_all s (m.reads ++ (o.read ∷ []))
  came = o.stepped ∙ ap (λ (v : State). step_of v o.read) m.stepped ∙ sym (step_last s m.reads o.read)

  leaves : step_of (step_all s m.reads) o.read ≡ state z i
  leaves = ap (λ (v : State). step_of v o.read) (sym m.stepped) ∙ sym o.stepped

  -- one more that leaves more
  pub reads_next : i ≡ More → MoreReads s (made + 1) (state z More)
  reads_next e =
      record {
        reads = m.reads ++ (o.read ∷ []);
        count = omega (arith, m.count, length-append m.reads (o.read ∷ []));
        brought = bring_last m.reads o.read m.brought o.brought;
        more = more_last s m.reads o.read m.more (ap (λ (v : State). v.input) leaves ∙ e);
        stepped = ap (state z) (sym e) ∙ came;
      }

  -- one more that does not: it is the last
  pub reads_last : (i ≡ More → ⊥) → InputRead s (state z i)
  reads_last h =
      record {
        reads = m.reads ++ (o.read ∷ []);
        brought = bring_last m.reads o.read m.brought o.brought;
        ended = by_last m.reads o.read refl m.more came h;
      }

-- the most reads, and there is more
pub reads_over : (s : State) (made : ℕ) (z : Both) → MoreReads s made (state z More) → made ≡ read_limit → InputRead s (state z Failed)
reads_over s made z m h =
    record {
      reads = m.reads;
      brought = m.brought;
      ended = used_up (m.count ∙ h) m.more (ap (λ (v : State). state v.fed Failed) m.stepped);
    }

-- an input that was read is over, or it failed
not_more : (s e : State) (rs : List Read) → InputEnds s rs e → e.input ≡ More → ⊥
not_more s e rs (by_last before last q m f h) g = h g
not_more s e rs (used_up l m f) g = let z : Failed ≡ More = ap (λ (v : State). v.input) (sym f) ∙ g in let y : ◌≡◌ {A = ℕ} 0 1 = cc in omega arith

pub ends_over : (s e : State) → InputRead s e → (e.input ≡ Failed → ⊥) → e.input ≡ Over
ends_over s e r n = go e.input refl
  where
    go : (i : Input) → e.input ≡ i → e.input ≡ Over
    go More q = absurd (not_more s e r.reads r.ended q)
    go Over q = q
    go Failed q = absurd (n q)

-- a read feeds the bytes that it brings, whatever its sign
step_fed : (z : Both) (count : ℤ) (i : Bool) (bytes : List ℕ) → length bytes ≡ up count → (step_by z count i bytes).fed ≡ feed_all z bytes
unfolding step_by feed_all
step_fed z (pos zero) i [] c = refl
step_fed z (pos zero) i (b ∷ bs) c = absurd (omega (arith, c))
step_fed z (pos (suc k)) i bs c = refl
step_fed z (negsuc k) i [] c = refl
step_fed z (negsuc k) i (b ∷ bs) c = absurd (omega (arith, c))

-- however the reads cut an input, all that they brought is fed in order
pub reads_fed : (s : State) (rs : List Read) → AllBring rs → (step_all s rs).fed ≡ feed_all s.fed (bytes_in rs)
unfolding step_all AllBring bytes_in feed_all
reads_fed s [] c = refl
reads_fed s (r ∷ rs) c =
    reads_fed (step_of s r) rs c.1
    ∙ ap (λ (z : Both). feed_all z (bytes_in rs)) (step_fed s.fed r.count r.interrupted r.bytes c.0)
    ∙ sym (all_append s.fed r.bytes (bytes_in rs))
