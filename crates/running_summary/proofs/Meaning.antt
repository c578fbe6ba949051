-- A part against its summary: it fires exactly where the state's tokens suffice for the summary, and then leads to tokens plus change. Assumes nothing.
use Rattle.std.specs.Prelude.{Ok}
use Rattle.refusals.specs.Given.{Answer}
use Prim.Native.Nat.{ℕ, ◌+◌, ◌<◌}
use mathlib.Core.Path.{◌≡◌, sym, ap, ◌∙◌}
use mathlib.Core.List.{List}
use mathlib.Core.Logic.{◌↔◌}
use lib.ListN.{length, get_or}
use lib.Seq.{get_or-take}
use lib.IntN.{pos, ◌+ℤ◌}
use Rattle.net.specs.Net.{Net, tokens}
use Rattle.net.specs.Firing.{Fires}
use Rattle.running.specs.State.{held}
use Rattle.running.specs.Entry.{Promised, Allowed}
use Rattle.running.specs.Cutting.{Slotted}
use Rattle.running.specs.declared.Running.{Running}
use Rattle.running.specs.declared.Part.{Part}
use Rattle.running.specs.declared.Part.TheVariants.{Fired}
use Rattle.running.proofs.TwoParts.{held_within}
use Rattle.running.proofs.Meaning.{fired_means, fires_exactly}
use Rattle.summary_place.specs.Place.{letter_at, change}
use Rattle.summary_form.proofs.Places.{ends_at}
use Rattle.summary_form.proofs.Fits.{fires_fits, fits_fires}
use Rattle.running_summary.specs.Suffices.{SufficesPart}

held_at : (net : Net) (s : Running) (p : ℕ) → p < net.places → tokens (held net s) p ≡ get_or s.marking p 0
held_at net s p h = get_or-take net.places s.marking p 0 h

module _ (net : Net) (s : Running) (w : List ℕ) (a : Allowed net s w) (slots : Slotted s) where
  fires_suffices : (m : List ℕ) → Fires net (held net s) w m → SufficesPart net s w
  fires_suffices m f = record {
    at = λ p h. let q = fires_fits f (held_within net s w a slots) p h in rw (← held_at net s p h) (record { covers = q.0; keeps = q.1 });
  }

  suffices_fires : SufficesPart net s w → (m : List ℕ) × Fires net (held net s) w m
  suffices_fires k =
      fits_fires net w (held net s) (held_within net s w a slots).long a.letters
      (λ p h. let t = rw (← held_at net s p h) at (k.at p h) in (t.covers, t.keeps))

  module _ (q : s.blocked ≡ 0) (s' : Running) (r : Answer Part) (p : Promised net s w s' r) where
    -- fired exactly where a summary asked would say yes
    pub part_suffices : (r ≡ Ok (Fired (s.fired + length w))) ↔ SufficesPart net s w
    part_suffices =
        let f = fires_exactly net s w a slots q s' r p in
        (λ e. let g = f.0 e in fires_suffices g.0 g.1, λ k. f.1 (suffices_fires k))

    -- and then the state has what it would say of the end
    pub part_ends : (n : ℕ) → r ≡ Ok (Fired n) → (k : ℕ) → k < net.places → pos (get_or s'.marking k 0) ≡ pos (get_or s.marking k 0) +ℤ change (letter_at net k) w
    part_ends n e k h =
        ap pos (sym (held_at net s' k h)) ∙ ends_at (fired_means net s w a slots q s' r p n e).1 k h
        ∙ ap (λ (x : ℕ). pos x +ℤ change (letter_at net k) w) (held_at net s k h)
