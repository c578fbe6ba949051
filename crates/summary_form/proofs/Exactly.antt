-- "Given exactly when", for every question about summaries: refusal 6 read. Assumes nothing.
use Prim.Native.Nat.{◌*◌}
use lib.ListN.{get_or}
use borrow.Author.Tests.{le-ltb, ltb-false}
use Rattle.ground.specs.Limits.{count_limit, weight_limit, word_limit}
use Rattle.refusals.proofs.Exactly.{Reads, tells_as, tells_test, tells_scan, reads_test, reads_both}
use Rattle.summary_place.specs.Slots.{nil, bad_at}
use Rattle.summary_slots.proofs.Tests.{not_bad, well_not}
use Rattle.summary_form.specs.Summary.{shape_fault, FormedAt, SlotsFormed}
use Rattle.summary_form.specs.Allowed.{FormedFirst}
use Rattle.summary_form.specs.declared.Summary.{Summary}
use Rattle.summary_form.proofs.Formed.{formed_at, at_formed}

-- n too large, else the lowest slot that is not well formed
pub formed_reads : (s : Summary) → Reads (shape_fault s) (FormedFirst s)
unfolding shape_fault
formed_reads s =
    reads_both (reads_test (tells_test _ 6 0 (λ e. ltb-false word_limit s.letters e) (λ h. le-ltb word_limit s.letters h)))
    (reads_test (tells_as (λ h. record { each = h }) (λ (f : SlotsFormed weight_limit s). f.each)
    (tells_scan (λ p. bad_at s.places (weight_limit * s.letters) p (get_or s.slots p nil)) count_limit 6 {D = FormedAt weight_limit s}
    (λ p e. formed_at s p (not_bad _ _ e)) (λ p f. well_not _ _ (at_formed s p f)))))
