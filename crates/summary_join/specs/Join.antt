-- To be believed: the join of two summaries, with its refusals "in number order": 1, 2, 6, 7; for one number the first summary before the second.
use Rattle.refusals.specs.Given.{Answer, Fault}
use Rattle.std.specs.Prelude.{Ok, Err, ℕ, ◌+◌, ◌||◌, ltb}
use Rattle.ground.specs.Limits.{word_limit}
use Rattle.refusals.specs.Given.{refuse, or_else, outside, unlike}
use Rattle.summary_place.specs.Slots.{joined_all}
use Rattle.summary_form.specs.Summary.{shape_fault}
use Rattle.summary_form.specs.declared.Summary.{Summary}

-- "Join of a then b: lengths .. add", and each place is joined
abbrev pub join_summary : Summary → Summary → Summary
join_summary a b = record { places = a.places; letters = a.letters + b.letters; slots = joined_all a.slots b.slots }

-- 6 for the second, then 7: "joined lengths over 65,535"
unfoldable pub later_fault : ℕ → Summary → Fault
later_fault n b = or_else (shape_fault b) (refuse (ltb word_limit (n + b.letters)) 7 0)

-- 1 and 2 for the place counts, 6 for the first
unfoldable pub join_fault : Summary → Summary → Fault
join_fault a b =
    or_else (refuse (outside a.places || outside b.places) 1 0)
    (or_else (refuse (unlike a.places b.places) 2 0)
    (or_else (shape_fault a) (later_fault a.letters b)))

abbrev pub join_answer : Summary → Summary → Answer Summary
join_answer a b = or_else (join_fault a b) (Ok (join_summary a b))

-- one join after another: what is refused stays refused
abbrev pub then_join : Answer Summary → (Summary → Answer Summary) → Answer Summary
then_join (Ok s) f = f s
then_join (Err r) f = Err r
