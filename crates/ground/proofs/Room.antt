-- The facts about which number `weight_limit` is: that the largest sums fit their types, and that a number lent is one that a replay reaches. No proof of another crate asks more of it, but where a case file's frames do (document 02, E6: "The proofs should carry the limit as a number"). Assumes nothing.
use Prim.Native.Nat.{◌+◌, ◌*◌, ◌^◌, ◌<◌, ◌≤◌}
use native.Mathlib.Omega.{arith}
use Rattle.ground.specs.Limits.{count_limit, weight_limit, token_limit, entry_limit, word_limit, replay_limit}

-- a weight is lent in 16 bits
pub weight_room : weight_limit < 2 ^ 16
weight_room = omega arith

-- the tokens of a place, and what one letter more puts there, fit 32 bits
pub replay_room : replay_limit + weight_limit < 2 ^ 32
replay_room = omega arith

-- a number lent in 16 bits is one that a replay reaches
pub lent_room : 2 ^ 16 ≤ replay_limit + 1
lent_room = omega arith

-- what two words gain or lose at a place fits 32 bits with a sign
pub slot_room : 2 * (weight_limit * word_limit) < 2 ^ 31
slot_room = omega arith

-- the sums of a weighting, over places or over transitions, fit 64 bits with a sign
pub sum_room : count_limit * (entry_limit * weight_limit) < 2 ^ 63
sum_room = omega arith

-- so do those over the tokens of a given marking
pub bound_room : count_limit * (entry_limit * token_limit) < 2 ^ 63
bound_room = omega arith
