-- To be believed: document 02, E7: "Keep a running replay, with the marking, the letters fired and whether it is blocked, changed in place by each part."
use Rattle.std.specs.Prelude.{Ok, Err}
use Rattle.refusals.specs.Given.{Fault}
use Rattle.std.specs.Prelude.{ℕ, ◌+◌, Bool, true, cond, not, ◌&&◌, ◌||◌, List, length, get_or, take, ltb, leb, eqb}
use Rattle.std.proofs.lemmas.List.Edits.{sets}
use Rattle.ground.specs.Limits.{no_capacity, word_limit, tokens_after}
use Rattle.ground.specs.Lists.{first}
use Rattle.net.specs.Net.{Net}
use Rattle.net.specs.declared.Cause.{Cause}
use Rattle.net.specs.declared.Cause.TheVariants.{Short, Over}
use Rattle.net.specs.Firing.{cause_number}
use Rattle.refusals.specs.Given.{refuse, or_else, counts_fault, loose_fault, bad_letter}
use Rattle.plays.specs.Replay.{play_from}
use Rattle.plays.specs.declared.Replay.{Replay}
use Rattle.plays.specs.declared.Replay.TheVariants as replay
use Rattle.running.specs.declared.Running.{Running}
use Rattle.running.specs.declared.Part.TheVariants.{Fired, Blocked}
use Rattle.running.specs.declared.Fed.{Fed}

-- the marking that a state holds for a net: "slots past P aren't read"
abbrev pub held : Net → Running → List ℕ
held net s = take net.places s.marking

-- it holds a block
abbrev pub is_blocked : ℕ → Bool
is_blocked blocked = not (eqb blocked 0)

-- 3: "for a state with more tokens at a place than 65,534 plus 4,095 for each letter fired, or above capacity"; the lowest such place, or the number of places
abbrev pub tokens_over : ℕ → ℕ → ℕ → Bool
tokens_over fired cap tokens = ltb (tokens_after fired) tokens || (ltb cap no_capacity && ltb cap tokens)

abbrev pub bad_tokens : ℕ → List ℕ → ℕ → List ℕ → ℕ
bad_tokens P caps fired marking = first (λ p. tokens_over fired (get_or caps p 0) (get_or marking p 0)) P

unfoldable pub tokens_fault : ℕ → List ℕ → ℕ → List ℕ → Fault
tokens_fault P caps fired marking = refuse (ltb (bad_tokens P caps fired marking) P) 3 (bad_tokens P caps fired marking)

-- what is wrong with the net and the tokens of a state: 1, 2, 18, 3, 17
unfoldable pub state_fault : Net → ℕ → List ℕ → Fault
state_fault net fired marking =
    or_else (counts_fault net true) (or_else (tokens_fault net.places net.caps fired marking) (loose_fault net))

-- 4: "where letters fired plus the part would pass 65,535"; 5: a letter of the part that names no transition
unfoldable pub letters_fault : ℕ → ℕ → List ℕ → Fault
letters_fault T fired w =
    or_else (refuse (ltb word_limit (fired + length w)) 4 0) (refuse (ltb (bad_letter T w) (length w)) 5 (bad_letter T w))

-- 13: "for a held block whose place isn't below P"
unfoldable pub block_fault : ℕ → ℕ → ℕ → Fault
block_fault P blocked place = refuse (is_blocked blocked && leb P place) 13 0

-- all refusals of a part, in order
unfoldable pub part_fault : Net → Running → List ℕ → Fault
part_fault net s w =
    or_else (state_fault net s.fired s.marking)
    (or_else (letters_fault net.transitions s.fired w) (block_fault net.places s.blocked s.place))

-- the place of a cause
abbrev pub cause_place : Cause → ℕ
cause_place (Short p) = p
cause_place (Over p) = p

-- a state that was blocked at letter n, and the answer that says so
abbrev pub blocked_at : List ℕ → ℕ → Cause → Fed
blocked_at marking n why =
    record {
      state = record { marking = marking; fired = n; position = n; place = cause_place why; blocked = cause_number why };
      answer = Ok (Blocked (cause_number why) n (cause_place why));
    }

-- the state and the answer after a part that was played: `marking` is what it led to; the numbers of a block stay where there is none
abbrev pub went_on : Running → List ℕ → Replay → Fed
went_on s marking (replay.Fired n) =
    record {
      state = record { marking = marking; fired = n; position = s.position; place = s.place; blocked = s.blocked };
      answer = Ok (Fired n);
    }
went_on s marking (replay.Blocked n why) = blocked_at marking n why

-- "slots past P .. stay"
abbrev pub played_on : Net → Running → List ℕ → Fed
played_on net s w =
    went_on s (sets s.marking 0 (play_from net s.fired (held net s) w).left) (play_from net s.fired (held net s) w).answer

-- "After a block each later part gets the same block and changes nothing"; "handed back as it stands"
abbrev pub held_block : Running → Fed
held_block s = record { state = s; answer = Ok (Blocked s.blocked s.position s.place) }

-- what a part makes of a state: refused, and nothing is changed; else the block that it holds; else the part is played, its first letter having the number
-- of the letters fired before
abbrev pub fed_by : Fault → Net → Running → List ℕ → Fed
fed_by (Err r) net s w = record { state = s; answer = Err r }
fed_by (Ok _) net s w = cond (is_blocked s.blocked) (held_block s) (played_on net s w)

unfoldable pub fed_of : Net → Running → List ℕ → Fed
fed_of net s w = fed_by (part_fault net s w) net s w
