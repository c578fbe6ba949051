-- The line of a file is the verdict line of replaying what stands in it, and says exactly what is true of it. Assumes nothing.
use Prim.Native.Nat.{ℕ, ◌≤◌}
use mathlib.Core.Path.{◌≡◌, refl, sym, subst, ap, ◌∙◌}
use mathlib.Core.Bool.{true}
use mathlib.Core.List.{List, []}
use mathlib.Core.Logic.{◌↔◌}
use native.Mathlib.Omega.{arith}
use lib.ListN.{length, get_or, take}
use lib.Seq.{take-length}
use Rattle.ground.specs.Lists.{table}
use Rattle.ground.proofs.Fill.{table_length}
use Rattle.ground.proofs.Room.{replay_room}
use Rattle.net.specs.Net.{Net}
use Rattle.net.specs.Firing.{Enabled, Fires}
use Rattle.net.specs.declared.Cause.{Cause}
use Rattle.net.proofs.Judged.{named_stops}
use Rattle.file_put.specs.Put.{line_text}
use Rattle.file_put.proofs.Appends.{append_so_far}
use Rattle.file_line.specs.declared.Reading.{Reading}
use Rattle.file_line.specs.declared.Rooms.{Rooms}
use Rattle.file_line.specs.Read.{fresh}
use Rattle.file_line.specs.Walk.{Large}
use Rattle.file_parts.specs.declared.Held.{Held}
use Rattle.file_parts.specs.File.{Case, both, read_of, case_of}
use Rattle.file_parts.specs.Held.{abs}
use Rattle.file_text.specs.Text.{file_of, Limited, Written, marking_in, word_in, end_of, filled}
use Rattle.file_text.specs.Refusal.{RefusedFile}
use Rattle.file_text.proofs.Meaning.{limited_allowed, file_read, filled_net, filled_marking, filled_word, accepted_exactly}
use Rattle.file_text.proofs.Refusal.{refused_means, refused_early}
use Rattle.std.specs.Prelude.{Ok, Err}
use Rattle.refusals.specs.Given.{Answer, refused}
use Rattle.replay.specs.Entry.{Answered, replay_of, Replayed, Allowed, letters_fired}
use Rattle.plays.specs.declared.Replay.{Replay}
use Rattle.plays.specs.declared.Replay.TheVariants.{Fired, Blocked}
use Rattle.replay.proofs.Ending.{no_more}
use Rattle.replay.proofs.Meaning.{allowed_answered, fired_means, fires_fired, fired_longest, blocked_cause, left_small}
use Rattle.verdict_text.specs.Verdict.{bytes_of, verdict, WrittenBytes}
use Rattle.verdict_text.specs.Back.{Sayable}
use Rattle.verdict_text.specs.Walk.{Placed}
use Rattle.verdict_text.proofs.Meaning.{verdict_apart}
use Rattle.verdict_line.specs.Answer.{room_for, answer_for, line_for, line_at, file_line}
use Rattle.verdict_line.specs.Truth.{StopsAt, TrueOf}
use Rattle.verdict_line.proofs.Lines.{any_room, placed, replayed_bytes}
use Rattle.verdict_line.proofs.Numbers.{small_number}
use Rattle.verdict_line.proofs.Causes.{one_stop}

-- for every net, marking and word within the limits, the line for their file is the verdict line of what their replay answers and leaves
pub line_of_file : (x : Rooms) → Large x → (net : Net) (initial w : List ℕ) → Limited net initial w
    → (room : List ℕ) (r : Answer Replay) (room' : List ℕ) → length room ≡ net.places → Replayed net initial w true room r room' → file_line (file_of net initial w) x ≡ verdict r room'
line_of_file x big net initial w m room r room' h p =
    let e = file_read x big net initial w m in
    let s : Reading = end_of net w in
    let y : Rooms = filled x net initial w in
    let same : length (room_for s) ≡ length room = table_length (λ _. 0) net.places ∙ sym h in
    ap (λ (c : Case). line_for c (read_of x (file_of net initial w)).rooms) e.0
    ∙ ap (line_for (Ok s)) e.1
    ∙ ap (λ (n : Net). line_text (answer n (marking_in s y) (word_in s y) (room_for s))) (filled_net x big net initial w m)
    ∙ ap (λ (i : List ℕ). line_text (answer net i (word_in s y) (room_for s))) (filled_marking x big net initial w m)
    ∙ ap (λ (v : List ℕ). line_text (answer net initial v (room_for s))) (filled_word x big net initial w m)
    ∙ ap line_text (any_room net initial w true (room_for s) room same ∙ sym (replayed_bytes net initial w true room r room' p))
  where
    answer : Net → List ℕ → List ℕ → List ℕ → List ℕ
    answer n i v room = bytes_of (replay_of n i v true room).answer (replay_of n i v true room).left

-- where a word stops, its letter is not enabled
pub stopped_not_enabled : (net : Net) (m w : List ℕ) (i : ℕ) (why : Cause) (s : StopsAt net m w i why) → Enabled net s.marking (get_or w i 0) → ⊥
stopped_not_enabled net m w i why s = named_stops net s.marking (get_or w i 0) why s.cause

-- an accepted file: what the replay of its net, marking and word answers and leaves
module _ (file : List ℕ) (x : Rooms) (big : Large x) (f : Written file) (room : List ℕ) (r : Answer Replay) (room' : List ℕ) (h : length room ≡ f.net.places)
    (p : Replayed f.net f.initial f.word true room r room') where
  line-is : file_line file x ≡ verdict r room'
  line-is = ap (λ (l : List ℕ). file_line l x) f.text ∙ line_of_file x big f.net f.initial f.word f.limited room r room' h p

  allowed : Allowed f.net f.initial f.word true room
  allowed = limited_allowed f.net f.initial f.word room f.limited h

  stops_at : (i : ℕ) (why : Cause) → r ≡ Ok (Blocked i why) → StopsAt f.net f.initial f.word i why
  stops_at i why e =
      let b = blocked_cause f.net f.initial f.word true room r room' p allowed i why e in
      let q : letters_fired r ≡ i = ap letters_fired e in
      let g : Fires f.net f.initial (take (letters_fired r) f.word) room' = (fired_longest f.net f.initial f.word true room r room' p allowed).fires in
      record { inside = b.0; marking = room'; fires = rw q at g; cause = b.1 }

  -- the answer is true of the file
  answer_true : (s : Answer Replay) → r ≡ s → TrueOf x file s room'
  answer_true (Ok (Fired n)) e = let a = fired_means f.net f.initial f.word true room r room' p allowed n e in (f, a.0, a.1)
  answer_true (Ok (Blocked i why)) e = (f, stops_at i why e)
  answer_true (Err q) e = absurd (allowed_answered f.net f.initial f.word true room r room' p allowed q.number q.at e)

  -- each of its numbers has room in its bytes: letters and positions by the word's limit, tokens by what a replay reaches, a place by the count of places
  answer_sayable : (s : Answer Replay) → r ≡ s → Placed s → Sayable s room'
  answer_sayable (Ok (Fired n)) e q =
      let a = fired_means f.net f.initial f.word true room r room' p allowed n e in
      let b = left_small f.net f.initial f.word true room r room' p allowed in
      (omega (arith, a.0, f.limited.short), record { at = λ k. let z = b.at k in omega (arith, replay_room) })
  answer_sayable (Ok (Blocked i why)) e q =
      let b = blocked_cause f.net f.initial f.word true room r room' p allowed i why e in
      (omega (arith, b.0, f.limited.short), q)
  answer_sayable (Err k) e q = absurd (allowed_answered f.net f.initial f.word true room r room' p allowed k.number k.at e)

  sayable : Sayable r room'
  sayable = answer_sayable r refl (placed f.net f.initial f.word true room r room' p f.limited.sized.few_places)

  -- where the whole word fires, or stops, the answer says so
  fires_said : (m : List ℕ) → Fires f.net f.initial f.word m → (file_line file x ≡ verdict (Ok (Fired (length f.word))) m) × Sayable (Ok (Fired (length f.word))) m
  fires_said m g =
      let e = fires_fired f.net f.initial f.word true room r room' p allowed m g in
      let l : file_line file x ≡ verdict (Ok (Fired (length f.word))) m = line-is ∙ ap (λ (a : Answer Replay). verdict a room') e.0 ∙ ap (verdict (Ok (Fired (length f.word)))) e.1 in
      (l, subst (Sayable (Ok (Fired (length f.word)))) e.1 (subst (λ (a : Answer Replay). Sayable a room') e.0 sayable))

  stops_said : (i : ℕ) (why : Cause) (m : List ℕ) → StopsAt f.net f.initial f.word i why → (file_line file x ≡ verdict (Ok (Blocked i why)) m) × Sayable (Ok (Blocked i why)) m
  stops_said i why m g = go r refl
    where
      go : (s : Answer Replay) → r ≡ s → (file_line file x ≡ verdict (Ok (Blocked i why)) m) × Sayable (Ok (Blocked i why)) m
      go (Ok (Fired n)) e =
          let a = (fired_means f.net f.initial f.word true room r room' p allowed n e).1 in
          absurd (no_more f.word i g.inside g.fires (stopped_not_enabled f.net f.initial f.word i why g) (length f.word) g.inside room' (rw take-length a))
      go (Err q) e = absurd (allowed_answered f.net f.initial f.word true room r room' p allowed q.number q.at e)
      go (Ok (Blocked j who)) e =
          let o = one_stop f.net f.initial f.word i j why who g (stops_at j who e) in
          let l : file_line file x ≡ verdict (Ok (Blocked j who)) room' = line-is ∙ ap (λ (a : Answer Replay). verdict a room') e in
          let b : Sayable (Ok (Blocked j who)) room' = subst (λ (a : Answer Replay). Sayable a room') e sayable in
          rw (o.0, o.1) (l, b)

-- any file, read into rooms that are large enough
module _ (file : List ℕ) (x : Rooms) (big : Large x) where
  refused_said : (n l : ℕ) (m : List ℕ) → RefusedFile x file n l → (file_line file x ≡ verdict (refused n l) m) × Sayable (refused n l) m
  refused_said n l m q =
      let e = (refused_means x file n l).1 q in
      let z = refused_early x big file n l q in
      (ap (λ (c : Case). line_for c (read_of x file).rooms) e, (small_number file fresh x n l e, omega arith))

  -- the replay of an accepted file's word, in a room of its length
  abbrev ran : Written file → Answered
  ran f = replay_of f.net f.initial f.word true (table (λ _. 0) f.net.places)

  long : (f : Written file) → length {A = ℕ} (table (λ _. 0) f.net.places) ≡ f.net.places
  long f = table_length (λ _. 0) f.net.places

  its : (f : Written file) → Replayed f.net f.initial f.word true (table (λ _. 0) f.net.places) (ran f).answer (ran f).left
  its f = record { answer = refl; left = refl }

  -- what is true of a file is said by its line
  true_said : (r : Answer Replay) (m : List ℕ) → TrueOf x file r m → (file_line file x ≡ verdict r m) × Sayable r m
  true_said (Ok (Fired n)) m (f, e, g) =
      let a = fires_said file x big f (table (λ _. 0) f.net.places) (ran f).answer (ran f).left (long f) (its f) m g in
      (a.0 ∙ ap (λ (k : ℕ). verdict (Ok (Fired k)) m) (sym e), (omega (arith, a.1.0), a.1.1))
  true_said (Ok (Blocked i why)) m (f, g) = stops_said file x big f (table (λ _. 0) f.net.places) (ran f).answer (ran f).left (long f) (its f) i why m g
  true_said (Err r) m t = refused_said r.number r.at m t

  -- of every file one of them is true
  pub some_true : (r : Answer Replay) × (m : List ℕ) × TrueOf x file r m
  some_true = go (case_of (read_of x file).run) refl
    where
      accepted : Written file → (r : Answer Replay) × (m : List ℕ) × TrueOf x file r m
      accepted f = ((ran f).answer, (ran f).left, answer_true file x big f (table (λ _. 0) f.net.places) (ran f).answer (ran f).left (long f) (its f) (ran f).answer refl)

      go : (c : Case) → case_of (read_of x file).run ≡ c → (r : Answer Replay) × (m : List ℕ) × TrueOf x file r m
      go (Ok s) e = accepted ((accepted_exactly x big file).0 (s, e))
      go (Err r) e = (Err r, [], (refused_means x file r.number r.at).0 e)

  -- the line says 81 00, 81 01, 81 02 or 82 with these numbers exactly if that is true of the file
  pub line_means : (r : Answer Replay) (m : List ℕ) → ((file_line file x ≡ verdict r m) × Sayable r m) ↔ TrueOf x file r m
  line_means r m = (λ h. of_line h.0 h.1, true_said r m)
    where
      moved : (a : Answer Replay) (k : List ℕ) → ((n : ℕ) → a ≡ Ok (Fired n) → m ≡ k) → TrueOf x file a k → TrueOf x file a m
      moved (Ok (Fired n)) k c t = rw (c n refl) t
      moved (Ok (Blocked i why)) k c t = t
      moved (Err r) k c t = t

      of_line : file_line file x ≡ verdict r m → Sayable r m → TrueOf x file r m
      of_line e s =
          let t = some_true in
          let b = true_said t.0 t.1 t.2 in
          let o = verdict_apart r t.0 m t.1 s b.1 (sym e ∙ b.0) in
          moved r t.1 o.1 (rw (← o.0) at t.2)

  -- each number in the line is below 2^32, and no other answer has this line
  pub line_says : (r : Answer Replay) × (m : List ℕ) × (file_line file x ≡ verdict r m) × Sayable r m
  line_says = let t = some_true in let b = true_said t.0 t.1 t.2 in (t.0, t.1, b.0, b.1)

-- what `answer_line` promises, at the end of a file that was read so far: the room begins with the file's line, as long as is answered
pub answered_line : (f : List ℕ) (x y : Rooms) (h : Held) (out : List ℕ) (n : ℕ) (out' : List ℕ) → both (abs h) y ≡ read_of x f → n ≤ length out
    → WrittenBytes out (answer_for (case_of (abs h)) y) n out' → take n out' ≡ file_line f x
answered_line f x y h out n out' e k w = append_so_far w (omega (arith, w.next, k)) ∙ ap line_at e
