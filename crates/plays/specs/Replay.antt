-- To be believed: the replay of a word, letter by letter.
use Rattle.std.specs.Prelude.{ℕ, ◌+◌, ◌≡◌, List, [], ◌∷◌}
use Rattle.net.specs.Net.{Net}
use Rattle.net.specs.Letter.{judge_at, fired_at}
use Rattle.std.specs.Prelude.{Ok, Err}
use Rattle.plays.specs.declared.Replay.{Replay}
use Rattle.plays.specs.declared.Replay.TheVariants.{Fired, Blocked}

-- an answer, and the marking left
pub record Ran : Type 0 where
  pub answer : Replay
  pub left : List ℕ

-- "Where a letter isn't enabled, the replay stops": from m on, the word's first letter being number i
unfoldable pub play_from : Net → ℕ → List ℕ → List ℕ → Ran
play_from net i m [] = record { answer = Fired i; left = m }
play_from net i m (t ∷ w) =
    elim (judge_at net t m) [
      | Ok _ ↦ play_from net (i + 1) (fired_at net t m) w
      | Err why ↦ record { answer = Blocked i why; left = m }
    ]

-- the whole word was played from m, n letters having fired before
pub record Ended (net : Net) (n : ℕ) (m w : List ℕ) (r : Replay) (m' : List ℕ) : Type 0 where
  pub answer : r ≡ (play_from net n m w).answer
  pub left : m' ≡ (play_from net n m w).left
