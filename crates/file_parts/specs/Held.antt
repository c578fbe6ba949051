-- Only for the code's walk, no answer is made of it: what a reading held between two parts stands for, and what holds of it.
use Rattle.std.specs.Prelude.{Ok, Err, ℕ, ◌+◌, ◌≤◌, ◌≡◌, cond, List, ◌++◌, length, take, leb}
use Rattle.file_digits.specs.Frame.{line_limit}
use Rattle.file_line.specs.declared.Reading.{Reading}
use Rattle.file_line.specs.Walk.{Good, GoodTook}
use Rattle.refusals.specs.Given.{Answer}
use Rattle.file_parts.specs.declared.Held.{Held}
use Rattle.file_parts.specs.File.{Run, going, stopped, Case}

-- the state of a whole file is good, and has all its frames
abbrev pub GoodCase : Case → Type 0
GoodCase (Ok s) = (Good s) × (s.phase ≡ 5)
GoodCase (Err r) = Unit {0}

-- what lines came to, with the bytes d of the next
abbrev pub run_of : Answer Reading → List ℕ → Run
run_of (Ok s) d = going s d
run_of (Err r) d = stopped r.number r.at

-- what a held line stands for, and what holds of it
abbrev pub abs : Held → Run
abs h = run_of h.reading (take h.len h.line)

pub record Sound (h : Held) : Type 0 where
  pub good : GoodTook h.reading
  pub len : h.len ≤ line_limit
  pub line : length h.line ≡ line_limit

-- a piece of a line, with no line feed, after the bytes d
unfoldable pub hold_of : Reading → List ℕ → List ℕ → Run
hold_of s d piece = cond (leb (length d + length piece) line_limit) (going s (d ++ piece)) (stopped 11 (s.line + 1))
