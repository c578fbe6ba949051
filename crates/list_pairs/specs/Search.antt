-- Only for the code's walk, tied to `results` by the promise of `look_up`: the code's own values for a list, its net and its tables.
use Rattle.std.specs.Prelude.{ℕ, ◌≡◌, Bool, List}
use Rattle.net.specs.Net.{Net}
use Rattle.net.specs.Lent.{lent}
use Rattle.lists.specs.declared.Kind.{Kind}
use Rattle.lists.specs.declared.Kind.TheVariants.{Closed}
use Rattle.lists.specs.declared.ListAnswer.{ListAnswer}
use Rattle.lists.specs.declared.Markings.{Markings}
use Rattle.list_index.specs.Index.{Changes}
use Rattle.list_index.specs.Whole.{Indexes}
use Rattle.list_arcs.specs.Arc.{Skips}
use Rattle.list_pairs.specs.Look.{Ready, Kept, unlisted, absent, missing, results}
use Rattle.list_pairs.specs.declared.Tables.{Tables}
use Rattle.list_pairs.specs.declared.Search.{Search}

-- the list is one of whole markings of the net's places
pub record Suits (net : Net) (l : Markings) : Type 0 where
  pub ready : Ready net l.count l.list.now
  pub same : l.places ≡ net.places

-- the tables are those of the list and its net, where the list is closed; a cover list's may be any
pub record Tabled (kind : Kind) (net : Net) (l : Markings) (t : Tables) : Type 0 where
  pub index : kind ≡ Closed → Indexes l t.index
  pub skips : kind ≡ Closed → Skips net.places net.pre net.post t.skips
  pub changes : kind ≡ Closed → Changes net.places net.transitions net.pre net.post t.changes

-- all is ready to look the list through
pub record Prepared (s : Search) : Type 0 where
  pub suits : Suits (lent s.net.now) s.list.now
  pub kept : Kept s.kind (lent s.net.now) s.list.now.count s.list.now.list.now
  pub tabled : Tabled s.kind (lent s.net.now) s.list.now s.tables.now

-- the tests of Look.antt, and its answer
abbrev pub unlisted_in : Search → ℕ → List ℕ → Bool
unlisted_in s t l = unlisted (lent s.net.now) s.list.now.count s.list.now.list.now t l

abbrev pub absent_in : Search → ℕ → List ℕ → Bool
absent_in s t l = absent s.kind (lent s.net.now) s.list.now.count s.list.now.list.now t l

abbrev pub missing_in : Search → ℕ → ℕ → Bool
missing_in s k t = missing s.kind (lent s.net.now) s.list.now.count s.list.now.list.now k t

abbrev pub results_in : Search → ListAnswer
results_in s = results s.kind (lent s.net.now) s.list.now.count s.list.now.list.now
