-- To be believed: a part's summary asked against a running state: document 01, "A summary asked against a marking", over the tokens that the state holds.
use Rattle.std.specs.Prelude.{ℕ, ◌<◌, List, get_or}
use Rattle.net.specs.Net.{Net, capacity}
use Rattle.summary_place.specs.Place.{letter_at, need, published_climb}
use Rattle.summary_asked.specs.Asked.{SufficesAt}
use Rattle.running.specs.declared.Running.{Running}

-- at each place the tokens cover the part's need, and tokens plus climb keep to the capacity
pub record SufficesPart (net : Net) (s : Running) (w : List ℕ) : Type 0 where
  pub at : (p : ℕ) → p < net.places → SufficesAt (need (letter_at net p) w) (published_climb net p w) (capacity net p) (get_or s.marking p 0)
