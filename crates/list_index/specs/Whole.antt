-- Only for the code's walk, tied to `held` of lists by the promise of `find`: the code's own value for an index, of the one for a list.
use Rattle.lists.specs.declared.Markings.{Markings}
use Rattle.list_index.specs.Index.{Indexed}
use Rattle.list_index.specs.declared.Index.{Index}

abbrev pub Indexes : Markings → Index → Type 0
Indexes l ix = Indexed l.places l.count l.list.now ix.heads ix.links
