use mathlib.Core.Path.{sym, ap, ◌∙◌}
use Rattle.net.specs.Lent.{lent}
use Rattle.net.specs.Letter.{arcs_at}
use Rattle.net.proofs.Rows.{pre_end, post_end, row_length_lem}
use Rattle.net.proofs.Letters.{enough_of}
use Rattle.list_index.specs.Index.{hash_of}
use Rattle.list_index.proofs.Hashes.{hashed_below, change_below}
use Rattle.list_index.proofs.Sums.{after_hash}
use borrow.Author.Rules.{rules}
use Rattle.list_pairs.proofs.Search.is_unlisted.Goals as goal

pub invariant_of-sized : goal.invariant_of-sized
invariant_of-sized c = record { sized = c.requires.prepared.suits.ready.sized }

pub hash_after-after-requires : goal.hash_after-after-requires
hash_after-after-requires c = (
  hashed_below _ _ c.requires.hash_value,
  change_below _ _ _ ((c.requires.prepared.tabled.changes c.requires.kind_value).at c.args.t c.requires.t_lt_transitions),
)

pub find-requires-clause-hash_value : goal.find-requires-clause-hash_value
find-requires-clause-hash_value c =
    let net = lent c.args.self.now.net.now in
    let sized = c.requires.prepared.suits.ready.sized in
    let takes = row_length_lem net.places c.args.t net.pre (pre_end net c.args.listed.now c.args.t sized c.requires.t_lt_transitions) ∙ sym c.requires.listed_len in
    let puts = row_length_lem net.places c.args.t net.post (post_end net c.args.listed.now c.args.t sized c.requires.t_lt_transitions) ∙ sym c.requires.listed_len in
    let enough = enough_of (arcs_at net c.args.t) c.args.listed.now _ takes c.may_fire_listed.ensures (search rules) in
    after_hash _ _ c.args.listed.now _ _ _ takes puts enough c.requires.hash_value ((c.requires.prepared.tabled.changes c.requires.kind_value).at c.args.t c.requires.t_lt_transitions) c.hash_after-after.ensures
    ∙ sym (ap hash_of c.fire_listed.ensures)
