-- Answers of `pair_selected`: what its calls ask for, and what it promises.
use Rattle.std.proofs.Common.{subst, sym}
use Rattle.class_pool.specs.Found.{IsMember}
use Rattle.method_places.proofs.InstanceRows.{instance_there, listed_row}
use Rattle.override_pairs.proofs.pairs.pair_selected.Goals as goal

pub pair_of-requires-clause-member : goal.pair_of-requires-clause-member
pair_of-requires-clause-member c =
    let set = c.args.receiver.now.numbered.now.set.now in
    subst (IsMember set) (sym c.member_of.ensures)
    (instance_there set c.args.row.now.class c.args.row.now.index
    (listed_row set c.args.receiver.now.table.now c.requires.receiver.rows c.args.class.now.number c.args.row.now
    c.requires.above.there c.requires.row).instance)
