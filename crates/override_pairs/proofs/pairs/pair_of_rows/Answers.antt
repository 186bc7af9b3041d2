-- Answers of `pair_of_rows`: what its calls ask for, and what it promises.
use Rattle.std.proofs.Common.{◌∙◌, sym}
use Rattle.method_places.proofs.InstanceRows.{pair_items, pair_itself}
use Rattle.override_pairs.proofs.pairs.pair_of_rows.Goals as goal

pub returns-then-is_same_row : goal.returns-then-is_same_row
returns-then-is_same_row c =
    pair_itself c.args.receiver.now.numbered.now.set.now c.args.class.now.own c.args.row.now c.args.found.now
    (sym c.is_same_row.ensures ∙ c.if-is_same_row.true)

pub returns : goal.returns
returns c =
    pair_items c.args.receiver.now.numbered.now.set.now c.args.class.now.own c.args.row.now c.args.found.now
    c.args.class.now.item c.requires.above.item c.requires.row c.requires.found
    (sym c.is_same_row.ensures ∙ c.if-is_same_row.false)
