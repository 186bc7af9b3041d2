-- Answers of `closed_fault`: what its calls ask for, and what it promises.
use Rattle.std.proofs.Common.{sym, ◌∙◌}
use Rattle.class_pool.specs.Count.{item_count}
use Rattle.pair_clauses.proofs.Needed.{item_below}
use Rattle.pair_clauses.proofs.closing.closed_fault.Goals as goal

pub item_place-requires : goal.item_place-requires
item_place-requires c = item_below c.args.lined.now c.args.sys.now c.in-Some.item (item_count c.args.input.now)
    c.requires.valid c.requires.items (sym c.in-Some.is ∙ c.lacking.ensures)
