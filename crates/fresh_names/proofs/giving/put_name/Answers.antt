-- Answers of `put_name`: what its calls ask for, and what it promises.
use Rattle.std.proofs.Common.{ap, ◌∙◌}
use Rattle.indexmap.specs.IndexMap.{insert_entry}
use Rattle.fresh_names.proofs.giving.put_name.Goals as goal

pub returns : goal.returns
returns g c =
    c.in_ok-insert.ensures
    ∙ ap (λ k. insert_entry g.K.PartialEq.eq c.args.table.now k c.args.new)
    (g.met.K.Key.copies c.args.key.now c.in_ok-key.key c.in_ok-key.ensures.cases)
