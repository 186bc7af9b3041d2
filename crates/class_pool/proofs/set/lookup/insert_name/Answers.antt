-- Answers of `insert_name`: what its calls ask for, and what it promises.
use Rattle.std.proofs.Common.{◌∙◌, ap}
use Rattle.indexmap.specs.IndexSet.{insert_key}
use Rattle.jv_base.specs.Names.{is_text}
use Rattle.class_pool.proofs.set.lookup.insert_name.Goals as goal

pub returns : goal.returns
returns c =
    c.in_ok-insert.ensures.keys ∙ ap (insert_key is_text c.args.names.now) c.in_ok-clone.ensures.cases
