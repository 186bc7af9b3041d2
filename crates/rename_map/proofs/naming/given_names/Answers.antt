-- Answers of `given_names`: what its calls ask for, and what it promises.
use Rattle.std.proofs.Common.{◌∙◌}
use Rattle.class_rename.proofs.Known.{if_ok}
use Rattle.new_names.specs.NewNames.{tables_of}
use Rattle.rename_map.proofs.Beside.{alike_given}
use Rattle.rename_map.proofs.naming.given_names.Goals as goal

pub returns : goal.returns
returns c =
    if_ok c.new_names.result
    (λ names is. is ∙ alike_given c.args.taken.now c.in_ok-tables.tables (tables_of c.args.old.now) c.args.kept.now
    c.in_ok-tables.ensures)
    c.new_names.ensures
