-- Answers of `same_names`: what its calls ask for, and what it promises.
use Rattle.std.proofs.Common.{◌∙◌, ap}
use Rattle.class_rename.specs.Names.{names_in}
use Rattle.rename_map.proofs.naming.same_names.Goals as goal

pub returns : goal.returns
returns c =
    ap names_in c.new.ensures
    ∙ (λ i. names_in (record {
      classes = c.new-classes.ensures i;
      fields = c.new-fields.ensures i;
      methods = c.new-methods.ensures i;
    }))
