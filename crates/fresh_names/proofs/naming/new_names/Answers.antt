-- Answers of `new_names`: what its calls ask for, and what it promises.
use Rattle.std.proofs.Common.{◌∙◌, List, ap}
use Rattle.class_model.specs.declared.class.Class.{Class}
use Rattle.class_rename.specs.Names.{names_in}
use Rattle.fresh_names.specs.Given.{class_given, class_names, field_given, field_names, method_given, method_names}
use Rattle.fresh_names.specs.Given.{names_given}
use Rattle.fresh_names.proofs.naming.new_names.Goals as goal

pub returns : goal.returns
returns c =
    ap names_in c.new.ensures
    ∙ (λ i. record {
      class = λ a. (c.in_ok-classes.ensures a
          ∙ (λ j. class_given (c.classes.ensures j) c.args.taken.now.classes (class_names c.as_slice-kept.result.now) a)) i;
      field = λ a. (c.in_ok-fields.ensures a
          ∙ (λ j. field_given (c.fields.ensures j) c.args.taken.now.fields (field_names c.as_slice-kept.result.now) a)) i;
      method = λ a descriptor. (c.in_ok-methods.ensures a descriptor
          ∙ (λ j. method_given (c.methods.ensures j) c.args.taken.now.methods
          (method_names c.as_slice-kept.result.now) a descriptor)) i;
    })
    ∙ ap (λ (ks : List Class). names_given c.args.taken.now c.args.old.now ks) c.as_slice-kept.ensures
