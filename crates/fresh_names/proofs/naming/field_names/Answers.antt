-- Answers of `field_names`: what its calls ask for, and what it promises.
use Rattle.std.proofs.Common.{◌∙◌, ap, ◌++◌, map}
use Rattle.jv_base.proofs.Lists.{flat_more}
use Rattle.class_model.specs.declared.class.Class.{Class}
use Rattle.class_model.specs.declared.class.Field.{Field}
use Rattle.fresh_names.proofs.OneMore.{same_done}
use Rattle.fresh_names.proofs.naming.field_names.Goals as goal

pub loop-class-preserved : goal.loop-class-preserved
loop-class-preserved c =
    c.in_ok-push_fields.ensures
    ∙ ap (λ l. l ++ map (λ (f : Field). f.name) c.as_slice.result.now) c.loop-class.invariant
    ∙ same_done (λ (f : Field). f.name) _ c.as_slice.result.now c.class-item.result.fields _ c.as_slice.ensures
    (flat_more (λ (k : Class). map (λ (f : Field). f.name) k.fields) c.args.kept.now c.loop-class.class-index
    c.class-item.result c.loop-class-test.true c.class-item.is)
