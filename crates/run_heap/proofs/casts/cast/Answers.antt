-- Answers of `cast`: what its calls ask for, and what it promises.
use Rattle.std.proofs.Common.{◌∙◌, Some, None, ap, false, sym, true}
use Rattle.jvm_model.specs.Answers.{Gives}
use Rattle.jvm_model.specs.Value.{Value}
use Rattle.run_heap.specs.Worlds.{world_of}
use Rattle.run_heap.proofs.Kin.{cast_by}
use Rattle.run_heap.proofs.casts.cast.Goals as goal

pub returns-in_ok-clone-in-Some-true : goal.returns-in_ok-clone-in-Some-true
returns-in_ok-clone-in-Some-true g c = λ inits.
    ap (λ (v : Value). Gives (Some v) (world_of inits c.args.world.now)) c.in_ok-clone-in-Some-true.ensures.cases
    ∙ cast_by (g.S.Shapes.shape c.args.shapes.now) (world_of inits c.args.world.now) c.args.value.now c.args.ty.now
    (Some true) (sym c.is_null.ensures ∙ c.if-is_null.false)
    (sym (ap Some c.in-Some-true.field-0-test) ∙ c.in-Some-true.ensures inits)

pub returns-in-Some-false : goal.returns-in-Some-false
returns-in-Some-false g c = λ inits.
    cast_by (g.S.Shapes.shape c.args.shapes.now) (world_of inits c.args.world.now) c.args.value.now c.args.ty.now
    (Some false) (sym c.is_null.ensures ∙ c.if-is_null.false)
    (sym (ap Some c.in-Some-false.field-0-test) ∙ c.in-Some-false.ensures inits)

pub returns-in-None : goal.returns-in-None
returns-in-None g c = λ inits.
    cast_by (g.S.Shapes.shape c.args.shapes.now) (world_of inits c.args.world.now) c.args.value.now c.args.ty.now
    None (sym c.is_null.ensures ∙ c.if-is_null.false) (c.in-None.ensures inits)
