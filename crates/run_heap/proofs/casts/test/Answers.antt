-- Answers of `test`: what its calls ask for, and what it promises.
use Rattle.std.proofs.Common.{◌∙◌, Some, None, ap, sym}
use Rattle.jvm_model.specs.Answers.{Gives}
use Rattle.jvm_model.specs.Value.{Value}
use Rattle.run_heap.specs.Worlds.{world_of}
use Rattle.run_heap.proofs.Kin.{test_by}
use Rattle.run_heap.proofs.casts.test.Goals as goal

pub returns-in-Some : goal.returns-in-Some
returns-in-Some g c = λ inits.
    ap (λ (v : Value). Gives (Some v) (world_of inits c.args.world.now)) c.truth-in-Some.ensures
    ∙ test_by (g.S.Shapes.shape c.args.shapes.now) (world_of inits c.args.world.now) c.args.value.now c.args.ty.now
    (Some c.in-Some.is_of) (sym c.is_null.ensures ∙ c.if-is_null.false) (c.in-Some.ensures inits)

pub returns-in-None : goal.returns-in-None
returns-in-None g c = λ inits.
    test_by (g.S.Shapes.shape c.args.shapes.now) (world_of inits c.args.world.now) c.args.value.now c.args.ty.now
    None (sym c.is_null.ensures ∙ c.if-is_null.false) (c.in-None.ensures inits)
