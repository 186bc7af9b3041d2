-- Answers of `answer`: what its calls ask for, and what it promises.
use Rattle.std.proofs.Common.{rules}
use Rattle.std.proofs.lemmas.Result.{IfOk-weaker}
use Rattle.std.proofs.lemmas.Int.{to_z-of_z}
use mir.Syntax.{w32}
use mir.Val.{SFits}
use Rattle.jvm_model.specs.Answers.{of_some}
use Rattle.jvm_model.specs.Arrays.{get_in, on_array}
use Rattle.jvm_model.specs.Casts.{cast}
use Rattle.jvm_model.specs.Fields.{get_field}
use Rattle.run_heap.specs.Answers.{Answered, Changes}
use Rattle.run_machine.proofs.Coming.{as_changes}
use Rattle.run_machine.proofs.requests.answer.Goals as goal

pub returns-in-GetField : goal.returns-in-GetField
returns-in-GetField g c = rw c.in-GetField.is (λ e. IfOk-weaker _
    (λ a. Answered a c.args.world.now (λ w. of_some (get_field w c.in-GetField.object)
    ((g.S.Shapes.shape c.args.shapes.now).field c.in-GetField.field.now)))
    (λ a. Changes a c.args.world.now c.args.world.now
    (λ w. of_some (get_field w c.in-GetField.object)
    ((g.S.Shapes.shape c.args.shapes.now).field c.in-GetField.field.now)))
    (λ a h. as_changes a c.args.world.now
    (λ w. of_some (get_field w c.in-GetField.object)
    ((g.S.Shapes.shape c.args.shapes.now).field c.in-GetField.field.now)) h) c.get_field.ensures)

pub returns-in-GetAt : goal.returns-in-GetAt
returns-in-GetAt g c =
    let fits : SFits w32 c.in-GetAt.index = search rules in
    let is = rw (to_z-of_z w32 c.in-GetAt.index fits) at c.get_at.ensures in
    rw c.in-GetAt.is (λ e. IfOk-weaker _
    (λ a. Answered a c.args.world.now (λ w. on_array w c.in-GetAt.array (get_in w c.in-GetAt.elem c.in-GetAt.index)))
    (λ a. Changes a c.args.world.now c.args.world.now
    (λ w. on_array w c.in-GetAt.array (get_in w c.in-GetAt.elem c.in-GetAt.index)))
    (λ a h. as_changes a c.args.world.now
    (λ w. on_array w c.in-GetAt.array (get_in w c.in-GetAt.elem c.in-GetAt.index)) h) is)

pub returns-in-Cast : goal.returns-in-Cast
returns-in-Cast g c = rw c.in-Cast.is (λ e. IfOk-weaker _
    (λ a. Answered a c.args.world.now (λ w. cast (g.S.Shapes.shape c.args.shapes.now) w c.in-Cast.ty.now
    c.in-Cast.object))
    (λ a. Changes a c.args.world.now c.args.world.now (λ w. cast (g.S.Shapes.shape c.args.shapes.now) w c.in-Cast.ty.now
    c.in-Cast.object))
    (λ a h. as_changes a c.args.world.now (λ w. cast (g.S.Shapes.shape c.args.shapes.now) w c.in-Cast.ty.now
    c.in-Cast.object) h) c.cast.ensures)
