-- Answers of `unwind_frame`: what its calls ask for, and what it promises.
use Rattle.std.proofs.Common.{◌≡◌, ◌∙◌, ℕ, List, None, Some, ap}
use Rattle.std.proofs.lemmas.Result.{IfOk-weaker}
use Rattle.std.specs.Option.{option_map}
use Rattle.std.specs.Prelude.{option_copied, slice_get}
use Rattle.class_model.specs.declared.code.Handler.{Handler}
use Rattle.jvm_model.specs.Heap.{Init}
use Rattle.jvm_model.specs.Initialisation.{state}
use Rattle.jvm_model.specs.Local.{at_handler, handler_for}
use Rattle.jvm_model.specs.State.{Control as Doing, Runs, Wait as Waiting}
use Rattle.jvm_model.specs.Unwinding.{is_of_class, unwind_frame}
use Rattle.run_heap.specs.Worlds.{object_of, world_of}
use Rattle.run_heap.specs.declared.world.Object.{Object}
use Rattle.run_machine.specs.States.{control_of, frame_of}
use Rattle.run_machine.proofs.Catching.{looked_up, unwound}
use Rattle.run_steps.specs.Frames.{body_of}
use Rattle.run_machine.proofs.unwinding.unwind_frame.Goals as goal

pub returns-in-Some-handler_of : goal.returns-in-Some-handler_of
returns-in-Some-handler_of g c = IfOk-weaker _
    (λ k. control_of k ≡ Runs (record {
      method = c.args.frame.method;
      body = at_handler (body_of c.args.frame.body) c.in-Some-handler_of.entry c.args.number;
    }))
    (λ k. (inits : List ℕ → Init) (ws : List Waiting) → state (world_of inits c.args.world.now) (control_of k) ws
    ≡ unwind_frame (g.S.Shapes.shape c.args.shapes.now) (world_of inits c.args.world.now) c.args.number
    (frame_of c.args.frame) ws
    (g.S.Shapes.code_of c.args.shapes.now c.args.frame.method))
    (λ k h inits ws. ap (λ (x : Doing). state (world_of inits c.args.world.now) x ws) h
    ∙ unwound (g.S.Shapes.shape c.args.shapes.now) inits c.args.world.now c.args.number (frame_of c.args.frame) ws
    c.in-Some.code.now
    (g.S.Shapes.code_of c.args.shapes.now c.args.frame.method) (option_copied c.get-object.result)
    (Some c.in-Some-handler_of.entry)
    c.in-Some.ensures
    (looked_up c.get-object.result c.deref.result.now c.args.number c.get-object.ensures.lookup.0
    c.get-object.ensures.lookup.1
    ∙ ap (λ (os : List Object). slice_get os c.args.number) c.deref.ensures.value)
    (c.in-Some-handler_of.ensures ∙ ap (λ (hs : List Handler). handler_for
    (is_of_class (g.S.Shapes.shape c.args.shapes.now)
    (option_map object_of (option_copied c.get-object.result))) c.args.frame.body.at hs) c.as_slice.ensures))
    c.at_handler.ensures

pub returns-in-None : goal.returns-in-None
returns-in-None g c = λ inits ws. unwound (g.S.Shapes.shape c.args.shapes.now) inits c.args.world.now c.args.number
    (frame_of c.args.frame) ws c.in-Some.code.now
    (g.S.Shapes.code_of c.args.shapes.now c.args.frame.method) (option_copied c.get-object.result) None
    c.in-Some.ensures
    (looked_up c.get-object.result c.deref.result.now c.args.number c.get-object.ensures.lookup.0
    c.get-object.ensures.lookup.1
    ∙ ap (λ (os : List Object). slice_get os c.args.number) c.deref.ensures.value)
    (c.in-None.ensures ∙ ap (λ (hs : List Handler). handler_for (is_of_class (g.S.Shapes.shape c.args.shapes.now)
    (option_map object_of (option_copied c.get-object.result))) c.args.frame.body.at hs) c.as_slice.ensures)
