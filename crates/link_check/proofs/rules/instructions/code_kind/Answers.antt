-- Answers of `code_kind`: what its calls ask for, and what it promises.
use Rattle.std.proofs.Common.{List, ◌++◌, ◌∙◌, ap}
use Rattle.std.specs.List.{flat_map}
use Rattle.class_model.specs.declared.code.Handler.{Handler}
use Rattle.class_model.specs.declared.code.Ins.{Ins}
use Rattle.class_model.specs.declared.frame.FrameAt.{FrameAt}
use Rattle.link_check.specs.declared.fault.ProfileKind.{ProfileKind}
use Rattle.link_check.specs.Profile.{frame_kinds, handler_kinds, least, op_kinds}
use Rattle.link_check.proofs.rules.instructions.code_kind.Goals as goal

pub returns-clause-kind : goal.returns-clause-kind
returns-clause-kind c =
    let of_ins : List Ins → List ProfileKind = λ xs. flat_map
    (λ (i : Ins). op_kinds c.args.set.now c.args.number c.args.method.now i.op) xs in
    let of_handlers : List Handler
    → List ProfileKind = λ xs. flat_map (handler_kinds c.args.set.now c.args.number) xs in
    let of_frames : List FrameAt → List ProfileKind = λ xs. flat_map (frame_kinds c.args.set.now c.args.number) xs in
    c.lesser-2.ensures (of_ins c.args.code.now.ins ++ of_handlers c.args.code.now.handlers)
    (of_frames c.args.code.now.frames)
    (c.lesser.ensures (of_ins c.args.code.now.ins) (of_handlers c.args.code.now.handlers)
    (c.in_ok-of_instructions.ensures.kind ∙ ap (λ (xs : List Ins). least (of_ins xs)) c.as_slice.ensures)
    (c.handlers_kind-of_handlers.ensures ∙ ap (λ (xs : List Handler). least (of_handlers xs)) c.as_slice-2.ensures))
    c.in_ok-of_frames.ensures
