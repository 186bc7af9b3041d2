-- Answers of `frame_kind`: what its calls ask for, and what it promises.
use Rattle.std.proofs.Common.{List, ◌++◌, ◌∙◌, ap, drop}
use Rattle.std.specs.List.{flat_map}
use Rattle.class_model.specs.declared.frame.VType.{VType}
use Rattle.class_model.specs.FrameLists.{frame_numbered}
use Rattle.link_check.specs.declared.fault.ProfileKind.{ProfileKind}
use Rattle.link_check.specs.Profile.{least, verification_kinds}
use Rattle.link_check.proofs.Frames.{new_kinds}
use Rattle.link_check.proofs.rules.instructions.frame_kind.Goals as goal

pub returns : goal.returns
returns c =
    let kinds : VType → List ProfileKind = verification_kinds c.args.set.now c.args.number in
    let of : List VType → List ProfileKind = λ types. flat_map kinds types in
    let frame = frame_numbered c.args.frames.now c.args.at in
    let locals = drop c.shared_locals.result frame.frame.locals in (
      of locals ++ of frame.frame.stack,
      c.lesser.ensures (of locals) (of frame.frame.stack)
          (c.verification_types_kind-of_locals.ensures ∙ ap (λ (types : List VType). least (of types))
          (c.as_slice.ensures ∙ c.in_ok-locals.ensures))
          (c.verification_types_kind-of_stack.ensures ∙ ap (λ (types : List VType). least (of types))
          (c.as_slice-2.ensures ∙ c.in_ok-stack.ensures)),
      new_kinds kinds c.args.frames.now c.args.at c.shared_locals.result c.requires.frame c.shared_locals.ensures.first
          c.shared_locals.ensures.same,
    )
