-- Answers of `add_code`: what its calls ask for, and what it promises.
use Rattle.std.proofs.Common.{[], None, codes}
use Rattle.std.specs.List.{flat_map}
use Rattle.std.proofs.lemmas.Result.{IfOk-equal}
use Rattle.class_model.specs.declared.code.Ins.{Ins}
use Rattle.class_model.specs.declared.code.Handler.{Handler}
use Rattle.class_model.specs.CanonicalCode.{op_constants}
use Rattle.class_model.specs.CanonicalFrames.{frame_constants}
use Rattle.class_model.specs.CanonicalClass.{caught_constants, attribute_constants, is_some_item, line_rows}
use Rattle.class_write.proofs.Inserted.{four_inserted}
use Rattle.class_write.proofs.pool.add_code.Goals as goal

pub returns : goal.returns
returns c =
    let code = c.args.code.now in
    IfOk-equal c.add_stack_map.result _ _ _ c.add_stack_map.ensures
    (rw (
      c.in_ok-add_lines.ensures,
      c.in_ok-add_handlers.ensures,
      c.in_ok-add_instructions.ensures,
      c.as_slice.ensures,
      c.as_slice-2.ensures,
      c.as_slice-3.ensures,
    )
    (four_inserted c.args.pool.now (flat_map (λ (i : Ins). op_constants i.op) code.ins)
    (flat_map (λ (h : Handler). caught_constants h.caught) code.handlers)
    (attribute_constants (is_some_item (line_rows None [] code.ins)) (codes "LineNumberTable") [])
    (attribute_constants (is_some_item code.frames) (codes "StackMapTable")
    (frame_constants c.args.first.now code.frames))))
