-- Answers of `lines_in`: what its calls ask for, and what it promises.
use Rattle.std.proofs.Common.{List, ◌≡◌, ◌<◌, ◌∙◌, ap, filter_map, get_or, length, subst, take}
use Rattle.class_model.specs.declared.code.Ins.{Ins}
use Rattle.rename_map.specs.MappingOf.{range_of}
use Rattle.rename_map.proofs.Ranges.{lines_more}
use Rattle.rename_map.proofs.mapping.lines_in.Goals as goal

pub loop-instruction-preserved : goal.loop-instruction-preserved
loop-instruction-preserved c =
    let all = c.as_slice-instruction-items.ensures in
    c.with_line_of-range.ensures
    (filter_map (λ (n : Ins). n.line) (take c.loop-instruction.instruction-index c.args.code.now.ins))
    c.loop-instruction.invariant
    ∙ ap range_of (lines_more c.args.code.now.ins c.loop-instruction.instruction-index c.instruction-item.result
    (subst (λ (l : List Ins). c.loop-instruction.instruction-index < length l) all c.loop-instruction-test.true)
    (subst (λ (l : List Ins). c.instruction-item.result ≡ get_or l c.loop-instruction.instruction-index
    c.instruction-item.result) all c.instruction-item.is))
