-- Answers of `check_code`: what its calls ask for, and what it promises.
use Rattle.std.proofs.Common.{◌≡◌, List, [], length, None, ap, ◌∙◌}
use Rattle.class_model.specs.declared.code.Ins.{Ins}
use Rattle.class_model.specs.CanonicalClass.{line_rows}
use Rattle.class_write.proofs.FewFrames.{tables_are}
use Rattle.class_write.proofs.limits.check_code.Goals as goal

pub returns : goal.returns
returns c = λ first.
    let lines : c.line_count.result ≡ length (line_rows None [] c.args.code.now.ins) =
    c.line_count.ensures.count ∙ ap (λ (ins : List Ins). length (line_rows None [] ins)) c.as_slice.ensures in
    tables_are first c.args.code.now c.frames_are_short.ensures c.len.result c.line_count.result c.len-2.result
    c.check_count-3.result c.len.ensures lines c.len-2.ensures
    c.in_ok-check_count.ensures c.in_ok-check_count-2.ensures c.check_count-3.ensures
