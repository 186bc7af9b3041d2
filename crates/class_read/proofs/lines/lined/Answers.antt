-- Answers of `lined`: what its calls ask for, and what it promises.
use Rattle.std.proofs.Common.{ℕ, List, Option, None, ap, ◌∙◌}
use Rattle.frame_read.specs.bodies.Numbers.{found}
use Rattle.class_read.specs.bodies.Lines.{lined_by, carried}
use Rattle.class_read.proofs.LineTable.{by_table}
use Rattle.class_read.proofs.lines.lined.Goals as goal

pub returns : goal.returns
returns c =
    let there = c.in_ok-there.ensures in
    let lines = c.as_slice-2.ensures.value ∙ c.in_ok-lines.ensures ∙ ap (carried None) c.as_slice.ensures.value in
    c.in_ok-ins.ensures
    ∙ ap (λ (ls : List (Option ℕ)). lined_by (found ls) c.args.starts.now c.args.ops) lines
    ∙ by_table c.args.rows.now c.in_ok-there.there.items c.offsets_up_to-count.result c.args.starts.now c.args.ops
    there.long there.found c.offsets_up_to-count.ensures
