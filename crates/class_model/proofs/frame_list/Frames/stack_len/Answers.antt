-- Answers of `Frames::stack_len`: what its calls ask for, and what it promises.
use Rattle.std.proofs.Common.{length, ap, sym, ◌∙◌}
use Rattle.class_model.specs.declared.frame.FrameAt.{FrameAt}
use Rattle.class_model.proofs.TypesAbove.{length-up_to}
use Rattle.class_model.proofs.RowsHeld.{row_numbered}
use Rattle.class_model.proofs.frame_list.Frames.stack_len.Goals as goal

pub returns : goal.returns
returns c =
    let row = c.index.result.now in
    sym (ap (λ (f : FrameAt). length f.frame.stack) (row_numbered c.self.inside.lists c.self.inside.rows.items
    c.args.self.now
    c.args.number row c.self.view_is c.requires c.index.ensures)
    ∙ length-up_to c.self.inside.lists row.stack.len row.stack.top)
