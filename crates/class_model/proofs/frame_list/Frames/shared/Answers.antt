-- Answers of `Frames::shared`: what its calls ask for, and what it promises.
use Rattle.std.proofs.Common.{◌≡◌, length, ap, ◌∙◌, arith}
use Rattle.class_model.specs.declared.frame.FrameAt.{FrameAt}
use Rattle.class_model.specs.FrameLists.{frame_numbered}
use Rattle.class_model.proofs.TypesAbove.{length-up_to}
use Rattle.class_model.proofs.RowsHeld.{row_numbered}
use Rattle.class_model.proofs.frame_list.Frames.shared.Goals as goal

pub returns-clause-one : goal.returns-clause-one
returns-clause-one c =
    let row = c.index.result.now in
    let size : length (frame_numbered c.args.self.now c.args.one).frame.locals ≡ row.locals.len
    = ap (λ (f : FrameAt). length f.frame.locals) (row_numbered c.self.inside.lists c.self.inside.rows.items
    c.args.self.now
    c.args.one row c.self.view_is c.requires.one c.index.ensures)
    ∙ length-up_to c.self.inside.lists row.locals.len row.locals.top in
    let within = c.shared.ensures.one in
    omega (arith, size, within)

pub returns-clause-other : goal.returns-clause-other
returns-clause-other c =
    let row = c.index-2.result.now in
    let size : length (frame_numbered c.args.self.now c.args.other).frame.locals ≡ row.locals.len
    = ap (λ (f : FrameAt). length f.frame.locals) (row_numbered c.self.inside.lists c.self.inside.rows.items
    c.args.self.now
    c.args.other row c.self.view_is c.requires.other c.index-2.ensures)
    ∙ length-up_to c.self.inside.lists row.locals.len row.locals.top in
    let within = c.shared.ensures.other in
    omega (arith, size, within)
