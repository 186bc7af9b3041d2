-- Answers of `Frames::push`: what its calls ask for, and what it promises.
use Rattle.std.proofs.Common.{◌≡◌, List, [], ◌∷◌, ◌++◌, map, ap, ◌∙◌}
use Rattle.class_model.specs.declared.frame.VType.{VType}
use Rattle.class_model.specs.declared.frame.FrameAt.{FrameAt}
use Rattle.class_model.specs.declared.frame_list.FrameRow.{FrameRow}
use Rattle.class_model.specs.bodies.TypeLists.{types_in}
use Rattle.class_model.specs.bodies.HeldFrames.{frame_of}
use Rattle.class_model.proofs.TypesAbove.{grows_twice}
use Rattle.class_model.proofs.RowsHeld.{types_stay, one_more_row}
use Rattle.class_model.proofs.frame_list.Frames.push.Goals as goal

pub returns : goal.returns
returns c =
    let types = c.self.inside.lists in
    let more = c.push_all-2.new.self in
    let grows = grows_twice types c.push_all.new.self more c.in_ok-locals.ensures.grows c.in_ok-stack.ensures.grows in
    let row : FrameRow = record {
      index = c.args.frame.index;
      locals = c.in_ok-locals.locals;
      stack
          = c.in_ok-stack.stack;
    } in
    let frame : List VType → List VType → FrameAt
    = λ locals on. record { index = c.args.frame.index; frame = record { locals = locals; stack = on } } in
    let locals : types_in more row.locals ≡ c.args.frame.frame.locals
    = types_stay c.push_all.new.self more row.locals c.in_ok-stack.ensures.grows c.in_ok-locals.ensures.held
    ∙ c.in_ok-locals.ensures.types in
    ap (λ (rows : List FrameRow). map (frame_of more) rows) c.in_ok-push.ensures.items
    ∙ one_more_row types more c.self.inside.rows.items row grows c.self.invariant
    ∙ ap (λ (frames : List FrameAt). frames ++ frame_of more row ∷ []) c.self.view_is
    ∙ ap (λ (ls : List VType). c.args.self.now ++ frame ls (types_in more row.stack) ∷ []) locals
    ∙ ap (λ (ts : List VType). c.args.self.now ++ frame c.args.frame.frame.locals ts ∷ []) c.in_ok-stack.ensures.types
