-- Frames whose types stand in lists (only the proofs of Frames and FrameBuilder need it).
use Rattle.std.specs.Prelude.{List}
use Rattle.class_model.specs.declared.frame.FrameAt.{FrameAt}
use Rattle.class_model.specs.declared.type_lists.TypeAbove.{TypeAbove}
use Rattle.class_model.specs.declared.frame_list.FrameRow.{FrameRow}
use Rattle.class_model.specs.bodies.TypeLists.{types_in, IsHeld}

-- the frame of a row
abbrev pub frame_of : List TypeAbove → FrameRow → FrameAt
frame_of types row = record {
  index = row.index;
  frame = record {
    locals = types_in types row.locals;
    stack
        = types_in types row.stack;
  };
}

-- its lists lie in these types
pub record IsRowHeld (types : List TypeAbove) (row : FrameRow) : Type 0 where
  pub locals : IsHeld types row.locals
  pub stack : IsHeld types row.stack
