-- The frames of rows whose types stand in lists.
use Rattle.std.proofs.Common.{◌≡◌, ℕ, ◌<◌, List, [], ◌∷◌, ◌++◌, length, map, get_or, All, refl, sym, ap, ◌∙◌}
use Rattle.std.proofs.Common.{arith}
use Rattle.std.proofs.lemmas.List.{get_or-map, length-map, map_push}
use Rattle.std.proofs.lemmas.List.Elements.{All-head, All-tail, All-weaker}
use Rattle.class_model.specs.declared.frame.FrameAt.{FrameAt}
use Rattle.class_model.specs.declared.type_lists.TypeAbove.{TypeAbove}
use Rattle.class_model.specs.declared.type_lists.TypeList.{TypeList}
use Rattle.class_model.specs.declared.frame_list.FrameRow.{FrameRow}
use Rattle.class_model.specs.bodies.TypeLists.{types_in, IsHeld, Grows}
use Rattle.class_model.specs.FrameLists.{no_frame, frame_numbered}
use Rattle.class_model.specs.bodies.HeldFrames.{frame_of, IsRowHeld}

-- the frame of a number is that of its row
pub row_numbered : (types : List TypeAbove) (rows : List FrameRow) (frames : List FrameAt) (number : ℕ) (row : FrameRow)
    → map (frame_of types) rows ≡ frames → number < length frames → row ≡ get_or rows number row
    → frame_numbered frames number ≡ frame_of types row
row_numbered types rows frames number row view lt is =
    let size : length frames ≡ length rows = ap length (sym view) ∙ length-map rows (frame_of types) in
    ap (λ (fs : List FrameAt). frame_numbered fs number) (sym view)
    ∙ get_or-map (frame_of types) rows number row no_frame (omega (arith, size, lt)) ∙ ap (frame_of types) (sym is)

-- ---- more types

pub held_on : (types more : List TypeAbove) (list : TypeList) → Grows types more → IsHeld types list → IsHeld more list
held_on types more list grows held = record {
  len = omega (arith, grows.longer, held.len);
  top = omega (arith, grows.longer, held.top);
}

pub types_stay : (types more : List TypeAbove) (list : TypeList) → Grows types more → IsHeld types list
    → types_in more list ≡ types_in types list
types_stay types more list grows held = grows.same list.len list.top held.top

row_on : (types more : List TypeAbove) → Grows types more → (row : FrameRow) → IsRowHeld types row → IsRowHeld more row
row_on types more grows row held = record {
  locals = held_on types more row.locals grows held.locals;
  stack = held_on types more row.stack grows held.stack;
}

pub rows_on : (types more : List TypeAbove) (rows : List FrameRow) → Grows types more → All (IsRowHeld types) rows
    → All (IsRowHeld more) rows
rows_on types more rows grows held =
    All-weaker (IsRowHeld types) (IsRowHeld more) (row_on types more grows) rows held

frame_stays : (types more : List TypeAbove) (row : FrameRow) → Grows types more → IsRowHeld types row
    → frame_of more row ≡ frame_of types row
frame_stays types more row grows held =
    let locals = types_stay types more row.locals grows held.locals in
    let stack = types_stay types more row.stack grows held.stack in
    rw (locals, stack) refl

pub frames_stay : (types more : List TypeAbove) (rows : List FrameRow) → Grows types more → All (IsRowHeld types) rows
    → map (frame_of more) rows ≡ map (frame_of types) rows
frames_stay types more [] grows held = refl
frames_stay types more (row ∷ rows) grows held =
    ap (λ (f : FrameAt). f ∷ map (frame_of more) rows)
    (frame_stays types more row grows (All-head (IsRowHeld types) row rows held))
    ∙ ap (λ (fs : List FrameAt). frame_of types row ∷ fs)
    (frames_stay types more rows grows (All-tail (IsRowHeld types) row rows held))

-- one more row, with more types
pub one_more_row : (types more : List TypeAbove) (rows : List FrameRow) (row : FrameRow) → Grows types more
    → All (IsRowHeld types) rows
    → map (frame_of more) (rows ++ row ∷ []) ≡ map (frame_of types) rows ++ frame_of more row ∷ []
one_more_row types more rows row grows held =
    map_push (frame_of more) rows row
    ∙ ap (λ (fs : List FrameAt). fs ++ frame_of more row ∷ []) (frames_stay types more rows grows held)
