-- Answers of `Frames::top_of_stack`: what its calls ask for, and what it promises.
use Rattle.std.proofs.Common.{◌≡◌, ◌-◌, ◌<◌, length, List, Result, Ok, Err, ap, sym, ◌∙◌, arith, Some}
use Rattle.std.specs.Prelude.{slice_get, IfOk}
use Rattle.class_model.specs.declared.frame.VType.{VType}
use Rattle.class_model.specs.declared.frame.FrameAt.{FrameAt}
use Rattle.class_model.specs.FrameLists.{frame_numbered}
use Rattle.class_model.specs.bodies.TypeLists.{numbered, types_in}
use Rattle.class_model.proofs.TypesAbove.{last_is, length-up_to}
use Rattle.class_model.proofs.RowsHeld.{row_numbered}
use Rattle.class_model.proofs.frame_list.Frames.top_of_stack.Goals as goal

given : {E : Type 0} → (r : Result VType E) (top : VType) (types : List VType)
    → slice_get types (length types - 1) ≡ Some top → IfOk r (λ ty. ty ≡ top)
    → IfOk r (λ ty. slice_get types (length types - 1) ≡ Some ty)
given (Ok ty) top types is h = is ∙ ap (λ (t : VType). Some t) (sym h)
given (Err e) top types is h = tt

pub returns : goal.returns
returns c =
    let row = c.index.result.now in
    let types = c.self.inside.lists in
    let stack : (frame_numbered c.args.self.now c.args.number).frame.stack ≡ types_in types row.stack =
    ap (λ (f : FrameAt). f.frame.stack) (row_numbered types c.self.inside.rows.items c.args.self.now c.args.number row
    c.self.view_is c.requires.number c.index.ensures) in
    let size = length-up_to types row.stack.len row.stack.top in
    let some : 0 < row.stack.len = omega (arith, c.requires.some, ap (length {A = VType}) stack, size) in
    given c.last.result (numbered types row.stack.top).ty (frame_numbered c.args.self.now c.args.number).frame.stack
    (ap (λ (ts : List VType). slice_get ts (length ts - 1)) stack ∙ last_is types row.stack some) c.last.ensures
