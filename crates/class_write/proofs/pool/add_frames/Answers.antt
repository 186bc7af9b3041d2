-- Answers of `add_frames`: what its calls ask for, and what it promises.
use Rattle.std.proofs.Common.{◌+◌, ◌<◌, ◌≤◌, List, length, ◌∙◌, ap, sym, arith}
use Rattle.indexmap.specs.IndexSet.{insert_all}
use Rattle.class_model.specs.declared.constant.PoolConstant.{PoolConstant}
use Rattle.class_model.specs.CanonicalPool.{same}
use Rattle.class_model.specs.CanonicalFrames.{Form, type_constants, types_written}
use Rattle.std.specs.List.{flat_map}
use Rattle.frame_write.proofs.ByNumber.{constants_from, constants_more, constants_done, form_at}
use Rattle.class_write.proofs.Inserted.{inserted}
use Rattle.class_write.proofs.pool.add_frames.Goals as goal

pub loop-number-preserved : goal.loop-number-preserved
loop-number-preserved c =
    let first = c.args.first.now in
    let frames = c.args.frames.now in
    let number = c.loop-number.number in
    let named : Form → List PoolConstant = λ form. flat_map type_constants (types_written form) in
    let later = constants_from first frames (number + 1) in
    let within : number < length frames = omega (arith, c.loop-number-test.true, c.len-number-end.ensures) in
    ap (λ (pool : List PoolConstant). insert_all same pool later) (c.in_ok-add_form.ensures
    ∙ ap (λ (form : Form). insert_all same c.loop-number.pool (named form)) c.in_ok-form.ensures)
    ∙ inserted c.loop-number.pool (named (form_at first frames number)) later
    ∙ ap (insert_all same c.loop-number.pool) (sym (constants_more first frames number within))
    ∙ c.loop-number.invariant

pub returns : goal.returns
returns c =
    let all : length c.args.frames.now ≤ c.loop-number.number =
    omega (arith, c.loop-number-test.false, c.len-number-end.ensures) in
    sym (ap (insert_all same c.loop-number.pool) (constants_done c.args.first.now c.args.frames.now c.loop-number.number
    all)) ∙ c.loop-number.invariant
