-- Answers of `agree`: what its calls ask for, and what it promises.
use Rattle.std.proofs.Common.{◌≡◌, suc, ◌-◌, List, ap, sym, ◌∙◌, arith, drop, take}
use Rattle.class_model.specs.declared.frame.VType.{VType}
use Rattle.class_model.specs.CanonicalFrames.{same_types}
use Rattle.class_model.specs.FrameLists.{frame_numbered}
use Rattle.frame_write.specs.Forms.{locals_before}
use Rattle.frame_write.proofs.Changes.{agree_shared, agree_behind}
use Rattle.frame_write.proofs.form.agree.Goals as goal

pub returns-then-len-shared : goal.returns-then-len-shared
returns-then-len-shared c =
    let first = c.args.first.now in
    let frames = c.args.frames.now in
    let number = c.args.number in
    let is : locals_before first frames number ≡ (frame_numbered frames (number - 1)).frame.locals
    = ap (locals_before first frames) (let e : number ≡ suc (number - 1) = omega arith in e) in
    agree_shared (locals_before first frames number) (frame_numbered frames number).frame.locals c.args.len
    c.shared-shared.result c.if-len-shared.true (ap (take c.shared-shared.result) is ∙ c.shared-shared.ensures.same)

pub returns : goal.returns
returns c =
    let first = c.args.first.now in
    let frames = c.args.frames.now in
    let number = c.args.number in
    let shared = c.shared-shared.result in
    let rest = c.args.len - shared in
    let before = locals_before first frames number in
    let locals = (frame_numbered frames number).frame.locals in
    let is : before ≡ (frame_numbered frames (number - 1)).frame.locals
    = ap (locals_before first frames) (let e : number ≡ suc (number - 1) = omega arith in e) in
    c.same_types-2.ensures
    ∙ ap (λ (types : List VType). same_types (take rest types) (take rest c.as_slice-3.result.now))
    (c.as_slice-2.ensures ∙ c.in_ok-before.ensures ∙ ap (drop shared) (sym is))
    ∙ ap (λ (types : List VType). same_types (take rest (drop shared before)) (take rest types))
    (c.as_slice-3.ensures ∙ c.in_ok-locals-2.ensures)
    ∙ agree_behind before locals c.args.len shared (omega arith) (ap (take shared) is ∙ c.shared-shared.ensures.same)
