-- Answers of `change_of`: what its calls ask for, and what it promises.
use Rattle.std.proofs.Common.{◌≡◌, ◌-◌, ℕ, length, ap, sym, ◌∙◌, arith}
use Rattle.class_model.specs.FrameLists.{frame_numbered}
use Rattle.frame_write.specs.declared.form.Change.TheVariants as change
use Rattle.frame_write.specs.Forms.{locals_before}
use Rattle.frame_write.proofs.Changes.{agree_fewer, disagree, fewer}
use Rattle.frame_write.proofs.form.change_of.Goals as goal

pub returns-then-not-branch : goal.returns-then-not-branch
returns-then-not-branch c =
    let before = locals_before c.args.first.now c.args.frames.now c.args.number in
    let locals = (frame_numbered c.args.frames.now c.args.number).frame.locals in
    sym (disagree before locals c.min.result (omega arith) (omega arith)
    (sym c.in_ok-agree.ensures ∙ c.if-not-branch.true))

pub returns-then-gone-gt0 : goal.returns-then-gone-gt0
returns-then-gone-gt0 c =
    let before = locals_before c.args.first.now c.args.frames.now c.args.number in
    let locals = (frame_numbered c.args.frames.now c.args.number).frame.locals in
    let same = agree_fewer before locals c.min.result (omega arith) (omega arith)
    (sym c.in_ok-agree.ensures ∙ c.if-not-branch.false) in
    let gone : c.saturating_sub-gone.result ≡ length before - length locals = omega arith in
    ap (λ (n : ℕ). change.Fewer n) gone ∙ sym (fewer before locals (omega arith) (omega arith) same)
