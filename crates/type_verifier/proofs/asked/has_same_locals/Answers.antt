-- Answers of `has_same_locals`: what its calls ask for, and what it promises.
use Rattle.std.proofs.Common.{◌≡◌, Bool, IsTrue, sym, ◌∙◌, arith}
use Rattle.class_model.specs.FrameLists.{frame_numbered}
use Rattle.type_verifier.specs.bodies.Asked.{locals_at}
use Rattle.std.proofs.lemmas.Result.{IfOk-weaker}
use Rattle.type_verifier.proofs.Asking.{locals_same}
use Rattle.type_verifier.proofs.asked.has_same_locals.Goals as goal

pub returns-in-Some-Some : goal.returns-in-Some-Some
returns-in-Some-Some c =
    let frames = c.args.code.now.frames in
    let i = c.in-Some-Some.one in
    let j = c.in-Some-Some.other in
    let one-in = c.if-one-len.true in
    let other-in = c.if-other-len.true in
    let count = c.len.ensures in
    let other-count = c.len-then-one-len.ensures in
    IfOk-weaker c.are_same_locals.result
    (λ (has : Bool). IsTrue has → (frame_numbered frames i).frame.locals ≡ (frame_numbered frames j).frame.locals)
    (λ (has : Bool). IsTrue has → locals_at c.args.code.now c.args.one ≡ locals_at c.args.code.now c.args.other)
    (λ has same is. locals_same c.args.code.now c.args.numbers.now c.requires.numbers c.args.one c.args.other i j
    (sym c.number_at.ensures ∙ c.in-Some-Some.is-0) (sym c.number_at-2.ensures ∙ c.in-Some-Some.is-1)
    (omega (arith, one-in, count)) (omega (arith, other-in, other-count)) (same is))
    c.are_same_locals.ensures
