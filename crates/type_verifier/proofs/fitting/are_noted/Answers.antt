-- Answers of `are_noted`: what its calls ask for, and what it promises.
use Rattle.std.proofs.Common.{arith, ◌∙◌, ◌<◌, length}
use Rattle.std.proofs.lemmas.List.{get_or_default}
use Rattle.class_model.specs.declared.frame.VType.TheVariants as vtype
use Rattle.type_verifier.proofs.Noting.{told_all, told_more}
use Rattle.type_verifier.proofs.fitting.are_noted.Goals as goal

pub loop-word-init : goal.loop-word-init
loop-word-init c = λ word begun lt. absurd (omega (arith, begun, lt))

pub loop-word-preserved : goal.loop-word-preserved
loop-word-preserved c =
    let types = c.args.types.now in
    let word = c.loop-word.word in
    let within : word < length types = omega (arith, c.loop-word-test.true, c.requires) in
    told_more c.args.noted.now c.args.words.from word types c.index-types-word.result c.loop-word.invariant
    (c.is_noted.ensures c.if-not-is_noted.false)
    (c.index-types-word.is ∙ get_or_default types word c.index-types-word.result vtype.Top within)

pub returns : goal.returns
returns c = λ is.
    told_all c.args.noted.now c.args.words c.args.types.now c.loop-word.word c.loop-word.invariant
    (omega (arith, c.loop-word-test.false))
