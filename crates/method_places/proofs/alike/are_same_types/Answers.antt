-- Answers of `are_same_types`: what its calls ask for, and what it promises.
use Rattle.std.proofs.Common.{◌∙◌, ◌<◌, arith, length, refl, sym}
use Rattle.std.proofs.lemmas.List.{get_or_default, take_more_same}
use Rattle.method_places.proofs.alike.are_same_types.Goals as goal

pub loop-index-preserved : goal.loop-index-preserved
loop-index-preserved c =
    let long = c.if-one-other.false in
    let inside : c.loop-index.index < length c.args.other.now = omega (arith, long, c.loop-index-test.true) in
    take_more_same c.args.one.now c.args.other.now c.loop-index.index c.index-one-index.result c.loop-index-test.true
    inside c.loop-index.invariant
    (sym c.index-one-index.is ∙ c.if-not-is_same_type.ensures refl ∙ c.index-other-index.is
    ∙ get_or_default c.args.other.now c.loop-index.index c.index-other-index.result c.index-one-index.result inside)
