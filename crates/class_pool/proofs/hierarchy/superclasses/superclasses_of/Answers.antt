-- Answers of `superclasses_of`: what its calls ask for, and what it promises.
use Rattle.std.proofs.Common.{rules, ◌≡◌, ◌∙◌, ◌<◌, List, Option, length, get_or, sym, ap, arith, ◌++◌, ◌∷◌, []}
use Rattle.std.proofs.lemmas.Option.{get_or_from_slice_get}
use Rattle.jv_base.proofs.Lists.{mapped_more}
use Rattle.class_pool.specs.Hierarchy.{superclass_of}
use Rattle.class_pool.specs.declared.id.ClassId.{ClassId}
use Rattle.class_pool.proofs.hierarchy.superclasses.superclasses_of.Goals as goal

pub loop-number-preserved : goal.loop-number-preserved
loop-number-preserved c =
    let x = c.class.result.now in
    let at : x ≡ get_or c.args.classes.now c.loop-number.number x = sym
    (get_or_from_slice_get c.args.classes.now c.loop-number.number x x c.class.ensures.is) in
    let within : c.loop-number.number < length c.args.classes.now = omega
    (arith, c.loop-number-test.true, c.len-number-end.ensures.is) in
    let put : c.push.new.self ≡ c.loop-number.ids ++ c.find.result ∷ [] = search rules in
    put ∙ ap (λ (t : Option ClassId). c.loop-number.ids ++ t ∷ []) c.find.ensures.found
    ∙ ap (λ (ts : List (Option ClassId)). ts ++ superclass_of c.args.classes.now x ∷ []) c.loop-number.invariant
    ∙ mapped_more (superclass_of c.args.classes.now) c.args.classes.now c.loop-number.number x within at
