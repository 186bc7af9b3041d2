-- Answers of `packages_of`: what its calls ask for, and what it promises.
use Rattle.std.proofs.Common.{◌≡◌, ◌∙◌, ◌<◌, List, ℕ, length, get_or, sym, ap, arith, ◌++◌, ◌∷◌, [], rules}
use Rattle.std.proofs.lemmas.Option.{get_or_from_slice_get}
use Rattle.jv_base.proofs.Lists.{mapped_more}
use Rattle.class_model.specs.declared.class.Class.{Class}
use Rattle.class_pool.specs.Found.{package_of}
use Rattle.method_places.specs.bodies.Places.{package_number}
use Rattle.method_places.proofs.places.packages_of.Goals as goal

pub loop-number-preserved : goal.loop-number-preserved
loop-number-preserved c =
    let x = c.class-class.result.now in
    let at : x ≡ get_or c.args.set.now c.loop-number.number x = sym
    (get_or_from_slice_get c.args.set.now c.loop-number.number x x c.class-class.ensures.is) in
    let within : c.loop-number.number < length c.args.set.now = omega
    (arith, c.loop-number-test.true, c.len-number-end.ensures) in
    let put : c.push.new.self ≡ c.loop-number.packages ++ c.in_ok-package_number.field-0 ∷ [] = search rules in
    put ∙ ap (λ (t : ℕ). c.loop-number.packages ++ t ∷ []) c.in_ok-package_number.ensures
    ∙ ap (λ (ts : List ℕ). ts ++ package_number c.args.names.now (package_of x.name) ∷ []) c.loop-number.invariant
    ∙ mapped_more (λ (y : Class). package_number c.args.names.now (package_of y.name)) c.args.set.now
    c.loop-number.number x within at
