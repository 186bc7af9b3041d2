-- Answers of `descriptors_of`: what its calls ask for, and what it promises.
use Rattle.std.proofs.Common.{rules, ◌≡◌, ◌∙◌, ◌<◌, List, ℕ, length, get_or, sym, ap, arith, ◌++◌, ◌∷◌, []}
use Rattle.std.proofs.lemmas.Option.{get_or_from_slice_get}
use Rattle.jv_base.proofs.Lists.{mapped_more}
use Rattle.class_pool.specs.bodies.Descriptors.{method_texts}
use Rattle.class_pool.proofs.set.descriptors.descriptors_of.Goals as goal

pub loop-number-preserved : goal.loop-number-preserved
loop-number-preserved c =
    let x = c.class.result.now in
    let at : x ≡ get_or c.args.classes.now c.loop-number.number x = sym
    (get_or_from_slice_get c.args.classes.now c.loop-number.number x x c.class.ensures.is) in
    let within : c.loop-number.number < length c.args.classes.now = omega
    (arith, c.loop-number-test.true, c.len-number-end.ensures) in
    let put : c.push.new.self ≡ c.loop-number.texts ++ c.in_ok-texts_of.field-0 ∷ [] = search rules in
    put ∙ ap (λ (t : List (List ℕ)). c.loop-number.texts ++ t ∷ []) c.in_ok-texts_of.ensures
    ∙ ap (λ (ts : List (List (List ℕ))). ts ++ method_texts x ∷ []) c.loop-number.invariant
    ∙ mapped_more method_texts c.args.classes.now c.loop-number.number x within at
