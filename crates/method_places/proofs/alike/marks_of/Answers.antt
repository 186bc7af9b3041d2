-- Answers of `marks_of`: what its calls ask for, and what it promises.
use Rattle.std.proofs.Common.{◌≡◌, ◌∙◌, ◌<◌, List, ℕ, length, get_or, sym, ap, arith, ◌++◌, ◌∷◌, [], rules}
use Rattle.std.proofs.lemmas.Option.{get_or_from_slice_get}
use Rattle.jv_base.proofs.Lists.{mapped_more}
use Rattle.method_places.specs.bodies.Alike.{class_marks}
use Rattle.method_places.proofs.alike.marks_of.Goals as goal

pub loop-number-preserved : goal.loop-number-preserved
loop-number-preserved c =
    let x = c.class-class.result.now in
    let at : x ≡ get_or c.args.set.now c.loop-number.number x = sym
    (get_or_from_slice_get c.args.set.now c.loop-number.number x x c.class-class.ensures.is) in
    let within : c.loop-number.number < length c.args.set.now = omega
    (arith, c.loop-number-test.true, c.len-number-end.ensures) in
    let put : c.push.new.self ≡ c.loop-number.marks ++ c.in_ok-class_marks.field-0 ∷ [] = search rules in
    put ∙ ap (λ (t : List ℕ). c.loop-number.marks ++ t ∷ []) c.in_ok-class_marks.ensures
    ∙ ap (λ (ts : List (List ℕ)). ts ++ class_marks x ∷ []) c.loop-number.invariant
    ∙ mapped_more class_marks c.args.set.now c.loop-number.number x within at
