-- Answers of `texts_of`: what its calls ask for, and what it promises.
use Rattle.std.proofs.Common.{◌≡◌, ◌∙◌, ◌<◌, List, ℕ, length, get_or, ap, arith, ◌++◌, ◌∷◌, []}
use Rattle.jv_base.proofs.Lists.{mapped_more}
use Rattle.class_model.specs.declared.class.Method.{Method}
use Rattle.class_pool.specs.bodies.Descriptors.{text_of}
use Rattle.class_pool.proofs.set.descriptors.texts_of.Goals as goal

pub loop-method-preserved : goal.loop-method-preserved
loop-method-preserved c =
    let x = c.method-item.result in
    let ms = c.args.class.now.methods in
    let at : x ≡ get_or ms c.loop-method.method-index x = c.method-item.is
    ∙ ap (λ (xs : List Method). get_or xs c.loop-method.method-index x) c.as_slice-method-items.ensures in
    let within : c.loop-method.method-index < length ms = omega
    (arith, c.loop-method-test.true, ap length c.as_slice-method-items.ensures) in
    c.in_ok-push_text.ensures ∙ ap (λ (t : List ℕ). c.loop-method.texts ++ t ∷ []) c.in_ok-method_text.ensures.written
    ∙ ap (λ (ts : List (List ℕ)). ts ++ text_of x ∷ []) c.loop-method.invariant
    ∙ mapped_more text_of ms c.loop-method.method-index x within at
