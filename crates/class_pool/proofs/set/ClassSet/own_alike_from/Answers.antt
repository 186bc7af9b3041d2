-- Answers of `ClassSet::own_alike_from`: what its calls ask for, and what it promises.
use Rattle.std.proofs.Common.{◌≡◌, ◌∙◌, ◌-◌, ℕ, List, length, map, slice_get, Some, subst, sym, ap, arith}
use Rattle.std.proofs.lemmas.Option.{same_Some, slice_get_within}
use Rattle.jv_base.specs.Types.{method_text}
use Rattle.class_model.specs.declared.class.Method.{Method}
use Rattle.class_pool.specs.bodies.Descriptors.{method_texts, text_of}
use Rattle.class_pool.specs.Found.{NameAndType, declared_by}
use Rattle.class_pool.specs.Walk.{superclasses_from, superclasses_up}
use Rattle.class_pool.proofs.LikeMethods.{mapped_at, mapped_within, own_method}
use Rattle.class_pool.proofs.set.ClassSet.own_alike_from.Goals as goal

pub overflow_sub-at : goal.overflow_sub-at
overflow_sub-at c =
    let p = own_method c.args.self.now c.args.number c.args.index c.class-class.result.now c.class-class.ensures.is
    c.requires.method in
    let low = p.1 in
    omega (arith, low, c.len.ensures)

pub index-descriptor-requires : goal.index-descriptor-requires
index-descriptor-requires c =
    let p = own_method c.args.self.now c.args.number c.args.index c.class-class.result.now c.class-class.ensures.is
    c.requires.method in
    let within = slice_get_within c.class-class.result.now.methods
    (c.args.index - length c.class-class.result.now.fields) p.0 p.2 in
    let texts : c.index.result.now ≡ method_texts c.class-class.result.now =
    mapped_at method_texts c.args.self.now c.self.inside.descriptors c.args.number c.class-class.result.now
    c.index.result.now
    (c.self.invariant.5 ∙ ap (map method_texts) c.self.view_is) c.class-class.ensures.is c.index.ensures in
    mapped_within text_of c.class-class.result.now.methods c.index.result.now (c.args.index - c.len.result) texts
    (omega (arith, within, c.len.ensures))

pub index-requires-2 : goal.index-requires-2
index-requires-2 c =
    let p = own_method c.args.self.now c.args.number c.args.index c.class-class.result.now c.class-class.ensures.is
    c.requires.method in
    let within = slice_get_within c.class-class.result.now.methods
    (c.args.index - length c.class-class.result.now.fields) p.0 p.2 in
    omega (arith, within, c.len.ensures)

pub returns-clause-same : goal.returns-clause-same
returns-clause-same c =
    let p = own_method c.args.self.now c.args.number c.args.index c.class-class.result.now c.class-class.ensures.is
    c.requires.method in
    let methods : List Method = c.class-class.result.now.methods in
    let there : slice_get methods (c.args.index - c.len.result)
    ≡ Some p.0 = ap (λ (n : ℕ). slice_get methods (c.args.index - n)) c.len.ensures ∙ p.2 in
    let same : c.index-2.result.now ≡ p.0 = same_Some c.index-2.result.now p.0 (sym c.index-2.ensures ∙ there) in
    let texts : c.index.result.now ≡ method_texts c.class-class.result.now =
    mapped_at method_texts c.args.self.now c.self.inside.descriptors c.args.number c.class-class.result.now
    c.index.result.now
    (c.self.invariant.5 ∙ ap (map method_texts) c.self.view_is) c.class-class.ensures.is c.index.ensures in
    let text : c.index-descriptor.result.now ≡ method_text p.0.ty =
    mapped_at text_of methods c.index.result.now
    (c.args.index - c.len.result) p.0 c.index-descriptor.result.now texts there c.index-descriptor.ensures in
    subst (λ (named : NameAndType). declared_by c.args.self.now named (superclasses_from c.args.self.now c.args.id)
    ≡ declared_by c.args.self.now named (superclasses_up c.args.self.now c.declaring_from.result))
    (ap (λ (x : Method). (x.name, c.index-descriptor.result.now)) same
    ∙ ap (λ (t : List ℕ). (p.0.name, t)) text ∙ sym p.3)
    c.declaring_from.ensures.same
