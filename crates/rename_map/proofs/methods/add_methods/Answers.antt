-- Answers of `add_methods`: what its calls ask for, and what it promises.
use Rattle.std.proofs.Common.{◌≡◌, ◌<◌, ◌+◌, ◌∷◌, [], ◌∙◌, ap, get_or, length, map, sym, subst, take, List, arith}
use Rattle.std.proofs.lemmas.List.{take_all}
use Rattle.jv_base.specs.Types.{method_text}
use Rattle.class_model.specs.declared.class.Method.{Method}
use Rattle.class_rename.specs.Names.{MethodName, is_same_method}
use Rattle.member_shrink.specs.Shrunk.{chosen, is_marked}
use Rattle.rename_map.specs.bodies.Adding.{Adds}
use Rattle.rename_map.proofs.Added.{adds_none, chosen_adds, each_tells}
use Rattle.rename_map.proofs.methods.add_methods.Goals as goal

pub loop-method-init : goal.loop-method-init
loop-method-init c = (omega arith, adds_none c.args.methods.now)

pub loop-method-preserved : goal.loop-method-preserved
loop-method-preserved c =
    let name : Method → MethodName = λ (m : Method). (m.name, method_text m.ty) in
    let all = c.as_slice-method-items.ensures in
    let first = 1 + length c.args.class.now.fields in (
      omega (arith, c.loop-method.invariant.0),
      subst (λ (l : List MethodName). Adds is_same_method c.args.methods.now l c.add_if.new.methods)
          (each_tells name (chosen c.args.row.now first (take (c.loop-method.method-index + 1) c.args.class.now.methods)))
          (chosen_adds (λ (m : Method). name m ∷ []) c.args.row.now first c.args.class.now.methods
          c.loop-method.method-index c.method-item.result c.args.methods.now c.loop-method.methods c.add_if.new.methods
          c.is_marked-is_chosen.result
          (subst (λ (l : List Method). c.loop-method.method-index < length l) all c.loop-method-test.true)
          (subst (λ (l : List Method). c.method-item.result ≡ get_or l c.loop-method.method-index c.method-item.result)
          all c.method-item.is)
          (c.is_marked-is_chosen.ensures ∙ ap (is_marked c.args.row.now) c.loop-method.invariant.0)
          (subst (λ (l : List MethodName). Adds is_same_method c.args.methods.now l c.loop-method.methods)
          (sym (each_tells name (chosen c.args.row.now first (take c.loop-method.method-index c.args.class.now.methods))))
          c.loop-method.invariant.1)
          c.in_ok-add_if.ensures),
    )

pub returns : goal.returns
returns c =
    let all = c.as_slice-method-items.ensures in
    subst (λ (l : List Method). Adds is_same_method c.args.methods.now
    (map (λ (m : Method). (m.name, method_text m.ty)) (chosen c.args.row.now (1 + length c.args.class.now.fields) l))
    c.loop-method.methods)
    (ap (take c.loop-method.method-index) (sym all)
    ∙ take_all c.loop-method.method-index c.as_slice-method-items.result.now c.loop-method-test.false ∙ all)
    c.loop-method.invariant.1
