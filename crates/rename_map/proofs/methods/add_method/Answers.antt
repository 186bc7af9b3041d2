-- Answers of `add_method`: what its calls ask for, and what it promises.
use Rattle.std.proofs.Common.{[], ◌∷◌, refl, subst}
use Rattle.std.specs.List.{list_any}
use Rattle.class_rename.specs.Names.{MethodName, is_same_method}
use Rattle.rename_map.specs.bodies.Adding.{Adds}
use Rattle.rename_map.proofs.Added.{adds_one_method}
use Rattle.rename_map.proofs.methods.add_method.Goals as goal

pub returns : goal.returns
returns c =
    let found : MethodName = (c.in_ok-name.name, c.in_ok-descriptor.descriptor) in
    subst (λ (m : MethodName). Adds is_same_method c.args.methods.now (m ∷ []) c.insert.new.self)
    (λ i. (c.in_ok-name.ensures.cases i, c.in_ok-descriptor.ensures.written i))
    (adds_one_method c.args.methods.now c.insert.new.self found (list_any (is_same_method found) c.args.methods.now) refl
    c.in_ok-insert.ensures.keys)
