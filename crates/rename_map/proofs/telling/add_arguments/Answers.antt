-- Answers of `add_arguments`: what its calls ask for, and what it promises.
use Rattle.std.proofs.Common.{List, flat_map, subst}
use Rattle.std.proofs.lemmas.List.{take_all}
use Rattle.jv_base.specs.declared.types.FieldType.{FieldType}
use Rattle.rename_map.specs.Fixed.{type_classes}
use Rattle.jv_base.specs.Names.{is_text}
use Rattle.rename_map.specs.bodies.Adding.{Adds}
use Rattle.rename_map.proofs.Added.{adds_none, more_adds}
use Rattle.rename_map.proofs.telling.add_arguments.Goals as goal

pub loop-ty-init : goal.loop-ty-init
loop-ty-init c = adds_none c.args.names.now

pub loop-ty-preserved : goal.loop-ty-preserved
loop-ty-preserved c =
    more_adds type_classes c.args.types.now c.loop-ty.ty-index c.ty-item.result c.args.names.now
    c.loop-ty.names
    c.add_type.new.names c.loop-ty-test.true c.ty-item.is c.loop-ty.invariant c.in_ok-add_type.ensures

pub returns : goal.returns
returns c =
    subst (λ (l : List FieldType). Adds is_text c.args.names.now (flat_map type_classes l) c.loop-ty.names)
    (take_all c.loop-ty.ty-index c.args.types.now c.loop-ty-test.false) c.loop-ty.invariant
