-- Answers of `old_classes`: what its calls ask for, and what it promises.
use Rattle.std.proofs.Common.{◌∷◌, ◌++◌, [], List, take, sym, subst, ap, ◌∙◌}
use Rattle.std.proofs.lemmas.List.{take_more}
use Rattle.mapping_file.specs.declared.mapping.MapClass.{MapClass}
use Rattle.retrace_core.specs.bodies.Tables.{TellsClasses}
use Rattle.retrace_core.proofs.old_names.old_classes.Goals as goal

pub loop-class-preserved : goal.loop-class-preserved
loop-class-preserved c =
    let i = c.loop-class.class-index in
    let e = c.as_slice-class-items.ensures in
    let lt = rw e at c.loop-class-test.true in
    let is = rw e at c.class-item.is in
    subst (λ (cs : List MapClass). TellsClasses c.put_class.new.table cs)
    (sym (take_more c.args.map.now.classes i c.class-item.result lt
    ∙ ap (λ (d : MapClass). take i c.args.map.now.classes ++ d ∷ []) (sym is)))
    (c.in_ok-put_class.ensures (take i c.args.map.now.classes) c.loop-class.invariant)
