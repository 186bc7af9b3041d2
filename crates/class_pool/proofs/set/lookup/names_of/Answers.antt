-- Answers of `names_of`: what its calls ask for, and what it promises.
use Rattle.std.proofs.Common.{◌≡◌, ◌∙◌, ◌<◌, List, length, get_or, ap, arith}
use Rattle.class_model.specs.declared.class.Class.{Class}
use Rattle.class_pool.proofs.Naming.{name_put}
use Rattle.class_pool.proofs.set.lookup.names_of.Goals as goal

pub loop-class-preserved : goal.loop-class-preserved
loop-class-preserved c =
    let x = c.class-item.result in
    let at : x ≡ get_or c.args.classes.now c.loop-class.class-index x = c.class-item.is
    ∙ ap (λ (xs : List Class). get_or xs c.loop-class.class-index x) c.as_slice-class-items.ensures in
    let within : c.loop-class.class-index < length c.args.classes.now = omega
    (arith, c.loop-class-test.true, ap length c.as_slice-class-items.ensures) in
    c.in_ok-insert_name.ensures
    ∙ name_put c.args.classes.now c.loop-class.class-index x c.loop-class.names c.requires within at
    c.loop-class.invariant
