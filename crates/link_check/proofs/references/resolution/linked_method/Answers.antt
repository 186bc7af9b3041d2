-- Answers of `linked_method`: what its calls ask for, and what it promises.
use Rattle.std.proofs.Common.{◌∙◌, ap, sym}
use Rattle.std.specs.Bool.{beq}
use Rattle.class_pool.specs.declared.id.ClassId.TheVariants.{Prog}
use Rattle.class_pool.specs.Resolution.{is_interface_in}
use Rattle.link_check.specs.Links.{linked}
use Rattle.link_check.proofs.Linking.{method_linked}
use Rattle.link_check.proofs.references.resolution.linked_method.Goals as goal

pub returns-clause-is : goal.returns-clause-is
returns-clause-is c =
    c.linked.ensures.is
    ∙ ap (λ t. linked c.args.set.now
    (Prog c.args.from) c.in_ok-named.field-0 t c.method_found-found.result) c.is_named_rightly-right.ensures
    ∙ ap (linked c.args.set.now (Prog c.args.from) c.in_ok-named.field-0
    (beq (is_interface_in c.args.set.now c.in_ok-named.field-0) c.args.r.now.of_interface))
    c.method_found-found.ensures.is
    ∙ sym (method_linked c.args.set.now
    (Prog c.args.from) c.args.r.now c.in-Class.name c.in_ok-named.field-0 c.if-r-ne0.false c.in-Class.is
    (sym c.accessible_class.ensures.is ∙ c.in_ok-named.was))
