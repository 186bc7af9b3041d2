-- Answers of `want_special_ref`: what its calls ask for, and what it promises.
use Rattle.std.proofs.Common.{List, ap, sym, ◌∙◌}
use Rattle.class_model.specs.declared.class.Class.{Class}
use Rattle.class_pool.specs.declared.id.ClassId.TheVariants.{Prog}
use Rattle.link_check.specs.Links.{resolved_method}
use Rattle.item_needs.proofs.Referring.{special_fails, special_means}
use Rattle.item_needs.proofs.code.want_special_ref.Goals as goal

pub returns-in-Ok : goal.returns-in-Ok
returns-in-Ok c =
    special_means c.args.number c.args.r.now c.args.wants.now c.want_base.new.wants c.want_method_text.new.wants
    c.in_ok-want_base.ensures c.in_ok-want_method_text.ensures c.want_special.result c.want_special.new.wants _
    (ap (λ (cs : List Class). resolved_method cs (Prog c.args.number) c.args.r.now) (sym c.set.ensures)
    ∙ sym c.resolve_method.ensures.is ∙ c.in-Ok.is) c.want_special.ensures

pub returns-in-Err : goal.returns-in-Err
returns-in-Err c =
    special_fails c.args.number c.args.r.now c.args.wants.now c.want_base.new.wants c.want_method_text.new.wants
    c.in_ok-want_base.ensures c.in_ok-want_method_text.ensures c.in-Err.field-0
    (ap (λ (cs : List Class). resolved_method cs (Prog c.args.number) c.args.r.now) (sym c.set.ensures)
    ∙ sym c.resolve_method.ensures.is ∙ c.in-Err.is)
