-- Answers of `system_of`: what its calls ask for, and what it promises.
use Rattle.std.proofs.Common.{rules, ◌≡◌, Bool, List, Result, Err, arith, subst, sym, ◌∙◌}
use Rattle.std.specs.Option.{ForSome}
use Rattle.jv_base.specs.Outcome.{IsDue}
use Rattle.jv_base.specs.declared.outcome.Or.{Or}
use Rattle.mark_core.specs.declared.system.System.{System}
use Rattle.class_model.specs.declared.class.Class.{Class}
use Rattle.rule_system.specs.Required.{system_due}
use Rattle.method_places.specs.bodies.Alike.{AreRows}
use Rattle.item_numbers.specs.bodies.Alone.{AreAlone}
use Rattle.item_needs.specs.bodies.Asked.{AreMembers}
use Rattle.require_sys.specs.declared.kept.KeptByRules.{KeptByRules}
use Rattle.require_sys.specs.declared.limits.Counted.TheVariants.{Items}
use Rattle.require_sys.specs.declared.limits.TooMany.{TooMany}
use Rattle.rule_system.proofs.AskedThere.{are_members, due_valid, items_fault, whole_due}
use Rattle.rule_system.proofs.Limiting.{fits}
use Rattle.rule_system.proofs.system.system_of.Goals as goal

pub returns-in_err-within-clause-exact : goal.returns-in_err-within-clause-exact
returns-in_err-within-clause-exact c =
    let same : c.from_residual-in_err-within.result ≡ Err c.in_err-within.field-0.0 = search rules in
    let count : c.from.result ≡ c.count.result = search rules in
    subst (λ (r : Result System (Or TooMany)). IsDue r (system_due c.args.set.now c.args.rules.now)) (sym same)
    (items_fault c.args.set.now _ c.args.rules.now c.from.result tt c.in_err-within.field-0.0 c.in_ok-numbered.ensures
    (count ∙ c.count.ensures) c.in_err-within.ensures)

pub of-requires : goal.of-requires
of-requires c =
    subst (λ (flags : List Bool). ForSome c.object-object.result (λ x. AreAlone c.args.set.now x flags))
    (sym c.as_slice.ensures) c.in_ok-methods.ensures.alone

pub limited_system-requires-clause-few : goal.limited_system-requires-clause-few
limited_system-requires-clause-few c =
    let low = fits Items _ tt tt c.in_ok-within.ensures in
    omega (arith, low, c.count.ensures)

pub limited_system-requires-clause-methods : goal.limited_system-requires-clause-methods
limited_system-requires-clause-methods c =
    subst (λ (set : List Class). AreRows set c.in_ok-methods.methods.of_classes) (sym c.in_ok-numbered.ensures)
    c.in_ok-methods.ensures.rows

pub limited_system-requires-clause-members : goal.limited_system-requires-clause-members
limited_system-requires-clause-members c =
    subst (λ (set : List Class). AreMembers set c.in_ok-kept.kept.members) (sym c.in_ok-numbered.ensures)
    (subst (λ (kept : KeptByRules). AreMembers c.args.set.now kept.members) (sym c.in_ok-kept.ensures)
    (are_members c.args.set.now c.args.rules.now))

pub returns-clause-exact : goal.returns-clause-exact
returns-clause-exact c =
    let count : c.from.result ≡ c.count.result = search rules in
    whole_due c.limited_system.result c.args.set.now _ c.args.rules.now c.in_ok-kept.kept c.from.result tt
    c.in_ok-within.field-0 c.in_ok-numbered.ensures c.in_ok-kept.ensures (count ∙ c.count.ensures)
    c.in_ok-within.ensures c.limited_system.ensures

pub returns-clause-valid : goal.returns-clause-valid
returns-clause-valid c =
    let count : c.from.result ≡ c.count.result = search rules in
    due_valid c.limited_system.result c.args.set.now c.args.rules.now
    (whole_due c.limited_system.result c.args.set.now _ c.args.rules.now c.in_ok-kept.kept c.from.result tt
    c.in_ok-within.field-0 c.in_ok-numbered.ensures c.in_ok-kept.ensures (count ∙ c.count.ensures)
    c.in_ok-within.ensures c.limited_system.ensures)
