-- Answers of `codes_plan`: what its calls ask for, and what it promises.
use Rattle.std.proofs.Common.{◌≡◌, ◌<◌, List, ap, refl, sym, subst, ◌∙◌, arith, length}
use Rattle.std.specs.List.{AllByRecursion}
use Rattle.class_laws.specs.SpellingLaws.{IsWritable}
use Rattle.class_model.specs.declared.class.Class.{Class}
use Rattle.class_pool.specs.Count.{item_count}
use Rattle.rename_map.specs.Names.{AreFixed}
use Rattle.set_shrink.specs.Lists.{lists_due}
use Rattle.set_shrink.specs.ShrunkSet.{IsShrunk, PassesLimit, renamed_of}
use Rattle.set_shrink.specs.Texts.{texts_due}
use Rattle.set_shrink.specs.declared.shrunk.ShrunkSet.{ShrunkSet}
use Rattle.pass_driver.specs.Optimised.{with_codes}
use Rattle.command_frame.proofs.Steps.{then_makes}
use Rattle.command_frame.specs.Refusal.{absent_by, limit_refused}
use Rattle.command_frame.specs.Steps.{stops}
use Rattle.shrink_command.specs.Due.{IsWritten, Joins}
use Rattle.shrink_command.proofs.Planned.{codes_so, kept_count}
use Rattle.shrink_command.proofs.planning.codes_plan.Goals as goal

pub shrink_classes-requires-clause-few : goal.shrink_classes-requires-clause-few
shrink_classes-requires-clause-few g c κs within =
    let so = codes_so c.optimised_can_be_written.ensures c.args.set c.args.rules.now c.args.old.now c.args.marked.now c.args.optimised
    c.requires.given c.requires.names c.requires.kept c.requires.optimised in
    let are = c.with_codes-classes.ensures ∙ ap (with_codes c.args.optimised.codes) c.into_classes.ensures in
    let count = so.count in
    let few = c.few_items.ensures in
    subst (λ (cs : List Class). item_count cs < 4294967295) (sym are) (omega (arith, count, few))

pub shrink_classes-requires-clause-marks : goal.shrink_classes-requires-clause-marks
shrink_classes-requires-clause-marks g c κs within =
    let so = codes_so c.optimised_can_be_written.ensures c.args.set c.args.rules.now c.args.old.now c.args.marked.now c.args.optimised
    c.requires.given c.requires.names c.requires.kept c.requires.optimised in
    let are = c.with_codes-classes.ensures ∙ ap (with_codes c.args.optimised.codes) c.into_classes.ensures in
    kept_count c.args.rules.now c.args.set c.args.marked.now c.requires.kept ∙ sym so.count ∙ sym (ap item_count are)

pub shrink_classes-requires-clause-fixed : goal.shrink_classes-requires-clause-fixed
shrink_classes-requires-clause-fixed g c κs within =
    let so = codes_so c.optimised_can_be_written.ensures c.args.set c.args.rules.now c.args.old.now c.args.marked.now c.args.optimised
    c.requires.given c.requires.names c.requires.kept c.requires.optimised in
    let are = c.with_codes-classes.ensures ∙ ap (with_codes c.args.optimised.codes) c.into_classes.ensures in
    subst (λ (cs : List Class). AreFixed c.args.rules.now cs c.in_ok-fixed.fixed) (sym are)
    (so.fixed c.in_ok-fixed.fixed c.in_ok-fixed.ensures)

pub shrink_classes-requires-clause-writable : goal.shrink_classes-requires-clause-writable
shrink_classes-requires-clause-writable g c κs within =
    let so = codes_so c.optimised_can_be_written.ensures c.args.set c.args.rules.now c.args.old.now c.args.marked.now c.args.optimised
    c.requires.given c.requires.names c.requires.kept c.requires.optimised in
    let are = c.with_codes-classes.ensures ∙ ap (with_codes c.args.optimised.codes) c.into_classes.ensures in
    subst (λ (cs : List Class). AllByRecursion IsWritable (renamed_of cs c.args.marked.now c.args.rules.now c.args.old.now)) (sym are)
    so.writable

pub returns-in-Ok : goal.returns-in-Ok
returns-in-Ok g c =
    let are = c.with_codes-classes.ensures ∙ ap (with_codes c.args.optimised.codes) c.into_classes.ensures in
    let edits = c.args.optimised.witness in
    then_makes (IsWritten c.args.rules.now c.args.old.now (with_codes c.args.optimised.codes c.args.set) c.args.marked.now)
    (λ (shrunk : ShrunkSet). Joins shrunk edits c.args.optimised.fallback
    (texts_due shrunk.mapping edits c.args.set c.args.marked.now c.args.rules.now c.args.witness.now))
    c.in-Ok.shrunk c.joined.result
    (subst (λ (cs : List Class). IsShrunk cs c.args.marked.now c.args.rules.now c.args.old.now c.in-Ok.shrunk) are c.in-Ok.ensures.exact)
    (c.joined.ensures (lists_due c.args.set c.args.marked.now c.args.rules.now) c.requires.lists)

pub returns-in-Err-Fault : goal.returns-in-Err-Fault
returns-in-Err-Fault g c =
    let are = c.with_codes-classes.ensures ∙ ap (with_codes c.args.optimised.codes) c.into_classes.ensures in
    let same = c.in_ok-passed_limit-in-Err-Fault.ensures in (
      ap absent_by same,
      stops c.in_ok-passed_limit-in-Err-Fault.field-0 (
        c.in-Err-Fault.limit,
        subst (λ (cs : List Class). PassesLimit cs c.args.marked.now c.args.rules.now c.args.old.now c.in-Err-Fault.limit) are
            (rw c.in-Err-Fault.field-0-is at c.in-Err-Fault.ensures.exact),
        same ∙ (λ i. limit_refused (c.limit_name.ensures i) (c.most_written.ensures i)),
      )
          refl,
    )
