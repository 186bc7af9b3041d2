-- Answers of `Wants::take_needs`: what its calls ask for, and what it promises.
use Rattle.std.proofs.Common.{rules, ◌+◌, List, ℕ, Ok, ap, subst}
use Rattle.std.specs.Prelude.{◌≡◌}
use Rattle.jv_base.specs.declared.outcome.OutOfMemory.{OutOfMemory}
use Rattle.item_numbers.specs.bodies.Wanting.{Wanted, needs_from}
use Rattle.item_numbers.proofs.SortedNeeds.{needs_then}
use Rattle.item_needs.proofs.Stamping.{next_item}
use Rattle.item_needs.proofs.wants.Wants.take_needs.Goals as goal

pub invariant_of-self : goal.invariant_of-self
invariant_of-self c =
    let inside = c.self.inside in
    let next : c.in_ok-self-inside.field-0 ≡ inside.stamp + 1 = search rules in
    next_item inside.numbered.now.set.now inside.texts.items inside.rows.items inside.stamps.items inside.stamp
    inside.numbers.items c.self.invariant c.in_ok-self-inside.field-0 c.dedup.new.self.items next

pub invariant_of-self-2 : goal.invariant_of-self-2
invariant_of-self-2 c =
    let inside = c.self.inside in
    let next : c.in_ok-self-inside.field-0 ≡ inside.stamp + 1 = search rules in
    next_item inside.numbered.now.set.now inside.texts.items inside.rows.items inside.stamps.items inside.stamp
    inside.numbers.items c.self.invariant c.in_ok-self-inside.field-0 c.clear.new.self.items next

pub returns-clause-needs : goal.returns-clause-needs
returns-clause-needs c =
    subst (λ (ns : List ℕ). c.in_ok-needs.needs ≡ needs_from c.args.own ns)
    (ap (λ (w : Wanted). w.numbers) c.self.view_is)
    (needs_then {E = OutOfMemory} (Ok c.in_ok-needs.needs) c.args.own c.self.inside.numbers.items
    c.sort_unstable.new.self.items c.dedup.new.self.items c.as_slice.result.now
    c.sort_unstable.ensures.permutation c.sort_unstable.ensures.sorted c.dedup.ensures.filtered c.as_slice.ensures.value
    c.in_ok-needs.ensures)
