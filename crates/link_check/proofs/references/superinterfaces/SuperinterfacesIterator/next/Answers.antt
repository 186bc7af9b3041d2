-- Answers of `SuperinterfacesIterator::next`: what its calls ask for, and what it promises.
use Rattle.std.proofs.lemmas.List.Elements.{All-rest}
use Rattle.class_pool.specs.Hierarchy.{IsClass}
use Rattle.link_check.proofs.references.superinterfaces.SuperinterfacesIterator.next.Goals as goal

pub invariant_of-self-2 : goal.invariant_of-self-2
invariant_of-self-2 c = (
  All-rest (IsClass c.self.inside.set.now) c.in_ok-first.first.now c.in_ok-first.others.now
      c.next_interfaces-self-inside.result.now c.in_ok-first.ensures.cases.0
      c.next_interfaces-self-inside.ensures.now,
  c.next_interfaces-self-inside.ensures.later,
)
