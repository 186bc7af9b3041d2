use Rattle.std.proofs.Common.{◌≡◌, map, take, ◌+◌}
use Rattle.std.specs.List.{enumerate_from}
use Rattle.class_pool.specs.Items.{class_item}
use Rattle.require_sys.specs.Requires.{field_wants, needs_of}
use Rattle.item_needs.specs.bodies.Counting.{AddsNeeds}
use Rattle.item_numbers.specs.bodies.Wanting.{wanting_nothing}
use Rattle.item_needs.proofs.needs.add_fields.Given as goal

abbrev pub invariant-loop-index : goal.invariant-loop-index
invariant-loop-index l = record {
  added : AddsNeeds l.fn.needs
      (map (λ p. needs_of l.numbered.set.now (class_item l.numbered.set.now l.number + 1 + p.0)
      (field_wants l.numbered.set.now l.number p.1)) (enumerate_from 0 (take l.index l.class.fields)))
      l.needs;
  empty : l.wants ≡ wanting_nothing l.numbered.set.now;
}
