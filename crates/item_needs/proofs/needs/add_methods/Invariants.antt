use Rattle.std.proofs.Common.{◌≡◌, length, map, take, ◌+◌}
use Rattle.std.specs.List.{enumerate_from}
use Rattle.class_pool.specs.Items.{class_item}
use Rattle.require_sys.specs.Requires.{method_wants, needs_of}
use Rattle.item_needs.specs.bodies.Counting.{AddsNeeds}
use Rattle.item_numbers.specs.bodies.Wanting.{wanting_nothing}
use Rattle.item_needs.proofs.needs.add_methods.Given as goal

abbrev pub invariant-loop-index : goal.invariant-loop-index
invariant-loop-index l = record {
  added : AddsNeeds l.fn.needs
      (map (λ p. needs_of l.numbered.set.now (class_item l.numbered.set.now l.number + 1 + p.0)
      (method_wants l.numbered.set.now l.number l.kept p.1))
      (enumerate_from (length l.class.fields) (take l.index l.class.methods)))
      l.needs;
  empty : l.wants ≡ wanting_nothing l.numbered.set.now;
}
