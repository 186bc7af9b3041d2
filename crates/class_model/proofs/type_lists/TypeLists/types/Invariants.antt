use Rattle.std.proofs.Common.{◌≡◌, ◌+◌, ◌-◌, ◌++◌}
use Rattle.class_model.proofs.TypesAbove.{down}
use Rattle.class_model.proofs.type_lists.TypeLists.types.Given as goal

abbrev pub invariant-loop : goal.invariant-loop
invariant-loop l = record {
  types : l.types.items ++ down l.self (l.count - l.counter) l.rest.top ≡ down l.self l.count l.fn.list.top;
  left : l.rest.len + l.counter ≡ l.fn.list.len;
}
