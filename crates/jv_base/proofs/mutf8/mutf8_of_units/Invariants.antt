use Rattle.std.proofs.Common.{◌≡◌, take}
use Rattle.jv_base.specs.Mutf8.{IsUnits, mutf8}
use Rattle.jv_base.proofs.mutf8.mutf8_of_units.Given as goal

abbrev pub invariant-loop-unit : goal.invariant-loop-unit
invariant-loop-unit l = record {
  fit : IsUnits l.unit-items;
  so_far : l.bytes ≡ mutf8 (take l.unit-index l.unit-items);
}
