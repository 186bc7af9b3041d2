use Rattle.std.proofs.Common.{◌≡◌, ◌≤◌, ◌-◌, ◌++◌, take, drop, length}
use Rattle.jvm_model.specs.Value.{Value}
use Rattle.run_heap.specs.Held.{replaced}
use Rattle.run_heap.proofs.fields.place.Given as goal

abbrev pub invariant-loop-at : goal.invariant-loop-at
invariant-loop-at l = record {
  within : l.at ≤ length l.fields;
  before : (v : Value) → replaced l.key v l.fields ≡ take l.at l.fields ++ replaced l.key v (drop l.at l.fields);
}

abbrev pub decreases-loop-at : goal.decreases-loop-at
decreases-loop-at l = length l.fields - l.at
