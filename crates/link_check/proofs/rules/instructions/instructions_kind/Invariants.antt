use Rattle.std.proofs.Common.{◌≡◌, take}
use Rattle.std.specs.List.{flat_map}
use Rattle.link_check.specs.Profile.{least, op_kinds}
use Rattle.link_check.specs.bodies.Tested.{AreTested}
use Rattle.link_check.proofs.rules.instructions.instructions_kind.Given as goal

abbrev pub invariant-loop-instruction : goal.invariant-loop-instruction
invariant-loop-instruction l = record {
  tested : AreTested l.set l.tested.items;
  kind : l.kind ≡ least
      (flat_map (λ i. op_kinds l.set l.number l.method i.op) (take l.instruction-index l.instructions));
}
