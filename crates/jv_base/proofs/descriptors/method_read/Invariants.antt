use Rattle.std.proofs.Common.{◌≡◌, drop, []}
use Rattle.jv_base.specs.bodies.DescriptorPlaces.{IsMethodPlaced, method_read_at}
use Rattle.jv_base.specs.Descriptors.{before, method_byte, method_end}
use Rattle.jv_base.specs.Walk.{walk}
use Rattle.jv_base.proofs.descriptors.method_read.Given as goal

abbrev pub invariant-loop-at : goal.invariant-loop-at
invariant-loop-at l = record {
  placed : IsMethodPlaced l.text l.at l.read;
  same : walk method_byte method_end (method_read_at l.text l.at l.read) l.at (drop l.at l.text)
      ≡ walk method_byte method_end (record { args = []; part = before }) 0 l.text;
}
