use Rattle.std.proofs.Common.{◌≡◌, drop}
use Rattle.jv_base.specs.bodies.DescriptorPlaces.{field_at, IsFieldPlaced}
use Rattle.jv_base.specs.Descriptors.{brackets, field_begun, field_byte, field_end}
use Rattle.jv_base.specs.Walk.{walk}
use Rattle.jv_base.proofs.descriptors.field_read.Given as goal

abbrev pub invariant-loop-at : goal.invariant-loop-at
invariant-loop-at l = record {
  placed : IsFieldPlaced l.text l.at l.read;
  same : walk field_byte field_end (field_at l.text l.at l.read) l.at (drop l.at l.text)
      ≡ walk field_byte field_end (field_begun (brackets 0)) 0 l.text;
}
