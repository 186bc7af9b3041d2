use Rattle.std.proofs.Common.{◌≡◌, drop, []}
use Rattle.jv_base.specs.Decoding.{decode_from}
use Rattle.jv_base.specs.bodies.Decoding.{HasBits}
use Rattle.jv_base.specs.declared.mutf8.Awaited.TheVariants.{Lead}
use Rattle.jv_base.proofs.mutf8.decoded.Given as goal

abbrev pub invariant-loop-at : goal.invariant-loop-at
invariant-loop-at l = record {
  bits : HasBits l.awaited;
  same : decode_from (record { units = l.units; awaited = l.awaited }) l.at (drop l.at l.bytes)
      ≡ decode_from (record { units = []; awaited = Lead }) 0 l.bytes;
}
