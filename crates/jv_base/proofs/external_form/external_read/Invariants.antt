use Rattle.std.proofs.Common.{◌≡◌, drop, [], false}
use Rattle.jv_base.specs.External.{external_byte, external_end, word}
use Rattle.jv_base.specs.bodies.External.{external_at, HasRoom}
use Rattle.jv_base.specs.Walk.{walk}
use Rattle.jv_base.proofs.external_form.external_read.Given as goal

abbrev pub invariant-loop-at : goal.invariant-loop-at
invariant-loop-at l = record {
  room : HasRoom l.read;
  same : walk external_byte external_end (external_at l.text l.at l.read) l.at (drop l.at l.text)
      ≡ walk external_byte external_end (word [] false) 0 l.text;
}
