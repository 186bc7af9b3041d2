use Rattle.std.proofs.Common.{◌≡◌, ◌+◌, drop}
use Rattle.class_model.specs.ClassFile.{left_out_of_members}
use Rattle.class_read.proofs.parts.left_out_of_members.Given as goal

abbrev pub invariant-loop-kind : goal.invariant-loop-kind
invariant-loop-kind l = (left_out_of_members l.member (drop l.kind-index l.kinds)
    ≡ left_out_of_members l.fields l.kinds) × (l.member ≡ l.fields + l.kind-index)
