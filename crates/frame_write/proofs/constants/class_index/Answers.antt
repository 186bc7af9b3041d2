-- Answers of `class_index`: what its calls ask for, and what it promises.
use Rattle.std.proofs.Common.{◌≤◌, length, arith}
use Rattle.std.specs.List.{position_or_len}
use Rattle.std.proofs.lemmas.List.Sums.{prefix_len-le-length}
use Rattle.class_model.specs.CanonicalPool.{same, class_constant, type_name}
use Rattle.frame_write.proofs.constants.class_index.Goals as goal

pub overflow_cast-result : goal.overflow_cast-result
overflow_cast-result c =
    let pool = c.args.constants.now in
    let within : position_or_len
    (same (class_constant (type_name c.args.ty.now))) pool ≤ length pool = prefix_len-le-length _ pool in
    rw c.in_ok-type_index.ensures (omega (arith, within, c.requires))
