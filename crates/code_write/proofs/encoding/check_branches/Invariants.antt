use Rattle.std.proofs.Common.{◌≡◌, drop}
use Rattle.class_model.specs.WriteLimits.{branches_fit}
use Rattle.code_write.proofs.encoding.check_branches.Given as goal

abbrev pub invariant-loop-number : goal.invariant-loop-number
invariant-loop-number l = branches_fit l.places l.number (drop l.number l.ins) ≡ branches_fit l.places 0 l.ins
