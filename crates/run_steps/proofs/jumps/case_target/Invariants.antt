use Rattle.std.proofs.Common.{◌≡◌, drop}
use Rattle.jvm_model.specs.Instructions.{case_target}
use Rattle.run_steps.proofs.jumps.case_target.Given as goal

abbrev pub invariant-loop-case : goal.invariant-loop-case
invariant-loop-case l = case_target l.cases l.key ≡ case_target (drop l.case-index l.cases) l.key
