use Rattle.std.proofs.Common.{◌≡◌, ◌-◌, replicate}
use Rattle.class_model.specs.declared.frame.VType.TheVariants as vtype
use Rattle.type_verifier.specs.Effects.{all_popped}
use Rattle.type_verifier.specs.Rules.{Assignable}
use Rattle.type_verifier.proofs.arrays.take_ints.Given as goal

abbrev pub invariant-loop : goal.invariant-loop
invariant-loop l = all_popped l.set (replicate (l.count - l.counter) (Assignable vtype.Int)) l.frame
    ≡ all_popped l.set (replicate l.count (Assignable vtype.Int)) l.fn.frame
