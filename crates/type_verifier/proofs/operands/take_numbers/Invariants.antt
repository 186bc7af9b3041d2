use Rattle.std.proofs.Common.{◌≡◌, drop, map}
use Rattle.type_verifier.specs.Effects.{all_popped}
use Rattle.type_verifier.specs.Rules.{wanted_number}
use Rattle.type_verifier.proofs.operands.take_numbers.Given as goal

abbrev pub invariant-loop-num : goal.invariant-loop-num
invariant-loop-num l = all_popped l.set (map wanted_number (drop l.num-index l.nums)) l.frame
    ≡ all_popped l.set (map wanted_number l.nums) l.fn.frame
