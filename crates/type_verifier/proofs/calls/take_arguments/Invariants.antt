use Rattle.std.proofs.Common.{◌≡◌, ◌≤◌, take, length}
use Rattle.type_verifier.specs.Effects.{all_popped}
use Rattle.type_verifier.specs.Rules.{wanted_arguments}
use Rattle.type_verifier.proofs.calls.take_arguments.Given as goal

abbrev pub invariant-loop-left : goal.invariant-loop-left
invariant-loop-left l = (l.left ≤ length l.types) × (all_popped l.set (wanted_arguments (take l.left l.types)) l.frame
    ≡ all_popped l.set (wanted_arguments l.types) l.fn.frame)

abbrev pub decreases-loop-left : goal.decreases-loop-left
decreases-loop-left l = l.left
