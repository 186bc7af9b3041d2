use Rattle.std.proofs.Common.{◌≡◌, ◌≤◌, ◌+◌, ◌-◌, ◌*◌, fold, take}
use Rattle.std.specs.Prelude.{min}
use Rattle.retrace_core.proofs.candidates.counted.Given as goal

abbrev pub invariant-loop-digit : goal.invariant-loop-digit
invariant-loop-digit l = (l.line ≡ fold (λ n b. min 65536 (10 * n + (b - 48))) 0 (take l.digit-index l.digits))
    × (l.line ≤ 65536)
