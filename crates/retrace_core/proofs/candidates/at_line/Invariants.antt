use Rattle.std.proofs.Common.{◌≡◌, filter, map, take}
use Rattle.retrace_core.specs.OldNames.{may_have}
use Rattle.retrace_core.proofs.candidates.at_line.Given as goal

abbrev pub invariant-loop-method : goal.invariant-loop-method
invariant-loop-method l = map (λ m. m.now) l.found.items
    ≡ filter (λ m. may_have l.line m.lines) (map (λ m. m.now) (take l.method-index l.methods))
