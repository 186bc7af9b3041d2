use Rattle.std.proofs.Common.{take}
use Rattle.std.specs.List.{All}
use Rattle.class_model.specs.declared.op.Case.{Case}
use Rattle.const_facts.specs.Worklist.{Flows, Grows, IsAbove}
use Rattle.const_facts.proofs.work.lower_cases.Given as goal

abbrev pub invariant-loop-case : goal.invariant-loop-case
invariant-loop-case l = IsAbove l.code l.slot l.work × Grows l.fn.work l.work
    × All (λ (k : Case). Flows l.work l.out k.to) (take l.case-index l.cases)
