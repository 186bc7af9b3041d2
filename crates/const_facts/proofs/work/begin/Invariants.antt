use Rattle.std.proofs.Common.{◌≡◌, take}
use Rattle.std.specs.List.{All}
use Rattle.class_model.specs.declared.code.Handler.{Handler}
use Rattle.const_facts.specs.declared.held.Held.TheVariants.{Varies}
use Rattle.const_facts.specs.Worklist.{Grows, IsAbove, held_at}
use Rattle.const_facts.proofs.work.begin.Given as goal

abbrev pub invariant-loop-handler : goal.invariant-loop-handler
invariant-loop-handler l = IsAbove l.code l.slot l.work × Grows l.fn.work l.work
    × (held_at l.work 0 ≡ Varies)
    × All (λ (h : Handler). held_at l.work h.entry ≡ Varies) (take l.handler-index l.code.handlers)
