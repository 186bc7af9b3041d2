-- Answers of `fail`: what its calls ask for, and what it promises.
use Rattle.std.proofs.Common.{ℕ, List, ap}
use Rattle.jvm_model.specs.Heap.{Init}
use Rattle.jvm_model.specs.Initialisation.{state}
use Rattle.jvm_model.specs.State.{Unwinds}
use Rattle.run_machine.specs.States.{waits_of, whole}
use Rattle.run_machine.proofs.unwinding.fail.Goals as goal

pub returns : goal.returns
returns c = λ p. ap (λ (f : List ℕ → Init). state (record (whole p c.args.rest.now) { inits = f })
    (Unwinds c.args.number)
    (waits_of c.args.rest.now.waits)) (c.in_ok-mark.ensures p)
