-- Answers of `Marks::mark`: what its calls ask for, and what it promises.
use Rattle.std.proofs.Common.{◌∙◌, ℕ, List, ap}
use Rattle.jvm_model.specs.Value.{set_class}
use Rattle.run_machine.specs.Inits.{init_at, init_of}
use Rattle.run_machine.specs.declared.inits.Init.{Init}
use Rattle.run_machine.proofs.Marking.{marked_is_set}
use Rattle.run_machine.proofs.inits.Marks.mark.Goals as goal

pub returns : goal.returns
returns c = λ p. ap (init_at p) c.in_ok-insert.ensures.entries
    ∙ marked_is_set p c.self.inside.inits.entries c.args.class c.args.init
    ∙ ap (λ (ms : List (List ℕ × Init)). set_class (init_at p ms) c.args.class (init_of c.args.init)) c.self.view_is
