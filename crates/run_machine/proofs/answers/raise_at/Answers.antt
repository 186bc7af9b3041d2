-- Answers of `raise_at`: what its calls ask for, and what it promises.
use Rattle.std.proofs.Common.{◌∙◌, List, ap}
use Rattle.std.proofs.lemmas.Result.{IfOk-weaker}
use Rattle.jvm_model.specs.Answers as due
use Rattle.jvm_model.specs.Initialisation.{raised}
use Rattle.run_library.specs.Rows.{exception_of}
use Rattle.run_machine.specs.Inits.{init_at}
use Rattle.run_machine.specs.States.{waits_of, whole}
use Rattle.run_machine.specs.declared.state.Wait.{Wait}
use Rattle.run_machine.proofs.Coming.{Answers, Raised}
use Rattle.run_machine.proofs.answers.raise_at.Goals as goal

pub returns : goal.returns
returns c = IfOk-weaker _ (Raised c.args.rest.now.world c.raise.new.world (exception_of c.args.exception))
    (Answers c.args.rest.now (record c.args.rest.now { world = c.raise.new.world; waits = c.push.new.self })
    c.args.frame (λ p w. due.Raises (exception_of c.args.exception)))
    (λ k h p b. h (init_at p c.args.rest.now.marks) (waits_of c.push.new.self)
    ∙ ap (λ (ws : List Wait). raised (whole p c.args.rest.now) (exception_of c.args.exception) (waits_of ws))
    c.in_ok-push.ensures)
    c.raise.ensures
