-- Answers of `find_input`: what its calls ask for, and what it promises.
use Rattle.std.proofs.Common.{Err, refl}
use Rattle.std.proofs.lemmas.Result.{err_from_is_err_and}
use Rattle.tree_io.specs.Files.{Files}
use Rattle.batch_command.specs.bodies.Workers.{IsFound}
use Rattle.batch_command.proofs.Finding.{finds_all, lacks_none, refused_none}
use Rattle.batch_command.proofs.inputs.find_input.Goals as goal

pub returns-in-Ok-clause-found : goal.returns-in-Ok-clause-found
returns-in-Ok-clause-found g c =
    rw c.in-Ok.is (finds_all c.find_input.result (λ (fs : Files). g.W.Work.parts.input fs c.in-Ok.config.rules) _ _
    c.find_input.ensures.found)

pub returns-in_err-again-in-Err-clause-found : goal.returns-in_err-again-in-Err-clause-found
returns-in_err-again-in-Err-clause-found g c =
    let p = err_from_is_err_and c.from_residual.result c.from_residual.ensures.1 in
    rw (p.1, p.2) (lacks_none (λ (fs : Files). IsFound g.W.Work.parts fs c.args.config.now) _)

pub returns-in_ok-again-in-Err-clause-found : goal.returns-in_ok-again-in-Err-clause-found
returns-in_ok-again-in-Err-clause-found g c =
    rw (c.in_ok-again-in-Err.ensures, c.in-Err.is)
    (refused_none c.in-Err.refusal (λ (fs : Files). IsFound g.W.Work.parts fs (Err c.in-Err.refusal)) _ (λ fs. refl))
