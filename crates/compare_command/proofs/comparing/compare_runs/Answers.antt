-- Answers of `compare_runs`: what its calls ask for, and what it promises.
use Rattle.std.proofs.Common.{subst}
use Rattle.command_frame.specs.Steps.{Makes}
use Rattle.mapping_file.specs.declared.mapping.Mapping.{Mapping}
use Rattle.compare_command.specs.Due.{IsCompared}
use Rattle.compare_command.proofs.comparing.compare_runs.Goals as goal

pub returns-clause-compared : goal.returns-clause-compared
returns-clause-compared c =
    subst (λ (m : Mapping). Makes c.compare_by_names.result
    (IsCompared m c.args.input.now c.args.output.now c.args.steps c.args.start)) c.in_ok-names.ensures
    c.compare_by_names.ensures.compared
