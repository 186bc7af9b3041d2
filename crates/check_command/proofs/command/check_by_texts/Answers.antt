-- Answers of `check_by_texts`: what its calls ask for, and what it promises.
use Rattle.std.proofs.lemmas.Result.{err_from_is_err_and}
use Rattle.tree_io.specs.Files.{Files}
use Rattle.command_frame.proofs.Steps.{first_stops, then_made}
use Rattle.check_command.specs.Due.{AreDirectories, IsJudged}
use Rattle.check_command.proofs.command.check_by_texts.Goals as goal

pub returns-in_err-directories-clause-found : goal.returns-in_err-directories-clause-found
returns-in_err-directories-clause-found g c =
    let p = err_from_is_err_and c.from_residual.result c.from_residual.ensures.1 in
    rw (p.1, p.2) (first_stops
    (λ (fs : Files). AreDirectories fs c.args.rules.now.in_dir c.args.rules.now.out_dir)
    (λ (fs : Files). IsJudged c.args.rules.now c.args.texts.now) c.in_err-directories.field-0.0 _ _
    c.in_err-directories.ensures.found)

pub returns-clause-found : goal.returns-clause-found
returns-clause-found g c =
    then_made (λ (fs : Files). AreDirectories fs c.args.rules.now.in_dir c.args.rules.now.out_dir)
    (IsJudged c.args.rules.now c.args.texts.now) c.in_ok-directories.directories _ _
    c.in_ok-directories.ensures.found c.judge.result c.judge.ensures.judged
