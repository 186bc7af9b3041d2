-- Answers of `paths_of`: what its calls ask for, and what it promises.
use Rattle.text_lines.specs.Cut.{parts_copied}
use Rattle.batch_list.proofs.Naming.{other_paths, utf8_paths}
use Rattle.batch_list.proofs.line.paths_of.Goals as goal

pub returns-in-Ok : goal.returns-in-Ok
returns-in-Ok c =
    utf8_paths c.args.line.now c.in-Ok.text.now (parts_copied c.paths_in.result) c.in-Ok.ensures.cases.0
    c.in-Ok.ensures.cases.1 c.paths_in.ensures

pub returns-in-Err : goal.returns-in-Err
returns-in-Err c = other_paths c.args.line.now c.in-Err.ensures.cases.0
