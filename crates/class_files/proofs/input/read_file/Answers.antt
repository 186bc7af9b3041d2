-- Answers of `read_file`: what its calls ask for, and what it promises.
use Rattle.std.proofs.Common.{◌≡◌, [], refl}
use Rattle.std.proofs.lemmas.Result.{err_from_is_err_and}
use Rattle.tree_io.specs.Event.{files_to_write}
use Rattle.tree_io.proofs.Runs.{made_none}
use Rattle.class_files.proofs.input.read_file.Goals as goal

pub returns-in_err-full-clause-seen : goal.returns-in_err-full-clause-seen
returns-in_err-full-clause-seen g c =
    let p = err_from_is_err_and c.from_residual.result c.from_residual.ensures.1 in
    rw (p.1, p.2) (made_none (λ es. files_to_write es ≡ []) _ _ refl)
