-- Answers of `put_files_are_found`: what its calls ask for, and what it promises.
use Rattle.pair_laws.proofs.FilesFound.Found.{are_found}
use Rattle.pair_laws.proofs.files_found.put_files_are_found.Goals as goal

pub returns : goal.returns
returns c = are_found
