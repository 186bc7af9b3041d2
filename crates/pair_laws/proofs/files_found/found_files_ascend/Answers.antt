-- Answers of `found_files_ascend`: what its calls ask for, and what it promises.
use Rattle.pair_laws.proofs.FilesFound.Found.{ascend_found}
use Rattle.pair_laws.proofs.files_found.found_files_ascend.Goals as goal

pub returns : goal.returns
returns c = ascend_found
