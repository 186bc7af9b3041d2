-- Answers of `rebuilt_codes_are_good`: what its calls ask for, and what it promises.
use Rattle.rebuild_laws.proofs.Kept.{rebuilt_follows}
use Rattle.rebuild_laws.proofs.Naming.{rebuilt_less}
use Rattle.rebuild_laws.proofs.laws.rebuilt_codes_are_good.Goals as goal

pub returns-clause-format : goal.returns-clause-format
returns-clause-format c = rebuilt_follows

pub returns-clause-names : goal.returns-clause-names
returns-clause-names c = rebuilt_less
