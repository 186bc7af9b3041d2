-- Answers of `files_are_read_where_spelled`: what its calls ask for, and what it promises.
use Rattle.class_laws.proofs.ClassLaw.{class_read-found, class_read-only, one_class}
use Rattle.class_laws.proofs.reading.files_are_read_where_spelled.Goals as goal

pub returns : goal.returns
returns c = record { read = class_read-found; spelled = class_read-only; one = one_class }
