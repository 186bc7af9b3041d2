-- Answers of `attributes_seen`: what its calls ask for, and what it promises.
use Rattle.std.proofs.Common.{sym}
use Rattle.class_read.proofs.fields.attributes_seen.Goals as goal

pub returns : goal.returns
returns c = rw (sym c.ty.ensures) c.counted.ensures
