-- Answers of `units_of_mutf8`: what its calls ask for, and what it promises.
use Rattle.jv_base.proofs.Coding.{read_mutf8-found, read_mutf8-only, read_mutf8-longest}
use Rattle.jv_base.proofs.Due.{due_found, due_only, due_fault}
use Rattle.jv_base.proofs.mutf8.units_of_mutf8.Goals as goal

pub returns-clause-found : goal.returns-clause-found
returns-clause-found c = due_found _ _ _ (read_mutf8-found c.args.bytes.now) c.decoded.ensures

pub returns-clause-only : goal.returns-clause-only
returns-clause-only c = λ units h. due_only _ _ units (read_mutf8-only c.args.bytes.now units h) c.decoded.ensures

pub returns-clause-longest : goal.returns-clause-longest
returns-clause-longest c = due_fault _ _ _ (read_mutf8-longest c.args.bytes.now) c.decoded.ensures
