-- Answers of `read_field_type`: what its calls ask for, and what it promises.
use Rattle.jv_base.proofs.FieldLaw.{read_field-found, read_field-only, read_field-longest}
use Rattle.jv_base.proofs.Due.{due_found, due_only, due_fault}
use Rattle.jv_base.proofs.descriptors.read_field_type.Goals as goal

pub returns-clause-found : goal.returns-clause-found
returns-clause-found c = let due = rw c.as_str.ensures at c.field_read.ensures in due_found _ _ _
    (read_field-found c.args.text.now) due

pub returns-clause-only : goal.returns-clause-only
returns-clause-only c = λ ty h. let due = rw c.as_str.ensures at c.field_read.ensures in due_only _ _ ty
    (read_field-only c.args.text.now ty h) due

pub returns-clause-longest : goal.returns-clause-longest
returns-clause-longest c = let due = rw c.as_str.ensures at c.field_read.ensures in due_fault _ _ _
    (read_field-longest c.args.text.now) due
