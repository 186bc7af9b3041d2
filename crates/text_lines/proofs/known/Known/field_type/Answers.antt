-- Answers of `Known::field_type`: what its calls ask for, and what it promises.
use Rattle.std.proofs.Common.{Option, sym, ap, ◌∙◌}
use Rattle.jv_base.specs.declared.types.FieldType.{FieldType}
use Rattle.std.proofs.Common.{Some}
use Rattle.text_lines.proofs.known.Known.field_type.Goals as goal

pub returns-in-Some : goal.returns-in-Some
returns-in-Some c = ap (λ (ty : FieldType). let o : Option FieldType = Some ty in o) c.in_ok-copy_of.ensures
    ∙ sym c.in-Some.ensures
