-- Answers of `field_text`: what its calls ask for, and what it promises.
use Rattle.std.proofs.Common.{ℕ, List, ◌++◌, ap, sym, ◌∙◌}
use Rattle.jv_base.specs.Types.{field_text}
use Rattle.jv_base.proofs.FieldLaw.{read_field-only}
use Rattle.jv_base.proofs.descriptors.field_text.Goals as goal

pub returns-clause-read_back : goal.returns-clause-read_back
returns-clause-read_back c = λ is.
    let ty = c.args.ty.now in
    let written = c.in_ok-from_string.ensures ∙ c.in_ok-push_field.ensures
    ∙ ap (λ (t : List ℕ). t ++ field_text ty) c.new-text.ensures.bytes in
    read_field-only _ ty (is, sym written)
