-- Answers of `fields_by`: what its calls ask for, and what it promises.
use Rattle.std.proofs.Common.{rules, ◌≡◌, ◌++◌, ◌∷◌, [], List, ap, ◌∙◌}
use Rattle.std.specs.Map.{lookup}
use Rattle.jv_base.specs.Types as descriptor
use Rattle.class_model.specs.declared.class.Field.{Field}
use Rattle.mapping_file.specs.declared.mapping.MapField.{MapField}
use Rattle.new_names.specs.NewNames.{field_in, field_lines, is_same}
use Rattle.new_names.proofs.Telling.{map_more}
use Rattle.new_names.proofs.class_names.fields_by.Goals as goal

pub loop-field-preserved : goal.loop-field-preserved
loop-field-preserved c =
    let x : Field = c.field-item.result in
    let told : lookup (is_same (x.name, descriptor.field_text x.ty)) c.in_ok-table.table
    ≡ field_in c.args.line.now x =
    c.in_ok-table.ensures (x.name, descriptor.field_text x.ty)
    ∙ ap (λ (ls : List MapField). lookup (λ key. is_same key (x.name, descriptor.field_text x.ty)) (field_lines ls))
    c.as_slice.ensures in
    let grown : c.push.new.self ≡ c.loop-field.names ++ c.in_ok-field_name.field-0 ∷ [] = search rules in
    map_more (field_in c.args.line.now) c.args.fields.now c.loop-field.field-index x c.loop-field.names c.push.new.self
    c.in_ok-field_name.field-0 c.loop-field-test.true c.field-item.is c.loop-field.invariant grown
    (c.in_ok-field_name.ensures ∙ told)
