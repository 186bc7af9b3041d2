-- Answers of `methods_by`: what its calls ask for, and what it promises.
use Rattle.std.proofs.Common.{rules, ◌≡◌, ◌++◌, ◌∷◌, [], List, ap, ◌∙◌}
use Rattle.std.specs.Map.{lookup}
use Rattle.jv_base.specs.Types as descriptor
use Rattle.class_model.specs.declared.class.Method.{Method}
use Rattle.mapping_file.specs.declared.mapping.MapMethod.{MapMethod}
use Rattle.new_names.specs.NewNames.{method_in, method_lines, is_same}
use Rattle.new_names.proofs.Telling.{map_more}
use Rattle.new_names.proofs.class_names.methods_by.Goals as goal

pub loop-method-preserved : goal.loop-method-preserved
loop-method-preserved c =
    let x : Method = c.method-item.result in
    let told : lookup (is_same (x.name, descriptor.method_text x.ty)) c.in_ok-table.table
    ≡ method_in c.args.line.now x =
    c.in_ok-table.ensures (x.name, descriptor.method_text x.ty)
    ∙ ap (λ (ls : List MapMethod). lookup (λ key. is_same key (x.name, descriptor.method_text x.ty)) (method_lines ls))
    c.as_slice.ensures in
    let grown : c.push.new.self ≡ c.loop-method.names ++ c.in_ok-method_name.field-0 ∷ [] = search rules in
    map_more (method_in c.args.line.now) c.args.methods.now c.loop-method.method-index x c.loop-method.names
    c.push.new.self
    c.in_ok-method_name.field-0 c.loop-method-test.true c.method-item.is c.loop-method.invariant grown
    (c.in_ok-method_name.ensures ∙ told)
