-- Answers of `ranges_given`: what its calls ask for, and what it promises.
use Rattle.std.proofs.Common.{rules, ◌≡◌, ◌<◌, ◌++◌, ◌∷◌, [], List, Option, ap, get_or, length, subst, ◌∙◌}
use Rattle.std.specs.Map.{lookup}
use Rattle.std.specs.Option.{option_and_then}
use Rattle.jv_base.specs.Types.{method_text}
use Rattle.class_model.specs.declared.class.Method.{Method}
use Rattle.mapping_file.specs.declared.mapping.MapMethod.{MapMethod}
use Rattle.mapping_file.specs.declared.mapping.Range.{Range}
use Rattle.new_names.specs.NewNames.{is_same, range_in, range_lines}
use Rattle.new_names.proofs.Telling.{map_more}
use Rattle.new_names.proofs.ranges.ranges_given.Goals as goal

pub loop-method-preserved : goal.loop-method-preserved
loop-method-preserved c =
    let x : Method = c.method-item.result in
    let all = c.as_slice-method-items.ensures in
    let told : option_and_then (λ (r : Option Range). r) (lookup (is_same (x.name, method_text x.ty)) c.in_ok-table.table)
    ≡ range_in c.args.line.now x =
    ap (option_and_then (λ (r : Option Range). r))
    (c.in_ok-table.ensures (x.name, method_text x.ty)
    ∙ ap (λ (ls : List MapMethod). lookup (λ key. is_same key (x.name, method_text x.ty)) (range_lines ls))
    c.as_slice.ensures) in
    let grown : c.push.new.self ≡ c.loop-method.ranges ++ c.in_ok-range_of.field-0 ∷ [] = search rules in
    map_more (range_in c.args.line.now) c.args.class.now.methods c.loop-method.method-index x c.loop-method.ranges
    c.push.new.self c.in_ok-range_of.field-0
    (subst (λ (l : List Method). c.loop-method.method-index < length l) all c.loop-method-test.true)
    (subst (λ (l : List Method). c.method-item.result ≡ get_or l c.loop-method.method-index c.method-item.result) all
    c.method-item.is)
    c.loop-method.invariant grown (c.in_ok-range_of.ensures ∙ told)
