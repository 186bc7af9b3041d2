-- Answers of `push_fields_within`: what its calls ask for, and what it promises.
use Rattle.std.proofs.Common.{inl, [], ◌∷◌, ◌++◌, arith}
use Rattle.mapping_file.specs.MapLines.{field_line_text}
use Rattle.mapping_file.proofs.Limits.{pushed_more, stops}
use Rattle.mapping_file.proofs.writing.push_fields_within.Goals as goal

pub returns-then-len-limit : goal.returns-then-len-limit
returns-then-len-limit c =
    stops (λ m. field_line_text m ++ 10 ∷ []) c.args.fields.now c.loop-field.field-index c.args.limit
    c.args.out.now.items
    c.loop-field.out.items c.loop-field.invariant (omega (arith, c.if-len-limit.true, c.len.ensures))

pub loop-field-preserved : goal.loop-field-preserved
loop-field-preserved c =
    pushed_more (λ m. field_line_text m ++ 10 ∷ []) c.args.fields.now c.loop-field.field-index c.field-item.result
    c.args.limit c.args.out.now.items c.loop-field.out.items c.push_field_line.new.out.items c.loop-field-test.true
    c.field-item.is c.loop-field.invariant (inl c.in_ok-push_field_line.ensures)
