-- Answers of `push_methods_within`: what its calls ask for, and what it promises.
use Rattle.std.proofs.Common.{inl, [], ◌∷◌, ◌++◌, arith}
use Rattle.mapping_file.specs.MapLines.{method_line_text}
use Rattle.mapping_file.proofs.Limits.{pushed_more, stops}
use Rattle.mapping_file.proofs.writing.push_methods_within.Goals as goal

pub returns-then-len-limit : goal.returns-then-len-limit
returns-then-len-limit c =
    stops (λ m. method_line_text m ++ 10 ∷ []) c.args.methods.now c.loop-method.method-index c.args.limit
    c.args.out.now.items
    c.loop-method.out.items c.loop-method.invariant (omega (arith, c.if-len-limit.true, c.len.ensures))

pub loop-method-preserved : goal.loop-method-preserved
loop-method-preserved c =
    pushed_more (λ m. method_line_text m ++ 10 ∷ []) c.args.methods.now c.loop-method.method-index c.method-item.result
    c.args.limit c.args.out.now.items c.loop-method.out.items c.push_method_line.new.out.items c.loop-method-test.true
    c.method-item.is c.loop-method.invariant (inl c.in_ok-push_method_line.ensures)
