use Rattle.std.proofs.Common.{◌≡◌, [], ◌∷◌, ◌++◌, take}
use Rattle.std.specs.List.{flat_map}
use Rattle.mapping_file.specs.MapLines.{method_line_text}
use Rattle.mapping_file.proofs.writing.push_method_lines.Given as goal

abbrev pub invariant-loop-method : goal.invariant-loop-method
invariant-loop-method l = l.out.items
    ≡ l.initial.out.items ++ flat_map (λ m. method_line_text m ++ 10 ∷ []) (take l.method-index l.methods)
