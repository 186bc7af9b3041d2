use Rattle.std.proofs.Common.{[], ◌∷◌, ◌++◌, take}
use Rattle.std.specs.List.{flat_map}
use Rattle.mapping_file.specs.MapLines.{method_line_text}
use Rattle.mapping_file.specs.bodies.Pushed.{IsPushed}
use Rattle.mapping_file.proofs.writing.push_methods_within.Given as goal

abbrev pub invariant-loop-method : goal.invariant-loop-method
invariant-loop-method l = IsPushed l.limit l.initial.out.items
    (flat_map (λ f. method_line_text f ++ 10 ∷ []) (take l.method-index l.methods)) l.out.items
