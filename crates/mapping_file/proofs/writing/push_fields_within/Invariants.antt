use Rattle.std.proofs.Common.{[], ◌∷◌, ◌++◌, take}
use Rattle.std.specs.List.{flat_map}
use Rattle.mapping_file.specs.MapLines.{field_line_text}
use Rattle.mapping_file.specs.bodies.Pushed.{IsPushed}
use Rattle.mapping_file.proofs.writing.push_fields_within.Given as goal

abbrev pub invariant-loop-field : goal.invariant-loop-field
invariant-loop-field l = IsPushed l.limit l.initial.out.items
    (flat_map (λ f. field_line_text f ++ 10 ∷ []) (take l.field-index l.fields)) l.out.items
