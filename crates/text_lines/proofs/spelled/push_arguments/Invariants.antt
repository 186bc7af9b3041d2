use Rattle.std.proofs.Common.{◌≡◌, ◌++◌, codes, take}
use Rattle.std.specs.List.{flat_map}
use Rattle.jv_base.specs.External.{external_text}
use Rattle.text_lines.proofs.spelled.push_arguments.Given as goal

abbrev pub invariant-loop-ty : goal.invariant-loop-ty
invariant-loop-ty l = l.out.items
    ≡ l.initial.out.items ++ flat_map (λ ty. codes "," ++ external_text ty) (take l.ty-index l.rest)
