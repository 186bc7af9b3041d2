use Rattle.std.proofs.Common.{◌≡◌, [], ◌∷◌, ◌++◌, take}
use Rattle.std.specs.List.{flat_map}
use Rattle.witness_file.specs.WitnessLines.{act_text}
use Rattle.witness_file.proofs.writing.push_acts.Given as goal

abbrev pub invariant-loop-act : goal.invariant-loop-act
invariant-loop-act l = l.out.items ≡ l.initial.out.items ++ flat_map (λ a. act_text a ++ 10 ∷ [])
    (take l.act-index l.acts)
