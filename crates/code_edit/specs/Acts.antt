-- The passes and their acts (the project's own).
use Rattle.std.specs.Prelude.{Bool, true, false, List, [], ◌∷◌}
use Rattle.code_edit.specs.declared.act.Act.{Act}
use Rattle.code_edit.specs.declared.act.Act.TheVariants as act
use Rattle.code_edit.specs.declared.act.Pass.{Pass}
use Rattle.code_edit.specs.declared.act.Pass.TheVariants.{Reach, Const, Slots, Jumps}

-- the pass to which an act belongs
abbrev pub pass_of : Act → Pass
pass_of (act.Drop from to) = Reach
pass_of (act.Fact from to slot value) = Const
pass_of (act.Fold at to) = Const
pass_of (act.Cut at) = Slots
pass_of (act.Aim at which to) = Jumps
pass_of (act.Skip at) = Jumps

-- the passes of the steps, in their order
abbrev pub step_passes : List Pass
step_passes = Reach ∷ Const ∷ Reach ∷ Slots ∷ Jumps ∷ Reach ∷ []

-- the passes are one
abbrev pub is_pass : Pass → Pass → Bool
is_pass Reach Reach = true
is_pass Const Const = true
is_pass Slots Slots = true
is_pass Jumps Jumps = true
is_pass _ _ = false
