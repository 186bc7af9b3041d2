-- Acts in words: the word of each, the numbers behind it, and the acts with such numbers (the project's own;
-- docs/WITNESS.md).
use Rattle.std.specs.Prelude.{ℕ, List, [], ◌∷◌, Option, codes}
use Rattle.std.specs.List.{find}
use Rattle.jv_base.specs.Names.{is_text}
use Rattle.code_edit.specs.declared.act.Act.{Act}
use Rattle.code_edit.specs.declared.act.Act.TheVariants as act
use Rattle.witness_file.specs.declared.acts.Numbers.{Numbers}
use Rattle.witness_file.specs.declared.acts.Numbers.TheVariants.{One, Two, Three, Four}

-- the word of an act, and its numbers
abbrev pub parts_of : Act → List ℕ × Numbers
parts_of (act.Drop from to) = (codes "drop", Two from to)
parts_of (act.Fact from to slot value) = (codes "fact", Four from to slot value)
parts_of (act.Fold at to) = (codes "fold", Two at to)
parts_of (act.Cut at) = (codes "cut", One at)
parts_of (act.Aim at which to) = (codes "aim", Three at which to)
parts_of (act.Skip at) = (codes "skip", One at)

-- the acts with these numbers
abbrev pub acts_with : Numbers → List Act
acts_with (One at) = act.Cut at ∷ act.Skip at ∷ []
acts_with (Two from to) = act.Drop from to ∷ act.Fold from to ∷ []
acts_with (Three at which to) = act.Aim at which to ∷ []
acts_with (Four from to slot value) = act.Fact from to slot value ∷ []

-- the act of a word and numbers
unfoldable pub act_with : List ℕ → Numbers → Option Act
act_with word numbers = find (λ a. is_text word (parts_of a).0) (acts_with numbers)
