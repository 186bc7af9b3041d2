-- Of the same set, for the same marks, rules and earlier mapping, one thing at most is written, or one limit passed,
-- and never both (the project's own: the answer is the only one).
use Rattle.std.specs.Prelude.{◌≡◌, Bool, List, Option}
use Rattle.class_model.specs.declared.class.Class.{Class}
use Rattle.class_model.specs.declared.limit.WriteLimit.{WriteLimit}
use Rattle.keep_rules.specs.declared.rules.Rules.{Rules}
use Rattle.mapping_file.specs.declared.mapping.Mapping.{Mapping}
use Rattle.set_shrink.specs.ShrunkSet.{IsShrunk, PassesLimit}
use Rattle.set_shrink.specs.declared.shrunk.ShrunkSet.{ShrunkSet}

-- two sets of files with their counts, written of the same set, are the same
abbrev pub IsOneShrunk : Type 0
IsOneShrunk = (classes : List Class) (marks : List Bool) (rules : Rules) (old : Option Mapping) (one other : ShrunkSet)
    → IsShrunk classes marks rules old one → IsShrunk classes marks rules old other → one ≡ other

-- two limits that what is marked passes first are the same
abbrev pub IsOneLimit : Type 0
IsOneLimit = (classes : List Class) (marks : List Bool) (rules : Rules) (old : Option Mapping) (limit other : WriteLimit)
    → PassesLimit classes marks rules old limit → PassesLimit classes marks rules old other → limit ≡ other

-- what is written passes no limit
abbrev pub NotBothShrunk : Type 0
NotBothShrunk = (classes : List Class) (marks : List Bool) (rules : Rules) (old : Option Mapping) (set : ShrunkSet)
    (limit : WriteLimit) → IsShrunk classes marks rules old set → PassesLimit classes marks rules old limit → ⊥
