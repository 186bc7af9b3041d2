-- The names of the rules for classes (the project's own: what the command says).
use Rattle.std.specs.Prelude.{ℕ, List, codes}
use Rattle.link_check.specs.declared.fault.ProfileKind.{ProfileKind}
use Rattle.link_check.specs.declared.fault.ProfileKind.TheVariants.{LeftOutFlag, LeftOutConstant, LeftOutOpcode}
use Rattle.link_check.specs.declared.fault.ProfileKind.TheVariants.{LeftOutType, Unresolved, Inaccessible, WrongKind}
use Rattle.link_check.specs.declared.fault.ProfileKind.TheVariants.{LeftOutMember}

-- the word for a kind of fault
abbrev pub profile_name : ProfileKind → List ℕ
profile_name LeftOutFlag = codes "LeftOutFlag"
profile_name LeftOutConstant = codes "LeftOutConstant"
profile_name LeftOutOpcode = codes "LeftOutOpcode"
profile_name LeftOutType = codes "LeftOutType"
profile_name Unresolved = codes "Unresolved"
profile_name Inaccessible = codes "Inaccessible"
profile_name WrongKind = codes "WrongKind"
profile_name LeftOutMember = codes "LeftOutMember"
