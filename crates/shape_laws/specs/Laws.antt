-- What stays of a set as a program, as statements on all changes and sets (the project's own).
use Rattle.std.specs.Prelude.{◌≡◌, List, map}
use Rattle.class_model.specs.declared.class.Class.{Class}
use Rattle.set_view.specs.ViewOf.{shape_of}
use Rattle.shape_laws.specs.Bare.{DifferInCodes}
use Rattle.shape_laws.specs.KeepsMembers.{KeepsMembers}

-- a change that leaves members alone leaves the shape of the program
abbrev pub KeepingMembersKeepsShape : Type 0
KeepingMembersKeepsShape =
    (f : Class → Class) → KeepsMembers f → (a : List Class) → shape_of (map f a) ≡ shape_of a

-- so do other codes
abbrev pub OtherCodesKeepShape : Type 0
OtherCodesKeepShape = (a b : List Class) → DifferInCodes a b → shape_of b ≡ shape_of a
