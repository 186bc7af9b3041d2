-- What is left of a set is an image of it, as a statement on all sets and marks (the project's own).
use Rattle.std.specs.Prelude.{◌≡◌, Bool, List, Some}
use Rattle.class_model.specs.declared.class.Class.{Class}
use Rattle.image_laws.specs.SetImage.Image.{Image}
use Rattle.member_shrink.specs.Shrunk.{shrunk}
use Rattle.image_laws.specs.ShrunkImage.Keeping.{AllMembersDiffer, ObjectKept, SupersMarked, class_place, is_class_kept}
use Rattle.image_laws.specs.ShrunkImage.Keeping.{is_member_kept, member_place}

-- an image keeps what is marked, at its place in what is left, under its name
pub record IsByMarks (classes : List Class) (marks : List Bool)
    (i : Image classes (shrunk classes marks)) : Type 0 where
  pub kept : i.kept ≡ is_class_kept classes marks
  pub moved : i.moved ≡ class_place classes marks
  pub kept_member : i.kept_member ≡ is_member_kept classes marks
  pub moved_member : i.moved_member ≡ member_place classes marks
  pub renamed : i.renamed ≡ Some

-- where direct supertypes of what is marked are marked, and Object is kept, there is such an image
abbrev pub ShrunkIsImage : Type 0
ShrunkIsImage = (classes : List Class) (marks : List Bool) → AllMembersDiffer classes → SupersMarked classes marks
    → ObjectKept classes marks → (i : Image classes (shrunk classes marks)) × IsByMarks classes marks i
