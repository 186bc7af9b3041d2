-- A set and its classes under new names, as a statement on all sets and names (the project's own).
use Rattle.std.specs.Prelude.{◌≡◌, ℕ, List}
use Rattle.class_model.specs.declared.class.Class.{Class}
use Rattle.image_laws.specs.SetImage.Image.{Image}
use Rattle.class_rename.specs.Names.{Names}
use Rattle.pair_laws.specs.RenamedImage.Naming.{is_class_there, is_member_there, new_named}
use Rattle.pair_laws.specs.RenamedImage.Renaming.{FindsItsClasses, IsRenamedSet, KeepsNamesApart, NamesKnownTypes}
use Rattle.pair_laws.specs.RenamedImage.Renaming.{placed_class, placed_member}

-- an image keeps all that is there, each class at its place, each member under its number and its new name
pub record IsByNames (names : Names) (place : ℕ → ℕ) (xs ys : List Class) (i : Image xs ys) : Type 0 where
  pub kept : i.kept ≡ is_class_there xs
  pub moved : i.moved ≡ placed_class place
  pub kept_member : i.kept_member ≡ is_member_there xs
  pub moved_member : i.moved_member ≡ placed_member place
  pub renamed : i.renamed ≡ new_named names xs

-- classes under new names that stay apart are an image of the set, in whatever order
abbrev pub RenamedIsImage : Type 0
RenamedIsImage = (names : Names) (place : ℕ → ℕ) (xs ys : List Class) → FindsItsClasses xs → FindsItsClasses ys
    → NamesKnownTypes xs → KeepsNamesApart names xs → IsRenamedSet names place xs ys
    → (i : Image xs ys) × IsByNames names place xs ys i
