-- The classes of a set under new names, in another order, and their files (JVMS 4; the order of files is the project's
-- own).
use Rattle.std.specs.Prelude.{◌≡◌, List, ◌++◌, IsPermutation, codes, map}
use Rattle.std.specs.List.{AllByRecursion}
use Rattle.class_model.specs.declared.class.Class.{Class}
use Rattle.class_pool.specs.Faults.{Ascends, classes_of}
use Rattle.class_pool.specs.declared.fault.NamedClass.{NamedClass}
use Rattle.class_rename.specs.Names.{Names}
use Rattle.class_rename.specs.Renamed.{renamed}
use Rattle.pair_laws.specs.RenamedForm.Form.{KeepsForm}
use Rattle.pair_laws.specs.RenamedImage.Renaming.{KeepsNamesApart}

-- classes are those of a set under names that keep the form and stay apart, in whatever order (JVMS 4.2; the project's
-- own)
pub record IsNewSet (names : Names) (classes out : List Class) : Type 0 where
  pub form : KeepsForm names
  pub apart : KeepsNamesApart names classes
  pub order : IsPermutation (map (renamed names) classes) out

-- files have these classes, each at the path of its name, in the order of their paths (JLS 7.2.1; the order is the
-- project's own)
pub record AreFilesOf (classes : List Class) (files : List NamedClass) : Type 0 where
  pub classes_are : classes_of files ≡ classes
  pub paths : AllByRecursion (λ (f : NamedClass). f.path ≡ f.class.name ++ codes ".class") files
  pub ascend : Ascends files
