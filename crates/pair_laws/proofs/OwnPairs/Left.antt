-- What is left of a set under its new names is a set that is taken and typed, in the files of its classes.
use Rattle.std.proofs.Common.{◌≡◌, ◌++◌, Bool, List, [], ◌∷◌, map, refl, ap, codes, Option}
use Rattle.std.specs.Prelude.{IfSome}
use Rattle.std.specs.List.{AllByRecursion}
use Rattle.std.specs.Str.{IsUtf8}
use Rattle.mapping_file.specs.Mappings.{IsMapping}
use Rattle.mapping_file.specs.declared.mapping.Mapping.{Mapping}
use Rattle.mark_core.specs.Marks.{Closed, set_of}
use Rattle.class_model.specs.declared.class.Class.{Class}
use Rattle.class_pool.specs.Faults.{classes_of}
use Rattle.class_pool.specs.declared.fault.NamedClass.{NamedClass}
use Rattle.keep_rules.specs.declared.rules.Rules.{Rules}
use Rattle.attribute_filter.specs.KeptAttributes.{filter_of}
use Rattle.rule_system.specs.Required.{kept_by_rules, required}
use Rattle.class_rename.specs.Names.{Names}
use Rattle.set_shrink.specs.Order.{class_path}
use Rattle.set_shrink.specs.ShrunkSet.{left_of, new_names}
use Rattle.image_laws.specs.TakenSet.TakenSet.{IsTaken}
use Rattle.type_verifier.specs.Verified.{AreTyped}
use Rattle.removal_laws.proofs.AcceptedSets.Removed.{left_and_filtered}
use Rattle.removal_laws.proofs.AcceptedSets.Removed.{taken_left, typed_left}
use Rattle.removal_laws.proofs.AcceptedSets.Removed.{AreBuilt}
use Rattle.pair_laws.proofs.RenamedTyped.Taken.{AreFilesOf, IsNewSet}
use Rattle.pair_laws.proofs.RenamedTyped.Taken.{built_again, taken_again}
use Rattle.pair_laws.proofs.RenamedTyped.Typing.{renamed_typed}
use Rattle.pair_laws.proofs.OwnShape.Names.{keep_form, stay_apart}
use Rattle.pair_laws.proofs.OwnShape.Names.{left_ascends, left_renamed}

-- a class at the path of its name
abbrev pub at_its_path : Class → NamedClass
at_its_path c = record { path = class_path c; class = c }

-- the classes of such files are these
pub classes_back : (cs : List Class) → classes_of (map at_its_path cs) ≡ cs
classes_back [] = refl
classes_back (c ∷ cs) = ap (λ (t : List Class). c ∷ t) (classes_back cs)

pub at_paths : (cs : List Class)
    → AllByRecursion (λ (f : NamedClass). f.path ≡ f.class.name ++ codes ".class") (map at_its_path cs)
at_paths [] = tt
at_paths (c ∷ cs) = (refl, at_paths cs)

module _ (classes : List Class) (marks : List Bool) (rules : Rules) (old : Option Mapping) (has : IfSome old IsMapping)
    (taken : IsTaken classes)
    (closed : Closed (required classes rules) (set_of marks)) (utf8 : IfSome rules.source_name IsUtf8) where
  abbrev names : Names
  names = new_names classes marks rules old

  abbrev kept : List Class
  kept = left_and_filtered (filter_of rules) classes marks

  abbrev left : List Class
  left = left_of classes marks rules old

  kept_taken : IsTaken kept
  kept_taken = taken_left classes (kept_by_rules classes rules) marks (filter_of rules) taken closed refl utf8

  new_set : IsNewSet names kept left
  new_set = record {
    form = keep_form classes marks rules old has taken closed;
    apart = stay_apart classes marks rules old has taken closed;
    order = left_renamed classes marks rules old taken;
  }

  -- ---- its files

  abbrev pub named : List NamedClass
  named = map at_its_path left

  pub are_back : classes_of named ≡ left
  are_back = classes_back left

  its_files : AreFilesOf left named
  its_files = record {
    classes_are = are_back;
    paths = at_paths left;
    ascend = left_ascends classes marks rules old named (at_paths left) are_back;
  }

  pub are_built : AreBuilt named left
  are_built = built_again names kept left named kept_taken new_set its_files

  pub is_taken : IsTaken left
  is_taken = taken_again names kept left named kept_taken new_set its_files

  pub is_typed : AreTyped classes → AreTyped left
  is_typed typed = renamed_typed names kept left kept_taken
      (typed_left classes (kept_by_rules classes rules) marks (filter_of rules) taken typed closed) new_set is_taken
