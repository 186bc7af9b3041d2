-- What is kept of a set can be written under its new names.
use Rattle.std.proofs.Common.{◌≡◌, ℕ, Bool, true, false, cond, List, map, Option, Some, slice_get, codes, inr, Result, Ok, Err}
use Rattle.std.proofs.Common.{refl, sym, subst}
use Rattle.std.specs.List.{AllByRecursion}
use Rattle.std.specs.Prelude.{IfSome}
use Rattle.jv_base.proofs.Lists.{all_at, all_from}
use Rattle.mark_core.specs.Marks.{Closed}
use Rattle.class_model.specs.declared.class.Class.{Class}
use Rattle.class_pool.specs.Faults.{name_faults, then_super_faults}
use Rattle.class_pool.specs.bodies.Faults.{NamesDiffer}
use Rattle.class_pool.specs.declared.fault.NamedClass.{NamedClass}
use Rattle.class_pool.specs.declared.fault.PoolFault.{PoolFault}
use Rattle.class_pool.proofs.FaultLaws.{names_differ}
use Rattle.class_rename.specs.Names.{Names, same_names}
use Rattle.class_rename.specs.Renamed.{renamed}
use Rattle.class_laws.specs.SpellingLaws.{IsWritable}
use Rattle.keep_rules.specs.declared.rules.Rules.{Rules}
use Rattle.mapping_file.specs.Mappings.{IsMapping}
use Rattle.mapping_file.specs.declared.mapping.Mapping.{Mapping}
use Rattle.new_names.specs.NewNames.{tables_of}
use Rattle.member_shrink.specs.Shrunk.{is_marked, shrunk}
use Rattle.class_laws.proofs.Mapped.{all_mapped}
use Rattle.fresh_names.specs.Given.{class_names, names_given}
use Rattle.fresh_names.specs.declared.taken.TakenNames.{TakenNames}
use Rattle.fresh_names.proofs.Tables.{classes_differ}
use Rattle.rename_map.specs.Fixed.{Stay, names_that_stay}
use Rattle.rename_map.specs.Names.{given_beside}
use Rattle.rename_map.proofs.Stays.{reserved_class_stays}
use Rattle.pair_laws.specs.RenamedForm.GivenForm.{HasReserved}
use Rattle.pair_laws.proofs.RenamedForm.GivenWritable.{given_writable}
use Rattle.rule_system.specs.Required.{kept_by_rules, required}
use Rattle.set_shrink.specs.Order.{AreApart}
use Rattle.set_shrink.specs.ShrunkSet.{renamed_of}
use Rattle.set_shrink.proofs.AllOrdered.{order_keeps_all}
use Rattle.set_shrink.proofs.Writable.{shrunk_writable}
use Rattle.pair_laws.specs.NamedForm.Laws.{IsLinked, KeptAreAllWritten, KeptAreWritable}
use Rattle.pair_laws.proofs.NamedForm.Apart.{kept_apart, pairs_apart, renamed_apart}
use Rattle.pair_laws.proofs.NamedForm.Kept.{no_name, none_java, types_known}
use Rattle.pair_laws.proofs.NamedForm.Earlier.{tables_tell}
use Rattle.pair_laws.proofs.NamedForm.Same.{same_writable}

-- names that stay, as those that are taken
abbrev pub taken_of : Stay → TakenNames
taken_of stay = record { classes = stay.classes; fields = stay.fields; methods = stay.methods }

pub has_reserved : (rules : Rules) (classes : List Class) → HasReserved (taken_of (names_that_stay rules classes))
has_reserved rules classes = λ a h. reserved_class_stays rules classes a h

module _ (classes : List Class) (rules : Rules) (old : Option Mapping) (marks : List Bool)
    (has : IfSome old IsMapping) (t : IsLinked classes)
    (closed : Closed (required classes rules) (is_marked marks)) (all : AllByRecursion IsWritable classes) where
  kept_as_before : AllByRecursion IsWritable (shrunk classes marks)
  kept_as_before = shrunk_writable classes marks all

  each_given : (k : ℕ) (c : Class) → slice_get (shrunk classes marks) k ≡ Some c
      → IsWritable (renamed (names_given (taken_of (names_that_stay rules classes)) (tables_of old) (shrunk classes marks)) c)
  each_given k c at =
      given_writable (taken_of (names_that_stay rules classes)) (tables_of old) (shrunk classes marks) k c
      (has_reserved rules classes) (tables_tell old has)
      (no_name (shrunk classes marks) (codes "java/lang/String")
      (none_java classes (kept_by_rules classes rules) marks t closed) refl)
      at
      (all_at _ (shrunk classes marks) k c
      (types_known classes (kept_by_rules classes rules) marks t closed (taken_of (names_that_stay rules classes))) at)
      (all_at IsWritable (shrunk classes marks) k c kept_as_before at)

  by_names : (names : Names) → ((k : ℕ) (c : Class) → slice_get (shrunk classes marks) k ≡ Some c
      → IsWritable (renamed names c)) → AllByRecursion IsWritable (map (renamed names) (shrunk classes marks))
  by_names names each =
      all_mapped (λ (c : Class). IsWritable (renamed names c)) IsWritable (renamed names) (λ c h. h)
      (shrunk classes marks) (all_from (λ (c : Class). IsWritable (renamed names c)) (shrunk classes marks) each)

  by_obfuscation : (obfuscate : Bool) → AllByRecursion IsWritable
      (map (renamed (cond obfuscate (given_beside (names_that_stay rules classes) (tables_of old) (shrunk classes marks)) same_names))
      (shrunk classes marks))
  by_obfuscation true = by_names (given_beside (names_that_stay rules classes) (tables_of old) (shrunk classes marks)) each_given
  by_obfuscation false = by_names same_names
      (λ k c at. same_writable c (all_at IsWritable (shrunk classes marks) k c kept_as_before at))

pub kept_writable : KeptAreWritable
kept_writable classes rules old marks has t closed all =
    by_obfuscation classes rules old marks has t closed all rules.obfuscate

-- ---- all of it

no_name_fault : (files : List NamedClass) (r : Result (Unit {0}) PoolFault) → name_faults files ≡ r
    → then_super_faults files r ≡ Ok tt → name_faults files ≡ Ok tt
no_name_fault files (Ok t) is h = is
no_name_fault files (Err f) is h = absurd cc

-- each class of such a set has a name of its own, which its path follows
pub files_named : (classes : List Class) (t : IsLinked classes) → name_faults t.files ≡ Ok tt
files_named classes t = no_name_fault t.files (name_faults t.files) refl t.built.0

pub names_apart : (classes : List Class) → IsLinked classes → NamesDiffer classes
names_apart classes t = subst NamesDiffer (sym t.built.2) (names_differ t.files t.ascend (files_named classes t))

pub set_apart : (classes : List Class) → IsLinked classes → AreApart classes
set_apart classes t = pairs_apart classes (names_apart classes t)

pub apart_by : (classes : List Class) (rules : Rules) (old : Option Mapping) (marks : List Bool) → IsLinked classes → (obfuscate : Bool)
    → AreApart (map
    (renamed (cond obfuscate (given_beside (names_that_stay rules classes) (tables_of old) (shrunk classes marks)) same_names))
    (shrunk classes marks))
apart_by classes rules old marks t true =
    renamed_apart (given_beside (names_that_stay rules classes) (tables_of old) (shrunk classes marks)) (shrunk classes marks)
    (λ a b h k same.
    classes_differ (tables_of old).classes (names_that_stay rules classes).classes (class_names (shrunk classes marks)) a b
    (inr h) (inr k) same)
    (kept_apart classes marks (set_apart classes t))
apart_by classes rules old marks t false =
    renamed_apart same_names (shrunk classes marks) (λ a b h k same. same)
    (kept_apart classes marks (set_apart classes t))

pub all_written : KeptAreAllWritten
all_written classes rules old marks t =
    order_keeps_all (renamed_of classes marks rules old) (apart_by classes rules old marks t rules.obfuscate)
