-- What names lead to in a set that is taken.
use Rattle.std.proofs.Common.{◌≡◌, ℕ, nat_eq, true, List, [], Some}
use Rattle.std.proofs.Common.{slice_get, refl, sym, ap, subst, ◌∙◌, arith, codes, ⊎_elim}
use Rattle.std.specs.List.{starts_with}
use Rattle.std.specs.Option.{option_map, option_map_or}
use Rattle.std.proofs.lemmas.Option.{slice_get_cases}
use Rattle.class_model.specs.declared.class.Class.{Class}
use Rattle.lib_table.specs.Library.{library}
use Rattle.lib_table.specs.Lookups as table
use Rattle.class_pool.specs.Distinct.{MembersDiffer}
use Rattle.class_pool.specs.Found.{name_of}
use Rattle.class_pool.specs.Hierarchy.{IsClass, class_named, or_found}
use Rattle.class_pool.specs.bodies.Faults.{NamesDiffer}
use Rattle.class_pool.specs.declared.id.ClassId.{ClassId}
use Rattle.class_pool.specs.declared.id.ClassId.TheVariants.{Prog, Lib}
use Rattle.class_pool.proofs.Distinct.{members_differ, program_named}
use Rattle.class_pool.proofs.FaultLaws.{names_differ}
use Rattle.class_pool.proofs.ObjectLaws.{no_library_name}
use Rattle.image_laws.specs.TakenSet.TakenSet.{IsTaken}
use Rattle.image_laws.proofs.TakenSet.LibraryRows.{library_name}
use Rattle.image_laws.proofs.TakenSet.Proper.{names_right}

module _ (classes : List Class) (t : IsTaken classes) where
  pub differ : (n : ℕ) (c : Class) → slice_get classes n ≡ Some c → MembersDiffer c
  differ n c is = members_differ c (t.formed n c is)

  all_names_differ : NamesDiffer classes
  all_names_differ = subst NamesDiffer (sym t.built.2) (names_differ t.files t.ascend (names_right classes t))

  -- a name of the library's packages leads to the library
  pub library_named : (name : List ℕ) → starts_with nat_eq name (codes "java/") ≡ true
      → class_named classes name ≡ option_map Lib (table.class_named name)
  library_named name java = ap (λ o. or_found o (option_map Lib (table.class_named name)))
      (no_library_name t.files classes name t.built java)

  -- a class is found by its name
  pub class_found : (x : ClassId) → IsClass classes x → class_named classes (name_of classes x) ≡ Some x
  class_found (Prog n) there =
      ⊎_elim
      (λ p.
      ap (λ o. class_named classes (option_map_or (λ (c : Class). c.name) o [])) p.2
      ∙ program_named classes all_names_differ n p.0 p.2)
      (λ p. absurd (omega (arith, there, p.0)))
      (slice_get_cases classes n).1
  class_found (Lib id) there =
      let row = library_name id there in
      library_named (table.class_at id).name row.0 ∙ ap (option_map Lib) row.1

  -- Object is one of the library
  pub object_named : class_named classes (codes "java/lang/Object") ≡ Some (Lib 0)
  unfolding library
  object_named = library_named (codes "java/lang/Object") refl
