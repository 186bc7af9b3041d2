-- A set and its classes under the names of a mapping at which MapShape, FixedName, Package and LineRange find no place,
-- as a statement on all sets, mappings and rules (the project's own).
use Rattle.std.specs.Prelude.{◌≡◌, ℕ, List, Some, None, slice_get}
use Rattle.class_model.specs.declared.class.Class.{Class}
use Rattle.keep_rules.specs.declared.rules.Rules.{Rules}
use Rattle.mapping_file.specs.declared.mapping.Mapping.{Mapping}
use Rattle.class_rename.specs.Renamed.{renamed}
use Rattle.new_names.specs.NewNames.{names_of}
use Rattle.pair_clauses.specs.Closing.{lined_items}
use Rattle.pair_clauses.specs.FixedNames.{fixed_by, fixed_fault, package_fault}
use Rattle.pair_clauses.specs.LineRanges.{range_fault}
use Rattle.pair_clauses.specs.Shape.{shape_fault}
use Rattle.pair_checker.specs.Clauses.{given_names}
use Rattle.jvm_model.specs.Same.{AreKept, Same}
use Rattle.jvm_model.specs.Value.{Key}
use Rattle.set_view.specs.ViewOf.{view_of}
use Rattle.image_laws.specs.TakenSet.TakenSet.{IsTaken}
use Rattle.pair_laws.specs.PairSame.Laws.{pair_names}
use Rattle.pair_laws.specs.RenamedSame.Laws.{all_marks}

-- a mapping has a line for each class, field and method of the input, the clauses on names and on ranges of lines find no
-- place, and the output has the classes under the names of the mapping, in whatever order
pub record IsUnderMapping (input output : List Class) (mapping : Mapping) (rules : Rules) (place : ℕ → ℕ) : Type 0 where
  pub lined : lined_items (given_names mapping input) ≡ all_marks input
  pub shape : None ≡ shape_fault input output mapping
  pub fixed : None ≡ fixed_fault (fixed_by rules input) input (given_names mapping input)
  pub packages : None ≡ package_fault input (given_names mapping input)
  pub ranges : None ≡ range_fault mapping input (given_names mapping input) output
  pub at : (n : ℕ) (c : Class) → slice_get input n ≡ Some c
      → slice_get output (place n) ≡ Some (renamed (names_of mapping) c)

-- both are taken; then they do the same, from each entry that is there
abbrev pub MappedKeepsSame : Type 0
MappedKeepsSame = (input output : List Class) (mapping : Mapping) (rules : Rules) (place : ℕ → ℕ) → IsTaken input
    → IsTaken output → IsUnderMapping input output mapping rules place → (entries : List Key)
    → AreKept (pair_names input mapping) entries
    → Same (view_of input) (view_of output) (pair_names input mapping) entries
