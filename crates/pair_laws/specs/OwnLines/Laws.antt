-- What is written of a set with its mapping: each clause of a pair but MapShape finds no place, as statements on all
-- sets, marks and rules (the project's own).
use Rattle.std.specs.Prelude.{◌≡◌, ℕ, ◌+◌, Bool, List, length, Option, Some, None, slice_get, if◌then◌else◌}
use Rattle.jv_base.specs.Types.{method_text}
use Rattle.mark_core.specs.Marks.{Closed, set_of}
use Rattle.class_model.specs.declared.class.Class.{Class}
use Rattle.class_model.specs.declared.class.Field.{Field}
use Rattle.class_model.specs.declared.class.Method.{Method}
use Rattle.class_pool.specs.Count.{item_count}
use Rattle.class_pool.specs.Items.{class_item}
use Rattle.keep_rules.specs.declared.rules.Rules.{Rules}
use Rattle.attribute_filter.specs.KeptAttributes.{filter_of}
use Rattle.rule_system.specs.Required.{required}
use Rattle.member_shrink.specs.Shrunk.{is_marked}
use Rattle.mapping_file.specs.declared.mapping.Mapping.{Mapping}
use Rattle.class_rename.specs.Names.{Names}
use Rattle.set_shrink.specs.ShrunkSet.{left_of, new_names}
use Rattle.image_laws.specs.TakenSet.TakenSet.{IsTaken}
use Rattle.new_names.specs.NewNames.{names_of, new_class, new_field, new_method}
use Rattle.pair_clauses.specs.Closing.{closed_fault, lined_items, seed_fault}
use Rattle.pair_clauses.specs.Codes.{CodeDiffers}
use Rattle.pair_clauses.specs.FixedNames.{fixed_by, fixed_fault, package_fault}
use Rattle.pair_clauses.specs.LineRanges.{range_fault}
use Rattle.pair_clauses.specs.Members.{MemberDiffers}
use Rattle.pair_checker.specs.Clauses.{given_names}
use Rattle.pair_laws.specs.OwnNames.Laws.{own_mapping}

-- ---- what is marked

-- the set is taken, and the marks are closed for what its rules require
pub record IsMarkedSet (classes : List Class) (marks : List Bool) (rules : Rules) : Type 0 where
  pub taken : IsTaken classes
  pub closed : Closed (required classes rules) (set_of marks)
  pub count : length marks ≡ item_count classes

-- ---- lines

-- the new name of what is marked; what isn't has none
abbrev pub name_if : Bool → List ℕ → Option (List ℕ)
name_if marked new = if marked then Some new else None

-- a mapping tells the new name of each class, field and method whose item is marked, and of no other
pub record IsToldByMarks (names : Names) (classes : List Class) (marks : List Bool) (mapping : Mapping) : Type 0 where
  pub class : (n : ℕ) (c : Class) → slice_get classes n ≡ Some c
      → new_class mapping c.name ≡ name_if (is_marked marks (class_item classes n)) (names.class c.name)
  pub field : (n : ℕ) (c : Class) → slice_get classes n ≡ Some c
      → (k : ℕ) (f : Field) → slice_get c.fields k ≡ Some f
      → new_field mapping c f ≡ name_if (is_marked marks (class_item classes n + 1 + k)) (names.field f.name)
  pub method : (n : ℕ) (c : Class) → slice_get classes n ≡ Some c
      → (k : ℕ) (m : Method) → slice_get c.methods k ≡ Some m
      → new_method mapping c m ≡ name_if (is_marked marks (class_item classes n + 1 + (length c.fields + k)))
      (names.method m.name (method_text m.ty))
  pub items : lined_items (given_names mapping classes) ≡ marks

-- so does the mapping of what is marked
abbrev pub LinesAreToldByMarks : Type 0
LinesAreToldByMarks = (classes : List Class) (marks : List Bool) (rules : Rules) (old : Option Mapping)
    → IsMarkedSet classes marks rules
    → IsToldByMarks (new_names classes marks rules old) classes marks (own_mapping classes marks rules old)

-- ---- clauses

-- what two sets of which no clause holds have beside MapShape: each field is that of `IsPair`
pub record IsPairButShape (input output : List Class) (mapping : Mapping) (rules : Rules) : Type 0 where
  pub fixed : None ≡ fixed_fault (fixed_by rules input) input (given_names mapping input)
  pub packages : None ≡ package_fault input (given_names mapping input)
  pub seeds : None ≡ seed_fault input (given_names mapping input) (required input rules)
  pub closed : None ≡ closed_fault input (given_names mapping input) (required input rules)
  pub members : MemberDiffers mapping (filter_of rules) input (given_names mapping input) output None
  pub codes : CodeDiffers mapping (filter_of rules) input (given_names mapping input) output None
  pub ranges : None ≡ range_fault mapping input (given_names mapping input) output

-- a set and what is written of it are so, where the mapping gives the names by which that was renamed
abbrev pub OwnLines : Type 0
OwnLines = (classes : List Class) (marks : List Bool) (rules : Rules) (old : Option Mapping)
    → IsMarkedSet classes marks rules
    → names_of (own_mapping classes marks rules old) ≡ new_names classes marks rules old
    → IsPairButShape classes (left_of classes marks rules old) (own_mapping classes marks rules old) rules
