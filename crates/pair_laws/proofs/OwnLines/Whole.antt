-- What is written of a set agrees with it in each clause but MapShape.
use Rattle.std.proofs.Common.{◌≡◌, ℕ, ◌+◌, Bool, List, length, Option, Some, slice_get}
use Rattle.jv_base.specs.Types.{method_text}
use Rattle.class_model.specs.declared.class.Class.{Class}
use Rattle.class_model.specs.declared.class.Field.{Field}
use Rattle.class_model.specs.declared.class.Method.{Method}
use Rattle.class_pool.specs.Items.{class_item}
use Rattle.keep_rules.specs.declared.rules.Rules.{Rules}
use Rattle.attribute_filter.specs.KeptAttributes.{filter_of}
use Rattle.member_shrink.specs.Shrunk.{is_marked, shrunk}
use Rattle.rule_system.specs.Required.{required}
use Rattle.mapping_file.specs.declared.mapping.Mapping.{Mapping}
use Rattle.class_rename.specs.Names.{Names}
use Rattle.set_shrink.specs.ShrunkSet.{new_names}
use Rattle.new_names.specs.NewNames.{new_class, new_field, new_method}
use Rattle.pair_checker.specs.Clauses.{given_names}
use Rattle.pair_laws.specs.OwnLines.Laws.{IsMarkedSet, LinesAreToldByMarks, OwnLines, name_if}
use Rattle.pair_laws.specs.OwnNames.Laws.{own_mapping}
use Rattle.pair_laws.proofs.OwnLines.Closing.{no_item_lacks, no_seed_lost}
use Rattle.pair_laws.proofs.OwnLines.Fixed.{no_name_differs, no_package_differs}
use Rattle.pair_laws.proofs.OwnLines.Items.{lined_marks}
use Rattle.pair_laws.proofs.OwnLines.Members.{no_code_differs, no_member_differs}
use Rattle.pair_laws.proofs.OwnLines.Ranges.{no_range_left}
use Rattle.pair_laws.proofs.OwnLines.Told.{class_is_told, field_is_told, method_is_told}

module _ (classes : List Class) (marks : List Bool) (rules : Rules) (old : Option Mapping)
    (set : IsMarkedSet classes marks rules) where
  abbrev names : Names
  names = new_names classes marks rules old

  abbrev mapping : Mapping
  mapping = own_mapping classes marks rules old

  abbrev lines : Bool
  lines = (filter_of rules).line_numbers

  class_told : (n : ℕ) (c : Class) → slice_get classes n ≡ Some c
      → new_class mapping c.name ≡ name_if (is_marked marks (class_item classes n)) (names.class c.name)
  class_told n c at = class_is_told names lines classes marks set.taken n c at

  field_told : (n : ℕ) (c : Class) → slice_get classes n ≡ Some c → (k : ℕ) (x : Field) → slice_get c.fields k ≡ Some x
      → new_field mapping c x ≡ name_if (is_marked marks (class_item classes n + 1 + k)) (names.field x.name)
  field_told n c at k x there =
      field_is_told names lines classes marks set.taken n c at rules set.closed k x there

  method_told : (n : ℕ) (c : Class) → slice_get classes n ≡ Some c → (k : ℕ) (x : Method)
      → slice_get c.methods k ≡ Some x
      → new_method mapping c x ≡ name_if (is_marked marks (class_item classes n + 1 + (length c.fields + k)))
      (names.method x.name (method_text x.ty))
  method_told n c at k x there =
      method_is_told names lines classes marks set.taken n c at rules set.closed k x there

pub lines_told : LinesAreToldByMarks
lines_told classes marks rules old set = record {
  class = class_told classes marks rules old set;
  field = field_told classes marks rules old set;
  method = method_told classes marks rules old set;
  items = lined_marks (new_names classes marks rules old) (own_mapping classes marks rules old) classes marks
      (class_told classes marks rules old set) (field_told classes marks rules old set)
      (method_told classes marks rules old set) set.count;
}

pub own_lines : OwnLines
own_lines classes marks rules old set names_told =
    let mapping = own_mapping classes marks rules old in
    let told = lines_told classes marks rules old set in
    record {
      fixed = no_name_differs classes (shrunk classes marks) rules old marks mapping told;
      packages = no_package_differs classes (shrunk classes marks) rules old marks mapping told;
      seeds = no_seed_lost classes (given_names mapping classes) (required classes rules) marks set.closed told.items;
      closed = no_item_lacks classes (given_names mapping classes) (required classes rules) marks set.closed told.items;
      members = no_member_differs classes marks rules old set.taken set.closed mapping told names_told;
      codes = no_code_differs classes marks rules old set.taken set.closed mapping told names_told;
      ranges = no_range_left classes marks rules old set.taken set.closed told names_told;
    }
