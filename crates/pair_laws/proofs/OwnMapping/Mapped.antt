-- The mapping of classes that can be written, before and after, has a text.
use Rattle.std.proofs.Common.{◌≢◌, ℕ, ◌<◌, ◌^◌, Bool, true, false, cond, List, [], ◌∷◌, ◌++◌, map, min, max, Option}
use Rattle.std.proofs.Common.{Some, None, arith}
use Rattle.std.specs.Prelude.{IfSome, IsUtf8}
use Rattle.std.specs.List.{AllByRecursion, cons_option, filter_map, fold}
use Rattle.std.specs.Option.{option_and_then}
use Rattle.jv_base.proofs.Lists.{all_append}
use Rattle.class_model.specs.Flags.{is_interface}
use Rattle.class_model.specs.WellFormed.{IsGoodField, IsGoodMethod}
use Rattle.class_model.specs.declared.class.Class.{Class}
use Rattle.class_model.specs.declared.class.Field.{Field}
use Rattle.class_model.specs.declared.class.Method.{Method}
use Rattle.class_model.specs.declared.code.Code.{Code}
use Rattle.class_model.specs.declared.code.Ins.{Ins}
use Rattle.class_laws.specs.ClassValues.{IsCodeValue, IsFieldValue, IsInsValue, IsMethodValue}
use Rattle.class_laws.specs.SpellingLaws.{IsWritable}
use Rattle.class_rename.specs.Names.{Names}
use Rattle.class_rename.specs.Renamed.{renamed, renamed_field, renamed_method}
use Rattle.mapping_file.specs.MapLines.{IsField, IsMethod, IsRange, field_line_text, line_text, method_line_text}
use Rattle.mapping_file.specs.Mappings.{HasOtherNames, IsTextLine}
use Rattle.mapping_file.specs.Mappings.{AreApart as LinesAreApart, class_lines as lines_of_class}
use Rattle.mapping_file.specs.declared.mapping.MapClass.{MapClass}
use Rattle.mapping_file.specs.declared.mapping.MapField.{MapField}
use Rattle.mapping_file.specs.declared.mapping.MapMethod.{MapMethod}
use Rattle.mapping_file.specs.declared.mapping.Range.{Range}
use Rattle.rename_map.specs.MappingOf.{class_lines, field_line, lines_of, method_line, range_of, widened}
use Rattle.set_shrink.specs.Order.{AreApart}
use Rattle.pair_laws.proofs.OwnMapping.Texts.{class_line_utf8, field_line_utf8, method_line_utf8}
use Rattle.pair_laws.specs.OwnMapping.Laws.{WritableHaveMapping}

-- ---- lines of a code

abbrev IsLineNumber : ℕ → Type 0
IsLineNumber n = n < 2 ^ 16

least : (a b : ℕ) → a < 65536 → min a b < 65536
least a b low = omega (arith, low)

most : (a b : ℕ) → a < 65536 → b < 65536 → max a b < 65536
most a b low lower = omega (arith, low, lower)

widened_range : (numbers : List ℕ) (range : Range) → IsRange range → AllByRecursion IsLineNumber numbers
    → IsRange (fold widened range numbers)
widened_range [] range is all = is
widened_range (n ∷ numbers) range is all =
    widened_range numbers (widened range n)
    (least range.first n is.0, most range.last n is.1 (omega (arith, all.0))) all.1

range_is : (numbers : List ℕ) → AllByRecursion IsLineNumber numbers → IfSome (range_of numbers) IsRange
range_is [] all = tt
range_is (n ∷ numbers) all =
    widened_range numbers (record { first = n; last = n }) (omega (arith, all.0), omega (arith, all.0)) all.1

one_more : (o : Option ℕ) (numbers : List ℕ) → IfSome o IsLineNumber → AllByRecursion IsLineNumber numbers
    → AllByRecursion IsLineNumber (cons_option o numbers)
one_more None numbers first all = all
one_more (Some n) numbers first all = (first, all)

numbers_fit : (ins : List Ins) → AllByRecursion IsInsValue ins
    → AllByRecursion IsLineNumber (filter_map (λ (i : Ins). i.line) ins)
numbers_fit [] all = tt
numbers_fit (i ∷ ins) all = one_more i.line (filter_map (λ (i : Ins). i.line) ins) all.0.line (numbers_fit ins all.1)

code_range : (code : Option Code) → IfSome code IsCodeValue
    → IfSome (option_and_then (λ (c : Code). range_of (lines_of c)) code) IsRange
code_range None value = tt
code_range (Some c) value = range_is (lines_of c) (numbers_fit c.ins value.ins)

told_range : (lines : Bool) (range : Option Range) → IfSome range IsRange
    → IfSome (cond lines range None) IsRange
told_range true range is = is
told_range false range is = tt

-- ---- lines of a class

-- a field's line has a spelling in UTF-8
abbrev IsTextField : MapField → Type 0
IsTextField f = IsField f × IsUtf8 (field_line_text f)

-- so has a method's
abbrev IsTextMethod : MapMethod → Type 0
IsTextMethod m = IsMethod m × IsUtf8 (method_line_text m)

mapped_all : {X A : Type 0} (P : A → Type 0) (f : X → A) (xs : List X) → AllByRecursion (λ (x : X). P (f x)) xs
    → AllByRecursion P (map f xs)
mapped_all P f [] all = tt
mapped_all P f (x ∷ xs) all = (all.0, mapped_all P f xs all.1)

-- so it is of the images of two lists, one behind the other
both_mapped : {X Y A : Type 0} (P : A → Type 0) (f : X → A) (g : Y → A) (xs : List X) (ys : List Y)
    → AllByRecursion (λ (x : X). P (f x)) xs → AllByRecursion (λ (y : Y). P (g y)) ys
    → AllByRecursion P (map f xs ++ map g ys)
both_mapped P f g xs ys all others =
    all_append P (map f xs) (map g ys) (mapped_all P f xs all) (mapped_all P g ys others)

module _ (names : Names) (lines : Bool) where
  fields_told : (is is_new : Bool) (fs : List Field) → AllByRecursion (IsGoodField is) fs
      → AllByRecursion IsFieldValue fs → AllByRecursion (IsGoodField is_new) (map (renamed_field names) fs)
      → AllByRecursion IsTextField (map (field_line names) fs)
  fields_told is is_new [] old values new = tt
  fields_told is is_new (f ∷ fs) old values new = (
    (
      record { typed = old.0.typed; old = old.0.name.1; new = new.0.name.1 },
      field_line_utf8 (field_line names f) values.0.ty old.0.name.0 new.0.name.0,
    ),
    fields_told is is_new fs old.1 values.1 new.1,
  )

  methods_told : (is is_new : Bool) (ms : List Method) → AllByRecursion (IsGoodMethod is) ms
      → AllByRecursion IsMethodValue ms → AllByRecursion (IsGoodMethod is_new) (map (renamed_method names) ms)
      → AllByRecursion IsTextMethod (map (method_line names lines) ms)
  methods_told is is_new [] old values new = tt
  methods_told is is_new (m ∷ ms) old values new =
      let range = told_range lines _ (code_range m.code values.0.code) in (
        (
          record { lines = range; typed = old.0.typed; old = old.0.name.1; new = new.0.name.1 },
          method_line_utf8 (method_line names lines m) range values.0.ty old.0.name.0 new.0.name.0,
        ),
        methods_told is is_new ms old.1 values.1 new.1,
      )

  class_told : (c : Class) → IsWritable c → IsWritable (renamed names c)
      → AllByRecursion IsTextLine (lines_of_class (class_lines names lines c))
  unfolding line_text
  class_told c old new = (
    (
      (old.well_formed.name.1, new.well_formed.name.1),
      class_line_utf8 c.name (names.class c.name) old.well_formed.name.0 new.well_formed.name.0,
    ),
    both_mapped IsTextLine _ _ (map (field_line names) c.fields) (map (method_line names lines) c.methods)
        (fields_told (is_interface c.flags.0) (is_interface c.flags.0) c.fields old.well_formed.fields old.value.fields
        new.well_formed.fields)
        (methods_told (is_interface c.flags.0) (is_interface c.flags.0) c.methods old.well_formed.methods
        old.value.methods new.well_formed.methods),
  )

  all_told : (cs : List Class) → AllByRecursion IsWritable cs → AllByRecursion IsWritable (map (renamed names) cs)
      → AllByRecursion (λ (c : MapClass). AllByRecursion IsTextLine (lines_of_class c)) (map (class_lines names lines) cs)
  all_told [] old new = tt
  all_told (c ∷ cs) old new = (class_told c old.0 new.0, all_told cs old.1 new.1)

  -- ---- names that differ

  others : (c : Class) (cs : List Class) → AllByRecursion (λ (d : Class). c.name ≢ d.name) cs
      → AllByRecursion (λ (d : Class). names.class c.name ≢ d.name) (map (renamed names) cs)
      → AllByRecursion (HasOtherNames (class_lines names lines c)) (map (class_lines names lines) cs)
  others c [] old new = tt
  others c (d ∷ cs) old new = ((old.0, new.0), others c cs old.1 new.1)

  all_apart : (cs : List Class) → AreApart cs → AreApart (map (renamed names) cs)
      → LinesAreApart (map (class_lines names lines) cs)
  all_apart [] old new = tt
  all_apart (c ∷ cs) old new = (others c cs old.0 new.0, all_apart cs old.1 new.1)

-- the mapping of such classes has a text
pub is_mapping : WritableHaveMapping
is_mapping names lines classes old new apart new_apart =
    record { named = all_told names lines classes old new; apart = all_apart names lines classes apart new_apart }
