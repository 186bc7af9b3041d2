-- A field as it is written is a field_info (JVMS 4.5).
use Rattle.std.proofs.Common.{◌≡◌, ℕ, ◌+◌, ◌^◌, ◌<◌, ◌≤◌, Bool, true, false, List, [], length, Option, Some, None, refl}
use Rattle.std.proofs.Common.{sym, ap, subst, ◌∙◌, arith}
use Rattle.std.specs.Prelude.{option_and_then, IsTrue, IsUtf8, IfSome, codes}
use Rattle.std.specs.List.{AllByRecursion}
use Rattle.std.proofs.lemmas.List.{length-append}
use Rattle.std.proofs.lemmas.Nat.{and_le_r}
use Rattle.jv_base.specs.Utf16.{units_of}
use Rattle.jv_base.specs.Names.{is_text}
use Rattle.jv_base.specs.Types.{field_text}
use Rattle.jv_base.specs.declared.access.Access.{Access}
use Rattle.class_model.specs.declared.constant.PoolConstant.{PoolConstant}
use Rattle.class_model.specs.declared.constant.PoolConstant.TheVariants.{Utf8, Integer, Long, Str}
use Rattle.class_model.specs.declared.class.Constant.{Constant}
use Rattle.class_model.specs.declared.class.Constant.TheVariants as constant
use Rattle.class_model.specs.declared.class.Field.{Field}
use Rattle.class_model.specs.Flags.{field_mask, is_static, are_field_flags, flags_of}
use Rattle.class_model.specs.Pool.{units_at, IsTextAt}
use Rattle.class_model.specs.ConstantPool.{string_index_in}
use Rattle.class_model.specs.Structure.{AttributeInfo}
use Rattle.class_model.specs.Attributes.{named, IsAttribute, IsConstantOf, AreConstants}
use Rattle.class_model.specs.Members.{AreFlags, IsField}
use Rattle.class_model.specs.CanonicalPool.{text_constants}
use Rattle.class_model.specs.CanonicalClass.{text_index, u2_of, mark_attributes, mark_constants, value_constants}
use Rattle.class_model.specs.CanonicalClass.{constant_value_constants, field_constants, value_index}
use Rattle.class_model.specs.CanonicalClass.{constant_attributes, field_raw}
use Rattle.class_model.specs.bodies.PoolEntries.{entries_of, Has}
use Rattle.class_model.specs.WellFormed.{AreMeant, FitsField, IsGoodField}
use Rattle.class_model.proofs.BackPool.{at_index, index_fits}
use Rattle.class_model.proofs.BackEntries.{field_utf8}
use Rattle.class_laws.specs.ClassValues.{IsFieldValue}
use Rattle.class_laws.proofs.SpelledLists.{all_front, all_back, all_both}
use Rattle.class_laws.proofs.SpelledPool.{units_there, text_there}
use Rattle.class_laws.proofs.SpelledWanted.{HasAll}
use Rattle.class_write.proofs.SpelledAttributes.{value_units, named_left, named_this, named_other, attribute_is}
use Rattle.class_write.proofs.SpelledAttributes.{marks_other, synthetic_is, deprecated_is, marks_are, marks_few}
use Rattle.class_write.proofs.SpelledAttributes.{mark_behind}

-- flags that all mean something
pub flags_are : (mask : ℕ) (passes : ℕ → Bool) (flags : Access) → mask < 2 ^ 16 → AreMeant mask flags.0
    → IsTrue (passes flags.0) → AreFlags mask passes flags.0 flags
flags_are mask passes flags low all good = record {
  fit = omega
      (arith, low, all, and_le_r flags.0 mask);
  are = ap flags_of (sym all);
  good = good;
}

module _ (pool : List PoolConstant) (count : length pool + 1 < 2 ^ 16) where
  -- a name or a descriptor at its index
  pub text_at_index : (text : List ℕ) → IsUtf8 text → HasAll pool (text_constants text)
      → IsTextAt (entries_of pool) (text_index pool text) text
  text_at_index text utf8 h =
      (index_fits pool (Utf8 (units_of text)) count, text_there pool text (units_of text) refl utf8 h.0)

  -- ---- ConstantValue

  value_at : (field : Field) (k : Constant) → FitsField field.ty k → HasAll pool (value_constants k)
      → (value_index pool k < 2 ^ 16) × IsConstantOf (entries_of pool) (value_index pool k) field.ty (Some k)
  value_at field (constant.Int n) fits h = (index_fits pool (Integer n) count, (fits, at_index pool (Integer n) h.0))
  value_at field (constant.Long n) fits h = (index_fits pool (Long n) count, (fits, at_index pool (Long n) h.0))
  value_at field (constant.Text units) fits h = (
    index_fits pool (Str units) count,
    (
      fits.0,
      ap (λ e. option_and_then (units_at (entries_of pool)) (option_and_then string_index_in e))
          (at_index pool (Str units) h.1.0) ∙ units_there pool units h.0,
    ),
  )

  abbrev IsValue : Field → Constant → Type 0
  IsValue field k = IsTrue (is_static field.flags.0) × FitsField field.ty k

  values_are : (field : Field) (o : Option Constant) → IfSome o (IsValue field)
      → HasAll pool (constant_value_constants o)
      → AreConstants (entries_of pool) (is_static field.flags.0) field.ty (constant_attributes pool o) o
  values_are field None is h = refl
  values_are field (Some k) is h =
      let v = value_at field k is.1
      (all_back (Has pool) (text_constants (codes "ConstantValue")) (value_constants k) h) in
      subst (λ (b : Bool). AreConstants (entries_of pool) b field.ty (constant_attributes pool (Some k)) (Some k))
      (sym is.0) (value_index pool k, v.0, refl, v.1)

  value_named : (o : Option Constant) → HasAll pool (constant_value_constants o)
      → named (entries_of pool) (codes "ConstantValue") (constant_attributes pool o) ≡ constant_attributes pool o
  value_named None h = refl
  value_named (Some k) h = named_this pool true (codes "ConstantValue") (u2_of pool (value_index pool k))
      (value_constants k) value_units refl h

  value_other : (name : List ℕ) (o : Option Constant) → is_text (codes "ConstantValue") name ≡ false
      → HasAll pool (constant_value_constants o) → named (entries_of pool) name (constant_attributes pool o) ≡ []
  value_other name None e h = refl
  value_other name (Some k) e h = named_other pool true (codes "ConstantValue") name (u2_of pool (value_index pool k))
      (value_constants k) value_units e h

  value_is : (o : Option Constant) → HasAll pool (constant_value_constants o)
      → AllByRecursion (IsAttribute (entries_of pool)) (constant_attributes pool o)
  value_is None h = tt
  value_is (Some k) h = attribute_is pool count true (codes "ConstantValue") (u2_of pool (value_index pool k))
      (value_constants k) (λ e. omega arith) h

  value_few : (o : Option Constant) → length (constant_attributes pool o) ≤ 1
  value_few None = omega arith
  value_few (Some k) = omega arith

  -- ---- the whole

  pub field_is : (in_interface : Bool) (f : Field) → IsGoodField in_interface f → IsFieldValue f
      → HasAll pool (field_constants f) → IsField (entries_of pool) in_interface (field_raw pool f) f
  field_is in_interface f good value has =
      let marks = mark_constants f.synthetic f.deprecated in
      let last = has.1.1 in
      let values = all_front (Has pool) (constant_value_constants f.constant) marks last in
      let has_marks = all_back (Has pool) (constant_value_constants f.constant) marks last in
      let xs = constant_attributes pool f.constant in
      let ys = mark_attributes pool f.synthetic f.deprecated in
      record {
        flags = flags_are field_mask (are_field_flags in_interface) f.flags (omega arith) good.meant good.flags;
        name = text_at_index f.name good.name.0 (has.0, tt);
        named_right = good.name.1;
        descriptor = text_at_index (field_text f.ty) (field_utf8 f.ty value.ty) (has.1.0, tt);
        typed = good.typed;
        attributes = record {
          count_fits = omega
              (arith, length-append xs ys, value_few f.constant, marks_few pool f.synthetic f.deprecated has_marks);
          each = all_both (IsAttribute (entries_of pool)) xs ys (value_is f.constant values)
              (marks_are pool f.synthetic f.deprecated has_marks count);
        };
        constant = subst (λ (l : List AttributeInfo). AreConstants (entries_of pool)
            (is_static f.flags.0) f.ty l f.constant)
            (sym (named_left pool (codes "ConstantValue") xs ys xs (value_named f.constant values)
            (marks_other pool f.synthetic f.deprecated has_marks (codes "ConstantValue") refl refl)))
            (values_are f f.constant good.constant values);
        synthetic = mark_behind pool (codes "Synthetic") xs ys f.synthetic
            (value_other (codes "Synthetic") f.constant refl values)
            (synthetic_is pool f.synthetic f.deprecated has_marks);
        deprecated = mark_behind pool (codes "Deprecated") xs ys f.deprecated
            (value_other (codes "Deprecated") f.constant refl values)
            (deprecated_is pool f.synthetic f.deprecated has_marks);
      }
