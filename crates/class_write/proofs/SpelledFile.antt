-- The canonical layout of a class within the limits spells the class (JVMS 4.1).
use Rattle.std.proofs.Common.{◌≡◌, ℕ, ◌+◌, ◌^◌, ◌<◌, ◌≤◌, Bool, true, false, not, cond, ltb, List, [], ◌∷◌, ◌++◌}
use Rattle.std.proofs.Common.{length, map, Option, Some, None, Result, Ok, Err, refl, sym, ap, subst, ◌∙◌, arith}
use Rattle.std.specs.Prelude.{codes, IfSome, IsTrue}
use Rattle.std.specs.List.{AllByRecursion, AllZip, flat_map, list_any}
use Rattle.std.proofs.lemmas.Bool.{ltb-true}
use Rattle.std.proofs.lemmas.List.{length-map, length-append}
use Rattle.jv_base.specs.Names.{is_text}
use Rattle.class_model.specs.declared.constant.PoolConstant.{PoolConstant}
use Rattle.class_model.specs.declared.constant.PoolConstant.TheVariants.{Utf8, Integer, Long, SecondOfLong}
use Rattle.class_model.specs.declared.constant.PoolConstant.TheVariants.{Class as ClassOf, Str, NameAndType, Fieldref}
use Rattle.class_model.specs.declared.constant.PoolConstant.TheVariants.{Methodref, InterfaceMethodref}
use Rattle.class_model.specs.declared.limit.WriteLimit.{WriteLimit}
use Rattle.class_model.specs.declared.limit.WriteLimit.TheVariants.{PoolFull, CodeTooLong, AttributeFull}
use Rattle.class_model.specs.declared.limit.WriteLimit.TheVariants.{AttributeTooLong}
use Rattle.class_model.specs.declared.code.Code.{Code}
use Rattle.class_model.specs.declared.code.Ins.{Ins}
use Rattle.class_model.specs.declared.frame.VType.{VType}
use Rattle.class_model.specs.declared.class.Field.{Field}
use Rattle.class_model.specs.declared.class.Method.{Method}
use Rattle.class_model.specs.declared.class.Class.{Class}
use Rattle.class_model.specs.declared.class.LeftKind.{LeftKind}
use Rattle.class_model.specs.declared.class.LeftKind.TheVariants as left
use Rattle.class_model.specs.Flags.{class_mask, is_static, are_class_flags, is_interface, is_left_out_class}
use Rattle.class_model.specs.Structure.{AttributeInfo}
use Rattle.class_model.specs.Attributes.{named, IsAttribute, Single, IsSourceFile}
use Rattle.class_model.specs.Members.{IsField, IsMethod}
use Rattle.class_model.specs.ClassFile.{is_left_out_entry, left_out_of_class, left_out_of_members, first_left_out}
use Rattle.class_model.specs.ClassFile.{AreMethods, IsClass}
use Rattle.class_model.specs.CanonicalPool.{class_constants, index_of}
use Rattle.class_model.specs.CanonicalCode.{places, code_bytes, op_constants}
use Rattle.class_model.specs.CanonicalClass.{class_pushes, mark_constants, mark_attributes, field_constants}
use Rattle.class_model.specs.CanonicalClass.{body_constants, first_locals, line_rows, code_contents, method_constants}
use Rattle.class_model.specs.CanonicalClass.{source_constants, pool_of, class_index, u2_of, field_raw, method_raw}
use Rattle.class_model.specs.CanonicalClass.{source_attributes, class_raw, layout}
use Rattle.class_model.specs.bodies.PoolEntries.{entry_of, entries_of, Has}
use Rattle.class_model.specs.WellFormed.{IsClassName, HasFewWords, IsGoodCode, IsGoodField, IsGoodMethod}
use Rattle.class_model.specs.WriteLimits.{fits_u2, first_of, text_fits, branches_fit, code_fits, table_fits, frames_fit}
use Rattle.class_model.specs.WriteLimits.{body_tables_fit, method_tables_fit, tables_fit, body_length_fits}
use Rattle.class_model.specs.WriteLimits.{contents_fit, body_fits, limits}
use Rattle.class_model.proofs.BackPool.{index_fits}
use Rattle.class_laws.specs.ClassValues.{IsCodeValue, IsFieldValue, IsMethodValue}
use Rattle.class_laws.specs.SpellingLaws.{IsWritable, LayoutIsSpelling}
use Rattle.class_laws.proofs.SpelledLists.{all_front, all_back, all_both, all_each}
use Rattle.class_laws.proofs.SpelledPool.{units_there}
use Rattle.class_laws.proofs.SpelledWanted.{HasAll, AllRight}
use Rattle.class_write.proofs.SpelledConstants.{pool_right, pool_wanted, all_passed, constant_pool_is}
use Rattle.class_write.proofs.SpelledAttributes.{source_units, named_left, named_this, named_other, attribute_is}
use Rattle.class_write.proofs.SpelledAttributes.{marks_other, synthetic_is, deprecated_is, marks_are, marks_few}
use Rattle.class_write.proofs.SpelledAttributes.{mark_behind}
use Rattle.class_write.proofs.SpelledFields.{flags_are, field_is}
use Rattle.class_write.proofs.SpelledInstructions.{class_at_index}
use Rattle.class_write.proofs.SpelledFrames.{IsTyped, initial_typed}
use Rattle.class_write.proofs.SpelledMethods.{IsSpelledCode, classes_are, method_is}
use Rattle.class_model.proofs.BackCode.{both_passed}
use Rattle.class_write.proofs.Fitting.{count_ok}

-- ---- nothing is left out

entries_plain : (pool ks : List PoolConstant) → list_any is_left_out_entry (map (entry_of pool) ks) ≡ false
entries_plain pool [] = refl
entries_plain pool (Utf8 text ∷ ks) = entries_plain pool ks
entries_plain pool (Integer n ∷ ks) = entries_plain pool ks
entries_plain pool (Long n ∷ ks) = entries_plain pool ks
entries_plain pool (SecondOfLong n ∷ ks) = entries_plain pool ks
entries_plain pool (ClassOf name ∷ ks) = entries_plain pool ks
entries_plain pool (Str text ∷ ks) = entries_plain pool ks
entries_plain pool (NameAndType a b ∷ ks) = entries_plain pool ks
entries_plain pool (Fieldref a b c ∷ ks) = entries_plain pool ks
entries_plain pool (Methodref a b c ∷ ks) = entries_plain pool ks
entries_plain pool (InterfaceMethodref a b c ∷ ks) = entries_plain pool ks

-- nothing in each method
abbrev no_kinds : List Method → List (Option LeftKind)
no_kinds ms = map (λ (m : Method). let o : Option LeftKind = None in o) ms

members_plain : (n : ℕ) (ms : List Method) → left_out_of_members n (no_kinds ms) ≡ None
members_plain n [] = refl
members_plain n (m ∷ ms) = members_plain (n + 1) ms

class_plain : (flags : ℕ) (pool : List PoolConstant) → IsTrue (not (is_left_out_class flags))
    → left_out_of_class flags (entries_of pool) ≡ None
class_plain flags pool h = by (is_left_out_class flags) h
  where
    by : (b : Bool) → IsTrue (not b)
        → (let o : Option LeftKind = cond b (Some left.Flag)
        (cond (list_any is_left_out_entry (entries_of pool)) (Some left.Constant) None) in o) ≡ None
    by true k = absurd cc
    by false k = rw (entries_plain pool pool) refl

all_plain : (flags fields : ℕ) (pool : List PoolConstant) (ms : List Method) → IsTrue (not (is_left_out_class flags))
    → None ≡ first_left_out (left_out_of_class flags (entries_of pool)) fields (no_kinds ms)
all_plain flags fields pool ms h = sym
    (ap (λ (o : Option LeftKind). first_left_out o fields (no_kinds ms)) (class_plain flags pool h)
    ∙ members_plain fields ms)

-- ---- codes within the limits

-- a length of four bytes
length_below : (n : ℕ) → body_length_fits n ≡ Ok tt → n < 2 ^ 32
length_below n h = by (ltb n (2 ^ 32)) refl h
  where
    by : (b : Bool) → ltb n (2 ^ 32) ≡ b
        → (let R : Result (Unit {0}) WriteLimit = cond b (Ok tt) (Err (AttributeTooLong n)) in R) ≡ Ok tt → n < 2 ^ 32
    by true e k = ltb-true n (2 ^ 32) e
    by false e k = absurd cc

table_below : (n : ℕ) → table_fits n ≡ Ok tt → n < 2 ^ 16
table_below n h = count_ok (λ rows. AttributeFull rows) n h

-- the codes of a class are within the limits
pub record MethodFits (pool : List PoolConstant) (class : List ℕ) (m : Method) : Type 0 where
  pub words : IfSome m.code (λ (code : Code). AllByRecursion (λ (i : Ins). HasFewWords i.op) code.ins)
  pub code : code_fits pool m.code ≡ Ok tt
  pub tables : method_tables_fit class m ≡ Ok tt
  pub body : body_fits pool class m ≡ Ok tt

module _ (pool : List PoolConstant) (right : AllRight pool pool) (count : length pool + 1 < 2 ^ 16) where
  code_spelled : (class : List ℕ) (m : Method) (first : List VType) (o : Option Code) → AllByRecursion IsTyped first
      → IfSome o IsGoodCode → IfSome o IsCodeValue
      → IfSome o (λ (code : Code). AllByRecursion (λ (i : Ins). HasFewWords i.op) code.ins)
      → code_fits pool o ≡ Ok tt → body_tables_fit first o ≡ Ok tt
      → IfSome o (λ (code : Code). length (code_contents pool first code) < 2 ^ 32)
      → HasAll pool (body_constants first o) → IsSpelledCode pool count first o
  code_spelled class m first None typed good value words fits tables short has = tt
  code_spelled class m first (Some code) typed good value words fits tables short has =
      let c = both_passed (fits_u2 (λ n. CodeTooLong n) (length (code_bytes pool (places pool code.ins) code.ins)))
      (branches_fit (places pool code.ins) 0 code.ins) fits in
      let t = both_passed (table_fits (length code.handlers)) _ tables in
      let l = both_passed (table_fits (length (line_rows None [] code.ins))) _ t.1 in
      let f = both_passed (table_fits (length code.frames)) (frames_fit first code.frames) l.1 in
      record {
        written = record {
          right = right;
          count = count;
          good = good;
          value = value;
          words = words;
          has = all_front (Has pool) (flat_map (λ (i : Ins). op_constants i.op) code.ins) _ has.1;
          short = count_ok (λ n. CodeTooLong n) (length (code_bytes pool (places pool code.ins) code.ins)) c.0;
          near = c.1;
        };
        typed = typed;
        has = has.1;
        few_handlers = table_below (length code.handlers) t.0;
        few_lines = table_below (length (line_rows None [] code.ins)) l.0;
        few_frames = table_below (length code.frames) f.0;
        short = short;
      }

  contents_short : (class : List ℕ) (m : Method) (o : Option Code) → contents_fit pool class m o ≡ Ok tt
      → IfSome o (λ (code : Code). length (code_contents pool (first_locals class m) code) < 2 ^ 32)
  contents_short class m None h = tt
  contents_short class m (Some code) h = length_below _ h

  -- ---- members

  one_method : (in_interface : Bool) (class : List ℕ) (m : Method) → IsClassName class → IsGoodMethod in_interface m
      → IsMethodValue m → MethodFits pool class m → HasAll pool (method_constants class m)
      → IsMethod (entries_of pool) in_interface class (method_raw pool class m) m None
  one_method in_interface class m named good value fits has =
      let first = first_locals class m in
      let t = both_passed (body_tables_fit first m.code) (table_fits (length m.throws)) fits.tables in
      let spelled = code_spelled class m first m.code
      (initial_typed class
      (is_static m.flags.0) m.name m.ty named good.typed) good.code value.code fits.words fits.code t.0
      (contents_short class m m.code fits.body)
      (all_front (Has pool) (body_constants first m.code) _ has.1.1) in
      method_is pool count in_interface class m good value spelled (table_below (length m.throws) t.1) has

  methods_are : (in_interface : Bool) (class : List ℕ) (ms : List Method) → IsClassName class
      → AllByRecursion (IsGoodMethod in_interface) ms → AllByRecursion IsMethodValue ms
      → AllByRecursion (MethodFits pool class) ms → AllByRecursion (λ m. HasAll pool (method_constants class m)) ms
      → AreMethods (entries_of pool) in_interface class (map (method_raw pool class) ms) ms (no_kinds ms)
  methods_are in_interface class [] named good value fits has = tt
  methods_are in_interface class (m ∷ ms) named good value fits has = (
    one_method in_interface class m named good.0 value.0 fits.0 has.0,
    methods_are in_interface class ms named
        good.1 value.1 fits.1 has.1,
  )

  fields_are : (in_interface : Bool) (fs : List Field) → AllByRecursion (IsGoodField in_interface) fs
      → AllByRecursion IsFieldValue fs → AllByRecursion (λ f. HasAll pool (field_constants f)) fs
      → AllZip (IsField (entries_of pool) in_interface) (map (field_raw pool) fs) fs
  fields_are in_interface [] good value has = tt
  fields_are in_interface (f ∷ fs) good value has =
      (field_is pool count in_interface f good.0 value.0 has.0, fields_are in_interface fs good.1 value.1 has.1)

  -- ---- SourceFile

  source_by : (o : Option (List ℕ)) → HasAll pool (source_constants o)
      → Single (IsSourceFile (entries_of pool)) (source_attributes pool o) o
  source_by None h = tt
  source_by (Some units) h =
      (index_of pool (Utf8 units), index_fits pool (Utf8 units) count, refl, units_there pool units h.1.0)

  source_named : (o : Option (List ℕ)) → HasAll pool (source_constants o)
      → named (entries_of pool) (codes "SourceFile") (source_attributes pool o) ≡ source_attributes pool o
  source_named None h = refl
  source_named (Some units) h = named_this pool true (codes "SourceFile") (u2_of pool (index_of pool (Utf8 units)))
      (Utf8 units ∷ []) source_units refl h

  source_other : (name : List ℕ) (o : Option (List ℕ)) → is_text (codes "SourceFile") name ≡ false
      → HasAll pool (source_constants o) → named (entries_of pool) name (source_attributes pool o) ≡ []
  source_other name None e h = refl
  source_other name (Some units) e h = named_other pool true (codes "SourceFile") name
      (u2_of pool (index_of pool (Utf8 units))) (Utf8 units ∷ []) source_units e h

  source_is : (o : Option (List ℕ)) → HasAll pool (source_constants o)
      → AllByRecursion (IsAttribute (entries_of pool)) (source_attributes pool o)
  source_is None h = tt
  source_is (Some units) h = attribute_is pool count true (codes "SourceFile") (u2_of pool (index_of pool (Utf8 units)))
      (Utf8 units ∷ []) (λ e. omega arith) h

  source_few : (o : Option (List ℕ)) → length (source_attributes pool o) ≤ 1
  source_few None = omega arith
  source_few (Some units) = omega arith

-- ---- the class

-- what is told of each method
fits_all : (pool : List PoolConstant) (class : List ℕ) (ms : List Method)
    → AllByRecursion (λ (m : Method). IfSome m.code (λ (code : Code). AllByRecursion
    (λ (i : Ins). HasFewWords i.op) code.ins)) ms
    → AllByRecursion (λ (m : Method). code_fits pool m.code ≡ Ok tt) ms
    → AllByRecursion (λ (m : Method). method_tables_fit class m ≡ Ok tt) ms
    → AllByRecursion (λ (m : Method). body_fits pool class m ≡ Ok tt) ms → AllByRecursion (MethodFits pool class) ms
fits_all pool class [] words codes tables bodies = tt
fits_all pool class (m ∷ ms) words codes tables bodies = (
  record { words = words.0; code = codes.0; tables = tables.0; body = bodies.0 },
  fits_all pool class ms words.1
      codes.1 tables.1 bodies.1,
)

class_is : (c : Class) → IsWritable c → limits (pool_of c) c ≡ Ok tt
    → IsClass (class_raw (pool_of c) c) c (entries_of (pool_of c))
unfolding limits
class_is c w h =
    let pool = pool_of c in
    let entries = entries_of pool in
    let good = w.well_formed in
    let in_interface = is_interface c.flags.0 in
    let right = pool_right c good w.value in
    -- the limits
    let l1 = both_passed (fits_u2 (λ n. PoolFull n) (length pool + 1)) _ h in
    let count = count_ok (λ n. PoolFull n) (length pool + 1) l1.0 in
    let l2 = both_passed (first_of text_fits pool) _ l1.1 in
    let l3 = both_passed (first_of (λ (m : Method). code_fits pool m.code) c.methods) _ l2.1 in
    let l4 = both_passed (tables_fit c) (first_of (body_fits pool c.name) c.methods) l3.1 in
    let t1 = both_passed (table_fits (length c.interfaces)) _ l4.0 in
    let t2 = both_passed (table_fits (length c.fields)) _ t1.1 in
    let t3 = both_passed (table_fits (length c.methods)) (first_of (method_tables_fit c.name) c.methods) t2.1 in
    let fits = fits_all pool c.name c.methods w.counts
    (all_passed (λ (m : Method). code_fits pool m.code) c.methods l3.0)
    (all_passed (method_tables_fit c.name) c.methods t3.1) (all_passed (body_fits pool c.name) c.methods l4.1) in
    -- the constants
    let marks = mark_constants c.synthetic c.deprecated in
    let sources = source_constants c.source ++ marks in
    let methods = flat_map (method_constants c.name) c.methods ++ sources in
    let fields = flat_map field_constants c.fields ++ methods in
    let interfaces = flat_map class_constants c.interfaces ++ fields in
    let super_name = class_constants c.super_name ++ interfaces in
    let h1 = all_back (Has pool) (class_pushes c.methods) (class_constants c.name ++ super_name) (pool_wanted c) in
    let h2 = all_back (Has pool) (class_constants c.name) super_name h1 in
    let h3 = all_back (Has pool) (class_constants c.super_name) interfaces h2 in
    let h4 = all_back (Has pool) (flat_map class_constants c.interfaces) fields h3 in
    let h5 = all_back (Has pool) (flat_map field_constants c.fields) methods h4 in
    let h6 = all_back (Has pool) (flat_map (method_constants c.name) c.methods) sources h5 in
    let has_source = all_front (Has pool) (source_constants c.source) marks h6 in
    let has_marks = all_back (Has pool) (source_constants c.source) marks h6 in
    let xs = source_attributes pool c.source in
    let ys = mark_attributes pool c.synthetic c.deprecated in
    let fields_many : length (map (field_raw pool) c.fields) ≡ length c.fields = length-map c.fields (field_raw pool) in
    let methods_many : length (map (method_raw pool c.name) c.methods)
    ≡ length c.methods = length-map c.methods (method_raw pool c.name) in
    let interfaces_many : length (map (class_index pool) c.interfaces)
    ≡ length c.interfaces = length-map c.interfaces (class_index pool) in
    record {
      constant_pool = constant_pool_is c good w.value count l2.0;
      flags = flags_are class_mask are_class_flags c.flags (omega arith) good.meant good.flags;
      name = class_at_index pool count c.name good.name (all_front (Has pool) (class_constants c.name) super_name h1);
      super_name = class_at_index pool count c.super_name good.super_name
          (all_front (Has pool) (class_constants c.super_name) interfaces h2);
      interfaces_count = omega (arith, interfaces_many, table_below (length c.interfaces) t1.0);
      interfaces = classes_are pool count c.interfaces good.interfaces
          (all_front (Has pool) (flat_map class_constants c.interfaces) fields h3);
      fields_count = omega (arith, fields_many, table_below (length c.fields) t2.0);
      fields = fields_are pool right count in_interface c.fields good.fields w.value.fields
          (all_each (Has pool) field_constants c.fields
          (all_front (Has pool) (flat_map field_constants c.fields) methods h4));
      fields_differ = good.fields_differ;
      methods_count = omega (arith, methods_many, table_below (length c.methods) t3.0);
      left_out_kinds = no_kinds c.methods;
      methods = methods_are pool right count in_interface c.name c.methods good.name good.methods w.value.methods fits
          (all_each (Has pool) (method_constants c.name) c.methods
          (all_front (Has pool) (flat_map (method_constants c.name) c.methods) sources h5));
      methods_differ = good.methods_differ;
      attributes = record {
        count_fits = omega (
          arith,
          length-append xs ys,
          source_few pool right count c.source,
          marks_few pool c.synthetic c.deprecated
              has_marks,
        );
        each = all_both (IsAttribute entries) xs ys (source_is pool right count c.source has_source)
            (marks_are pool c.synthetic c.deprecated has_marks count);
      };
      source = subst (λ (l : List AttributeInfo). Single (IsSourceFile entries) l c.source)
          (sym (named_left pool (codes "SourceFile") xs ys xs (source_named pool right count c.source has_source)
          (marks_other pool c.synthetic c.deprecated has_marks (codes "SourceFile") refl refl)))
          (source_by pool right count c.source has_source);
      synthetic = mark_behind pool (codes "Synthetic") xs ys c.synthetic
          (source_other pool right count (codes "Synthetic") c.source refl has_source)
          (synthetic_is pool c.synthetic c.deprecated has_marks);
      deprecated = mark_behind pool (codes "Deprecated") xs ys c.deprecated
          (source_other pool right count (codes "Deprecated") c.source refl has_source)
          (deprecated_is pool c.synthetic c.deprecated has_marks);
      left_out = good.nothing_left_out
          ∙ all_plain c.flags.0 (length (map (field_raw pool) c.fields)) pool c.methods good.no_annotation_or_enum;
    }

-- the canonical layout of a class within the limits spells it
pub layout_spells : LayoutIsSpelling
unfolding layout
layout_spells c w h = (class_raw (pool_of c) c, refl, entries_of (pool_of c), class_is c w h)
