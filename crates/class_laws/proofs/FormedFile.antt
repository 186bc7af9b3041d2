-- A class that bytes spell, with nothing left out, can be written (JVMS 4.1).
use Rattle.std.proofs.Common.{◌≡◌, ℕ, ◌+◌, Bool, true, false, cond, not, ◌||◌, eqb, List, [], ◌∷◌, length, Option, Some}
use Rattle.std.proofs.Common.{None, slice_get, refl, sym, ap, subst, ◌∙◌}
use Rattle.std.specs.Prelude.{IfSome, IsTrue, is_some, option_and_then}
use Rattle.std.specs.List.{AllByRecursion, AllZip}
use Rattle.jv_base.specs.Mutf8.{IsUnits}
use Rattle.jv_base.specs.Types.{argument_words}
use Rattle.jv_base.specs.declared.access.Access.{Access}
use Rattle.jv_base.specs.declared.types.FieldType.{FieldType}
use Rattle.jv_base.proofs.Options.{both_there}
use Rattle.jv_base.proofs.Lists.{all_at, all_weaker}
use Rattle.class_model.specs.declared.pool.Entry.{Entry}
use Rattle.class_model.specs.declared.pool.Entry.TheVariants as entry
use Rattle.class_model.specs.declared.code.Code.{Code}
use Rattle.class_model.specs.declared.code.Ins.{Ins}
use Rattle.class_model.specs.declared.frame.VType.{VType}
use Rattle.class_model.specs.declared.class.Constant.{Constant}
use Rattle.class_model.specs.declared.class.Constant.TheVariants as constant
use Rattle.class_model.specs.declared.class.Field.{Field}
use Rattle.class_model.specs.declared.class.Method.{Method}
use Rattle.class_model.specs.declared.class.Class.{Class}
use Rattle.class_model.specs.declared.class.LeftKind.{LeftKind}
use Rattle.class_model.specs.declared.class.LeftKind.TheVariants as left
use Rattle.class_model.specs.Flags.{class_mask, field_mask, method_mask, defined_flags, is_interface, is_static}
use Rattle.class_model.specs.Flags.{is_native}
use Rattle.class_model.specs.Flags.{has_body, is_left_out_class, are_class_flags, are_field_flags, are_method_flags}
use Rattle.class_model.specs.Flags.{are_initial_flags}
use Rattle.class_model.specs.Structure.{AttributeInfo, MemberInfo}
use Rattle.class_model.specs.Pool.{units_at, IsClassAt}
use Rattle.class_model.specs.ConstantPool.{string_index_in}
use Rattle.class_model.specs.Attributes.{named, AreThrown, AreConstants, IsConstantOf, Single, IsSourceFile}
use Rattle.class_model.specs.Members.{AreFlags, IsField, IsCodeOf, IsMethod, has_room_for_this}
use Rattle.class_model.specs.Frames.{initial_locals}
use Rattle.class_model.specs.ClassFile.{ClassFile, left_out_of_class, left_out_of_members, first_left_out, AreMethods}
use Rattle.class_model.specs.ClassFile.{IsClass}
use Rattle.class_model.specs.WellFormed.{IsClassName, HasFewWords, IsGoodCode, FitsField, IsGoodField, IsGoodMethod}
use Rattle.class_model.proofs.NameLaw.{HaveUnits}
use Rattle.class_model.proofs.ConstantLaw.{AllNameRight}
use Rattle.class_model.proofs.GoodPool.{pool_units, pool_names}
use Rattle.class_laws.specs.ClassValues.{IsCodeValue, IsFieldConstant, IsFieldValue, IsMethodValue}
use Rattle.class_laws.specs.SpellingLaws.{IsWritable, SpelledIsWritable}
use Rattle.class_laws.proofs.FormedTexts.{field_value, method_value}
use Rattle.class_laws.proofs.FormedPool.{EntryFits, pool_fits, class_formed}
use Rattle.class_laws.proofs.FormedCode.{IsTypeOf, initial_formed, IsFormedCode, code_formed}
use Rattle.class_laws.proofs.FormedFlags.{meant_again, interface_meant, class_meant, left_out_meant}
use Rattle.class_laws.proofs.FormedFlags.{field_static_meant, field_meant, method_static_meant, native_meant}
use Rattle.class_laws.proofs.FormedFlags.{body_meant, method_meant, initial_meant, body_not_native}

-- ---- flags

-- what holds of the flags that mean something holds of those that are kept
kept : (P : ℕ → Type 0) (mask bits : ℕ) (flags : Access) (passes : ℕ → Bool) → AreFlags mask passes bits flags
    → P (defined_flags mask bits) → P flags.0
kept P mask bits flags passes h p = subst P (sym (ap (λ (f : Access). f.0) h.are)) p

-- so does a test
kept_test : (test : ℕ → Bool) (mask bits : ℕ) (flags : Access) (passes : ℕ → Bool) → AreFlags mask passes bits flags
    → test (defined_flags mask bits) ≡ test bits → test flags.0 ≡ test bits
kept_test test mask bits flags passes h e = ap (λ (f : Access). test f.0) h.are ∙ e

-- ---- nothing is left out

no_kinds : (n : ℕ) (kinds : List (Option LeftKind)) → left_out_of_members n kinds ≡ None
    → AllByRecursion (λ (k : Option LeftKind). k ≡ None) kinds
no_kinds n [] h = tt
no_kinds n (Some kind ∷ kinds) h = absurd cc
no_kinds n (None ∷ kinds) h = (refl, no_kinds (n + 1) kinds h)

none_first : (o : Option LeftKind) (n : ℕ) (kinds : List (Option LeftKind)) → first_left_out o n kinds ≡ None
    → (o ≡ None) × AllByRecursion (λ (k : Option LeftKind). k ≡ None) kinds
none_first (Some kind) n kinds h = absurd cc
none_first None n kinds h = (refl, no_kinds n kinds h)

not_left_out : (flags : ℕ) (pool : List Entry) → left_out_of_class flags pool ≡ None
    → IsTrue (not (is_left_out_class flags))
not_left_out flags pool h = by (is_left_out_class flags) _ h
  where
    by : (b : Bool) (rest : Option LeftKind) → cond b (Some left.Flag) rest ≡ None → IsTrue (not b)
    by true rest k = absurd cc
    by false rest k = refl

-- ---- fields

module _ (pool : List Entry) (units : HaveUnits pool) (fits : AllByRecursion EntryFits pool) where
  abbrev IsValue : Bool → FieldType → Constant → Type 0
  IsValue static ty v = (static ≡ true) × FitsField ty v × IsFieldConstant v

  constant_formed : (index : ℕ) (ty : FieldType) (o : Option Constant) → IsConstantOf pool index ty o
      → IfSome o (IsValue true ty)
  constant_formed index ty None h = tt
  constant_formed index ty (Some (constant.Int n)) h =
      (refl, h.0, all_at EntryFits pool index (entry.Integer n) fits h.1)
  constant_formed index ty (Some (constant.Long n)) h = (refl, h.0, all_at EntryFits pool index (entry.Long n) fits h.1)
  constant_formed index ty (Some (constant.Text text)) h =
      let b = both_there (units_at pool) (option_and_then string_index_in (slice_get pool index)) text h.1 in
      (refl, (h.0, units b.0 text b.2), tt)

  no_constant : (static : Bool) (ty : FieldType) (o : Option Constant) → o ≡ None → IfSome o (IsValue static ty)
  no_constant static ty o e = subst (λ (x : Option Constant). IfSome x (IsValue static ty)) (sym e) tt

  constants_formed : (static : Bool) (ty : FieldType) (all : List AttributeInfo) (o : Option Constant)
      → AreConstants pool static ty all o → IfSome o (IsValue static ty)
  constants_formed static ty [] o h = no_constant static ty o h
  constants_formed true ty (a ∷ []) o h = constant_formed h.0 ty o h.3
  constants_formed false ty (a ∷ []) o h = no_constant false ty o h
  constants_formed static ty (a ∷ b ∷ others) o h = absurd h

  both_parts : (P : Type 0) (static : Bool) (field : Field) (o : Option Constant) → (static ≡ true → P)
      → IfSome o (IsValue static field.ty) → IfSome o (λ v. P × FitsField field.ty v) × IfSome o IsFieldConstant
  both_parts P static field None f h = (tt, tt)
  both_parts P static field (Some v) f h = ((f h.0, h.1), h.2)

  field_formed : (in_interface : Bool) (raw : MemberInfo) (field : Field) → IsField pool in_interface raw field
      → IsGoodField in_interface field × IsFieldValue field
  field_formed in_interface raw field h =
      let bits = raw.access_flags in
      let passes = are_field_flags in_interface in
      let static = kept_test is_static field_mask bits field.flags passes h.flags (field_static_meant bits) in
      let c = both_parts (IsTrue (is_static field.flags.0)) (is_static bits) field field.constant (λ e. static ∙ e)
      (constants_formed (is_static bits) field.ty _ field.constant h.constant) in (
        record {
          meant = kept (λ n. defined_flags field_mask n ≡ n) field_mask bits field.flags passes h.flags
              (meant_again field_mask bits);
          flags = kept_test passes field_mask bits field.flags passes h.flags (field_meant in_interface bits)
              ∙ h.flags.good;
          name = (h.name.1.0, h.named_right);
          typed = h.typed;
          constant = c.0;
        },
        record { ty = field_value field.ty h.descriptor.1.0; constant = c.1 },
      )

  fields_formed : (in_interface : Bool) (raws : List MemberInfo) (fs : List Field)
      → AllZip (IsField pool in_interface) raws fs
      → AllByRecursion (λ f. IsGoodField in_interface f × IsFieldValue f) fs
  fields_formed in_interface [] [] h = tt
  fields_formed in_interface [] (f ∷ fs) h = absurd h
  fields_formed in_interface (r ∷ rs) [] h = absurd h
  fields_formed in_interface (r ∷ rs) (f ∷ fs) h =
      (field_formed in_interface r f h.0, fields_formed in_interface rs fs h.1)

-- ---- methods

classes_formed : (pool : List Entry) (indices : List ℕ) (names : List (List ℕ)) → AllZip (IsClassAt pool) indices names
    → AllByRecursion IsClassName names
classes_formed pool [] [] h = tt
classes_formed pool [] (n ∷ ns) h = absurd h
classes_formed pool (i ∷ is) [] h = absurd h
classes_formed pool (i ∷ is) (n ∷ ns) h = (class_formed pool i n h.0, classes_formed pool is ns h.1)

thrown_formed : (pool : List Entry) (all : List AttributeInfo) (names : List (List ℕ)) → AreThrown pool all names
    → AllByRecursion IsClassName names
thrown_formed pool [] names h = subst (λ (l : List (List ℕ)). AllByRecursion IsClassName l) (sym h) tt
thrown_formed pool (a ∷ []) names h = classes_formed pool h.indices names h.each
thrown_formed pool (a ∷ b ∷ others) names h = absurd h

-- what a method's code is
abbrev IsFormedBody : ℕ → Bool → Option Code → Type 0
IsFormedBody flags b o = (is_some o ≡ b) × IfSome o IsFormedCode × (b ≡ false → is_native flags ≡ false)

module _ (pool : List Entry) (units : HaveUnits pool) (right : AllNameRight pool)
    (fits : AllByRecursion EntryFits pool) where
  no_native : (b : Bool) → None ≡ cond b (let o : Option LeftKind = Some left.Flag in o) None → b ≡ false
  no_native true h = absurd cc
  no_native false h = refl

  body_formed : (first : List VType) (flags : ℕ) (b : Bool) (all : List AttributeInfo) (o : Option Code)
      → ((ins : List Ins) → AllByRecursion (IsTypeOf ins) first) → IsCodeOf pool first flags b all o None
      → IsFormedBody flags b o
  body_formed first flags true (a ∷ []) (Some code) typed h =
      (refl, code_formed pool units right fits first h.0 code None (typed code.ins) h.2, (λ e. absurd cc))
  body_formed first flags true (a ∷ []) None typed h = absurd (let e = h.3 in cc)
  body_formed first flags true [] o typed h = absurd h
  body_formed first flags true (a ∷ b ∷ others) o typed h = absurd h
  body_formed first flags false [] o typed h =
      subst (λ (x : Option Code). IsFormedBody flags false x) (sym h.0)
      (refl, tt, (λ e. no_native (is_native flags) h.1))
  body_formed first flags false (a ∷ others) o typed h = absurd h

  -- the parts of a code that is formed
  body_parts : (o : Option Code) → IfSome o IsFormedCode
      → IfSome o IsGoodCode × IfSome o IsCodeValue
      × IfSome o (λ (code : Code). AllByRecursion (λ (i : Ins). HasFewWords i.op) code.ins)
  body_parts None h = (tt, tt, tt)
  body_parts (Some code) h = (h.good, h.value, h.words)

  -- one with a body, or none that is native
  not_native : (bits : ℕ) (b : Bool) → has_body bits ≡ b → (b ≡ false → is_native bits ≡ false) → is_native bits ≡ false
  not_native bits true e f = body_not_native bits e
  not_native bits false e f = f refl

  abbrev Words : Method → Type 0
  Words m = IfSome m.code (λ (code : Code). AllByRecursion (λ (i : Ins). HasFewWords i.op) code.ins)

  abbrev IsFormedMethod : Bool → Method → Type 0
  IsFormedMethod in_interface m = IsGoodMethod in_interface m × IsMethodValue m × Words m

  method_formed : (in_interface : Bool) (class : List ℕ) (raw : MemberInfo) (m : Method) → IsClassName class
      → IsMethod pool in_interface class raw m None → IsFormedMethod in_interface m
  method_formed in_interface class raw m named h =
      let bits = raw.access_flags in
      let value = method_value m.ty h.descriptor.1.0 in
      let first = initial_locals class (is_static bits) m.name m.ty in
      let body = body_formed first bits (has_body bits) _ m.code
      (λ ins. initial_formed ins class (is_static bits) m.name m.ty named h.typed value) h.code in
      let parts = body_parts m.code body.1 in
      let static = kept_test is_static method_mask bits m.flags are_method_flags h.flags (method_static_meant bits) in
      let native = kept_test is_native method_mask bits m.flags are_method_flags h.flags (native_meant bits)
      ∙ not_native bits (has_body bits) refl body.2 in (
        record {
          meant = kept (λ n. defined_flags method_mask n ≡ n) method_mask bits m.flags are_method_flags h.flags
              (meant_again method_mask bits);
          flags = kept_test are_method_flags method_mask bits m.flags are_method_flags h.flags (method_meant bits)
              ∙ h.flags.good;
          not_native = ap not native;
          name = (h.name.1.0, h.named_right);
          typed = h.typed;
          room_for_this = kept_test (λ n. has_room_for_this n m.ty) method_mask bits m.flags are_method_flags h.flags
              (ap (λ (b : Bool). b || not (eqb (argument_words m.ty.args) 255)) (method_static_meant bits))
              ∙ h.room_for_this;
          initial_flags = kept_test
              (λ n. are_initial_flags in_interface n m.name) method_mask bits m.flags are_method_flags h.flags
              (initial_meant in_interface bits m.name) ∙ h.initial_flags;
          initial_type = h.initial_type;
          body = body.0 ∙ sym (kept_test has_body method_mask bits m.flags are_method_flags h.flags (body_meant bits));
          code = parts.0;
          throws = thrown_formed pool _ m.throws h.throws;
        },
        record { ty = value; code = parts.1 },
        parts.2,
      )

  methods_formed : (in_interface : Bool) (class : List ℕ) (raws : List MemberInfo) (ms : List Method)
      (kinds : List (Option LeftKind)) → IsClassName class → AllByRecursion (λ (k : Option LeftKind). k ≡ None) kinds
      → AreMethods pool in_interface class raws ms kinds → AllByRecursion (IsFormedMethod in_interface) ms
  methods_formed in_interface class [] [] [] named none h = tt
  methods_formed in_interface class (r ∷ rs) (m ∷ ms) (k ∷ ks) named none h = (
    method_formed in_interface class r m named
        (subst
        (λ (o : Option LeftKind). IsMethod pool in_interface class r m o) none.0 h.0),
    methods_formed in_interface class rs ms ks named none.1 h.1,
  )
  methods_formed in_interface class [] [] (k ∷ ks) named none h = absurd h
  methods_formed in_interface class [] (m ∷ ms) kinds named none h = absurd h
  methods_formed in_interface class (r ∷ rs) [] kinds named none h = absurd h
  methods_formed in_interface class (r ∷ rs) (m ∷ ms) [] named none h = absurd h

-- ---- the class

source_formed : (pool : List Entry) (units : HaveUnits pool) (all : List AttributeInfo) (o : Option (List ℕ))
    → Single (IsSourceFile pool) all o → IfSome o IsUnits
source_formed pool units [] None h = tt
source_formed pool units [] (Some x) h = absurd h
source_formed pool units (a ∷ []) (Some x) h = units h.0 x h.3
source_formed pool units (a ∷ []) None h = absurd h
source_formed pool units (a ∷ b ∷ others) o h = absurd h

class_formed_of : (raw : ClassFile) (c : Class) (pool : List Entry) → IsClass raw c pool → c.left_out ≡ None
    → IsWritable c
class_formed_of raw c pool h none =
    let bits = raw.access_flags in
    let units = pool_units raw.constant_pool_count raw.constant_pool pool h.constant_pool in
    let right = pool_names raw.constant_pool_count raw.constant_pool pool h.constant_pool in
    let fits = pool_fits raw.constant_pool_count raw.constant_pool pool h.constant_pool in
    let first = none_first (left_out_of_class bits pool) (length raw.fields) h.left_out_kinds (sym h.left_out ∙ none) in
    let name = class_formed pool raw.this_class c.name h.name in
    let same : is_interface c.flags.0
    ≡ is_interface bits = kept_test is_interface class_mask bits c.flags are_class_flags h.flags
    (interface_meant bits) in
    let fields = subst (λ (b : Bool). AllByRecursion (λ (f : Field). IsGoodField b f × IsFieldValue f) c.fields)
    (sym same) (fields_formed pool units fits (is_interface bits) raw.fields c.fields h.fields) in
    let methods = subst (λ (b : Bool). AllByRecursion (IsFormedMethod pool units right fits b) c.methods) (sym same)
    (methods_formed pool units right fits
    (is_interface bits) c.name raw.methods c.methods h.left_out_kinds name first.1 h.methods) in
    let in_interface = is_interface c.flags.0 in
    record {
      well_formed = record {
        nothing_left_out = none;
        meant = kept (λ n. defined_flags class_mask n ≡ n) class_mask bits c.flags are_class_flags h.flags
            (meant_again class_mask bits);
        flags = kept_test are_class_flags class_mask bits c.flags are_class_flags h.flags (class_meant bits)
            ∙ h.flags.good;
        no_annotation_or_enum = ap not
            (kept_test is_left_out_class class_mask bits c.flags are_class_flags h.flags (left_out_meant bits))
            ∙ not_left_out bits pool first.0;
        name = name;
        super_name = class_formed pool raw.super_class c.super_name h.super_name;
        interfaces = classes_formed pool raw.interfaces c.interfaces h.interfaces;
        fields = all_weaker (λ (f : Field). IsGoodField in_interface f × IsFieldValue f) (IsGoodField in_interface)
            (λ f k. k.0) c.fields fields;
        fields_differ = h.fields_differ;
        methods = all_weaker (IsFormedMethod pool units right fits in_interface) (IsGoodMethod in_interface)
            (λ m k. k.0) c.methods methods;
        methods_differ = h.methods_differ;
        source = source_formed pool units _ c.source h.source;
      };
      counts = all_weaker (IsFormedMethod pool units right fits in_interface) (Words pool units right fits)
          (λ m k. k.2) c.methods methods;
      value = record {
        fields = all_weaker (λ (f : Field). IsGoodField in_interface f × IsFieldValue f) IsFieldValue
            (λ f k. k.1) c.fields fields;
        methods = all_weaker (IsFormedMethod pool units right fits in_interface) IsMethodValue
            (λ m k. k.1) c.methods methods;
      };
    }

-- a class that bytes spell, with nothing left out, can be written
pub spelled_writable : SpelledIsWritable
spelled_writable bytes c h none = class_formed_of h.0 c h.2 h.3 none
