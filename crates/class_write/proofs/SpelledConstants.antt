-- The canonical pool of a well-formed class is a constant pool (JVMS 4.4).
use Rattle.std.proofs.Common.{◌≡◌, ℕ, zero, suc, ◌+◌, ◌^◌, ◌<◌, Bool, true, false, cond, List, [], ◌∷◌, ◌++◌, length}
use Rattle.std.proofs.Common.{drop, Option, Some, None, Result, Ok, ℤ, refl}
use Rattle.std.specs.Prelude.{IsUtf8, IfSome, codes}
use Rattle.std.specs.List.{AllByRecursion, flat_map}
use Rattle.jv_base.specs.Mutf8.{mutf8, IsUnits}
use Rattle.jv_base.specs.Types.{field_text, method_text}
use Rattle.class_model.specs.declared.constant.PoolConstant.{PoolConstant}
use Rattle.class_model.specs.declared.constant.PoolConstant.TheVariants.{Utf8, Integer, Long, SecondOfLong}
use Rattle.class_model.specs.declared.constant.PoolConstant.TheVariants.{Class as ClassOf, Str, NameAndType, Fieldref}
use Rattle.class_model.specs.declared.constant.PoolConstant.TheVariants.{Methodref, InterfaceMethodref}
use Rattle.class_model.specs.declared.limit.WriteLimit.{WriteLimit}
use Rattle.class_model.specs.declared.limit.WriteLimit.TheVariants.{TextTooLong}
use Rattle.class_model.specs.declared.op.MemberRef.{MemberRef}
use Rattle.class_model.specs.declared.op.Op.{Op}
use Rattle.class_model.specs.declared.op.Op.TheVariants as op
use Rattle.class_model.specs.declared.code.Code.{Code}
use Rattle.class_model.specs.declared.code.Ins.{Ins}
use Rattle.class_model.specs.declared.code.Handler.{Handler}
use Rattle.class_model.specs.declared.frame.VType.{VType}
use Rattle.class_model.specs.declared.frame.VType.TheVariants as vtype
use Rattle.class_model.specs.declared.frame.FrameAt.{FrameAt}
use Rattle.class_model.specs.declared.class.Constant.{Constant}
use Rattle.class_model.specs.declared.class.Constant.TheVariants as constant
use Rattle.class_model.specs.declared.class.Field.{Field}
use Rattle.class_model.specs.declared.class.Method.{Method}
use Rattle.class_model.specs.declared.class.Class.{Class}
use Rattle.class_model.specs.CanonicalPool.{same, text_constants, class_constants, long_constants, with_parts, filled}
use Rattle.class_model.specs.CanonicalPool.{infos_of}
use Rattle.class_model.specs.CanonicalCode.{is_short, is_lconst, pushed_constants, op_constants}
use Rattle.class_model.specs.CanonicalFrames.{same as same_form, same_with_item, chop, append, full, is_chop, is_append}
use Rattle.class_model.specs.CanonicalFrames.{same_types, form_of, types_written, type_constants, frame_constants}
use Rattle.class_model.specs.CanonicalClass.{code_in, codes_of_methods, class_pushes, attribute_constants, is_some_item}
use Rattle.class_model.specs.CanonicalClass.{mark_constants, value_constants, constant_value_constants, field_constants}
use Rattle.class_model.specs.CanonicalClass.{caught_constants, line_rows, code_constants, body_constants, first_locals}
use Rattle.class_model.specs.CanonicalClass.{method_constants, source_constants, wanted, pool_of}
use Rattle.class_model.specs.bodies.PoolEntries.{entries_of, Has, ConstantFits, begun_by, ArePaired}
use Rattle.class_model.specs.ConstantPool.{IsPool}
use Rattle.class_model.specs.WellFormed.{IsClassName, IsGoodOp, IsGoodHandler, IsGoodType, IsGoodFrame, IsGoodCode}
use Rattle.class_model.specs.WellFormed.{FitsField, IsGoodField, IsGoodMethod, IsWellFormed}
use Rattle.class_model.specs.WriteLimits.{first_of, text_fits}
use Rattle.class_model.proofs.BackPool.{filled_has}
use Rattle.class_model.proofs.BackPaired.{filled_paired}
use Rattle.class_laws.specs.ClassValues.{IsInsValue, IsVTypeValue, IsFrameValue, IsCodeValue, IsFieldConstant}
use Rattle.class_laws.specs.ClassValues.{IsFieldValue, IsMethodValue, IsClassValue}
use Rattle.class_laws.proofs.SpelledLists.{all_front, all_back, all_both, all_two, all_put}
use Rattle.class_laws.proofs.SpelledPool.{IsRight, pool_is}
use Rattle.class_laws.proofs.SpelledWanted.{HasAll, AllRight, text_right, class_right, type_right, string_right}
use Rattle.class_laws.proofs.SpelledWanted.{pushed_right, op_right, method_utf8}
use Rattle.class_model.proofs.BackCode.{both_passed}
use Rattle.class_model.proofs.BackEntries.{field_utf8}
use Rattle.class_write.proofs.Fitting.{count_ok}

-- ---- names of attributes

pub code_utf8 : IsUtf8 (codes "Code")
unfolding lib.Utf8.encode
code_utf8 = (codes "Code", (refl, refl))

pub lines_utf8 : IsUtf8 (codes "LineNumberTable")
unfolding lib.Utf8.encode
lines_utf8 = (codes "LineNumberTable", (refl, refl))

pub map_utf8 : IsUtf8 (codes "StackMapTable")
unfolding lib.Utf8.encode
map_utf8 = (codes "StackMapTable", (refl, refl))

pub exceptions_utf8 : IsUtf8 (codes "Exceptions")
unfolding lib.Utf8.encode
exceptions_utf8 = (codes "Exceptions", (refl, refl))

pub synthetic_utf8 : IsUtf8 (codes "Synthetic")
unfolding lib.Utf8.encode
synthetic_utf8 = (codes "Synthetic", (refl, refl))

pub deprecated_utf8 : IsUtf8 (codes "Deprecated")
unfolding lib.Utf8.encode
deprecated_utf8 = (codes "Deprecated", (refl, refl))

pub value_utf8 : IsUtf8 (codes "ConstantValue")
unfolding lib.Utf8.encode
value_utf8 = (codes "ConstantValue", (refl, refl))

pub source_utf8 : IsUtf8 (codes "SourceFile")
unfolding lib.Utf8.encode
source_utf8 = (codes "SourceFile", (refl, refl))

-- ---- types that are written in frames

form_by : (P : VType → Type 0) (before locals : List VType) (a b c : Bool) (gone n : ℕ) → AllByRecursion P locals
    → AllByRecursion P (types_written (cond a same_form (cond b (chop gone)
    (cond c (append (drop n locals)) (full locals [])))))
form_by P before locals true b c gone n h = tt
form_by P before locals false true c gone n h = tt
form_by P before locals false false true gone n h = behind n locals h
  where
    behind : (k : ℕ) (types : List VType) → AllByRecursion P types → AllByRecursion P (drop k types)
    behind zero types h = h
    behind (suc k) [] h = tt
    behind (suc k) (ty ∷ types) h = behind k types h.1
form_by P before locals false false false gone n h = all_both P locals [] h tt

item_by : (P : VType → Type 0) (locals : List VType) (item : VType) (a : Bool) → AllByRecursion P locals → P item
    → AllByRecursion P (types_written (cond a (same_with_item item) (full locals (item ∷ []))))
item_by P locals item true h k = (k, tt)
item_by P locals item false h k = all_both P locals (item ∷ []) h (k, tt)

pub types_of_form : (P : VType → Type 0) (before locals stack : List VType) → AllByRecursion P locals
    → AllByRecursion P stack → AllByRecursion P (types_written (form_of before locals stack))
types_of_form P before locals [] h k = form_by P before locals (same_types before locals) (is_chop before locals)
    (is_append before locals) _ _ h
types_of_form P before locals (item ∷ []) h k = item_by P locals item (same_types before locals) h k.0
types_of_form P before locals (item ∷ next ∷ stack) h k = all_both P locals (item ∷ next ∷ stack) h k

-- ---- constants that stand with their parts

module _ (pool : List PoolConstant) where
  -- in a pool that has them they are right
  abbrev Makes : List PoolConstant → Type 0
  Makes ks = HasAll pool ks → AllRight pool ks

  both : (xs ys : List PoolConstant) → Makes xs → Makes ys → Makes (xs ++ ys)
  both xs ys f g h = all_both (IsRight pool) xs ys (f (all_front (Has pool) xs ys h)) (g (all_back (Has pool) xs ys h))

  flat : {A : Type 0} (P : A → Type 0) (f : A → List PoolConstant) → ((x : A) → P x → Makes (f x)) → (xs : List A)
      → AllByRecursion P xs → Makes (flat_map f xs)
  flat P f g [] h k = tt
  flat P f g (x ∷ xs) h k = both (f x) (flat_map f xs) (g x h.0) (flat P f g xs h.1) k

  text : (t : List ℕ) → IsUtf8 t → Makes (text_constants t)
  text t utf8 h = text_right pool t utf8

  attribute : (b : Bool) (name : List ℕ) (contents : List PoolConstant) → IsUtf8 name → Makes contents
      → Makes (attribute_constants b name contents)
  attribute false name contents utf8 f h = tt
  attribute true name contents utf8 f h = both (text_constants name) contents (text name utf8) f h

  none : Makes []
  none h = tt

  marks : (synthetic deprecated : Bool) → Makes (mark_constants synthetic deprecated)
  marks synthetic deprecated =
      both (attribute_constants synthetic (codes "Synthetic") [])
      (attribute_constants deprecated (codes "Deprecated") [])
      (attribute synthetic (codes "Synthetic") [] synthetic_utf8 none)
      (attribute deprecated (codes "Deprecated") [] deprecated_utf8 none)

  -- ---- fields

  value : (field : Field) (k : Constant) → FitsField field.ty k → IsFieldConstant k → Makes (value_constants k)
  value field (constant.Int n) fits is h = (is, tt)
  value field (constant.Long n) fits is h = (is, (tt, tt))
  value field (constant.Text units) fits is h = string_right pool units fits.1 h

  constant_value : (in_interface : Bool) (field : Field) (k : Option Constant) → IfSome k (λ v. FitsField field.ty v)
      → IfSome k IsFieldConstant → Makes (constant_value_constants k)
  constant_value in_interface field None fits is = none
  constant_value in_interface field (Some k) fits is = both (text_constants (codes "ConstantValue")) (value_constants k)
      (text (codes "ConstantValue") value_utf8) (value field k fits is)

  fitting : (P : Type 0) (field : Field) (k : Option Constant) → IfSome k (λ v. P × FitsField field.ty v)
      → IfSome k (λ v. FitsField field.ty v)
  fitting P field None h = tt
  fitting P field (Some v) h = h.1

  abbrev IsField : Bool → Field → Type 0
  IsField in_interface field = IsGoodField in_interface field × IsFieldValue field

  field : (in_interface : Bool) (f : Field) → IsField in_interface f → Makes (field_constants f)
  field in_interface f is =
      let rest = mark_constants f.synthetic f.deprecated in
      let ty = text_constants (field_text f.ty) in
      both (text_constants f.name) (ty ++ (constant_value_constants f.constant ++ rest)) (text f.name is.0.name.0)
      (both ty (constant_value_constants f.constant ++ rest) (text (field_text f.ty) (field_utf8 f.ty is.1.ty))
      (both (constant_value_constants f.constant) rest
      (constant_value in_interface f f.constant (fitting _ f f.constant is.0.constant) is.1.constant)
      (marks f.synthetic f.deprecated)))

  -- ---- codes

  abbrev IsVType : List Ins → VType → Type 0
  IsVType ins ty = IsGoodType ins ty × IsVTypeValue ty

  vtype_makes : (ins : List Ins) (ty : VType) → IsVType ins ty → Makes (type_constants ty)
  vtype_makes ins (vtype.Object ty) is h = type_right pool ty is.0 is.1 h
  vtype_makes ins _ is h = tt

  abbrev IsFrame : Code → FrameAt → Type 0
  IsFrame code f = IsGoodFrame code f × IsFrameValue f

  pub frame_types : (code : Code) (f : FrameAt) → IsFrame code f
      → AllByRecursion (IsVType code.ins) f.frame.locals × AllByRecursion (IsVType code.ins) f.frame.stack
  frame_types code f is = (
    all_two (IsGoodType code.ins) IsVTypeValue (IsVType code.ins)
        (λ ty a b. (a, b)) f.frame.locals is.0.locals is.1.locals,
    all_two (IsGoodType code.ins) IsVTypeValue (IsVType code.ins)
        (λ ty a b. (a, b)) f.frame.stack is.0.stack is.1.stack,
  )

  frames : (code : Code) (before : List VType) (fs : List FrameAt) → AllByRecursion (IsFrame code) fs
      → Makes (frame_constants before fs)
  frames code before [] is = none
  frames code before (f ∷ fs) is =
      let form = form_of before f.frame.locals f.frame.stack in
      let t = frame_types code f is.0 in
      both (flat_map type_constants (types_written form)) (frame_constants f.frame.locals fs)
      (flat (IsVType code.ins) type_constants (vtype_makes code.ins) (types_written form)
      (types_of_form (IsVType code.ins) before f.frame.locals f.frame.stack t.0 t.1))
      (frames code f.frame.locals fs is.1)

  caught : (n : ℕ) (h : Handler) → IsGoodHandler n h → Makes (caught_constants h.caught)
  caught n h is = by h.caught is.caught
    where
      by : (o : Option (List ℕ)) → IfSome o IsClassName → Makes (caught_constants o)
      by None k l = tt
      by (Some name) k l = class_right pool name k l

  abbrev IsIns : ℕ → Ins → Type 0
  IsIns n i = IsGoodOp n i.op × IsInsValue i

  abbrev IsCode : Code → Type 0
  IsCode code = IsGoodCode code × IsCodeValue code

  pub ins_are : (code : Code) → IsCode code → AllByRecursion (IsIns (length code.ins)) code.ins
  ins_are code is = all_two (λ (i : Ins). IsGoodOp (length code.ins) i.op) IsInsValue (IsIns (length code.ins))
      (λ i a b. (a, b)) code.ins is.0.instructions is.1.ins

  pub frames_are : (code : Code) → IsCode code → AllByRecursion (IsFrame code) code.frames
  frames_are code is = all_two (IsGoodFrame code) IsFrameValue (IsFrame code)
      (λ f a b. (a, b)) code.frames is.0.frames is.1.frames

  code_makes : (first : List VType) (code : Code) → IsCode code → Makes (code_constants first code)
  code_makes first code is =
      let n = length code.ins in
      let ops = flat_map (λ (i : Ins). op_constants i.op) code.ins in
      let handlers = flat_map (λ (h : Handler). caught_constants h.caught) code.handlers in
      let lines = attribute_constants (is_some_item (line_rows None [] code.ins)) (codes "LineNumberTable") [] in
      let map = attribute_constants (is_some_item code.frames) (codes "StackMapTable")
      (frame_constants first code.frames) in
      both ops (handlers ++ (lines ++ map))
      (flat (IsIns n) (λ (i : Ins). op_constants i.op) (λ i k. op_right pool n i.op k.0 k.1.op k.1.pushed) code.ins
      (ins_are code is))
      (both handlers (lines ++ map)
      (flat (IsGoodHandler n) (λ (h : Handler). caught_constants h.caught) (caught n) code.handlers is.0.handlers)
      (both lines map (attribute _ (codes "LineNumberTable") [] lines_utf8 none)
      (attribute _ (codes "StackMapTable") (frame_constants first code.frames) map_utf8
      (frames code first code.frames (frames_are code is)))))

  body : (first : List VType) (code : Option Code) → IfSome code IsCode → Makes (body_constants first code)
  body first None is = none
  body first (Some code) is = both (text_constants (codes "Code")) (code_constants first code)
      (text (codes "Code") code_utf8) (code_makes first code is)

  -- ---- methods

  abbrev IsMethod : Bool → Method → Type 0
  IsMethod in_interface m = IsGoodMethod in_interface m × IsMethodValue m

  some_both : {A : Type 0} (P Q : A → Type 0) (o : Option A) → IfSome o P → IfSome o Q → IfSome o (λ x. P x × Q x)
  some_both P Q None h k = tt
  some_both P Q (Some x) h k = (h, k)

  method : (in_interface : Bool) (class : List ℕ) (m : Method) → IsMethod in_interface m
      → Makes (method_constants class m)
  method in_interface class m is =
      let first = first_locals class m in
      let ty = text_constants (method_text m.ty) in
      let bodies = body_constants first m.code in
      let throws = attribute_constants (is_some_item m.throws) (codes "Exceptions")
      (flat_map class_constants m.throws) in
      let rest = mark_constants m.synthetic m.deprecated in
      both (text_constants m.name) (ty ++ (bodies ++ (throws ++ rest))) (text m.name is.0.name.0)
      (both ty (bodies ++ (throws ++ rest)) (text (method_text m.ty) (method_utf8 m.ty is.1.ty))
      (both bodies (throws ++ rest) (body first m.code (some_both IsGoodCode IsCodeValue m.code is.0.code is.1.code))
      (both throws rest (attribute _ (codes "Exceptions") (flat_map class_constants m.throws) exceptions_utf8
      (flat IsClassName class_constants (class_right pool) m.throws is.0.throws))
      (marks m.synthetic m.deprecated))))

  -- ---- what is pushed

  abbrev pushes : Code → List PoolConstant
  pushes code = flat_map (λ (i : Ins). pushed_constants i.op) code.ins

  pushes_make : (code : Code) → IsCode code → Makes (pushes code)
  pushes_make code is = flat (IsIns (length code.ins)) (λ (i : Ins). pushed_constants i.op)
      (λ i k. pushed_right pool (length code.ins) i.op k.0 k.1.pushed) code.ins (ins_are code is)

  codes_are : (in_interface : Bool) (ms : List Method) → AllByRecursion (IsMethod in_interface) ms
      → AllByRecursion IsCode (codes_of_methods ms)
  codes_are in_interface [] is = tt
  codes_are in_interface (m ∷ ms) is = all_both IsCode (code_in m.code) (codes_of_methods ms)
      (by m.code (some_both IsGoodCode IsCodeValue m.code is.0.0.code is.0.1.code)) (codes_are in_interface ms is.1)
    where
      by : (o : Option Code) → IfSome o IsCode → AllByRecursion IsCode (code_in o)
      by None k = tt
      by (Some code) k = (k, tt)

  -- ---- the class

  source : (o : Option (List ℕ)) → IfSome o IsUnits → Makes (source_constants o)
  source None is = none
  source (Some units) is = both (text_constants (codes "SourceFile")) (Utf8 units ∷ [])
      (text (codes "SourceFile") source_utf8) (λ h. (is, tt))

  pub fields_are : (c : Class) (b : Bool) → AllByRecursion (IsGoodField b) c.fields → IsClassValue c
      → AllByRecursion (IsField b) c.fields
  fields_are c b good value = all_two (IsGoodField b) IsFieldValue (IsField b)
      (λ f a b. (a, b)) c.fields good value.fields

  pub methods_are : (c : Class) (b : Bool) → AllByRecursion (IsGoodMethod b) c.methods → IsClassValue c
      → AllByRecursion (IsMethod b) c.methods
  methods_are c b good value = all_two (IsGoodMethod b) IsMethodValue (IsMethod b)
      (λ f a b. (a, b)) c.methods good value.methods

  pub wanted_right : (c : Class) → IsWellFormed c → IsClassValue c → HasAll pool (wanted c) → AllRight pool (wanted c)
  wanted_right c good values =
      let ms = methods_are c _ good.methods values in
      let rest = mark_constants c.synthetic c.deprecated in
      let sources = source_constants c.source ++ rest in
      let methods = flat_map (method_constants c.name) c.methods ++ sources in
      let fields = flat_map field_constants c.fields ++ methods in
      let interfaces = flat_map class_constants c.interfaces ++ fields in
      let super_name = class_constants c.super_name ++ interfaces in
      both (class_pushes c.methods) (class_constants c.name ++ super_name)
      (flat IsCode pushes pushes_make (codes_of_methods c.methods) (codes_are _ c.methods ms))
      (both (class_constants c.name) super_name (class_right pool c.name good.name)
      (both (class_constants c.super_name) interfaces (class_right pool c.super_name good.super_name)
      (both (flat_map class_constants c.interfaces) fields
      (flat IsClassName class_constants (class_right pool) c.interfaces good.interfaces)
      (both (flat_map field_constants c.fields) methods
      (flat (IsField _) field_constants (field _) c.fields (fields_are c _ good.fields values))
      (both (flat_map (method_constants c.name) c.methods) sources
      (flat (IsMethod _) (method_constants c.name) (method _ c.name) c.methods ms)
      (both (source_constants c.source) rest (source c.source good.source) (marks c.synthetic c.deprecated)))))))

-- all constants of the pool stand with their parts
pub pool_right : (c : Class) → IsWellFormed c → IsClassValue c → AllRight (pool_of c) (pool_of c)
unfolding pool_of filled
pool_right c good values = all_put (IsRight (pool_of c)) same (wanted c) [] tt
    (wanted_right (pool_of c) c good values (filled_has (wanted c)))

pub pool_wanted : (c : Class) → HasAll (pool_of c) (wanted c)
unfolding pool_of
pool_wanted c = filled_has (wanted c)

pub pool_has : (c : Class) → HasAll (pool_of c) (pool_of c)
unfolding pool_of filled
pool_has c = all_put (Has (pool_of c)) same (wanted c) [] tt (filled_has (wanted c))

-- ---- pairs

paired_both : (xs ys : List PoolConstant) (o : Option ℤ) → ArePaired o xs → ArePaired None ys → ArePaired o (xs ++ ys)
paired_both [] ys None h k = k
paired_both [] ys (Some v) h k = absurd h
paired_both (x ∷ xs) ys None h k = (h.0, paired_both xs ys (begun_by x) h.1 k)
paired_both (x ∷ xs) ys (Some v) h k = (h.0, paired_both xs ys None h.1 k)

abbrev Paired : List PoolConstant → Type 0
Paired ks = ArePaired None ks

paired : (xs ys : List PoolConstant) → Paired xs → Paired ys → Paired (xs ++ ys)
paired xs ys h k = paired_both xs ys None h k

paired_flat : {A : Type 0} (f : A → List PoolConstant) → ((x : A) → Paired (f x)) → (xs : List A)
    → Paired (flat_map f xs)
paired_flat f g [] = tt
paired_flat f g (x ∷ xs) = paired (f x) (flat_map f xs) (g x) (paired_flat f g xs)

paired_if : (b : Bool) (xs ys : List PoolConstant) → Paired xs → Paired ys → Paired (cond b xs ys)
paired_if true xs ys h k = h
paired_if false xs ys h k = k

paired_method : (b : Bool) (r : MemberRef) (x y z : List ℕ)
    → Paired (with_parts r (cond b (InterfaceMethodref x y z) (Methodref x y z)))
paired_method true r x y z = (tt, (tt, (tt, (tt, (tt, (tt, tt))))))
paired_method false r x y z = (tt, (tt, (tt, (tt, (tt, (tt, tt))))))

paired_pushed : (o : Op) → Paired (pushed_constants o)
paired_pushed (op.PushInt z) = paired_if (is_short z) [] (Integer z ∷ []) tt (tt, tt)
paired_pushed (op.PushText units) = (tt, (tt, tt))
paired_pushed _ = tt

paired_op : (o : Op) → Paired (op_constants o)
paired_op (op.PushInt z) = paired_if (is_short z) [] (Integer z ∷ []) tt (tt, tt)
paired_op (op.PushText units) = (tt, (tt, tt))
paired_op (op.PushLong z) = paired_if (is_lconst z) [] (long_constants z) tt (tt, (refl, tt))
paired_op (op.GetStatic r) = (tt, (tt, (tt, (tt, (tt, (tt, tt))))))
paired_op (op.PutStatic r) = (tt, (tt, (tt, (tt, (tt, (tt, tt))))))
paired_op (op.GetField r) = (tt, (tt, (tt, (tt, (tt, (tt, tt))))))
paired_op (op.PutField r) = (tt, (tt, (tt, (tt, (tt, (tt, tt))))))
paired_op (op.InvokeVirtual r) = paired_method r.of_interface r _ _ _
paired_op (op.InvokeSpecial r) = paired_method r.of_interface r _ _ _
paired_op (op.InvokeStatic r) = paired_method r.of_interface r _ _ _
paired_op (op.InvokeInterface r) = paired_method r.of_interface r _ _ _
paired_op (op.New name) = (tt, (tt, tt))
paired_op (op.ANewArray ty) = (tt, (tt, tt))
paired_op (op.CheckCast ty) = (tt, (tt, tt))
paired_op (op.InstanceOf ty) = (tt, (tt, tt))
paired_op (op.MultiNewArray ty dimensions) = (tt, (tt, tt))
paired_op _ = tt

paired_attribute : (b : Bool) (name : List ℕ) (contents : List PoolConstant) → Paired contents
    → Paired (attribute_constants b name contents)
paired_attribute true name contents h = (tt, h)
paired_attribute false name contents h = tt

paired_marks : (synthetic deprecated : Bool) → Paired (mark_constants synthetic deprecated)
paired_marks synthetic deprecated =
    paired (attribute_constants synthetic (codes "Synthetic") [])
    (attribute_constants deprecated (codes "Deprecated") [])
    (paired_attribute synthetic (codes "Synthetic") [] tt) (paired_attribute deprecated (codes "Deprecated") [] tt)

paired_value : (o : Option Constant) → Paired (constant_value_constants o)
paired_value None = tt
paired_value (Some (constant.Int n)) = (tt, (tt, tt))
paired_value (Some (constant.Long n)) = (tt, (tt, (refl, tt)))
paired_value (Some (constant.Text units)) = (tt, (tt, (tt, tt)))

paired_field : (f : Field) → Paired (field_constants f)
paired_field f = (
  tt,
  (
    tt,
    paired (constant_value_constants f.constant) (mark_constants f.synthetic f.deprecated)
        (paired_value f.constant) (paired_marks f.synthetic f.deprecated),
  ),
)

paired_vtype : (ty : VType) → Paired (type_constants ty)
paired_vtype (vtype.Object ty) = (tt, (tt, tt))
paired_vtype _ = tt

paired_frames : (before : List VType) (fs : List FrameAt) → Paired (frame_constants before fs)
paired_frames before [] = tt
paired_frames before (f ∷ fs) = paired
    (flat_map type_constants (types_written (form_of before f.frame.locals f.frame.stack)))
    (frame_constants f.frame.locals fs)
    (paired_flat type_constants paired_vtype (types_written (form_of before f.frame.locals f.frame.stack)))
    (paired_frames f.frame.locals fs)

paired_caught : (o : Option (List ℕ)) → Paired (caught_constants o)
paired_caught None = tt
paired_caught (Some name) = (tt, (tt, tt))

paired_body : (first : List VType) (o : Option Code) → Paired (body_constants first o)
paired_body first None = tt
paired_body first (Some code) =
    let handlers = flat_map (λ (h : Handler). caught_constants h.caught) code.handlers in
    let lines = attribute_constants (is_some_item (line_rows None [] code.ins)) (codes "LineNumberTable") [] in
    let map = attribute_constants (is_some_item code.frames) (codes "StackMapTable")
    (frame_constants first code.frames) in (
      tt,
      paired (flat_map (λ (i : Ins). op_constants i.op) code.ins) (handlers ++ (lines ++ map))
          (paired_flat (λ (i : Ins). op_constants i.op) (λ i. paired_op i.op) code.ins)
          (paired handlers (lines ++ map)
          (paired_flat (λ (h : Handler). caught_constants h.caught) (λ h. paired_caught h.caught) code.handlers)
          (paired lines map (paired_attribute _ (codes "LineNumberTable") [] tt)
          (paired_attribute _ (codes "StackMapTable") (frame_constants first code.frames)
          (paired_frames first code.frames)))),
    )

paired_class : (name : List ℕ) → Paired (class_constants name)
paired_class name = (tt, (tt, tt))

paired_member : (class : List ℕ) (m : Method) → Paired (method_constants class m)
paired_member class m =
    let throws = attribute_constants (is_some_item m.throws) (codes "Exceptions") (flat_map class_constants m.throws) in
    let rest = mark_constants m.synthetic m.deprecated in (
      tt,
      (
        tt,
        paired (body_constants (first_locals class m) m.code) (throws ++ rest)
            (paired_body (first_locals class m) m.code)
            (paired throws rest (paired_attribute _ (codes "Exceptions") (flat_map class_constants m.throws)
            (paired_flat class_constants paired_class m.throws)) (paired_marks m.synthetic m.deprecated)),
      ),
    )

paired_source : (o : Option (List ℕ)) → Paired (source_constants o)
paired_source None = tt
paired_source (Some units) = (tt, (tt, tt))

wanted_paired : (c : Class) → Paired (wanted c)
wanted_paired c =
    let rest = mark_constants c.synthetic c.deprecated in
    let sources = source_constants c.source ++ rest in
    let methods = flat_map (method_constants c.name) c.methods ++ sources in
    let fields = flat_map field_constants c.fields ++ methods in
    let interfaces = flat_map class_constants c.interfaces ++ fields in
    let super_name = class_constants c.super_name ++ interfaces in
    let pushed : Code → List PoolConstant = λ code. flat_map (λ (i : Ins). pushed_constants i.op) code.ins in
    paired (class_pushes c.methods) (class_constants c.name ++ super_name)
    (paired_flat pushed (λ code. paired_flat (λ (i : Ins). pushed_constants i.op)
    (λ i. paired_pushed i.op) code.ins) (codes_of_methods c.methods)) (
      tt,
      (
        tt,
        (
          tt,
          (
            tt,
            paired (flat_map class_constants c.interfaces) fields
                (paired_flat class_constants paired_class c.interfaces)
                (paired (flat_map field_constants c.fields) methods (paired_flat field_constants paired_field c.fields)
                (paired (flat_map (method_constants c.name) c.methods) sources
                (paired_flat (method_constants c.name) (paired_member c.name) c.methods)
                (paired (source_constants c.source) rest (paired_source c.source)
                (paired_marks c.synthetic c.deprecated)))),
          ),
        ),
      ),
    )

-- ---- limits

pub all_passed : {A : Type 0} (check : A → Result (Unit {0}) WriteLimit) (xs : List A) → first_of check xs ≡ Ok tt
    → AllByRecursion (λ x. check x ≡ Ok tt) xs
all_passed check [] h = tt
all_passed check (x ∷ xs) h = let p = both_passed (check x) (first_of check xs) h in (p.0, all_passed check xs p.1)

fits_by : (pool : List PoolConstant) (k : PoolConstant) → IsRight pool k → text_fits k ≡ Ok tt → ConstantFits k
fits_by pool (Utf8 units) h e = (h, count_ok (λ n. TextTooLong n) (length (mutf8 units)) e)
fits_by pool (Integer n) h e = h
fits_by pool (Long n) h e = h
fits_by pool (SecondOfLong n) h e = tt
fits_by pool (ClassOf name) h e = tt
fits_by pool (Str units) h e = tt
fits_by pool (NameAndType a b) h e = tt
fits_by pool (Fieldref a b c) h e = tt
fits_by pool (Methodref a b c) h e = tt
fits_by pool (InterfaceMethodref a b c) h e = tt

-- ---- the pool

pool_paired : (c : Class) → Paired (pool_of c)
unfolding pool_of
pool_paired c = filled_paired (wanted c) (wanted_paired c)

-- the canonical pool of a class within the limits of its pool
pub constant_pool_is : (c : Class) → IsWellFormed c → IsClassValue c → length (pool_of c) + 1 < 2 ^ 16
    → first_of text_fits (pool_of c) ≡ Ok tt
    → IsPool (length (pool_of c) + 1) (infos_of (pool_of c)) (entries_of (pool_of c))
constant_pool_is c good values count texts =
    let right = pool_right c good values in
    let pool = pool_of c in
    pool_is pool right (pool_has c)
    (all_two (IsRight pool) (λ k. text_fits k ≡ Ok tt) ConstantFits (fits_by pool) pool right
    (all_passed text_fits pool texts)) (pool_paired c) count
