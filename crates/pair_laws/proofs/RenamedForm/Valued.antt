-- The numbers and texts of a class under new names are those that the code can hold.
use Rattle.std.proofs.Common.{ℕ, Bool, List, [], ◌∷◌, length, map, Option, Some, None, sym, subst, ◌∙◌, ap}
use Rattle.std.specs.Option.{IfSome, option_map}
use Rattle.std.specs.List.{AllByRecursion}
use Rattle.std.specs.Prelude.{IsUtf8}
use Rattle.jv_base.specs.declared.types.Base.{Base}
use Rattle.jv_base.specs.declared.types.Base.TheVariants as base
use Rattle.jv_base.specs.declared.types.FieldType.{FieldType}
use Rattle.jv_base.specs.declared.types.MethodType.{MethodType}
use Rattle.class_model.specs.ConstantPool.{IsFieldText, IsMethodText}
use Rattle.class_model.specs.Flags.{is_interface}
use Rattle.class_model.specs.OpValues.{IsBaseValue, IsOpValue, IsReferenceValue}
use Rattle.class_model.specs.WellFormed.{IsFieldReference, IsGoodCode, IsGoodMethod, IsGoodOp, IsMethodReference}
use Rattle.class_model.specs.WellFormed.{IsWellFormed}
use Rattle.class_model.specs.declared.class.Class.{Class}
use Rattle.class_model.specs.declared.class.Field.{Field}
use Rattle.class_model.specs.declared.class.Method.{Method}
use Rattle.class_model.specs.declared.code.Code.{Code}
use Rattle.class_model.specs.declared.code.Ins.{Ins}
use Rattle.class_model.specs.declared.frame.FrameAt.{FrameAt}
use Rattle.class_model.specs.declared.frame.VType.{VType}
use Rattle.class_model.specs.declared.frame.VType.TheVariants as vtype
use Rattle.class_model.specs.declared.op.MemberRef.{MemberRef}
use Rattle.class_model.specs.declared.op.Op.{Op}
use Rattle.class_model.specs.declared.op.Op.TheVariants as op
use Rattle.class_model.proofs.BackEntries.{field_utf8}
use Rattle.class_laws.specs.ClassValues.{IsClassValue, IsCodeValue, IsFieldTypeValue, IsFieldValue, IsFrameValue}
use Rattle.class_laws.specs.ClassValues.{IsInsValue, IsMethodTypeValue, IsMethodValue, IsPushValue, IsVTypeValue}
use Rattle.class_laws.proofs.FormedTexts.{field_value, method_value}
use Rattle.class_laws.proofs.SpelledWanted.{method_utf8}
use Rattle.class_laws.proofs.Mapped.{all_mapped, some_mapped}
use Rattle.class_rename.specs.Names.{Names}
use Rattle.class_rename.specs.Renamed.{renamed, renamed_base, renamed_code, renamed_field, renamed_field_ref}
use Rattle.class_rename.specs.Renamed.{renamed_field_text, renamed_frame, renamed_ins, renamed_method}
use Rattle.class_rename.specs.Renamed.{renamed_method_ref, renamed_method_text, renamed_method_type, renamed_op}
use Rattle.class_rename.specs.Renamed.{renamed_type, renamed_vtype}
use Rattle.pair_laws.specs.RenamedForm.Form.{KeepsForm}
use Rattle.pair_laws.proofs.RenamedForm.Spelled.{field_text_is, method_text_is}

module _ (names : Names) (form : KeepsForm names) where
  -- ---- types and descriptors

  base_valued : (b : Base) → IsBaseValue b → IsBaseValue (renamed_base names b)
  base_valued (base.Class name) h = form.class_text name h
  base_valued base.Boolean h = tt
  base_valued base.Byte h = tt
  base_valued base.Char h = tt
  base_valued base.Short h = tt
  base_valued base.Int h = tt
  base_valued base.Long h = tt
  base_valued base.Float h = tt
  base_valued base.Double h = tt

  type_valued : (ty : FieldType) → IsFieldTypeValue ty → IsFieldTypeValue (renamed_type names ty)
  type_valued ty h = base_valued ty.base h

  method_type_valued : (ty : MethodType) → IsMethodTypeValue ty → IsMethodTypeValue (renamed_method_type names ty)
  method_type_valued ty h = record {
    arguments = all_mapped IsFieldTypeValue IsFieldTypeValue (renamed_type names) type_valued ty.args h.arguments;
    returned = some_mapped IsFieldTypeValue IsFieldTypeValue (renamed_type names) type_valued ty.ret h.returned;
  }

  field_text_valued : (text : List ℕ) → IsFieldText text → IsUtf8 text → IsUtf8 (renamed_field_text names text)
  field_text_valued text is h =
      let value = field_value is.0 (subst (λ (t : List ℕ). IsUtf8 t) is.2 h) in
      let same = ap (renamed_field_text names) is.2 ∙ field_text_is names is.0 is.1 in
      subst (λ (t : List ℕ). IsUtf8 t) (sym same) (field_utf8 (renamed_type names is.0) (type_valued is.0 value))

  method_text_valued : (text : List ℕ) → IsMethodText text → IsUtf8 text → IsUtf8 (renamed_method_text names text)
  method_text_valued text is h =
      let value = method_value is.0 (subst (λ (t : List ℕ). IsUtf8 t) is.2 h) in
      let same = ap (renamed_method_text names) is.2 ∙ method_text_is names is.0 is.1 in
      subst (λ (t : List ℕ). IsUtf8 t) (sym same)
      (method_utf8 (renamed_method_type names is.0) (method_type_valued is.0 value))

  -- ---- instructions

  field_ref_valued : (r : MemberRef) → IsFieldReference r → IsReferenceValue r
      → IsReferenceValue (renamed_field_ref names r)
  field_ref_valued r good v = record {
    class = base_valued r.class.base v.class;
    name = (form.field_name r.name good.0.name).0;
    descriptor = field_text_valued r.ty good.0.descriptor v.descriptor;
  }

  method_ref_valued : (r : MemberRef) → IsMethodReference r → IsReferenceValue r
      → IsReferenceValue (renamed_method_ref names r)
  method_ref_valued r good v = record {
    class = base_valued r.class.base v.class;
    name = (form.method_name r.name r.ty good.name).0;
    descriptor = method_text_valued r.ty good.descriptor v.descriptor;
  }

  op_valued : (n : ℕ) (o : Op) → IsGoodOp n o → IsOpValue o → IsOpValue (renamed_op names o)
  op_valued n (op.GetStatic r) good v = field_ref_valued r good v
  op_valued n (op.PutStatic r) good v = field_ref_valued r good v
  op_valued n (op.GetField r) good v = field_ref_valued r good v
  op_valued n (op.PutField r) good v = field_ref_valued r good v
  op_valued n (op.InvokeVirtual r) good v = method_ref_valued r good.0 v
  op_valued n (op.InvokeSpecial r) good v = method_ref_valued r good v
  op_valued n (op.InvokeStatic r) good v = method_ref_valued r good v
  op_valued n (op.InvokeInterface r) good v = method_ref_valued r good.0 v
  op_valued n (op.New name) good v = tt
  op_valued n (op.NewArray b) good v = tt
  op_valued n (op.ANewArray ty) good v = base_valued ty.base v
  op_valued n (op.CheckCast ty) good v = base_valued ty.base v
  op_valued n (op.InstanceOf ty) good v = base_valued ty.base v
  op_valued n (op.MultiNewArray ty dimensions) good v = base_valued ty.base v
  op_valued n _ good v = v

  push_valued : (o : Op) → IsPushValue o → IsPushValue (renamed_op names o)
  push_valued (op.GetStatic r) h = tt
  push_valued (op.PutStatic r) h = tt
  push_valued (op.GetField r) h = tt
  push_valued (op.PutField r) h = tt
  push_valued (op.InvokeVirtual r) h = tt
  push_valued (op.InvokeSpecial r) h = tt
  push_valued (op.InvokeStatic r) h = tt
  push_valued (op.InvokeInterface r) h = tt
  push_valued (op.New name) h = tt
  push_valued (op.NewArray b) h = tt
  push_valued (op.ANewArray ty) h = tt
  push_valued (op.CheckCast ty) h = tt
  push_valued (op.InstanceOf ty) h = tt
  push_valued (op.MultiNewArray ty dimensions) h = tt
  push_valued _ h = h

  ins_valued : (n : ℕ) (ins : List Ins) → AllByRecursion (λ (i : Ins). IsGoodOp n i.op) ins
      → AllByRecursion IsInsValue ins → AllByRecursion IsInsValue (map (renamed_ins names) ins)
  ins_valued n [] good v = tt
  ins_valued n (i ∷ ins) good v = (
    record { op = op_valued n i.op good.0 v.0.op; pushed = push_valued i.op v.0.pushed; line = v.0.line },
    ins_valued n ins good.1 v.1,
  )

  -- ---- codes, members and classes

  vtype_valued : (t : VType) → IsVTypeValue t → IsVTypeValue (renamed_vtype names t)
  vtype_valued (vtype.Object ty) h = type_valued ty h
  vtype_valued _ h = h

  frame_valued : (f : FrameAt) → IsFrameValue f → IsFrameValue (renamed_frame names f)
  frame_valued f h = record {
    locals = all_mapped IsVTypeValue IsVTypeValue (renamed_vtype names) vtype_valued f.frame.locals h.locals;
    stack = all_mapped IsVTypeValue IsVTypeValue (renamed_vtype names) vtype_valued f.frame.stack h.stack;
  }

  code_valued : (o : Option Code) → IfSome o IsGoodCode → IfSome o IsCodeValue
      → IfSome (option_map (renamed_code names) o) IsCodeValue
  code_valued None good v = tt
  code_valued (Some code) good v = record {
    max_stack = v.max_stack;
    max_locals = v.max_locals;
    ins = ins_valued (length code.ins) code.ins good.instructions v.ins;
    frames = all_mapped IsFrameValue IsFrameValue (renamed_frame names) frame_valued code.frames v.frames;
  }

  field_valued : (f : Field) → IsFieldValue f → IsFieldValue (renamed_field names f)
  field_valued f v = record { ty = type_valued f.ty v.ty; constant = v.constant }

  methods_valued : (in_interface : Bool) (ms : List Method) → AllByRecursion (IsGoodMethod in_interface) ms
      → AllByRecursion IsMethodValue ms → AllByRecursion IsMethodValue (map (renamed_method names) ms)
  methods_valued in_interface [] good v = tt
  methods_valued in_interface (m ∷ ms) good v = (
    record { ty = method_type_valued m.ty v.0.ty; code = code_valued m.code good.0.code v.0.code },
    methods_valued in_interface ms good.1 v.1,
  )

  pub class_valued : (c : Class) → IsWellFormed c → IsClassValue c → IsClassValue (renamed names c)
  class_valued c good v = record {
    fields = all_mapped IsFieldValue IsFieldValue (renamed_field names) field_valued c.fields v.fields;
    methods = methods_valued (is_interface c.flags.0) c.methods good.methods v.methods;
  }
