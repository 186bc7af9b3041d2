-- Where each name stays, nothing changes.
use Rattle.std.proofs.Common.{◌≡◌, ℕ, List, [], ◌∷◌, map, Option, Some, None, Result, Ok, Err, refl, sym, ap, ◌∙◌}
use Rattle.std.specs.Option.{option_map}
use Rattle.jv_base.specs.Descriptors.{read_field, read_method}
use Rattle.jv_base.specs.Types.{field_text, method_text}
use Rattle.jv_base.specs.declared.descriptors.BadDescriptor.{BadDescriptor}
use Rattle.jv_base.specs.declared.types.Base.{Base}
use Rattle.jv_base.specs.declared.types.Base.TheVariants as base
use Rattle.jv_base.specs.declared.types.FieldType.{FieldType}
use Rattle.jv_base.specs.declared.types.MethodType.{MethodType}
use Rattle.jv_base.proofs.FieldLaw.{read_field-found}
use Rattle.jv_base.proofs.MethodLaw.{read_method-found}
use Rattle.class_model.specs.declared.code.Code.{Code}
use Rattle.class_model.specs.declared.code.Handler.{Handler}
use Rattle.class_model.specs.declared.code.Ins.{Ins}
use Rattle.class_model.specs.declared.frame.FrameAt.{FrameAt}
use Rattle.class_model.specs.declared.frame.VType.{VType}
use Rattle.class_model.specs.declared.frame.VType.TheVariants as vtype
use Rattle.class_model.specs.declared.op.MemberRef.{MemberRef}
use Rattle.class_model.specs.declared.op.Op.{Op}
use Rattle.class_model.specs.declared.op.Op.TheVariants as op
use Rattle.class_rename.specs.Names.{same_names}
use Rattle.class_rename.specs.Renamed.{field_text_of, method_text_of, renamed_base, renamed_field_ref}
use Rattle.class_rename.specs.Renamed.{renamed_field_text}
use Rattle.class_rename.specs.Renamed.{renamed_frame, renamed_handler, renamed_method_ref, renamed_method_text}
use Rattle.class_rename.specs.Renamed.{renamed_method_type, renamed_op, renamed_type, renamed_vtype}
use Rattle.image_laws.specs.TypedImage.Named.{IsCodeRenamed, KeepsKnownNames, renamed_at}

pub known_stay : KeepsKnownNames same_names
known_stay = record { object = refl; cloneable = refl; serializable = refl; throwable = refl; string = refl }

map_stays : {A : Type 0} (f : A → A) → ((x : A) → f x ≡ x) → (xs : List A) → map f xs ≡ xs
map_stays f same [] = refl
map_stays {A} f same (x ∷ xs) = ap (λ (y : A). y ∷ map f xs) (same x) ∙ ap (λ (t : List A). x ∷ t) (map_stays f same xs)

option_stays : {A : Type 0} (f : A → A) → ((x : A) → f x ≡ x) → (o : Option A) → option_map f o ≡ o
option_stays f same None = refl
option_stays {A} f same (Some x) = ap (λ (y : A). Some y) (same x)

-- ---- types and references

base_stays : (ty : Base) → renamed_base same_names ty ≡ ty
base_stays (base.Class name) = refl
base_stays ty = refl

pub type_stays : (ty : FieldType) → renamed_type same_names ty ≡ ty
type_stays ty = ap (λ (b : Base). let t : FieldType = record { dims = ty.dims; base = b } in t) (base_stays ty.base)

pub method_type_stays : (ty : MethodType) → renamed_method_type same_names ty ≡ ty
method_type_stays ty =
    ap (λ (tys : List FieldType). let t : MethodType = record {
      args = tys;
      ret = option_map (renamed_type same_names) ty.ret;
    } in t) (map_stays (renamed_type same_names) type_stays ty.args)
    ∙ ap (λ (o : Option FieldType). let t : MethodType = record { args = ty.args; ret = o } in t)
    (option_stays (renamed_type same_names) type_stays ty.ret)

field_text_stays : (text : List ℕ) → renamed_field_text same_names text ≡ text
field_text_stays text = by (read_field text) refl
  where
    by : (r : Result FieldType BadDescriptor) → read_field text ≡ r → field_text_of same_names text r ≡ text
    by (Ok ty) is = ap field_text (type_stays ty) ∙ (read_field-found text ty is).1
    by (Err e) is = refl

method_text_stays : (text : List ℕ) → renamed_method_text same_names text ≡ text
method_text_stays text = by (read_method text) refl
  where
    by : (r : Result MethodType BadDescriptor) → read_method text ≡ r → method_text_of same_names text r ≡ text
    by (Ok ty) is = ap method_text (method_type_stays ty) ∙ (read_method-found text ty is).1
    by (Err e) is = refl

-- a reference with this class and this descriptor
abbrev with_type : MemberRef → FieldType → List ℕ → MemberRef
with_type r class text = record r { class = class; ty = text }

pub field_ref_stays : (r : MemberRef) → renamed_field_ref same_names r ≡ r
field_ref_stays r =
    ap (λ (ty : FieldType). with_type r ty (renamed_field_text same_names r.ty)) (type_stays r.class)
    ∙ ap (with_type r r.class) (field_text_stays r.ty)

pub method_ref_stays : (r : MemberRef) → renamed_method_ref same_names r ≡ r
method_ref_stays r =
    ap (λ (ty : FieldType). with_type r ty (renamed_method_text same_names r.ty)) (type_stays r.class)
    ∙ ap (with_type r r.class) (method_text_stays r.ty)

-- ---- code

pub op_stays : (o : Op) → renamed_op same_names o ≡ o
op_stays (op.GetStatic r) = ap (λ (s : MemberRef). op.GetStatic s) (field_ref_stays r)
op_stays (op.PutStatic r) = ap (λ (s : MemberRef). op.PutStatic s) (field_ref_stays r)
op_stays (op.GetField r) = ap (λ (s : MemberRef). op.GetField s) (field_ref_stays r)
op_stays (op.PutField r) = ap (λ (s : MemberRef). op.PutField s) (field_ref_stays r)
op_stays (op.InvokeVirtual r) = ap (λ (s : MemberRef). op.InvokeVirtual s) (method_ref_stays r)
op_stays (op.InvokeSpecial r) = ap (λ (s : MemberRef). op.InvokeSpecial s) (method_ref_stays r)
op_stays (op.InvokeStatic r) = ap (λ (s : MemberRef). op.InvokeStatic s) (method_ref_stays r)
op_stays (op.InvokeInterface r) = ap (λ (s : MemberRef). op.InvokeInterface s) (method_ref_stays r)
op_stays (op.NewArray ty) = ap (λ (t : Base). op.NewArray t) (base_stays ty)
op_stays (op.ANewArray ty) = ap (λ (t : FieldType). op.ANewArray t) (type_stays ty)
op_stays (op.CheckCast ty) = ap (λ (t : FieldType). op.CheckCast t) (type_stays ty)
op_stays (op.InstanceOf ty) = ap (λ (t : FieldType). op.InstanceOf t) (type_stays ty)
op_stays (op.MultiNewArray ty dimensions) = ap (λ (t : FieldType). op.MultiNewArray t dimensions) (type_stays ty)
op_stays o = refl

vtype_stays : (ty : VType) → renamed_vtype same_names ty ≡ ty
vtype_stays (vtype.Object ty) = ap (λ (t : FieldType). vtype.Object t) (type_stays ty)
vtype_stays ty = refl

handler_stays : (h : Handler) → renamed_handler same_names h ≡ h
handler_stays h =
    ap (λ (o : Option (List ℕ)). let g : Handler = record h { caught = o } in g)
    (option_stays (λ (name : List ℕ). name) (λ name. refl) h.caught)

frame_stays : (f : FrameAt) → renamed_frame same_names f ≡ f
frame_stays f =
    ap (λ (tys : List VType). let g : FrameAt = record f {
      frame = record { locals = tys; stack = map (renamed_vtype same_names) f.frame.stack };
    } in g) (map_stays (renamed_vtype same_names) vtype_stays f.frame.locals)
    ∙ ap (λ (tys : List VType). let g : FrameAt = record f {
      frame = record { locals = f.frame.locals; stack = tys };
    } in g) (map_stays (renamed_vtype same_names) vtype_stays f.frame.stack)

-- an instruction of another line of the source, if one is told
abbrev pub relined : (Ins → Option ℕ) → Ins → Ins
relined line j = record { op = j.op; line = line j }

-- a code with other lines is itself under names that stay
pub lines_stay : (old new : Code) (line : Ins → Option ℕ) → new.max_stack ≡ old.max_stack
    → new.max_locals ≡ old.max_locals → new.ins ≡ map (relined line) old.ins
    → new.handlers ≡ old.handlers → new.frames ≡ old.frames → IsCodeRenamed same_names old new
lines_stay old new line stack locals ins handlers frames = record {
  max_stack = stack;
  max_locals = locals;
  line = line;
  ins = ins ∙ each old.ins;
  handlers = handlers ∙ sym (map_stays (renamed_handler same_names) handler_stays old.handlers);
  frames = frames ∙ sym (map_stays (renamed_frame same_names) frame_stays old.frames);
}
  where
    each : (js : List Ins) → map (relined line) js ≡ map (renamed_at same_names line) js
    each [] = refl
    each (j ∷ js) =
        ap (λ (o : Op). let k : Ins = record { op = o; line = line j } in k ∷ map (relined line) js)
        (sym (op_stays j.op))
        ∙ ap (λ (t : List Ins). renamed_at same_names line j ∷ t) (each js)

-- a code is itself under names that stay
pub itself : (code : Code) → IsCodeRenamed same_names code code
itself code = lines_stay code code (λ j. j.line) refl refl (same code.ins) refl refl
  where
    same : (js : List Ins) → js ≡ map (relined (λ j. j.line)) js
    same [] = refl
    same (j ∷ js) = ap (λ (t : List Ins). j ∷ t) (same js)

-- what is told of a type is told of it under names that stay
pub told_stays : (o : Option FieldType) → o ≡ option_map (renamed_type same_names) o
told_stays o = sym (option_stays (renamed_type same_names) type_stays o)

pub method_told_stays : (o : Option MethodType) → o ≡ option_map (renamed_method_type same_names) o
method_told_stays o = sym (option_stays (renamed_method_type same_names) method_type_stays o)
