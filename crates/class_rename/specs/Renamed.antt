-- A class under new names: each place where a class, a field or a method is named (JVMS 4). Texts of a program are
-- none.
use Rattle.std.specs.Prelude.{ℕ, List, map, option_map, Result, Ok, Err}
use Rattle.jv_base.specs.Descriptors.{read_field, read_method}
use Rattle.jv_base.specs.Types.{field_text, method_text}
use Rattle.jv_base.specs.declared.descriptors.BadDescriptor.{BadDescriptor}
use Rattle.jv_base.specs.declared.types.Base.{Base}
use Rattle.jv_base.specs.declared.types.Base.TheVariants as base
use Rattle.jv_base.specs.declared.types.FieldType.{FieldType}
use Rattle.jv_base.specs.declared.types.MethodType.{MethodType}
use Rattle.class_model.specs.declared.class.Class.{Class}
use Rattle.class_model.specs.declared.class.Field.{Field}
use Rattle.class_model.specs.declared.class.Method.{Method}
use Rattle.class_model.specs.declared.code.Code.{Code}
use Rattle.class_model.specs.declared.code.Handler.{Handler}
use Rattle.class_model.specs.declared.code.Ins.{Ins}
use Rattle.class_model.specs.declared.frame.FrameAt.{FrameAt}
use Rattle.class_model.specs.declared.frame.VType.{VType}
use Rattle.class_model.specs.declared.frame.VType.TheVariants as vtype
use Rattle.class_model.specs.declared.op.MemberRef.{MemberRef}
use Rattle.class_model.specs.declared.op.Op.{Op}
use Rattle.class_model.specs.declared.op.Op.TheVariants as op
use Rattle.class_rename.specs.Names.{Names}

module _ (names : Names) where
  -- ---- types and descriptors (JVMS 4.3)

  abbrev pub renamed_base : Base → Base
  renamed_base (base.Class name) = base.Class (names.class name)
  renamed_base other = other

  abbrev pub renamed_type : FieldType → FieldType
  renamed_type ty = record ty { base = renamed_base ty.base }

  abbrev pub renamed_method_type : MethodType → MethodType
  renamed_method_type ty = record { args = map renamed_type ty.args; ret = option_map renamed_type ty.ret }

  -- the descriptor of the renamed type; a text that is none stays
  abbrev pub field_text_of : List ℕ → Result FieldType BadDescriptor → List ℕ
  field_text_of text (Ok ty) = field_text (renamed_type ty)
  field_text_of text (Err e) = text

  abbrev pub method_text_of : List ℕ → Result MethodType BadDescriptor → List ℕ
  method_text_of text (Ok ty) = method_text (renamed_method_type ty)
  method_text_of text (Err e) = text

  abbrev pub renamed_field_text : List ℕ → List ℕ
  renamed_field_text text = field_text_of text (read_field text)

  abbrev pub renamed_method_text : List ℕ → List ℕ
  renamed_method_text text = method_text_of text (read_method text)

  -- ---- instructions (JVMS 6.5)

  abbrev pub renamed_field_ref : MemberRef → MemberRef
  renamed_field_ref r = record r {
    class = renamed_type r.class;
    name = names.field r.name;
    ty = renamed_field_text r.ty;
  }

  abbrev pub renamed_method_ref : MemberRef → MemberRef
  renamed_method_ref r = record r {
    class = renamed_type r.class;
    name = names.method r.name r.ty;
    ty = renamed_method_text r.ty;
  }

  abbrev pub renamed_op : Op → Op
  renamed_op (op.GetStatic r) = op.GetStatic (renamed_field_ref r)
  renamed_op (op.PutStatic r) = op.PutStatic (renamed_field_ref r)
  renamed_op (op.GetField r) = op.GetField (renamed_field_ref r)
  renamed_op (op.PutField r) = op.PutField (renamed_field_ref r)
  renamed_op (op.InvokeVirtual r) = op.InvokeVirtual (renamed_method_ref r)
  renamed_op (op.InvokeSpecial r) = op.InvokeSpecial (renamed_method_ref r)
  renamed_op (op.InvokeStatic r) = op.InvokeStatic (renamed_method_ref r)
  renamed_op (op.InvokeInterface r) = op.InvokeInterface (renamed_method_ref r)
  renamed_op (op.New name) = op.New (names.class name)
  renamed_op (op.NewArray ty) = op.NewArray (renamed_base ty)
  renamed_op (op.ANewArray ty) = op.ANewArray (renamed_type ty)
  renamed_op (op.CheckCast ty) = op.CheckCast (renamed_type ty)
  renamed_op (op.InstanceOf ty) = op.InstanceOf (renamed_type ty)
  renamed_op (op.MultiNewArray ty dimensions) = op.MultiNewArray (renamed_type ty) dimensions
  renamed_op other = other

  abbrev pub renamed_ins : Ins → Ins
  renamed_ins i = record i { op = renamed_op i.op }

  -- ---- code (JVMS 4.7.3, 4.7.4)

  abbrev pub renamed_handler : Handler → Handler
  renamed_handler h = record h { caught = option_map names.class h.caught }

  abbrev pub renamed_vtype : VType → VType
  renamed_vtype (vtype.Object ty) = vtype.Object (renamed_type ty)
  renamed_vtype other = other

  abbrev pub renamed_frame : FrameAt → FrameAt
  renamed_frame f = record f {
    frame = record { locals = map renamed_vtype f.frame.locals; stack = map renamed_vtype f.frame.stack };
  }

  abbrev pub renamed_code : Code → Code
  renamed_code code = record code {
    ins = map renamed_ins code.ins;
    handlers = map renamed_handler code.handlers;
    frames = map renamed_frame code.frames;
  }

  -- ---- members and classes (JVMS 4.1, 4.5, 4.6, 4.7.5)

  abbrev pub renamed_field : Field → Field
  renamed_field f = record f { name = names.field f.name; ty = renamed_type f.ty }

  abbrev pub renamed_method : Method → Method
  renamed_method m = record m {
    name = names.method m.name (method_text m.ty);
    ty = renamed_method_type m.ty;
    code = option_map renamed_code m.code;
    throws = map names.class m.throws;
  }

  abbrev pub renamed : Class → Class
  renamed c = record c {
    name = names.class c.name;
    super_name = names.class c.super_name;
    interfaces = map names.class c.interfaces;
    fields = map renamed_field c.fields;
    methods = map renamed_method c.methods;
  }
