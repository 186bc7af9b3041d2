-- The rules look at what the references of a method lead to as they did.
use Rattle.std.proofs.Common.{◌≡◌, ℕ, not, ◌&&◌, Bool, true, false, cond, List, [], ◌++◌, Option, Some, None}
use Rattle.std.proofs.Common.{Result, Ok, Err, slice_get, refl, sym, ap, subst, ◌∙◌, codes}
use Rattle.std.specs.Prelude.{IfSome, ◌==◌, is_some}
use Rattle.std.specs.Option.{option_map}
use Rattle.std.proofs.lemmas.Bool.Decides.{same_from_decides}
use Rattle.std.proofs.lemmas.Bool.{or_right}
use Rattle.jv_base.specs.Descriptors.{read_field, read_method}
use Rattle.jv_base.specs.Names.{is_text}
use Rattle.jv_base.specs.Types.{field_text, method_text}
use Rattle.jv_base.specs.declared.descriptors.BadDescriptor.{BadDescriptor}
use Rattle.jv_base.specs.declared.types.Base.{Base}
use Rattle.jv_base.specs.declared.types.Base.TheVariants as base
use Rattle.jv_base.specs.declared.types.FieldType.{FieldType}
use Rattle.jv_base.specs.declared.types.MethodType.{MethodType}
use Rattle.jv_base.proofs.Equality.{text_Decides}
use Rattle.jv_base.proofs.FieldLaw.{read_field-found, read_field-only}
use Rattle.jv_base.proofs.MethodLaw.{read_method-found, read_method-only}
use Rattle.jv_base.proofs.Lists.{nil_parts}
use Rattle.class_model.specs.WellFormed.{IsFieldReference, IsGoodOp, IsMethodReference}
use Rattle.class_model.specs.declared.class.Class.{Class}
use Rattle.class_model.specs.declared.class.Method.{Method}
use Rattle.class_model.specs.declared.code.Code.{Code}
use Rattle.class_model.specs.declared.op.MemberRef.{MemberRef}
use Rattle.class_model.specs.declared.op.Op.{Op}
use Rattle.class_model.specs.declared.op.Op.TheVariants as op
use Rattle.class_pool.specs.Found.{NameAndType, declared_in}
use Rattle.class_pool.specs.Hierarchy.{class_named}
use Rattle.class_pool.specs.declared.id.ClassId.{ClassId}
use Rattle.class_pool.specs.declared.id.ClassId.TheVariants.{Prog}
use Rattle.class_pool.specs.declared.id.MemberAt.{MemberAt}
use Rattle.link_check.specs.Links.{callable, is_callable_role, linked_field, linked_method}
use Rattle.link_check.specs.Profile.{call_kinds, field_kinds, field_text_kinds, member_kinds}
use Rattle.link_check.specs.Profile.{method_text_kinds, name_kinds, no_init_kinds, op_kinds, special_class_kinds}
use Rattle.link_check.specs.Profile.{static_kinds, unless, used_kinds}
use Rattle.link_check.specs.declared.fault.LinkKind.{LinkKind}
use Rattle.link_check.specs.declared.fault.LinkKind.TheVariants as link
use Rattle.link_check.specs.declared.fault.ProfileKind.TheVariants.{WrongKind}
use Rattle.class_rename.specs.Names.{Names}
use Rattle.class_rename.specs.Renamed.{field_text_of, method_text_of, renamed, renamed_base, renamed_code}
use Rattle.class_rename.specs.Renamed.{renamed_field_ref, renamed_field_text, renamed_method, renamed_method_ref}
use Rattle.class_rename.specs.Renamed.{renamed_method_text, renamed_method_type, renamed_type}
use Rattle.image_laws.specs.SetImage.Image.{Image}
use Rattle.image_laws.proofs.ViewImage.Standing.{Stands, declared_stands, field_stands}
use Rattle.type_verifier.specs.Environment.{Environment}
use Rattle.type_verifier.specs.Members.{is_class_base, is_guarded}
use Rattle.type_verifier.specs.Rules.{told_type}
use Rattle.type_verifier.specs.Verified.{environment}
use Rattle.removal_laws.proofs.RemovalImage.Links.{base_class, field_link, is_taken, method_link}
use Rattle.removal_laws.proofs.RemovalTyped.References.{callable_role}
use Rattle.pair_laws.specs.RenamedForm.Form.{KeepsForm}
use Rattle.pair_laws.proofs.RenamedForm.Spelled.{method_type_spelled, type_spelled}
use Rattle.pair_laws.specs.RenamedImage.Naming.{is_member_there}
use Rattle.pair_laws.specs.RenamedImage.Renaming.{is_known, is_library_name, placed_member}
use Rattle.image_laws.specs.TypedImage.Named.{IsFieldNamed, IsMethodNamed, IsOpNamed}
use Rattle.image_laws.proofs.TypedImage.Guarding.{early_moved, guarded_moved}
use Rattle.pair_laws.proofs.RenamedTaken.Placed.{IsPlaced, member_there, name_given}
use Rattle.pair_laws.proofs.RenamedTaken.References.{as_field, field_there, method_there, role_same}
use Rattle.pair_laws.proofs.RenamedTyped.Naming.{BaseNamed, array_named, class_of_name, field_text_named, i}
use Rattle.pair_laws.proofs.RenamedTyped.Naming.{method_text_named, of_base, of_name}

-- ---- tests

module _ (names : Names) (form : KeepsForm names) where
  -- ---- descriptors under new names

  field_told : (text : List ℕ)
      → told_type (read_field (renamed_field_text names text))
      ≡ option_map (renamed_type names) (told_type (read_field text))
  field_told text = by (read_field text) refl
    where
      by : (r : Result FieldType BadDescriptor) → read_field text ≡ r
          → told_type (read_field (field_text_of names text r)) ≡ option_map (renamed_type names) (told_type r)
      by (Ok ty) is =
          ap told_type (read_field-only (field_text (renamed_type names ty)) (renamed_type names ty)
          (type_spelled names form.class_name ty (read_field-found text ty is).0, refl))
      by (Err bad) is = ap told_type is

  method_told : (text : List ℕ)
      → told_type (read_method (renamed_method_text names text))
      ≡ option_map (renamed_method_type names) (told_type (read_method text))
  method_told text = by (read_method text) refl
    where
      by : (r : Result MethodType BadDescriptor) → read_method text ≡ r
          → told_type (read_method (method_text_of names text r))
          ≡ option_map (renamed_method_type names) (told_type r)
      by (Ok ty) is =
          ap told_type (read_method-only (method_text (renamed_method_type names ty)) (renamed_method_type names ty)
          (method_type_spelled names form.class_name ty (read_method-found text ty is).0, refl))
      by (Err bad) is = ap told_type is

module _ (names : Names) (place back : ℕ → ℕ) (classes out : List Class) (h : IsPlaced names place back classes out)
    (n : ℕ) (c : Class) (there : slice_get classes n ≡ Some c) (k : ℕ) (m : Method) (code : Code) where
  abbrev image : Image classes out
  image = i names place back classes out h

  -- what the rules look at, in the set and under new names
  abbrev pub whole : Environment
  whole = environment classes n c k m code

  abbrev pub rest : Environment
  rest = environment out (place n) (renamed names c) k (renamed_method names m) (renamed_code names code)

  own_there : image.kept (Prog n) ≡ true
  own_there = ap is_some there

  -- ---- classes

  -- the class that a type without dimensions names is there
  class_based : (t : Bool) (b : Base) (x : ClassId) → cond t (base_class classes b) None ≡ Some x
      → BaseNamed names place back classes out h b
  class_based true (base.Class name) x e = class_of_name names place back classes out h name x e
  class_based true base.Boolean x e = tt
  class_based true base.Byte x e = tt
  class_based true base.Char x e = tt
  class_based true base.Short x e = tt
  class_based true base.Int x e = tt
  class_based true base.Long x e = tt
  class_based true base.Float x e = tt
  class_based true base.Double x e = tt
  class_based false b x e = absurd cc

  -- a type is the own class where it was
  own_known : is_known classes c.name ≡ true
  own_known = or_right (is_library_name c.name) (is_some (class_named classes c.name))
      (ap is_some (h.found.own n c there))

  own_moved : (t : Bool) (b : Base) (x : ClassId) → cond t (base_class classes b) None ≡ Some x
      → (t && is_class_base (names.class c.name) (renamed_base names b)) ≡ (t && is_class_base c.name b)
  own_moved true (base.Class name) x e =
      let texts = text_Decides (names.class c.name) (names.class name) in
      let its : is_known classes name ≡ true =
      or_right (is_library_name name) (is_some (class_named classes name)) (ap is_some e) in
      same_from_decides {P = c.name ≡ name} (is_text (names.class c.name) (names.class name)) (is_text c.name name)
      (λ same. h.apart.one_class c.name name own_known its (texts.0 same), λ same. texts.1 (ap names.class same))
      (text_Decides c.name name)
  own_moved true base.Boolean x e = refl
  own_moved true base.Byte x e = refl
  own_moved true base.Char x e = refl
  own_moved true base.Short x e = refl
  own_moved true base.Int x e = refl
  own_moved true base.Long x e = refl
  own_moved true base.Float x e = refl
  own_moved true base.Double x e = refl
  own_moved false b x e = refl

  -- ---- members

  -- what is linked in both sets is guarded in both
  guarded_same : (a b : Result MemberAt LinkKind) (x : MemberAt) → a ≡ Ok x → callable classes (Prog n) a ≡ Ok x
      → b ≡ Ok (placed_member place x) → is_member_there classes x ≡ true
      → is_guarded rest (callable out (Prog (place n)) b) ≡ is_guarded whole (callable classes (Prog n) a)
  guarded_same a b x linked may moved kept =
      let role = callable_role classes (Prog n) x (ap (callable classes (Prog n)) (sym linked) ∙ may) in
      ap (λ r. is_guarded rest (callable out (Prog (place n)) r)) moved
      ∙ ap (λ (t : Bool). is_guarded rest (cond t (Ok (placed_member place x)) (Err link.LeftOutMember)))
      (ap is_callable_role (role_same place x) ∙ role)
      ∙ guarded_moved whole rest image own_there refl x kept
      ∙ ap (is_guarded whole) (sym may)

  -- what the own class declares is there
  declared_kept : (named : NameAndType)
      → IfSome (declared_in classes named (Prog n)) (λ z. is_member_there classes z ≡ true)
  declared_kept named = by (declared_in classes named (Prog n)) (declared_stands classes named (Prog n))
    where
      by : (o : Option MemberAt) → IfSome o (Stands classes named) → IfSome o (λ z. is_member_there classes z ≡ true)
      by None stands = tt
      by (Some z) stands = member_there names place back classes out h named z stands

  -- ---- references

  field_named : (static written : Bool) (r : MemberRef) → IsFieldReference r
      → field_kinds classes n m.name static written r ≡ [] → IsFieldNamed names whole rest image r
  field_named static written r good none =
      let of_member = used_kinds classes n m.name static written in
      let nones = nil_parts (field_text_kinds classes n (read_field r.ty))
      (member_kinds (linked_field classes (Prog n) r) of_member) none in
      let t = is_taken classes (Prog n) (linked_field classes (Prog n) r) of_member nones.1 in
      let l = field_link classes (Prog n) r t.member t.linked in
      let moved = field_there names place back classes out h n own_there r good t.member t.linked in
      let stands : Stands classes (r.name, r.ty) t.member =
      subst (λ o. IfSome o (Stands classes (r.name, r.ty))) l.member_is
      (field_stands classes (r.name, r.ty) l.class) in
      let given = name_given names place back classes out h (r.name, r.ty) t.member stands
      ∙ ap Some (as_field names place back classes out h r good) in
      record {
        class = class_based (r.class.dims == 0) r.class.base l.class l.class_is;
        type = field_text_named names place back classes out h n (read_field r.ty) nones.0;
        told = field_told names h.form r.ty;
        guarded = guarded_same (linked_field classes (Prog n) r)
            (linked_field out (Prog (place n)) (renamed_field_ref names r)) t.member t.linked t.callable moved.1
            moved.0;
        early = early_moved whole rest image own_there refl r (renamed_field_ref names r) given
            (h.form.init m.name (method_text m.ty)) (own_moved (r.class.dims == 0) r.class.base l.class l.class_is)
            (λ e. declared_kept (r.name, r.ty));
      }

  method_named : (static : Bool) (r : MemberRef) → IsMethodReference r → call_kinds classes n static r ≡ []
      → IsMethodNamed names whole rest image r
  method_named static r good none =
      let of_member = static_kinds classes static in
      let no_clinit = unless (not (is_text r.name (codes "<clinit>"))) WrongKind in
      let nones = nil_parts (method_text_kinds classes n (read_method r.ty) ++ no_clinit)
      (member_kinds (linked_method classes (Prog n) r) of_member) none in
      let texts = nil_parts (method_text_kinds classes n (read_method r.ty)) no_clinit nones.0 in
      let t = is_taken classes (Prog n) (linked_method classes (Prog n) r) of_member nones.1 in
      let l = method_link classes (Prog n) r t.member t.linked in
      let moved = method_there names place back classes out h n own_there r good t.member t.linked in
      record {
        class = class_based (r.class.dims == 0) r.class.base l.class l.class_is;
        type = method_text_named names place back classes out h n (read_method r.ty) texts.0;
        told = method_told names h.form r.ty;
        guarded = guarded_same (linked_method classes (Prog n) r)
            (linked_method out (Prog (place n)) (renamed_method_ref names r)) t.member t.linked t.callable moved.1
            moved.0;
        constructor = h.form.init r.name r.ty;
      }

  -- ---- instructions

  pub op_named : (size : ℕ) (o : Op) → IsGoodOp size o → op_kinds classes n m.name o ≡ []
      → IsOpNamed names whole rest image o
  op_named size (op.GetStatic r) good none = field_named true false r good none
  op_named size (op.PutStatic r) good none = field_named true true r good none
  op_named size (op.GetField r) good none = field_named false false r good none
  op_named size (op.PutField r) good none = field_named false true r good none
  op_named size (op.InvokeVirtual r) good none =
      method_named false r good.0 (nil_parts (call_kinds classes n false r) (no_init_kinds r) none).0
  op_named size (op.InvokeStatic r) good none =
      method_named true r good (nil_parts (call_kinds classes n true r) (no_init_kinds r) none).0
  op_named size (op.InvokeInterface r) good none =
      method_named false r good.0 (nil_parts (call_kinds classes n false r) (no_init_kinds r) none).0
  op_named size (op.InvokeSpecial r) good none =
      method_named false r good (nil_parts (call_kinds classes n false r) (special_class_kinds classes n r) none).0
  op_named size (op.New name) good none =
      of_name names place back classes out h n name
      (nil_parts (name_kinds classes n name) _ none).0
  op_named size (op.NewArray ty) good none =
      array_named names place back classes out h good.0 ty good.1
  op_named size (op.ANewArray ty) good none =
      of_base names place back classes out h n ty.base none
  op_named size (op.CheckCast ty) good none =
      of_base names place back classes out h n ty.base none
  op_named size (op.InstanceOf ty) good none =
      of_base names place back classes out h n ty.base none
  op_named size (op.MultiNewArray ty dimensions) good none =
      of_base names place back classes out h n ty.base none
  op_named size o good none = tt
