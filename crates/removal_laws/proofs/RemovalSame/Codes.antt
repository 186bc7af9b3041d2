-- An instruction of a kept method names what is kept, so it stands for itself.
use Rattle.std.proofs.Common.{◌≡◌, ℕ, not, ◌&&◌, length, Bool, true, false, cond, List, [], ◌∷◌, ◌++◌, Option}
use Rattle.std.proofs.Common.{Some}
use Rattle.std.proofs.Common.{None, Ok, refl, sym, ap, subst, ◌∙◌}
use Rattle.std.specs.Prelude.{IfSome, ◌==◌, codes}
use Rattle.std.specs.List.{AllByRecursion, AllZip, cons_option, flat_map}
use Rattle.std.specs.Option.{option_and_then, option_map, option_map_or}
use Rattle.std.proofs.lemmas.Bool.{eqb-true}
use Rattle.jv_base.specs.Descriptors.{read_field, read_method}
use Rattle.jv_base.specs.Names.{is_text}
use Rattle.jv_base.specs.declared.types.Base.{Base}
use Rattle.jv_base.specs.declared.types.Base.TheVariants as base
use Rattle.jv_base.specs.declared.types.FieldType.{FieldType}
use Rattle.jv_base.proofs.Lists.{all_split, nil_parts}
use Rattle.mark_core.specs.Marks.{Closed}
use Rattle.class_model.specs.Opcodes.{array_type_of}
use Rattle.class_model.specs.WellFormed.{IsGoodOp}
use Rattle.class_model.specs.declared.class.Class.{Class}
use Rattle.class_model.specs.declared.code.Code.{Code}
use Rattle.class_model.specs.declared.code.Handler.{Handler}
use Rattle.class_model.specs.declared.code.Ins.{Ins}
use Rattle.class_model.specs.declared.op.MemberRef.{MemberRef}
use Rattle.class_model.specs.declared.op.Op.{Op}
use Rattle.class_model.specs.declared.op.Op.TheVariants as op
use Rattle.class_pool.specs.Found.{NameAndType, name_of, named_at}
use Rattle.class_pool.specs.Hierarchy.{class_named}
use Rattle.class_pool.specs.Selection.{selected_special}
use Rattle.class_pool.specs.declared.id.ClassId.{ClassId}
use Rattle.class_pool.specs.declared.id.ClassId.TheVariants.{Prog}
use Rattle.class_pool.specs.declared.id.MemberAt.{MemberAt}
use Rattle.class_pool.proofs.Declaring.{declared_named}
use Rattle.link_check.specs.Links.{callable, linked_field, linked_method}
use Rattle.link_check.specs.Profile.{base_kinds, call_kinds, class_kinds, class_of, code_kinds, field_kinds}
use Rattle.link_check.specs.Profile.{field_text_kinds, frame_kinds, handler_kinds, member_kinds, method_text_kinds}
use Rattle.link_check.specs.Profile.{name_kinds, no_init_kinds, op_kinds, special_class_kinds, static_kinds}
use Rattle.link_check.specs.Profile.{unless, used_kinds}
use Rattle.link_check.specs.declared.fault.ProfileKind.TheVariants.{WrongKind}
use Rattle.member_shrink.specs.Shrunk.{is_marked, shrunk}
use Rattle.image_laws.specs.SetImage.Image.{Image}
use Rattle.jvm_model.specs.Mapped.{CodeMap, HandlerMap, InsMap, Mapping, OptionCorr, op_map}
use Rattle.jvm_model.specs.Same.{Names, base_name, type_name}
use Rattle.jvm_model.specs.Types.{class_type}
use Rattle.jvm_model.proofs.Compose.{line_refl}
use Rattle.image_laws.specs.ViewImage.ImageNames.{found_ref, mapping, names, new_class, new_ref, new_special}
use Rattle.image_laws.specs.ViewImage.ImageNames.{renamed_ref}
use Rattle.image_laws.proofs.ViewImage.Naming.{class_name}
use Rattle.image_laws.proofs.ViewImage.Standing.{Stands, field_stands, method_stands, special_stands}
use Rattle.require_sys.specs.Requires.{Item, OfMember, base_wants, field_ref_wants, handler_wants}
use Rattle.require_sys.specs.Requires.{method_ref_wants, name_wants, op_wants, requires, resolved_wants, special_wants}
use Rattle.require_sys.specs.declared.kept.KeptByRules.{KeptByRules}
use Rattle.image_laws.specs.ShrunkImage.Keeping.{class_place, is_class_kept, is_member_kept}
use Rattle.image_laws.proofs.ShrunkImage.Classes.{name_same}
use Rattle.image_laws.specs.TakenSet.TakenSet.{IsTaken}
use Rattle.image_laws.proofs.TakenSet.Proper.{is_proper}
use Rattle.removal_laws.proofs.RemovalImage.Links.{FieldLink, MethodLink, base_class, field_link, fields_of, is_taken}
use Rattle.removal_laws.proofs.RemovalImage.Links.{method_link, methods_of}
use Rattle.removal_laws.proofs.RemovalImage.Marked.{image}
use Rattle.removal_laws.proofs.RemovalImage.Wanted.{AllIn, CodeWants, In, base_kept, field_parts, found_kept}
use Rattle.removal_laws.proofs.RemovalImage.Wanted.{method_parts, name_kept}

-- an array of a primitive type names no class
pub no_class_array : (atype : ℕ) (name : List ℕ) → array_type_of atype ≡ Some (base.Class name) → ⊥
no_class_array atype name =
    by (atype == 4) (atype == 5) (atype == 8) (atype == 9) (atype == 10) (atype == 11)
  where
    by : (a b c d e f : Bool)
        → cond a (Some base.Boolean) (cond b (Some base.Char) (cond c (Some base.Byte) (cond d (Some base.Short)
        (cond e (Some base.Int) (cond f (Some base.Long) None))))) ≡ Some (base.Class name) → ⊥
    by true b c d e f h = cc
    by false true c d e f h = cc
    by false false true d e f h = cc
    by false false false true e f h = cc
    by false false false false true f h = cc
    by false false false false false true h = cc
    by false false false false false false h = cc

module _ (classes : List Class) (rules : KeptByRules) (marks : List Bool)
    (closed : Closed (requires classes rules) (is_marked marks)) (taken : IsTaken classes) where
  abbrev out : List Class
  out = shrunk classes marks

  abbrev i : Image classes out
  i = image classes rules marks closed taken

  abbrev pub new_names : Names
  new_names = names classes out i

  abbrev pub new_refs : Mapping
  new_refs = mapping classes out i

  abbrev All : List Item → Type 0
  All items = AllIn classes rules marks closed items

  -- ---- classes

  -- a kept class keeps its name
  pub class_same : (name : List ℕ) (c : ClassId) → class_named classes name ≡ Some c
      → is_class_kept classes marks c ≡ true → new_names.class name ≡ Some name
  class_same name c is k =
      ap (option_and_then (new_class classes out i)) is
      ∙ ap (λ (t : Bool). cond t (Some (name_of out (class_place classes marks c))) None) k
      ∙ ap Some (name_same classes marks c k ∙ class_name classes name c is)

  -- a type without dimensions that names a kept class is that of its place
  type_of : (d : ℕ) (b : Base) (c : ClassId) (t : Bool) → (d == 0) ≡ t → cond t (base_class classes b) None ≡ Some c
      → is_class_kept classes marks c ≡ true
      → class_type (name_of out (class_place classes marks c)) ≡ record { dims = d; base = b }
  type_of d (base.Class name) c true zero_dims e k =
      let none : d ≡ 0 = eqb-true d 0 zero_dims in
      let same : name_of out (class_place classes marks c) ≡ name =
      name_same classes marks c k ∙ class_name classes name c e in
      λ j. record { dims = sym none j; base = base.Class (same j) }
  type_of d base.Boolean c true z e k = absurd cc
  type_of d base.Byte c true z e k = absurd cc
  type_of d base.Char c true z e k = absurd cc
  type_of d base.Short c true z e k = absurd cc
  type_of d base.Int c true z e k = absurd cc
  type_of d base.Long c true z e k = absurd cc
  type_of d base.Float c true z e k = absurd cc
  type_of d base.Double c true z e k = absurd cc
  type_of d b c false z e k = absurd cc

  module _ (n : ℕ) where
    name_itself : (name : List ℕ) → All (name_wants classes name) → name_kinds classes n name ≡ []
        → new_names.class name ≡ Some name
    name_itself name all none = by (class_named classes name) refl none
      where
        by : (o : Option ClassId) → class_named classes name ≡ o → class_kinds classes n o ≡ []
            → new_names.class name ≡ Some name
        by None is e = absurd cc
        by (Some c) is e = class_same name c is (name_kept classes rules marks closed name c is all)

    base_itself : (b : Base) → All (base_wants classes b) → base_kinds classes n b ≡ []
        → base_name new_names b ≡ Some b
    base_itself (base.Class name) all none = ap (option_map base.Class) (name_itself name all none)
    base_itself base.Boolean all none = refl
    base_itself base.Byte all none = refl
    base_itself base.Char all none = refl
    base_itself base.Short all none = refl
    base_itself base.Int all none = refl
    base_itself base.Long all none = refl
    base_itself base.Float all none = refl
    base_itself base.Double all none = refl

    type_itself : (ty : FieldType) → All (base_wants classes ty.base) → base_kinds classes n ty.base ≡ []
        → type_name new_names ty ≡ Some ty
    type_itself ty all none = ap (option_map (λ b. record { dims = ty.dims; base = b })) (base_itself ty.base all none)

    -- ---- references

    -- a reference to what is kept stands for itself
    ref_itself : (r : MemberRef) (found : ClassId → Option MemberAt) (c : ClassId) (m : MemberAt)
        → class_of classes r ≡ Some c → is_class_kept classes marks c ≡ true
        → is_member_kept classes marks m ≡ true → new_ref classes out i r c m ≡ Some r
    ref_itself r found c m is k l =
        let same : class_type (name_of out (class_place classes marks c)) ≡ r.class =
        type_of r.class.dims r.class.base c (r.class.dims == 0) refl is k in
        ap (λ (t : Bool). cond (t && is_member_kept classes marks m)
        (Some (renamed_ref classes out i r c (r.name, r.ty))) None) k
        ∙ ap (λ (t : Bool). cond t (Some (renamed_ref classes out i r c (r.name, r.ty))) None) l
        ∙ ap (λ (t : FieldType). Some (record { class = t; name = r.name; ty = r.ty; of_interface = r.of_interface }))
        same

    found_itself : (r : MemberRef) (found : ClassId → Option MemberAt) (c : ClassId) (m : MemberAt)
        → class_of classes r ≡ Some c → found c ≡ Some m → is_class_kept classes marks c ≡ true
        → is_member_kept classes marks m ≡ true → found_ref classes out i found r ≡ Some r
    found_itself r found c m is member k l =
        ap (option_and_then (λ c. option_and_then (new_ref classes out i r c) (found c))) is
        ∙ ap (option_and_then (new_ref classes out i r c)) member ∙ ref_itself r found c m is k l

    -- the member of a reference that is linked is declared under its name
    pub field_stand : (r : MemberRef) (m : MemberAt) → FieldLink classes (Prog n) r m → Stands classes (r.name, r.ty) m
    field_stand r m l = subst (λ o. IfSome o (Stands classes (r.name, r.ty))) l.member_is
        (field_stands classes (r.name, r.ty) l.class)

    pub method_stand : (r : MemberRef) (m : MemberAt) → MethodLink classes (Prog n) r m
        → Stands classes (r.name, r.ty) m
    method_stand r m l = subst (λ o. IfSome o (Stands classes (r.name, r.ty))) l.member_is
        (method_stands classes (is_proper classes taken).abstract_methods (r.name, r.ty) l.class)

    field_ref_itself : (method : List ℕ) (static written : Bool) (r : MemberRef) → All (field_ref_wants classes n r)
        → field_kinds classes n method static written r ≡ [] → new_refs.field_ref r ≡ Some r
    field_ref_itself method static written r all none =
        let links = (nil_parts (field_text_kinds classes n (read_field r.ty))
        (member_kinds (linked_field classes (Prog n) r) (used_kinds classes n method static written)) none).1 in
        let m = is_taken classes (Prog n) (linked_field classes (Prog n) r)
        (used_kinds classes n method static written) links in
        let l = field_link classes (Prog n) r m.member m.linked in
        let parts = field_parts classes rules marks closed n r all in
        let marked : All (OfMember m.member ∷ []) = subst (λ o. All (resolved_wants classes o)) m.callable parts.2 in
        found_itself r (fields_of classes r) l.class m.member l.class_is l.member_is
        (base_kept classes rules marks closed (r.class.dims == 0) r.class.base l.class l.class_is parts.0)
        (found_kept classes rules marks closed (r.name, r.ty) m.member (field_stand r m.member l) marked.0)

    -- what is found for a call without a fault
    pub record Called (r : MemberRef) : Type 0 where
      pub member : MemberAt
      pub link : MethodLink classes (Prog n) r member
      pub callable : callable classes (Prog n) (linked_method classes (Prog n) r) ≡ Ok member
      pub class_kept : is_class_kept classes marks link.class ≡ true
      pub member_kept : is_member_kept classes marks member ≡ true

    pub called : (static : Bool) (r : MemberRef) → All (method_ref_wants classes n r)
        → call_kinds classes n static r ≡ []
        → Called r
    called static r all none =
        let links = (nil_parts (method_text_kinds classes n (read_method r.ty)
        ++ unless (not (is_text r.name (codes "<clinit>"))) WrongKind)
        (member_kinds (linked_method classes (Prog n) r) (static_kinds classes static)) none).1 in
        let m = is_taken classes (Prog n) (linked_method classes (Prog n) r) (static_kinds classes static) links in
        let l = method_link classes (Prog n) r m.member m.linked in
        let parts = method_parts classes rules marks closed n r all in
        let marked : All (OfMember m.member ∷ []) = subst (λ o. All (resolved_wants classes o)) m.callable parts.2 in
        record {
          member = m.member;
          link = l;
          callable = m.callable;
          class_kept = base_kept classes rules marks closed (r.class.dims == 0) r.class.base l.class l.class_is parts.0;
          member_kept = found_kept classes rules marks closed (r.name, r.ty) m.member
              (method_stand r m.member l) marked.0;
        }

    method_ref_itself : (static : Bool) (r : MemberRef) → All (method_ref_wants classes n r)
        → call_kinds classes n static r ≡ [] → new_refs.method_ref r ≡ Some r
    method_ref_itself static r all none =
        let c = called static r all none in
        found_itself r (methods_of classes r) c.link.class c.member c.link.class_is c.link.member_is c.class_kept
        c.member_kept

    -- and of invokespecial what it runs is kept
    special_ref_itself : (from : List ℕ) (r : MemberRef) → class_named classes from ≡ Some (Prog n)
        → All (method_ref_wants classes n r
        ++ special_wants classes n (class_of classes r) (callable classes (Prog n) (linked_method classes (Prog n) r)))
        → call_kinds classes n false r ≡ [] → new_refs.special_ref from r ≡ Some r
    special_ref_itself from r own all none =
        let parts = all_split (In classes rules marks closed) (method_ref_wants classes n r)
        (special_wants classes n (class_of classes r) (callable classes (Prog n) (linked_method classes (Prog n) r)))
        all in
        let c = called false r parts.0 none in
        let stands = method_stand r c.member c.link in
        let its_name : named_at classes c.member ≡ (r.name, r.ty) =
        declared_named classes (r.name, r.ty) c.member.class c.member stands in
        let own_stands : Stands classes (named_at classes c.member) c.member =
        subst (λ (t : NameAndType). Stands classes t c.member) (sym its_name) stands in
        let wants : All (cons_option (option_map OfMember (selected_special classes (Prog n) c.link.class c.member)) [])
        = subst (λ o. All (special_wants classes n o (Ok c.member))) c.link.class_is
        (subst (λ o. All (special_wants classes n (class_of classes r) o)) c.callable parts.1) in
        ap (option_and_then (λ x. option_and_then (λ c. option_and_then (new_special classes out i r x c)
        (methods_of classes r c)) (class_of classes r))) own
        ∙ ap (option_and_then (λ c. option_and_then (new_special classes out i r (Prog n) c) (methods_of classes r c)))
        c.link.class_is
        ∙ ap (option_and_then (new_special classes out i r (Prog n) c.link.class)) c.link.member_is
        ∙ ap (λ (t : Bool). cond t (new_ref classes out i r c.link.class c.member) None)
        (by (named_at classes c.member) (selected_special classes (Prog n) c.link.class c.member)
        (special_stands classes (Prog n) c.link.class c.member own_stands) wants)
        ∙ ref_itself r (methods_of classes r) c.link.class c.member c.link.class_is c.class_kept c.member_kept
      where
        by : (t : NameAndType) (o : Option MemberAt) → IfSome o (Stands classes t)
            → All (cons_option (option_map OfMember o) [])
            → option_map_or (is_member_kept classes marks) o true ≡ true
        by t None stands h = refl
        by t (Some m) stands h = found_kept classes rules marks closed t m stands h.0

    -- ---- instructions

    -- an instruction that is taken, of a kept method, stands for itself
    pub op_itself : (from method : List ℕ) (count : ℕ) → class_named classes from ≡ Some (Prog n) → (o : Op)
        → IsGoodOp count o → All (op_wants classes n o) → op_kinds classes n method o ≡ []
        → op_map new_refs from o ≡ Some o
    op_itself from method count own (op.GetStatic r) good all none =
        ap (option_map op.GetStatic) (field_ref_itself method true false r all none)
    op_itself from method count own (op.PutStatic r) good all none =
        ap (option_map op.PutStatic) (field_ref_itself method true true r all none)
    op_itself from method count own (op.GetField r) good all none =
        ap (option_map op.GetField) (field_ref_itself method false false r all none)
    op_itself from method count own (op.PutField r) good all none =
        ap (option_map op.PutField) (field_ref_itself method false true r all none)
    op_itself from method count own (op.InvokeVirtual r) good all none =
        ap (option_map op.InvokeVirtual)
        (method_ref_itself false r all (nil_parts (call_kinds classes n false r) (no_init_kinds r) none).0)
    op_itself from method count own (op.InvokeStatic r) good all none =
        ap (option_map op.InvokeStatic)
        (method_ref_itself true r all (nil_parts (call_kinds classes n true r) (no_init_kinds r) none).0)
    op_itself from method count own (op.InvokeInterface r) good all none =
        ap (option_map op.InvokeInterface)
        (method_ref_itself false r all (nil_parts (call_kinds classes n false r) (no_init_kinds r) none).0)
    op_itself from method count own (op.InvokeSpecial r) good all none =
        ap (option_map op.InvokeSpecial)
        (special_ref_itself from r own all
        (nil_parts (call_kinds classes n false r) (special_class_kinds classes n r) none).0)
    op_itself from method count own (op.New name) good all none =
        ap (option_map op.New) (name_itself name all (nil_parts (name_kinds classes n name) _ none).0)
    op_itself from method count own (op.ANewArray ty) good all none =
        ap (option_map op.ANewArray) (type_itself ty all none)
    op_itself from method count own (op.CheckCast ty) good all none =
        ap (option_map op.CheckCast) (type_itself ty all none)
    op_itself from method count own (op.InstanceOf ty) good all none =
        ap (option_map op.InstanceOf) (type_itself ty all none)
    op_itself from method count own (op.MultiNewArray ty d) good all none =
        ap (option_map (λ u. op.MultiNewArray u d)) (type_itself ty all none)
    op_itself from method count own (op.NewArray (base.Class name)) good all none =
        absurd (no_class_array good.0 name good.1)
    op_itself from method count own (op.NewArray base.Boolean) good all none = refl
    op_itself from method count own (op.NewArray base.Byte) good all none = refl
    op_itself from method count own (op.NewArray base.Char) good all none = refl
    op_itself from method count own (op.NewArray base.Short) good all none = refl
    op_itself from method count own (op.NewArray base.Int) good all none = refl
    op_itself from method count own (op.NewArray base.Long) good all none = refl
    op_itself from method count own (op.NewArray base.Float) good all none = refl
    op_itself from method count own (op.NewArray base.Double) good all none = refl
    op_itself from method count own o good all none = refl

    -- ---- codes

    instructions_same : (from method : List ℕ) (count : ℕ) → class_named classes from ≡ Some (Prog n)
        → (xs : List Ins) → AllByRecursion (λ (x : Ins). IsGoodOp count x.op) xs
        → All (flat_map (λ (x : Ins). op_wants classes n x.op) xs)
        → flat_map (λ (x : Ins). op_kinds classes n method x.op) xs ≡ [] → AllZip (InsMap new_refs from) xs xs
    instructions_same from method count own [] good all none = tt
    instructions_same from method count own (x ∷ xs) good all none =
        let parts = all_split (In classes rules marks closed) (op_wants classes n x.op)
        (flat_map (λ (x : Ins). op_wants classes n x.op) xs) all in
        let nones = nil_parts (op_kinds classes n method x.op)
        (flat_map (λ (x : Ins). op_kinds classes n method x.op) xs) none in (
          record { op = op_itself from method count own x.op good.0 parts.0 nones.0; line = line_refl x.line },
          instructions_same from method count own xs good.1 parts.1 nones.1,
        )

    handlers_same : (xs : List Handler) → All (flat_map (handler_wants classes) xs)
        → flat_map (handler_kinds classes n) xs ≡ [] → AllZip (HandlerMap new_refs) xs xs
    handlers_same [] all none = tt
    handlers_same (x ∷ xs) all none =
        let parts = all_split (In classes rules marks closed) (handler_wants classes x)
        (flat_map (handler_wants classes) xs) all in
        let nones = nil_parts (handler_kinds classes n x) (flat_map (handler_kinds classes n) xs) none in (
          record { places = (refl, refl, refl); caught = by x.caught parts.0 nones.0 },
          handlers_same xs parts.1 nones.1,
        )
      where
        by : (o : Option (List ℕ)) → All (option_map_or (name_wants classes) o [])
            → option_map_or (name_kinds classes n) o [] ≡ []
            → OptionCorr (λ c d. new_names.class c ≡ Some d) o o
        by None all none = refl
        by (Some name) all none = (name, refl, name_itself name all none)

    -- a code that is taken, of a kept method, stands for itself
    pub code_same : (from method : List ℕ) (code : Code) → class_named classes from ≡ Some (Prog n)
        → AllByRecursion (λ (x : Ins). IsGoodOp (length code.ins) x.op) code.ins
        → CodeWants classes rules marks closed n code → code_kinds classes n method code ≡ []
        → CodeMap new_refs from code code
    code_same from method code own good wants none =
        let nones = nil_parts (flat_map (λ (x : Ins). op_kinds classes n method x.op) code.ins
        ++ flat_map (handler_kinds classes n) code.handlers) (flat_map (frame_kinds classes n) code.frames) none in
        let firsts = nil_parts (flat_map (λ (x : Ins). op_kinds classes n method x.op) code.ins)
        (flat_map (handler_kinds classes n) code.handlers) nones.0 in
        record {
          ins = instructions_same from method (length code.ins) own code.ins good wants.instructions firsts.0;
          handlers = handlers_same code.handlers wants.handlers firsts.1;
        }
