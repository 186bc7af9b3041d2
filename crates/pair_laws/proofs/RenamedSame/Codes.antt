-- An instruction of a kept method names what is kept, so it stands for itself under the new names.
use Rattle.std.proofs.Common.{◌≡◌, ℕ, ◌&&◌, length, Bool, true, false, cond, List, [], ◌∷◌, ◌++◌, map, Option}
use Rattle.std.proofs.Common.{Some, None, Ok, refl, sym, ap, subst, ◌∙◌}
use Rattle.std.specs.Prelude.{IfSome, ◌==◌, if◌then◌else◌}
use Rattle.std.specs.List.{AllByRecursion, AllZip, cons_option, flat_map}
use Rattle.std.specs.Option.{option_and_then, option_map, option_map_or}
use Rattle.std.proofs.lemmas.Bool.{eqb-true}
use Rattle.jv_base.specs.Descriptors.{read_field}
use Rattle.jv_base.specs.declared.types.Base.{Base}
use Rattle.jv_base.specs.declared.types.Base.TheVariants as base
use Rattle.jv_base.specs.declared.types.FieldType.{FieldType}
use Rattle.jv_base.proofs.Lists.{all_split, nil_parts}
use Rattle.class_model.specs.WellFormed.{IsFieldReference, IsGoodOp, IsMethodReference}
use Rattle.class_model.specs.declared.class.Class.{Class}
use Rattle.class_model.specs.declared.code.Code.{Code}
use Rattle.class_model.specs.declared.code.Handler.{Handler}
use Rattle.class_model.specs.declared.code.Ins.{Ins}
use Rattle.class_model.specs.declared.op.MemberRef.{MemberRef}
use Rattle.class_model.specs.declared.op.Op.{Op}
use Rattle.class_model.specs.declared.op.Op.TheVariants as op
use Rattle.class_pool.specs.Found.{NameAndType, name_of, named_at}
use Rattle.class_pool.specs.Hierarchy.{class_named}
use Rattle.class_pool.specs.Selection.{selected_special}
use Rattle.class_pool.specs.declared.id.ClassId.{ClassId}
use Rattle.class_pool.specs.declared.id.ClassId.TheVariants.{Prog}
use Rattle.class_pool.specs.declared.id.MemberAt.{MemberAt}
use Rattle.class_pool.proofs.Declaring.{declared_named}
use Rattle.class_rename.specs.Names.{Names}
use Rattle.class_rename.specs.Renamed.{renamed_base, renamed_field_ref, renamed_field_text, renamed_handler}
use Rattle.class_rename.specs.Renamed.{renamed_method_ref, renamed_method_text, renamed_op, renamed_type}
use Rattle.link_check.specs.Links.{callable, linked_field, linked_method}
use Rattle.link_check.specs.Profile.{base_kinds, call_kinds, class_kinds, class_of, code_kinds, field_kinds}
use Rattle.link_check.specs.Profile.{field_text_kinds, frame_kinds, handler_kinds, member_kinds, name_kinds}
use Rattle.link_check.specs.Profile.{no_init_kinds, op_kinds, special_class_kinds, used_kinds}
use Rattle.image_laws.specs.SetImage.Image.{Image}
use Rattle.jvm_model.specs.Mapped.{CodeMap, HandlerMap, InsMap, Mapping, OptionCorr, op_map}
use Rattle.jvm_model.specs.Same as same
use Rattle.jvm_model.specs.Same.{base_name, type_name}
use Rattle.jvm_model.specs.Types.{class_type}
use Rattle.image_laws.specs.ViewImage.ImageNames as image_names
use Rattle.image_laws.specs.ViewImage.ImageNames.{found_ref, mapping, new_class, new_ref, new_special, renamed_ref}
use Rattle.image_laws.proofs.ViewImage.Naming.{class_name}
use Rattle.image_laws.proofs.ViewImage.Standing.{Stands, special_stands}
use Rattle.require_sys.specs.Requires.{Item, OfMember, base_wants, field_ref_wants, handler_wants}
use Rattle.require_sys.specs.Requires.{method_ref_wants, name_wants, op_wants, resolved_wants, special_wants}
use Rattle.require_sys.specs.declared.kept.KeptByRules.{KeptByRules}
use Rattle.image_laws.specs.ShrunkImage.Keeping.{class_place, is_class_kept, is_member_kept}
use Rattle.image_laws.specs.TakenSet.TakenSet.{IsTaken}
use Rattle.removal_laws.proofs.RemovalImage.Links.{base_class, field_link, fields_of, is_taken, methods_of}
use Rattle.removal_laws.proofs.RemovalImage.Wanted.{AllIn, CodeWants, In, base_kept, field_parts, found_kept, name_kept}
use Rattle.removal_laws.proofs.RemovalSame.Codes.{called, field_stand, method_stand, no_class_array}
use Rattle.pair_laws.specs.RenamedImage.Naming.{new_named}
use Rattle.pair_laws.specs.RenamedImage.Renaming.{is_method_text, placed_class, renamed_named}
use Rattle.pair_laws.proofs.RenamedImage.Descriptors.{field_is_none, method_is_one}
use Rattle.pair_laws.specs.RenamedSame.Laws.{IsLeftUnderNames}
use Rattle.pair_laws.specs.RenamedSame.NewCodes.{IsNewCode, IsNewIns}
use Rattle.pair_laws.proofs.RenamedSame.Moved.{left, name_given, name_new, whole}

module _ (classes : List Class) (rules : KeptByRules) (marks : List Bool) (names : Names) (place : ℕ → ℕ)
    (out : List Class) (taken : IsTaken classes) (new : IsLeftUnderNames classes rules marks names place out) where
  abbrev pub image_of : Image classes out
  image_of = whole classes rules marks names place out taken new

  abbrev pub new_names : same.Names
  new_names = image_names.names classes out image_of

  abbrev pub new_refs : Mapping
  new_refs = mapping classes out image_of

  abbrev All : List Item → Type 0
  All items = AllIn classes rules marks new.closed items

  abbrev rest : List Class
  rest = left classes rules marks names place out taken new

  -- ---- classes

  -- a kept class has its new name
  pub class_new_name : (name : List ℕ) (c : ClassId) → class_named classes name ≡ Some c
      → is_class_kept classes marks c ≡ true → new_names.class name ≡ Some (names.class name)
  class_new_name name c is k =
      ap (option_and_then (new_class classes out image_of)) is
      ∙ ap (λ (t : Bool). cond t (Some (name_of out (placed_class place (class_place classes marks c)))) None) k
      ∙ ap Some (name_new classes rules marks names place out taken new c k
      ∙ ap names.class (class_name classes name c is))

  -- a type without dimensions that names a kept class is that of its place
  type_of : (d : ℕ) (b : Base) (c : ClassId) (t : Bool) → (d == 0) ≡ t → cond t (base_class classes b) None ≡ Some c
      → is_class_kept classes marks c ≡ true
      → class_type (name_of out (placed_class place (class_place classes marks c)))
      ≡ renamed_type names (record { dims = d; base = b })
  type_of d (base.Class name) c true zero_dims e k =
      let none : d ≡ 0 = eqb-true d 0 zero_dims in
      let new_name : name_of out (placed_class place (class_place classes marks c)) ≡ names.class name =
      name_new classes rules marks names place out taken new c k ∙ ap names.class (class_name classes name c e) in
      λ j. record { dims = sym none j; base = base.Class (new_name j) }
  type_of d base.Boolean c true z e k = absurd cc
  type_of d base.Byte c true z e k = absurd cc
  type_of d base.Char c true z e k = absurd cc
  type_of d base.Short c true z e k = absurd cc
  type_of d base.Int c true z e k = absurd cc
  type_of d base.Long c true z e k = absurd cc
  type_of d base.Float c true z e k = absurd cc
  type_of d base.Double c true z e k = absurd cc
  type_of d b c false z e k = absurd cc

  module _ (n : ℕ) where
    name_new_one : (name : List ℕ) → All (name_wants classes name) → name_kinds classes n name ≡ []
        → new_names.class name ≡ Some (names.class name)
    name_new_one name all none = by (class_named classes name) refl none
      where
        by : (o : Option ClassId) → class_named classes name ≡ o → class_kinds classes n o ≡ []
            → new_names.class name ≡ Some (names.class name)
        by None is e = absurd cc
        by (Some c) is e = class_new_name name c is (name_kept classes rules marks new.closed name c is all)

    base_new : (b : Base) → All (base_wants classes b) → base_kinds classes n b ≡ []
        → base_name new_names b ≡ Some (renamed_base names b)
    base_new (base.Class name) all none = ap (option_map base.Class) (name_new_one name all none)
    base_new base.Boolean all none = refl
    base_new base.Byte all none = refl
    base_new base.Char all none = refl
    base_new base.Short all none = refl
    base_new base.Int all none = refl
    base_new base.Long all none = refl
    base_new base.Float all none = refl
    base_new base.Double all none = refl

    type_new : (ty : FieldType) → All (base_wants classes ty.base) → base_kinds classes n ty.base ≡ []
        → type_name new_names ty ≡ Some (renamed_type names ty)
    type_new ty all none = ap (option_map (λ b. record { dims = ty.dims; base = b })) (base_new ty.base all none)

    -- ---- references

    -- a reference to what is kept, under its new names
    ref_new : (r : MemberRef) (named : NameAndType) (c : ClassId) (m : MemberAt)
        → class_of classes r ≡ Some c → is_class_kept classes marks c ≡ true
        → is_member_kept classes marks m ≡ true → new_named names rest (r.name, r.ty) ≡ Some named
        → new_ref classes out image_of r c m
        ≡ Some (record r { class = renamed_type names r.class; name = named.0; ty = named.1 })
    ref_new r named c m is k l given =
        let class : class_type (name_of out (placed_class place (class_place classes marks c)))
        ≡ renamed_type names r.class =
        type_of r.class.dims r.class.base c (r.class.dims == 0) refl is k in
        ap (λ (t : Bool). cond (t && is_member_kept classes marks m)
        (option_map (renamed_ref classes out image_of r c) (new_named names rest (r.name, r.ty))) None) k
        ∙ ap (λ (t : Bool). cond t
        (option_map (renamed_ref classes out image_of r c) (new_named names rest (r.name, r.ty))) None) l
        ∙ ap (option_map (renamed_ref classes out image_of r c)) given
        ∙ ap (λ (t : FieldType). Some (record {
          class = t;
          name = named.0;
          ty = named.1;
          of_interface = r.of_interface;
        }))
        class

    found_new : (r : MemberRef) (named : NameAndType) (found : ClassId → Option MemberAt) (c : ClassId) (m : MemberAt)
        → class_of classes r ≡ Some c → found c ≡ Some m → is_class_kept classes marks c ≡ true
        → is_member_kept classes marks m ≡ true → new_named names rest (r.name, r.ty) ≡ Some named
        → found_ref classes out image_of found r
        ≡ Some (record r { class = renamed_type names r.class; name = named.0; ty = named.1 })
    found_new r named found c m is member k l given =
        ap (option_and_then (λ c. option_and_then (new_ref classes out image_of r c) (found c))) is
        ∙ ap (option_and_then (new_ref classes out image_of r c)) member ∙ ref_new r named c m is k l given

    -- the names of a member that is kept and stands under these
    names_given : (r : MemberRef) (m : MemberAt) → Stands classes (r.name, r.ty) m
        → is_member_kept classes marks m ≡ true
        → new_named names rest (r.name, r.ty) ≡ Some (renamed_named names (r.name, r.ty))
    names_given r m stands k =
        let own : named_at classes m ≡ (r.name, r.ty) = declared_named classes (r.name, r.ty) m.class m stands in
        subst (λ (t : NameAndType). new_named names rest t ≡ Some (renamed_named names t)) own
        (name_given classes rules marks names place out taken new m k)

    as_field : (r : MemberRef) → IsFieldReference r
        → renamed_named names (r.name, r.ty) ≡ (names.field r.name, renamed_field_text names r.ty)
    as_field r good =
        ap (λ (b : Bool). if b then (names.method r.name r.ty, renamed_method_text names r.ty)
        else (names.field r.name, renamed_field_text names r.ty))
        (ap is_method_text good.0.descriptor.2 ∙ field_is_none good.0.descriptor.0)

    as_method : (r : MemberRef) → IsMethodReference r
        → renamed_named names (r.name, r.ty) ≡ (names.method r.name r.ty, renamed_method_text names r.ty)
    as_method r good =
        ap (λ (b : Bool). if b then (names.method r.name r.ty, renamed_method_text names r.ty)
        else (names.field r.name, renamed_field_text names r.ty))
        (ap is_method_text good.descriptor.2 ∙ method_is_one good.descriptor.0)

    field_ref_new : (method : List ℕ) (static written : Bool) (r : MemberRef) → IsFieldReference r
        → All (field_ref_wants classes n r) → field_kinds classes n method static written r ≡ []
        → new_refs.field_ref r ≡ Some (renamed_field_ref names r)
    field_ref_new method static written r good all none =
        let links = (nil_parts (field_text_kinds classes n (read_field r.ty))
        (member_kinds (linked_field classes (Prog n) r) (used_kinds classes n method static written)) none).1 in
        let m = is_taken classes (Prog n) (linked_field classes (Prog n) r)
        (used_kinds classes n method static written) links in
        let l = field_link classes (Prog n) r m.member m.linked in
        let parts = field_parts classes rules marks new.closed n r all in
        let marked : All (OfMember m.member ∷ []) = subst (λ o. All (resolved_wants classes o)) m.callable parts.2 in
        let stands = field_stand classes rules marks new.closed taken n r m.member l in
        let kept = found_kept classes rules marks new.closed (r.name, r.ty) m.member stands marked.0 in
        found_new r (names.field r.name, renamed_field_text names r.ty)
        (fields_of classes r) l.class m.member l.class_is
        l.member_is (base_kept classes rules marks new.closed
        (r.class.dims == 0) r.class.base l.class l.class_is parts.0)
        kept (names_given r m.member stands kept ∙ ap (λ (t : NameAndType). Some t) (as_field r good))

    method_ref_new : (static : Bool) (r : MemberRef) → IsMethodReference r → All (method_ref_wants classes n r)
        → call_kinds classes n static r ≡ [] → new_refs.method_ref r ≡ Some (renamed_method_ref names r)
    method_ref_new static r good all none =
        let c = called classes rules marks new.closed taken n static r all none in
        let stands = method_stand classes rules marks new.closed taken n r c.member c.link in
        found_new r (names.method r.name r.ty, renamed_method_text names r.ty)
        (methods_of classes r) c.link.class c.member
        c.link.class_is c.link.member_is c.class_kept c.member_kept
        (names_given r c.member stands c.member_kept ∙ ap (λ (t : NameAndType). Some t) (as_method r good))

    -- and of invokespecial what it runs is kept
    special_ref_new : (from : List ℕ) (r : MemberRef) → IsMethodReference r → class_named classes from ≡ Some (Prog n)
        → All (method_ref_wants classes n r
        ++ special_wants classes n (class_of classes r) (callable classes (Prog n) (linked_method classes (Prog n) r)))
        → call_kinds classes n false r ≡ [] → new_refs.special_ref from r ≡ Some (renamed_method_ref names r)
    special_ref_new from r good own all none =
        let parts = all_split (In classes rules marks new.closed) (method_ref_wants classes n r)
        (special_wants classes n (class_of classes r) (callable classes (Prog n) (linked_method classes (Prog n) r)))
        all in
        let c = called classes rules marks new.closed taken n false r parts.0 none in
        let stands = method_stand classes rules marks new.closed taken n r c.member c.link in
        let its_name : named_at classes c.member ≡ (r.name, r.ty) =
        declared_named classes (r.name, r.ty) c.member.class c.member stands in
        let own_stands : Stands classes (named_at classes c.member) c.member =
        subst (λ (t : NameAndType). Stands classes t c.member) (sym its_name) stands in
        let wants : All (cons_option (option_map OfMember (selected_special classes (Prog n) c.link.class c.member)) [])
        = subst (λ o. All (special_wants classes n o (Ok c.member))) c.link.class_is
        (subst (λ o. All (special_wants classes n (class_of classes r) o)) c.callable parts.1) in
        ap (option_and_then (λ x. option_and_then (λ c. option_and_then (new_special classes out image_of r x c)
        (methods_of classes r c)) (class_of classes r))) own
        ∙ ap (option_and_then (λ c. option_and_then (new_special classes out image_of r (Prog n) c)
        (methods_of classes r c))) c.link.class_is
        ∙ ap (option_and_then (new_special classes out image_of r (Prog n) c.link.class)) c.link.member_is
        ∙ ap (λ (t : Bool). cond t (new_ref classes out image_of r c.link.class c.member) None)
        (by (named_at classes c.member) (selected_special classes (Prog n) c.link.class c.member)
        (special_stands classes (Prog n) c.link.class c.member own_stands) wants)
        ∙ ref_new r (names.method r.name r.ty, renamed_method_text names r.ty) c.link.class c.member c.link.class_is
        c.class_kept c.member_kept
        (names_given r c.member stands c.member_kept ∙ ap (λ (t : NameAndType). Some t) (as_method r good))
      where
        by : (t : NameAndType) (o : Option MemberAt) → IfSome o (Stands classes t)
            → All (cons_option (option_map OfMember o) [])
            → option_map_or (is_member_kept classes marks) o true ≡ true
        by t None stands h = refl
        by t (Some m) stands h = found_kept classes rules marks new.closed t m stands h.0

    -- ---- instructions

    -- an instruction that is taken, of a kept method, under the new names
    pub op_new : (from method : List ℕ) (count : ℕ) → class_named classes from ≡ Some (Prog n) → (o : Op)
        → IsGoodOp count o → All (op_wants classes n o) → op_kinds classes n method o ≡ []
        → op_map new_refs from o ≡ Some (renamed_op names o)
    op_new from method count own (op.GetStatic r) good all none =
        ap (option_map op.GetStatic) (field_ref_new method true false r good all none)
    op_new from method count own (op.PutStatic r) good all none =
        ap (option_map op.PutStatic) (field_ref_new method true true r good all none)
    op_new from method count own (op.GetField r) good all none =
        ap (option_map op.GetField) (field_ref_new method false false r good all none)
    op_new from method count own (op.PutField r) good all none =
        ap (option_map op.PutField) (field_ref_new method false true r good all none)
    op_new from method count own (op.InvokeVirtual r) good all none =
        ap (option_map op.InvokeVirtual)
        (method_ref_new false r good.0 all (nil_parts (call_kinds classes n false r) (no_init_kinds r) none).0)
    op_new from method count own (op.InvokeStatic r) good all none =
        ap (option_map op.InvokeStatic)
        (method_ref_new true r good all (nil_parts (call_kinds classes n true r) (no_init_kinds r) none).0)
    op_new from method count own (op.InvokeInterface r) good all none =
        ap (option_map op.InvokeInterface)
        (method_ref_new false r good.0 all (nil_parts (call_kinds classes n false r) (no_init_kinds r) none).0)
    op_new from method count own (op.InvokeSpecial r) good all none =
        ap (option_map op.InvokeSpecial)
        (special_ref_new from r good own all
        (nil_parts (call_kinds classes n false r) (special_class_kinds classes n r) none).0)
    op_new from method count own (op.New name) good all none =
        ap (option_map op.New) (name_new_one name all (nil_parts (name_kinds classes n name) _ none).0)
    op_new from method count own (op.ANewArray ty) good all none =
        ap (option_map op.ANewArray) (type_new ty all none)
    op_new from method count own (op.CheckCast ty) good all none =
        ap (option_map op.CheckCast) (type_new ty all none)
    op_new from method count own (op.InstanceOf ty) good all none =
        ap (option_map op.InstanceOf) (type_new ty all none)
    op_new from method count own (op.MultiNewArray ty d) good all none =
        ap (option_map (λ u. op.MultiNewArray u d)) (type_new ty all none)
    op_new from method count own (op.NewArray (base.Class name)) good all none =
        absurd (no_class_array good.0 name good.1)
    op_new from method count own (op.NewArray base.Boolean) good all none = refl
    op_new from method count own (op.NewArray base.Byte) good all none = refl
    op_new from method count own (op.NewArray base.Char) good all none = refl
    op_new from method count own (op.NewArray base.Short) good all none = refl
    op_new from method count own (op.NewArray base.Int) good all none = refl
    op_new from method count own (op.NewArray base.Long) good all none = refl
    op_new from method count own (op.NewArray base.Float) good all none = refl
    op_new from method count own (op.NewArray base.Double) good all none = refl
    op_new from method count own o good all none = refl

    -- ---- codes

    instructions_new : (from method : List ℕ) (count : ℕ) → class_named classes from ≡ Some (Prog n)
        → (xs ys : List Ins) → AllZip (IsNewIns names) xs ys → AllByRecursion (λ (x : Ins). IsGoodOp count x.op) xs
        → All (flat_map (λ (x : Ins). op_wants classes n x.op) xs)
        → flat_map (λ (x : Ins). op_kinds classes n method x.op) xs ≡ [] → AllZip (InsMap new_refs from) xs ys
    instructions_new from method count own [] [] zip good all none = tt
    instructions_new from method count own [] (y ∷ ys) zip good all none = absurd zip
    instructions_new from method count own (x ∷ xs) [] zip good all none = absurd zip
    instructions_new from method count own (x ∷ xs) (y ∷ ys) zip good all none =
        let parts = all_split (In classes rules marks new.closed) (op_wants classes n x.op)
        (flat_map (λ (x : Ins). op_wants classes n x.op) xs) all in
        let nones = nil_parts (op_kinds classes n method x.op)
        (flat_map (λ (x : Ins). op_kinds classes n method x.op) xs) none in (
          record {
            op = op_new from method count own x.op good.0 parts.0 nones.0 ∙ ap (λ (o : Op). Some o) (sym zip.0.op);
            line = zip.0.line;
          },
          instructions_new from method count own xs ys zip.1 good.1 parts.1 nones.1,
        )

    handlers_new : (xs : List Handler) → All (flat_map (handler_wants classes) xs)
        → flat_map (handler_kinds classes n) xs ≡ []
        → AllZip (HandlerMap new_refs) xs (map (renamed_handler names) xs)
    handlers_new [] all none = tt
    handlers_new (x ∷ xs) all none =
        let parts = all_split (In classes rules marks new.closed) (handler_wants classes x)
        (flat_map (handler_wants classes) xs) all in
        let nones = nil_parts (handler_kinds classes n x) (flat_map (handler_kinds classes n) xs) none in (
          record { places = (refl, refl, refl); caught = by x.caught parts.0 nones.0 },
          handlers_new xs parts.1 nones.1,
        )
      where
        by : (o : Option (List ℕ)) → All (option_map_or (name_wants classes) o [])
            → option_map_or (name_kinds classes n) o [] ≡ []
            → OptionCorr (λ c d. new_names.class c ≡ Some d) o (option_map names.class o)
        by None all none = refl
        by (Some name) all none = (names.class name, refl, name_new_one name all none)

    -- a code that is taken, of a kept method, under the new names
    pub code_new : (from method : List ℕ) (code d : Code) → class_named classes from ≡ Some (Prog n)
        → IsNewCode names code d
        → AllByRecursion (λ (x : Ins). IsGoodOp (length code.ins) x.op) code.ins
        → CodeWants classes rules marks new.closed n code → code_kinds classes n method code ≡ []
        → CodeMap new_refs from code d
    code_new from method code d own renamed good wants none =
        let nones = nil_parts (flat_map (λ (x : Ins). op_kinds classes n method x.op) code.ins
        ++ flat_map (handler_kinds classes n) code.handlers) (flat_map (frame_kinds classes n) code.frames) none in
        let firsts = nil_parts (flat_map (λ (x : Ins). op_kinds classes n method x.op) code.ins)
        (flat_map (handler_kinds classes n) code.handlers) nones.0 in
        record {
          ins = instructions_new from method (length code.ins) own code.ins d.ins renamed.ins good wants.instructions
              firsts.0;
          handlers = subst (AllZip (HandlerMap new_refs) code.handlers) (sym renamed.handlers)
              (handlers_new code.handlers wants.handlers firsts.1);
        }
