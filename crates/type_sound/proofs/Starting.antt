-- A run that begins in a set that is taken begins with a state that fits (JVMS 2.3, 2.4, 5.2).
use Rattle.std.proofs.Common.{◌≡◌, ◌≢◌, ◌&&◌, ◌++◌, ◌+◌, ℕ, zero, suc, not, Bool, true, false}
use Rattle.std.proofs.Common.{cond, List, [], ◌∷◌, length, map, Option, Some, None, slice_get, refl, sym, ap, subst}
use Rattle.std.proofs.Common.{◌∙◌, arith, codes}
use Rattle.std.specs.Prelude.{◌==◌, ◌^◌, IfSome, is_some, nat_lt}
use Rattle.std.specs.List.{AllByRecursion, AllZip, list_all}
use Rattle.std.specs.Option.{option_map_or}
use Rattle.std.specs.Result.{result_ok}
use Rattle.std.proofs.lemmas.Bool.{and_parts, eqb-true, not-true}
use Rattle.jv_base.specs.Descriptors.{read_field, read_method}
use Rattle.jv_base.specs.Names.{is_class_name, is_member_name, is_name_byte, is_primitive_or_void, is_text}
use Rattle.jv_base.specs.Types.{base_text, field_text}
use Rattle.jv_base.specs.declared.types.Base.{Base}
use Rattle.jv_base.specs.declared.types.Base.TheVariants as base
use Rattle.jv_base.specs.declared.types.FieldType.{FieldType}
use Rattle.jv_base.specs.declared.types.MethodType.{MethodType}
use Rattle.jv_base.proofs.Equality.{same_text}
use Rattle.jv_base.proofs.FieldLaw.{read_field-only}
use Rattle.jv_base.proofs.MethodLaw.{read_method-only}
use Rattle.class_model.specs.Flags.{acc_native, acc_static, has, is_interface, is_static}
use Rattle.class_model.specs.Frames.{base_vtype, initial_locals, this_type, vtype_of}
use Rattle.class_model.specs.WellFormed.{IsGoodMethod}
use Rattle.class_model.specs.declared.class.Class.{Class}
use Rattle.class_model.specs.declared.code.Code.{Code}
use Rattle.class_model.specs.declared.frame.VType.{VType}
use Rattle.class_model.specs.declared.frame.VType.TheVariants as vtype
use Rattle.class_model.specs.declared.op.Kind.TheVariants as kind
use Rattle.class_pool.specs.Found.{NameAndType, is_method_at, is_static_member}
use Rattle.class_pool.specs.Hierarchy.{class_named}
use Rattle.class_pool.specs.declared.id.ClassId.{ClassId}
use Rattle.class_pool.specs.declared.id.ClassId.TheVariants.{Prog, Lib}
use Rattle.class_pool.specs.declared.id.MemberAt.{MemberAt}
use Rattle.class_pool.proofs.LikeMethods.{all_at as all_pass}
use Rattle.link_check.specs.Profile.{is_of_library}
use Rattle.jvm_model.specs.Heap.{Array, Builder, Instance, Object, Str, string, type_of}
use Rattle.jvm_model.specs.Start.{AreArguments, IsTypedHeap, are_plain_parameters, is_plain, is_plain_base}
use Rattle.jvm_model.specs.Start.{is_same_type, is_typed, is_value_of}
use Rattle.jvm_model.specs.Step.{first_world, out, start, stream}
use Rattle.jvm_model.specs.Types.{array_of, is_type_below, kind_of, kind_of_base}
use Rattle.jvm_model.specs.Fields.{blank}
use Rattle.jvm_model.specs.Value.{Int, Key, Lit, Long, Null, Ref, Value, is_of}
use Rattle.set_view.specs.ViewOf.{is_startable, is_static_method, key_at, member_of, shape_of, view_of}
use Rattle.type_verifier.specs.Assignable.{class_type}
use Rattle.type_verifier.specs.Environment.{Environment}
use Rattle.type_verifier.specs.Verified.{AreTyped, environment}
use Rattle.fit_laws.specs.Frames.{Begins, Environs, result_of}
use Rattle.fit_laws.specs.Held.{is_base_there, is_there}
use Rattle.fit_laws.specs.RowTypes.{print_stream}
use Rattle.fit_laws.specs.Sound.{IsSound}
use Rattle.fit_laws.specs.States.{Fits}
use Rattle.fit_laws.specs.Values.{FitsKey, FitsKnown, FitsReference, FitsType, FitsValue, FitsWithin, FitsWorld}
use Rattle.fit_laws.specs.Values.{is_whole}
use Rattle.fit_laws.proofs.Arguments.{NoTops}
use Rattle.fit_laws.proofs.Beginning.{begins_with}
use Rattle.fit_laws.proofs.Going.{hierarchy}
use Rattle.fit_laws.proofs.Heaps.{blank_fits, key_set, known_value}
use Rattle.fit_laws.proofs.Initialising.{instance_fits}
use Rattle.image_laws.specs.TakenSet.TakenSet.{IsTaken}
use Rattle.image_laws.proofs.ViewImage.Naming.{Member, member_is}
use Rattle.image_laws.proofs.ViewImage.Standing.{Stands}
use Rattle.type_sound.proofs.Flags.{no_flags, static_concrete}
use Rattle.type_sound.proofs.Initialisers.{some_code, sound}
use Rattle.type_sound.proofs.Members.{ProgramMethod, good_method, member_there, method_environs, method_flag}
use Rattle.type_sound.proofs.Members.{method_named}
use Rattle.type_sound.proofs.Members.{program_method}

-- ---- types

-- the machine's test tells types that are one
same_types : (a b : FieldType) → is_same_type a b ≡ true → a ≡ b
same_types a b h =
    let p = and_parts (a.dims == b.dims) _ h in
    let dims = eqb-true a.dims b.dims p.0 in
    let bases = same_bases a.base b.base p.1 in
    λ i. record { dims = dims i; base = bases i }
  where
    same_bases : (c d : Base) → is_type_below is_text (record { dims = 0; base = c }) (record { dims = 0; base = d })
        ≡ true
        → c ≡ d
    same_bases (base.Class m) (base.Class n) e = ap base.Class (same_text m n e)
    same_bases (base.Class m) base.Boolean e = absurd cc
    same_bases (base.Class m) base.Byte e = absurd cc
    same_bases (base.Class m) base.Char e = absurd cc
    same_bases (base.Class m) base.Short e = absurd cc
    same_bases (base.Class m) base.Int e = absurd cc
    same_bases (base.Class m) base.Long e = absurd cc
    same_bases (base.Class m) base.Float e = absurd cc
    same_bases (base.Class m) base.Double e = absurd cc
    same_bases base.Boolean (base.Class n) e = absurd cc
    same_bases base.Boolean base.Boolean e = refl
    same_bases base.Boolean base.Byte e = absurd cc
    same_bases base.Boolean base.Char e = absurd cc
    same_bases base.Boolean base.Short e = absurd cc
    same_bases base.Boolean base.Int e = absurd cc
    same_bases base.Boolean base.Long e = absurd cc
    same_bases base.Boolean base.Float e = absurd cc
    same_bases base.Boolean base.Double e = absurd cc
    same_bases base.Byte (base.Class n) e = absurd cc
    same_bases base.Byte base.Boolean e = absurd cc
    same_bases base.Byte base.Byte e = refl
    same_bases base.Byte base.Char e = absurd cc
    same_bases base.Byte base.Short e = absurd cc
    same_bases base.Byte base.Int e = absurd cc
    same_bases base.Byte base.Long e = absurd cc
    same_bases base.Byte base.Float e = absurd cc
    same_bases base.Byte base.Double e = absurd cc
    same_bases base.Char (base.Class n) e = absurd cc
    same_bases base.Char base.Boolean e = absurd cc
    same_bases base.Char base.Byte e = absurd cc
    same_bases base.Char base.Char e = refl
    same_bases base.Char base.Short e = absurd cc
    same_bases base.Char base.Int e = absurd cc
    same_bases base.Char base.Long e = absurd cc
    same_bases base.Char base.Float e = absurd cc
    same_bases base.Char base.Double e = absurd cc
    same_bases base.Short (base.Class n) e = absurd cc
    same_bases base.Short base.Boolean e = absurd cc
    same_bases base.Short base.Byte e = absurd cc
    same_bases base.Short base.Char e = absurd cc
    same_bases base.Short base.Short e = refl
    same_bases base.Short base.Int e = absurd cc
    same_bases base.Short base.Long e = absurd cc
    same_bases base.Short base.Float e = absurd cc
    same_bases base.Short base.Double e = absurd cc
    same_bases base.Int (base.Class n) e = absurd cc
    same_bases base.Int base.Boolean e = absurd cc
    same_bases base.Int base.Byte e = absurd cc
    same_bases base.Int base.Char e = absurd cc
    same_bases base.Int base.Short e = absurd cc
    same_bases base.Int base.Int e = refl
    same_bases base.Int base.Long e = absurd cc
    same_bases base.Int base.Float e = absurd cc
    same_bases base.Int base.Double e = absurd cc
    same_bases base.Long (base.Class n) e = absurd cc
    same_bases base.Long base.Boolean e = absurd cc
    same_bases base.Long base.Byte e = absurd cc
    same_bases base.Long base.Char e = absurd cc
    same_bases base.Long base.Short e = absurd cc
    same_bases base.Long base.Int e = absurd cc
    same_bases base.Long base.Long e = refl
    same_bases base.Long base.Float e = absurd cc
    same_bases base.Long base.Double e = absurd cc
    same_bases base.Float (base.Class n) e = absurd cc
    same_bases base.Float base.Boolean e = absurd cc
    same_bases base.Float base.Byte e = absurd cc
    same_bases base.Float base.Char e = absurd cc
    same_bases base.Float base.Short e = absurd cc
    same_bases base.Float base.Int e = absurd cc
    same_bases base.Float base.Long e = absurd cc
    same_bases base.Float base.Float e = refl
    same_bases base.Float base.Double e = absurd cc
    same_bases base.Double (base.Class n) e = absurd cc
    same_bases base.Double base.Boolean e = absurd cc
    same_bases base.Double base.Byte e = absurd cc
    same_bases base.Double base.Char e = absurd cc
    same_bases base.Double base.Short e = absurd cc
    same_bases base.Double base.Int e = absurd cc
    same_bases base.Double base.Long e = absurd cc
    same_bases base.Double base.Float e = absurd cc
    same_bases base.Double base.Double e = refl

-- the type of an object is one of references
object_type : (o : Object) → vtype_of (type_of o) ≡ vtype.Object (type_of o)
object_type (Instance class fields message cause) = refl
object_type (Array component values) =
    ap (λ b. cond b (base_vtype (array_of component) component.base) (vtype.Object (array_of component)))
    (more component.dims)
  where
    more : (n : ℕ) → (n + 1 == 0) ≡ false
    more n = by (n + 1 == 0) refl where
      by : (b : Bool) → (n + 1 == 0) ≡ b → b ≡ false
      by false e = refl
      by true e = absurd (let q = eqb-true (n + 1) 0 e in omega (arith, q))
object_type (Str units) = refl
object_type (Builder units) = refl

-- no plain type is float or double
no_top : (ty : FieldType) → is_plain ty ≡ true → vtype_of ty ≢ vtype.Top
no_top ty h = by (ty.dims == 0) ty.base h where
  by : (b : Bool) (c : Base) → is_plain_base c ≡ true → cond b (base_vtype ty c) (vtype.Object ty) ≢ vtype.Top
  by false c h e = cc
  by true base.Boolean h e = cc
  by true base.Byte h e = cc
  by true base.Char h e = cc
  by true base.Short h e = cc
  by true base.Int h e = cc
  by true base.Long h e = cc
  by true (base.Class name) h e = cc
  by true base.Float h e = cc
  by true base.Double h e = cc

module _ (classes : List Class) (t : IsTaken classes) (typed : AreTyped classes) where
  facts : IsSound classes
  facts = sound classes t typed

  -- a plain type is there: its class is that of strings
  plain_there : (c : Base) → is_plain_base c ≡ true → is_base_there classes c ≡ true
  plain_there (base.Class name) h =
      ap (λ (n : List ℕ). is_some (class_named classes n)) (same_text name string h)
      ∙ ap is_some facts.library.strings.named
  plain_there base.Boolean h = refl
  plain_there base.Byte h = refl
  plain_there base.Char h = refl
  plain_there base.Short h = refl
  plain_there base.Int h = refl
  plain_there base.Long h = refl
  plain_there base.Float h = refl
  plain_there base.Double h = refl

  string_there : is_there classes (class_type string) ≡ true
  string_there = ap is_some facts.library.strings.named

  -- ---- a heap of strings and arrays

  module _ (heap : List Object) (given : IsTypedHeap heap) where
    abbrev all : List Object
    all = stream ∷ heap

    passes : {A : Type 0} (p : A → Bool) (xs : List A) (k : ℕ) (x : A) → list_all p xs ≡ true
        → slice_get xs k ≡ Some x → p x ≡ true
    passes p xs k x h at = all_pass p xs k x h at

    -- what is told of each object
    record IsRight (o : Object) : Type 0 where
      pub whole : is_whole o ≡ true
      pub there : is_there classes (type_of o) ≡ true

    typed_right : (o : Object) → is_typed all o ≡ true → IsRight o
    typed_right (Instance class fields message cause) h = absurd cc
    typed_right (Array component values) h = record {
      whole = refl;
      there = plain_there component.base (and_parts (is_plain component) (list_all (is_value_of all component) values)
          (and_parts (is_plain component && list_all (is_value_of all component) values)
          (nat_lt (length values) (2 ^ 31)) h).0).0;
    }
    typed_right (Str units) h = record { whole = refl; there = string_there }
    typed_right (Builder units) h = absurd cc

    right : (n : ℕ) (o : Object) → slice_get all n ≡ Some o → IsRight o
    right zero o e = subst IsRight (one stream o e)
        (record { whole = refl; there = ap is_some facts.library.stream.named })
      where
        one : (x y : Object) → Some x ≡ Some y → x ≡ y
        one x y q = cc
    right (suc n) o e = typed_right o (passes (is_typed all) heap n o given e)

    of_object : (n : ℕ) (o : Object) → slice_get all n ≡ Some o → FitsReference classes all (type_of o) (Ref n)
    of_object n o e =
        let r = right n o e in (
          o,
          e,
          record {
            whole = r.whole;
            there = r.there;
            held = (hierarchy classes facts).itself (type_of o) r.there;
          },
        )

    -- a value of a plain type fits it
    value_fits : (ty : FieldType) → is_plain ty ≡ true → (v : Value) → is_value_of all ty v ≡ true
        → FitsType classes all ty v
    value_fits ty p (Int z) h = by (ty.dims == 0) ty.base p (and_parts (is_of (kind_of ty) (Int z)) _ h).0 where
      by : (b : Bool) (c : Base) → is_plain_base c ≡ true → is_of (cond b (kind_of_base c) kind.Ref) (Int z) ≡ true
          → FitsKnown classes all (cond b (base_vtype ty c) (vtype.Object ty)) (Int z)
      by false c q k = absurd cc
      by true base.Boolean q k = (z, refl)
      by true base.Byte q k = (z, refl)
      by true base.Char q k = (z, refl)
      by true base.Short q k = (z, refl)
      by true base.Int q k = (z, refl)
      by true base.Long q k = absurd cc
      by true (base.Class name) q k = absurd cc
      by true base.Float q k = absurd cc
      by true base.Double q k = absurd cc
    value_fits ty p (Long z) h = by (ty.dims == 0) ty.base p (and_parts (is_of (kind_of ty) (Long z)) _ h).0 where
      by : (b : Bool) (c : Base) → is_plain_base c ≡ true → is_of (cond b (kind_of_base c) kind.Ref) (Long z) ≡ true
          → FitsKnown classes all (cond b (base_vtype ty c) (vtype.Object ty)) (Long z)
      by false c q k = absurd cc
      by true base.Boolean q k = absurd cc
      by true base.Byte q k = absurd cc
      by true base.Char q k = absurd cc
      by true base.Short q k = absurd cc
      by true base.Int q k = absurd cc
      by true base.Long q k = (z, refl)
      by true (base.Class name) q k = absurd cc
      by true base.Float q k = absurd cc
      by true base.Double q k = absurd cc
    value_fits ty p Null h = by (ty.dims == 0) ty.base p h where
      by : (b : Bool) (c : Base) → is_plain_base c ≡ true → is_of (cond b (kind_of_base c) kind.Ref) Null ≡ true
          → FitsKnown classes all (cond b (base_vtype ty c) (vtype.Object ty)) Null
      by false c q k = tt
      by true base.Boolean q k = absurd cc
      by true base.Byte q k = absurd cc
      by true base.Char q k = absurd cc
      by true base.Short q k = absurd cc
      by true base.Int q k = absurd cc
      by true base.Long q k = absurd cc
      by true (base.Class name) q k = tt
      by true base.Float q k = absurd cc
      by true base.Double q k = absurd cc
    value_fits ty p (Ref n) h = by (slice_get all n) refl h where
      by : (o : Option Object) → slice_get all n ≡ o → option_map_or (λ x. is_same_type (type_of x) ty) o false ≡ true
          → FitsType classes all ty (Ref n)
      by None e k = absurd cc
      by (Some o) e k = subst (λ (u : FieldType). FitsType classes all u (Ref n)) (same_types (type_of o) ty k)
          (subst (λ (u : VType). FitsKnown classes all u (Ref n)) (sym (object_type o)) (of_object n o e))
    value_fits ty p (Lit units) h = subst (λ (u : FieldType). FitsType classes all u (Lit units))
        (same_types (class_type string) ty (and_parts (is_same_type (class_type string) ty) _ h).0)
        ((hierarchy classes facts).itself (class_type string) string_there)

    -- ---- the first world

    values_fit : (component : FieldType) → is_plain component ≡ true → (vs : List Value)
        → list_all (is_value_of all component) vs ≡ true → AllByRecursion (FitsType classes all component) vs
    values_fit component p [] h = tt
    values_fit component p (v ∷ vs) h =
        let q = and_parts (is_value_of all component v) (list_all (is_value_of all component) vs) h in
        (value_fits component p v q.0, values_fit component p vs q.1)

    within_fits : (o : Object) → is_typed all o ≡ true → FitsWithin classes all o
    within_fits (Instance class fields message cause) h = absurd cc
    within_fits (Array component values) h =
        let q = and_parts (is_plain component) (list_all (is_value_of all component) values)
        (and_parts (is_plain component && list_all (is_value_of all component) values)
        (nat_lt (length values) (2 ^ 31)) h).0 in
        values_fit component q.0 values q.1
    within_fits (Str units) h = tt
    within_fits (Builder units) h = tt

    objects_fit : (n : ℕ) (o : Object) → slice_get all n ≡ Some o → FitsWithin classes all o
    objects_fit zero o e = subst (FitsWithin classes all) (one stream o e)
        (instance_fits classes facts all print_stream facts.library.stream refl Null tt)
      where
        one : (x y : Object) → Some x ≡ Some y → x ≡ y
        one x y q = cc
    objects_fit (suc n) o e = within_fits o (passes (is_typed all) heap n o given e)

    stream_read : result_ok (read_field out.descriptor) ≡ Some (class_type print_stream)
    unfolding field_text base_text is_class_name is_member_name is_name_byte is_primitive_or_void
    stream_read = ap result_ok (read_field-only out.descriptor (class_type print_stream)
        (record { dimensions = omega arith; named = refl }, refl))

    out_fits : FitsKey classes all out (Ref 0)
    out_fits = subst (λ o. IfSome o (λ ty. FitsType classes all ty (Ref 0))) (sym stream_read)
        (of_object 0 stream refl)

    world_fits : FitsWorld classes (first_world (shape_of classes) heap)
    world_fits = record {
      objects = objects_fit;
      statics = key_set classes all blank out (Ref 0) (blank_fits classes all) out_fits;
    }

    -- ---- the arguments

    arguments_fit : (env : Environment) → env.classes ≡ classes → (ts : List FieldType) (vs : List Value)
        → AllZip (λ ty v. (is_plain ty ≡ true) × (is_value_of all ty v ≡ true)) ts vs
        → NoTops env all (map vtype_of ts) × AllZip (FitsValue env all) (map vtype_of ts) vs
    arguments_fit env same [] [] h = (tt, tt)
    arguments_fit env same [] (v ∷ vs) h = absurd h
    arguments_fit env same (ty ∷ ts) [] h = absurd h
    arguments_fit env same (ty ∷ ts) (v ∷ vs) h =
        let r = arguments_fit env same ts vs h.1 in (
          (no_top ty h.0.0, r.0),
          (
            known_value env all (vtype_of ty) v
                (subst (λ (c : List Class). FitsKnown c all (vtype_of ty) v) (sym same) (value_fits ty h.0.0 v h.0.1)),
            r.1,
          ),
        )

    -- ---- the entry

    -- the entry begins
    entry_begins : (entry : Key) (args : List Value) → AreArguments heap entry args → (m : MemberAt)
        → member_of classes entry ≡ Some m → is_static_method classes m ≡ true
        → (given : Option VType) × Begins classes all given entry args
    entry_begins entry args right m found method = (
      result_of env,
      begins_with classes all entry env
          (subst (λ (k : Key). Environs classes k env) key_is
          (method_environs classes t typed m p (member_there classes t (entry.name, entry.descriptor) m stands) code.0
          code.1))
          args
          (subst (λ (ts : List VType). NoTops env all ts × AllZip (FitsValue env all) ts args) (sym locals)
          (arguments_fit env refl p.method.ty.args args
          (subst (λ o. IfSome o (λ (ty : MethodType). AllZip (λ u v. (is_plain u ≡ true)
          × (is_value_of all u v ≡ true)) ty.args args)) read right))),
    ) where
      parts : ((is_method_at classes m ≡ true) × (is_static_member classes m ≡ true))
          × (not (is_of_library m.class) ≡ true)
      parts =
          let q = and_parts (is_method_at classes m && is_static_member classes m) (not (is_of_library m.class))
          method in
          (and_parts (is_method_at classes m) (is_static_member classes m) q.0, q.1)

      which : Member classes entry m
      which = member_is classes entry m found

      key_is : key_at classes m ≡ entry
      key_is = which.key

      stands : Stands classes (entry.name, entry.descriptor) m
      stands = which.stands

      own : (own : ℕ) × (m.class ≡ Prog own)
      own = by m.class refl where
        by : (c : ClassId) → m.class ≡ c → (own : ℕ) × (m.class ≡ Prog own)
        by (Prog n) e = (n, e)
        by (Lib id) e = absurd (never (is_of_library m.class) (ap is_of_library e) parts.1) where
          never : (b : Bool) → b ≡ true → not b ≡ true → ⊥
          never b q h = cc

      p : ProgramMethod classes t m
      p = program_method classes t own.0 m own.1 parts.0.0

      good : IsGoodMethod (is_interface p.class.flags.0) p.method
      good = good_method classes t m p

      static : is_static p.method.flags.0 ≡ true
      static = sym (method_flag classes t acc_static m p) ∙ parts.0.1

      code : (code : Code) × (p.method.code ≡ Some code)
      code = some_code p.method.code (good.body ∙ ap not (no_flags p.method.flags.0
          (static_concrete p.method.flags.0 static good.flags)
          (not-true (has acc_native p.method.flags.0) good.not_native)))

      env : Environment
      env = environment classes p.own p.class p.number p.method code.0

      locals : initial_locals p.class.name (is_static p.method.flags.0) p.method.name p.method.ty
          ≡ map vtype_of p.method.ty.args
      locals = ap (λ b. cond b [] (this_type p.class.name p.method.name ∷ []) ++ map vtype_of p.method.ty.args) static

      read : result_ok (read_method entry.descriptor) ≡ Some p.method.ty
      read = ap result_ok (read_method-only entry.descriptor p.method.ty (
        good.typed,
        sym (ap (λ (x : NameAndType). x.1) (method_named classes t m p))
            ∙ ap (λ (k : Key). k.descriptor) key_is,
      ))

    -- so the run begins with a state that fits
    pub start_fits : (entry : Key) → is_startable classes entry ≡ true → (args : List Value)
        → AreArguments heap entry args → Fits classes (start (view_of classes) entry heap args)
    start_fits entry startable args right = by (member_of classes entry) refl
        (and_parts _ (not (is_text entry.name (codes "<clinit>")))
        (and_parts (option_map_or (is_static_method classes) (member_of classes entry) false
        && not (is_text entry.name (codes "<clinit>"))) (are_plain_parameters entry.descriptor) startable).0).0
      where
        by : (o : Option MemberAt) → member_of classes entry ≡ o
            → option_map_or (is_static_method classes) o false ≡ true
            → Fits classes (start (view_of classes) entry heap args)
        by None e h = absurd cc
        by (Some m) e h =
            let b = entry_begins entry args right m e h in
            record { world = world_fits; control = (b.0, b.1, tt) }
