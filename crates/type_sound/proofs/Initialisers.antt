-- What initialises the classes of a set that is taken (JVMS 2.9, 4.7.2, 5.5), and that such a set is sound.
use Rattle.std.proofs.Common.{◌≡◌, ◌⊎◌, ◌<◌, ◌||◌, ◌++◌, ◌+◌, ⊎_elim, ℕ, not, Bool, true, false, cond}
use Rattle.std.proofs.Common.{List, [], ◌∷◌, length, map, Option, Some, None, slice_get, refl, sym, ap, subst, ◌∙◌}
use Rattle.std.proofs.Common.{arith, codes}
use Rattle.std.specs.Prelude.{◌==◌, IfSome, is_some}
use Rattle.std.specs.Result.{result_ok}
use Rattle.std.specs.List.{AllZip, list_all}
use Rattle.std.specs.Option.{option_and_then, option_map, option_map_or}
use Rattle.std.proofs.lemmas.Bool.{and_parts, eqb-true, not-true}
use Rattle.std.proofs.lemmas.List.{length-map}
use Rattle.jv_base.specs.declared.types.Base.{Base}
use Rattle.jv_base.specs.declared.types.Base.TheVariants as base
use Rattle.jv_base.specs.declared.types.FieldType.{FieldType}
use Rattle.jv_base.proofs.FieldLaw.{read_field-only}
use Rattle.jv_base.proofs.Lists.{all_at, found_at, got_in_front, got_mapped, got_right}
use Rattle.class_model.specs.Attributes.{IsIntLike, IsPlain}
use Rattle.class_model.specs.Flags.{acc_abstract, acc_native, has, is_clinit}
use Rattle.class_model.specs.Flags.{is_interface, is_static}
use Rattle.class_model.specs.Frames.{base_vtype, initial_locals, this_type, vtype_of}
use Rattle.class_model.specs.WellFormed.{FitsField, IsGoodField, IsGoodMethod}
use Rattle.class_model.specs.declared.class.Class.{Class}
use Rattle.class_model.specs.declared.class.Field.{Field}
use Rattle.class_model.specs.declared.class.Method.{Method}
use Rattle.class_model.specs.declared.code.Code.{Code}
use Rattle.class_model.specs.declared.class.Constant.{Constant}
use Rattle.class_model.specs.declared.class.Constant.TheVariants as constant
use Rattle.class_model.specs.declared.frame.VType.{VType}
use Rattle.class_model.specs.declared.frame.VType.TheVariants as vtype
use Rattle.lib_table.specs.Library.{LibraryMember, library}
use Rattle.lib_table.specs.Lookups as table
use Rattle.class_pool.specs.Found.{MemberRow, NameAndType, declared_in, field_row, is_method_at, method_row, named_at}
use Rattle.class_pool.specs.Found.{row_at, rows_in}
use Rattle.class_pool.specs.Hierarchy.{IsClass, class_named}
use Rattle.class_pool.specs.bodies.Graph.{library_ids}
use Rattle.class_pool.specs.declared.id.ClassId.{ClassId}
use Rattle.class_pool.specs.declared.id.ClassId.TheVariants.{Prog, Lib}
use Rattle.class_pool.specs.declared.id.MemberAt.{MemberAt}
use Rattle.class_pool.proofs.Declaring.{declared_named}
use Rattle.jvm_model.specs.Heap.{Object, string}
use Rattle.jvm_model.specs.Types.{field_type}
use Rattle.jvm_model.specs.Value.{Int, Key, Lit, Long, Value}
use Rattle.set_view.specs.ViewOf.{constant_at, key_at, shape_of, value_of}
use Rattle.type_verifier.specs.Assignable.{class_type}
use Rattle.type_verifier.specs.Environment.{Environment}
use Rattle.type_verifier.specs.Verified.{AreTyped, environment}
use Rattle.fit_laws.specs.Frames.{Begins, result_of}
use Rattle.fit_laws.specs.Sound.{IsSound}
use Rattle.fit_laws.specs.Values.{FitsKey, FitsKnown, FitsType, FitsValue}
use Rattle.fit_laws.proofs.Arguments.{NoTops}
use Rattle.fit_laws.proofs.Beginning.{begins_with}
use Rattle.image_laws.specs.TakenSet.TakenSet.{IsTaken}
use Rattle.image_laws.proofs.TakenSet.Members.{row_parts}
use Rattle.image_laws.proofs.ViewImage.Standing.{Stands, class_there}
use Rattle.type_sound.proofs.Flags.{no_flags, static_concrete}
use Rattle.type_sound.proofs.LibraryClasses.{has_library, held_class, string_at}
use Rattle.type_sound.proofs.Meanings.{means, super_held}
use Rattle.type_sound.proofs.Members.{ProgramMethod, good_method, is_method, member_there, method_environs}
use Rattle.type_sound.proofs.Members.{method_named}
use Rattle.type_sound.proofs.Members.{program_method}
use Rattle.type_sound.proofs.Chains.{below_itself}
use Rattle.type_sound.proofs.Order.{ordered}
use Rattle.type_sound.proofs.RowTable.{InTable, in_table, table_row}
use Rattle.type_sound.proofs.Selecting.{at_member, declared_class}

-- no member of the library initialises its class
rows_plain : list_all (λ id. list_all (λ (m : LibraryMember). not (is_clinit m.name)) (table.class_at id).members)
    library_ids ≡ true
unfolding library
rows_plain = refl

both : (b : Bool) → b ≡ false → b ≡ true → ⊥
both b e f = cc

pub some_code : (o : Option Code) → is_some o ≡ true → (code : Code) × (o ≡ Some code)
some_code None h = absurd cc
some_code (Some code) h = (code, refl)

no_arguments : (ts : List FieldType) → (length ts == 0) ≡ true → ts ≡ []
no_arguments [] h = refl
no_arguments (ty ∷ ts) h = absurd (let q = eqb-true (length (ty ∷ ts)) 0 h in omega (arith, q))

module _ (classes : List Class) (t : IsTaken classes) (typed : AreTyped classes) where
  -- ---- class initialisation methods

  abbrev pub initialiser : NameAndType
  initialiser = (codes "<clinit>", codes "()V")

  -- one that is declared begins without arguments (JVMS 2.9)
  begins_class : (m : MemberAt) → Stands classes initialiser m → (own : ℕ) → m.class ≡ Prog own → (heap : List Object)
      → (given : Option VType) × Begins classes heap given (key_at classes m) []
  begins_class m stands own in_class heap = (
    result_of env,
    begins_with classes heap (key_at classes m) env
        (method_environs classes t typed m p (member_there classes t initialiser m stands) code.0 code.1) []
        (subst (λ (ts : List VType). NoTops env heap ts × AllZip (FitsValue env heap) ts []) (sym none) (tt, tt)),
  ) where
    p : ProgramMethod classes t m
    p = program_method classes t own m in_class (is_method classes t initialiser m stands refl)

    good : IsGoodMethod (is_interface p.class.flags.0) p.method
    good = good_method classes t m p

    named : is_clinit p.method.name ≡ true
    named = sym (ap (λ (x : NameAndType). is_clinit x.0) (method_named classes t m p))
        ∙ ap (λ (x : NameAndType). is_clinit x.0) (declared_named classes initialiser m.class m stands)

    told : (a b : Bool) → a ≡ true → (not a || b) ≡ true → b ≡ true
    told true b e h = h
    told false b e h = absurd cc

    static : is_static p.method.flags.0 ≡ true
    static = told (is_clinit p.method.name) (is_static p.method.flags.0) named
        (and_parts _ (not (is_clinit p.method.name) || is_static p.method.flags.0) good.initial_flags).1

    concrete : has acc_abstract p.method.flags.0 ≡ false
    concrete = static_concrete p.method.flags.0 static good.flags

    code : (code : Code) × (p.method.code ≡ Some code)
    code = some_code p.method.code (good.body ∙ ap not (no_flags p.method.flags.0 concrete
        (not-true (has acc_native p.method.flags.0) good.not_native)))

    args : p.method.ty.args ≡ []
    args = no_arguments p.method.ty.args (told (is_clinit p.method.name) (length p.method.ty.args == 0) named
        (and_parts _ (not (is_clinit p.method.name) || length p.method.ty.args == 0) good.initial_type).1)

    env : Environment
    env = environment classes p.own p.class p.number p.method code.0

    none : initial_locals p.class.name (is_static p.method.flags.0) p.method.name p.method.ty ≡ []
    none = ap (λ b. cond b [] (this_type p.class.name p.method.name ∷ []) ++ map vtype_of p.method.ty.args) static
        ∙ ap (map vtype_of) args

  clinit_begins : (class : List ℕ) (k : Key) → (shape_of classes).clinit class ≡ Some k → (heap : List Object)
      → (given : Option VType) × Begins classes heap given k []
  clinit_begins class k e heap = by (class_named classes class) e where
    in_class : (c : ClassId) (m : MemberAt) → Stands classes initialiser m → m.class ≡ c
        → (given : Option VType) × Begins classes heap given (key_at classes m) []
    in_class (Prog own) m stands q = begins_class m stands own q heap
    in_class (Lib id) m stands q = absurd (none (is_clinit f.member.name) named (at_member classes t
        (λ i (x : LibraryMember). not (is_clinit x.name)) rows_plain id m.index
        (subst (IsClass classes) q (class_there classes initialiser m.class m stands)) f))
      where
        same : m ≡ record { class = Lib id; index = m.index }
        same = ap (λ c. record { class = c; index = m.index }) q

        f : InTable id m.index
        f = in_table classes id m.index
            (subst (λ z. is_method_at classes z ≡ true) same (is_method classes t initialiser m stands refl))

        named : is_clinit f.member.name ≡ true
        named = sym (ap (λ o. is_clinit (option_map_or (λ (r : MemberRow). r.named) o ([], [])).0)
            (table_row classes id m.index f))
            ∙ ap (λ z. is_clinit (named_at classes z).0) (sym same)
            ∙ ap (λ (x : NameAndType). is_clinit x.0) (declared_named classes initialiser m.class m stands)

        none : (b : Bool) → b ≡ true → not b ≡ true → ⊥
        none b p h = cc

    at : (c : ClassId) (o : Option MemberAt) → declared_in classes initialiser c ≡ o
        → option_map (key_at classes) o ≡ Some k → (given : Option VType) × Begins classes heap given k []
    at c None q h = absurd cc
    at c (Some m) q h =
        let same = declared_class classes t initialiser c m q in
        let r = in_class c m (ap (declared_in classes initialiser) same ∙ q) same in
        (r.0, subst (λ (z : Key). Begins classes heap r.0 z []) (one (key_at classes m) k h) r.1)
      where
        one : (x y : Key) → Some x ≡ Some y → x ≡ y
        one x y z = cc

    by : (o : Option ClassId)
        → option_map (key_at classes) (option_map_or (declared_in classes initialiser) o None) ≡ Some k
        → (given : Option VType) × Begins classes heap given k []
    by None h = absurd cc
    by (Some c) h = at c (declared_in classes initialiser c) refl h

  -- ---- constants

  plain_type : (ty : FieldType) (b : Base) → IsPlain b ty → vtype_of ty ≡ base_vtype (record { dims = 0; base = b }) b
  plain_type ty b h = ap vtype_of (let same : ty ≡ record { dims = 0; base = b } =
      λ i. record { dims = h.0 i; base = h.1 i } in same)

  string_held : (heap : List Object) (units : List ℕ)
      → FitsKnown classes heap (vtype.Object (class_type string)) (Lit units)
  string_held heap units = held_class classes t string string (Lib 6) (Lib 6) (string_at classes t)
      (string_at classes t)
      (below_itself classes t (Lib 6))

  constant_fits : (heap : List Object) (ty : FieldType) (c : Constant) → FitsField ty c
      → FitsType classes heap ty (value_of c)
  constant_fits heap ty (constant.Int n) f = subst (λ (v : VType). FitsKnown classes heap v (Int n)) (sym (int_like f))
      (n, refl)
    where
      int_like : IsIntLike ty → vtype_of ty ≡ vtype.Int
      int_like = ⊎_elim (λ p. plain_type ty base.Int p) (⊎_elim (λ p. plain_type ty base.Short p)
          (⊎_elim (λ p. plain_type ty base.Char p) (⊎_elim (λ p. plain_type ty base.Byte p)
          (λ p. plain_type ty base.Boolean p))))
  constant_fits heap ty (constant.Long n) f =
      subst (λ (v : VType). FitsKnown classes heap v (Long n)) (sym (plain_type ty base.Long f)) (n, refl)
  constant_fits heap ty (constant.Text units) f =
      subst (λ (v : VType). FitsKnown classes heap v (Lit units))
      (sym (plain_type ty (base.Class (codes "java/lang/String")) f.0)) (string_held heap units)

  -- a constant that a field has is of its type
  field_constant : (heap : List Object) (own : ℕ) (index : ℕ) (text : List ℕ) (v : Value)
      → (row : MemberRow) → row_at classes (record { class = Prog own; index = index }) ≡ Some row → row.named.1 ≡ text
      → option_map value_of (constant_at classes (record { class = Prog own; index = index })) ≡ Some v
      → IfSome (field_type text) (λ ty. FitsType classes heap ty v)
  field_constant heap own index text v row there named e = by (slice_get classes own) refl there e where
    good : (c : Class) → slice_get classes own ≡ Some c → (k : ℕ) (f : Field) → slice_get c.fields k ≡ Some f
        → IsGoodField (is_interface c.flags.0) f
    good c at k f is = all_at (IsGoodField (is_interface c.flags.0)) c.fields k f (t.formed own c at).fields is

    of_field : (inside : Bool) (f : Field) → IsGoodField inside f → row ≡ field_row f
        → option_map value_of f.constant ≡ Some v → IfSome (field_type text) (λ ty. FitsType classes heap ty v)
    of_field inside f g q h = by f.constant g.constant h where
      read : field_type text ≡ Some f.ty
      read = ap result_ok (read_field-only text f.ty
          (g.typed, sym (ap (λ (r : MemberRow). r.named.1) q) ∙ named))

      by : (o : Option Constant) → IfSome o (λ c. (is_static f.flags.0 ≡ true) × FitsField f.ty c)
          → option_map value_of o ≡ Some v → IfSome (field_type text) (λ ty. FitsType classes heap ty v)
      by None p k = absurd cc
      by (Some c) p k = subst (λ o. IfSome o (λ ty. FitsType classes heap ty v)) (sym read)
          (subst (FitsType classes heap f.ty) (one (value_of c) v k) (constant_fits heap f.ty c p.1))
        where
          one : (x y : Value) → Some x ≡ Some y → x ≡ y
          one x y z = cc

    told : (c : Class) → slice_get classes own ≡ Some c
        → ((f : Field) × (slice_get c.fields index ≡ Some f) × (row ≡ field_row f))
        ⊎ ((j : ℕ) × (m : Method) × (index ≡ length c.fields + j) × (slice_get c.methods j ≡ Some m)
        × (row ≡ method_row m))
        → option_map value_of (option_and_then (λ x. x)
        (slice_get (map (λ (f : Field). f.constant) c.fields ++ map (λ (m : Method). None) c.methods) index)) ≡ Some v
        → IfSome (field_type text) (λ ty. FitsType classes heap ty v)
    told c at parts h = ⊎_elim
        (λ f. of_field (is_interface c.flags.0) f.0 (good c at index f.0 f.1) f.2
        (sym (ap (λ o. option_map value_of (option_and_then (λ x. x) o))
        (got_in_front (map (λ (g : Field). g.constant) c.fields) (map (λ (m : Method). None) c.methods) index
        f.0.constant (got_mapped (λ (g : Field). g.constant) c.fields index f.0 f.1))) ∙ h))
        (λ m. absurd (no_constant m.0 m.1 m.2 m.3))
        parts
      where
        no_constant : (j : ℕ) (m : Method) → index ≡ length c.fields + j → slice_get c.methods j ≡ Some m → ⊥
        no_constant j m at_index is = none (sym
            (ap (λ o. option_map value_of (option_and_then (λ x. x) o))
            (ap (slice_get (map (λ (f : Field). f.constant) c.fields ++ map (λ (z : Method). None) c.methods))
            (at_index ∙ ap (λ n. n + j) (sym (length-map c.fields (λ (f : Field). f.constant))))
            ∙ got_right (map (λ (f : Field). f.constant) c.fields) (map (λ (z : Method). None) c.methods) j
            ∙ got_mapped (λ (z : Method). None) c.methods j m is)) ∙ h)
          where
            none : None ≡ Some v → ⊥
            none q = cc

    by : (o : Option Class) → slice_get classes own ≡ o
        → slice_get (option_map_or (λ (c : Class). map field_row c.fields ++ map method_row c.methods) o []) index
        ≡ Some row
        → option_map value_of (option_and_then (λ (c : Class). option_and_then (λ x. x)
        (slice_get (map (λ (f : Field). f.constant) c.fields ++ map (λ (m : Method). None) c.methods) index)) o)
        ≡ Some v
        → IfSome (field_type text) (λ ty. FitsType classes heap ty v)
    by None at q h = absurd cc
    by (Some c) at q h = told c at (row_parts c.fields c.methods index row q) h

  constants_fit : (heap : List Object) (k : Key) (v : Value) → (shape_of classes).constant k ≡ Some v
      → FitsKey classes heap k v
  constants_fit heap k v e = by (class_named classes k.class) e where
    none_some : {A : Type 0} (x : A) → None ≡ Some x → ⊥
    none_some x q = cc

    in_class : (c : ClassId) (index : ℕ) → Stands classes (k.name, k.descriptor) (record { class = c; index = index })
        → option_map value_of (constant_at classes (record { class = c; index = index })) ≡ Some v
        → FitsKey classes heap k v
    in_class (Lib id) index stands h = absurd (none_some v h)
    in_class (Prog own) index stands h = row (row_at classes (record { class = Prog own; index = index })) refl
        (member_there classes t (k.name, k.descriptor) (record { class = Prog own; index = index }) stands).1
      where
        row : (o : Option MemberRow) → row_at classes (record { class = Prog own; index = index }) ≡ o
            → index < length (rows_in classes (Prog own)) → FitsKey classes heap k v
        row None q low = absurd (let r = found_at (rows_in classes (Prog own)) index low in
            none_some r.0 (sym q ∙ r.1))
        row (Some r) q low = field_constant heap own index k.descriptor v r q
            (sym (ap (λ o. (option_map_or (λ (x : MemberRow). x.named) o ([], [])).1) q)
            ∙ ap (λ (x : NameAndType). x.1)
            (declared_named classes (k.name, k.descriptor) (Prog own)
            (record { class = Prog own; index = index }) stands)) h

    at : (c : ClassId) (o : Option MemberAt) → declared_in classes (k.name, k.descriptor) c ≡ o
        → option_map value_of (option_and_then (constant_at classes) o) ≡ Some v → FitsKey classes heap k v
    at c None q h = absurd (none_some v h)
    at c (Some m) q h = in_class m.class m.index
        (ap (declared_in classes (k.name, k.descriptor))
        (declared_class classes t (k.name, k.descriptor) c m q) ∙ q) h

    by : (o : Option ClassId)
        → option_map value_of (option_and_then (constant_at classes)
        (option_and_then (declared_in classes (k.name, k.descriptor)) o)) ≡ Some v
        → FitsKey classes heap k v
    by None h = absurd (none_some v h)
    by (Some c) h = at c (declared_in classes (k.name, k.descriptor) c) refl h

  -- ---- all of it

  pub sound : IsSound classes
  sound = record {
    ordered = ordered classes t;
    library = has_library classes t;
    initialisers = record { clinit = clinit_begins; constants = constants_fit };
    super = λ k env is. super_held classes t typed k env is;
    meaning = λ k env is n i at. means classes t typed k env is n i at;
  }
