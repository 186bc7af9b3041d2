-- What is answered under new names.
use Rattle.std.proofs.Common.{ℕ, zero, suc, ◌+◌, List, [], ◌∷◌, ◌++◌, length, Option, Some, None, Bool, true, false}
use Rattle.std.proofs.Common.{◌≡◌, ◌⊎◌}
use Rattle.std.proofs.Common.{inl, inr, refl, sym, ap, ◌∙◌, subst}
use Rattle.std.specs.Prelude.{ℤ, pos, negsuc, codes, option_map, ◌*◌, ◌==◌, ◌||◌, map, replicate, slice_get, slice_set}
use Rattle.std.specs.Prelude.{int_lt, nat_lt, unsigned_abs, if◌then◌else◌}
use Rattle.std.specs.List.{AllZip, list_any, range_with_len}
use Rattle.std.specs.Option.{option_and_then}
use Rattle.std.proofs.lemmas.Slice.Zip.{AllZip-long}
use Rattle.std.proofs.lemmas.List.Elements.{AllZip-push}
use Rattle.jv_base.specs.Names.{is_text}
use Rattle.jv_base.specs.declared.types.Base.{Base}
use Rattle.jv_base.specs.declared.types.Base.TheVariants as base
use Rattle.jv_base.specs.declared.types.FieldType.{FieldType}
use Rattle.class_model.specs.declared.op.Elem.{Elem}
use Rattle.class_model.specs.declared.op.Elem.TheVariants as elem
use Rattle.class_model.specs.declared.op.Kind.TheVariants as kind
use Rattle.class_model.specs.declared.op.MemberRef.{MemberRef}
use Rattle.lib_table.specs.Library.{object, serializable}
use Rattle.jvm_model.specs.Answers.{Answer, Gives, Raises, Begins, Awaits, NoAnswer, of_some, once, once_initialised}
use Rattle.jvm_model.specs.Arrays.{arrays_from, at_index, blank_array, get_in, if_storable, length_in, new_array}
use Rattle.jvm_model.specs.Arrays.{new_arrays}
use Rattle.jvm_model.specs.Arrays.{on_array, put_in, put_value}
use Rattle.jvm_model.specs.Calls.{acted, all_seen, call_selected, call_special, called, called_static, on_receiver}
use Rattle.jvm_model.specs.Calls.{seen_operand}
use Rattle.jvm_model.specs.Calls.{seen_object, set_builder, set_thrown, target_on}
use Rattle.jvm_model.specs.Casts.{cast, instance_of}
use Rattle.jvm_model.specs.Exceptions.{Exception, Arithmetic, NullPointer, ArrayIndex, NegativeSize, ArrayStore}
use Rattle.jvm_model.specs.Exceptions.{ClassCast}
use Rattle.jvm_model.specs.Exceptions.{TextIndex, NoClassDef, InInitializer, IncompatibleChange, IllegalAccess}
use Rattle.jvm_model.specs.Exceptions.{AbstractMethod, exception_class}
use Rattle.jvm_model.specs.Fields.{blank, fresh, get_field, get_from, get_static, put_on_heap, new, put_field, put_into}
use Rattle.jvm_model.specs.Fields.{put_static}
use Rattle.jvm_model.specs.Fields.{stored_in}
use Rattle.jvm_model.specs.Heap.{Array, Begun, Builder, Failed, Fresh, Init, Instance, Object, Ready, Str, World}
use Rattle.jvm_model.specs.Heap.{class_of}
use Rattle.jvm_model.specs.Heap.{newest, object_of, string, string_builder, type_of, with_new, with_object}
use Rattle.jvm_model.specs.Instructions.{Request, Known, Raise, GetStatic, PutStatic, GetField, PutField, CallStatic}
use Rattle.jvm_model.specs.Instructions.{CallSpecial, CallVirtual, CallInterface, New, NewArray, NewArrays, ArrayLength}
use Rattle.jvm_model.specs.Instructions.{GetAt, PutAt, Cast, Test}
use Rattle.jvm_model.specs.Library.{Act, Returns, MakesString, SetsBuilder, SetsThrown, Writes, Throws, NoAct, Row}
use Rattle.jvm_model.specs.Library.{Seen, act}
use Rattle.jvm_model.specs.Mapped.{Mapping, OptionCorr, ShapeMap, TargetMap, is_own_class}
use Rattle.jvm_model.specs.Program.{Fails, Library, Program, Shape, Target}
use Rattle.jvm_model.specs.Requests.{answer}
use Rattle.jvm_model.specs.Same.{ObjectCorr, WorldCorr, base_name, type_name}
use Rattle.jvm_model.specs.Stack.{◌>>=◌}
use Rattle.jvm_model.specs.Types.{array_of, class_type, component_of, default_of, is_above_arrays, is_array_below}
use Rattle.jvm_model.specs.Types.{is_base_below, is_component, is_component_base, is_reference_elem, is_type_below}
use Rattle.jvm_model.specs.Types.{kind_of}
use Rattle.jvm_model.specs.Types.{kind_of_base, narrowed, same_primitive, stored}
use Rattle.jvm_model.specs.Value.{Key, Value, Int, Long, Null, Ref, Lit, set_key, truth}
use Rattle.jvm_model.proofs.Asking.{request_map}
use Rattle.jvm_model.proofs.Compose.{mapped_some}
use Rattle.jvm_model.proofs.Keys.{set_key_agrees, texts_agree, zip_append, zip_get, zip_map, zip_replicate, zip_set}

module _ (m : Mapping) (p q : Shape) (is : ShapeMap m p q) where
  abbrev pub ClassCorr : List ℕ → List ℕ → Type 0
  ClassCorr c d = m.names.class c ≡ Some d

  abbrev pub Worlds : World → World → Type 0
  Worlds a b = WorldCorr m.names a b

  abbrev pub Objects : Object → Object → Type 0
  Objects = ObjectCorr m.names

  abbrev Typed : FieldType → FieldType → Type 0
  Typed t u = type_name m.names t ≡ Some u

  abbrev pub AnswerMap : Answer → Answer → Type 0
  AnswerMap (Gives o w) b = (u : World) × (b ≡ Gives o u) × Worlds w u
  AnswerMap (Raises e) b = b ≡ Raises e
  AnswerMap (Begins k args) b = (l : Key) × (b ≡ Begins l args) × (m.names.method k ≡ Some l)
  AnswerMap (Awaits c) b = (d : List ℕ) × (b ≡ Awaits d) × ClassCorr c d
  AnswerMap NoAnswer b = Unit {0}

  of_some_map : {A B : Type 0} (R : A → B → Type 0) (f : A → Answer) (g : B → Answer) (x : Option A) (y : Option B)
      → OptionCorr R x y → ((a : A) (b : B) → R a b → AnswerMap (f a) (g b)) → AnswerMap (of_some f x) (of_some g y)
  of_some_map R f g None y h k = tt
  of_some_map R f g (Some a) y h k = subst (λ z. AnswerMap (f a) (of_some g z)) (sym h.1) (k a h.0 h.2)

  -- ---- types

  class_typed : (c d : List ℕ) → ClassCorr c d → Typed (class_type c) (class_type d)
  class_typed c d e = ap (λ o. option_map (λ b. record { dims = 0; base = b }) (option_map base.Class o)) e

  array_typed : (t u : FieldType) → Typed t u → Typed (array_of t) (array_of u)
  array_typed t u e =
      let y = mapped_some (λ b. record { dims = t.dims; base = b }) (base_name m.names t.base) u e in
      ap (option_map (λ b. record { dims = t.dims + 1; base = b })) y.1 ∙ ap (λ z. Some (array_of z)) (sym y.2)

  component_typed : (t u : FieldType) → Typed t u → Typed (component_of t) (component_of u)
  component_typed t u e =
      let y = mapped_some (λ b. record { dims = t.dims; base = b }) (base_name m.names t.base) u e in
      ap (option_map (λ (b : Base). component_of (record { dims = t.dims; base = b }))) y.1
      ∙ ap (λ z. Some (component_of z)) (sym y.2)

  abbrev Based : Base → Base → Type 0
  Based a b = base_name m.names a ≡ Some b

  -- what is told of a type by its base
  based : {A : Type 0} (f : FieldType → A) (t u : FieldType) → Typed t u
      → ((b : Base) → Based t.base b → f (record { dims = t.dims; base = b }) ≡ f t) → f u ≡ f t
  based f t u e h =
      let y = mapped_some (λ b. record { dims = t.dims; base = b }) (base_name m.names t.base) u e in
      ap f y.2 ∙ h y.0 y.1

  abbrev is_primitive : Base → Bool
  is_primitive (base.Class c) = false
  is_primitive _ = true

  -- a primitive type stays, and a class has its new name
  abbrev BaseCase : Base → Base → Type 0
  BaseCase a b = ((c : List ℕ) × (d : List ℕ) × (a ≡ base.Class c) × (b ≡ base.Class d) × ClassCorr c d)
      ⊎ ((b ≡ a) × (is_primitive a ≡ true))

  base_case : (a b : Base) → Based a b → BaseCase a b
  base_case (base.Class c) b e = let y = mapped_some base.Class (m.names.class c) b e in inl (c, y.0, refl, y.2, y.1)
  base_case base.Boolean b e = let e' : b ≡ base.Boolean = cc in inr (e', refl)
  base_case base.Byte b e = let e' : b ≡ base.Byte = cc in inr (e', refl)
  base_case base.Char b e = let e' : b ≡ base.Char = cc in inr (e', refl)
  base_case base.Short b e = let e' : b ≡ base.Short = cc in inr (e', refl)
  base_case base.Int b e = let e' : b ≡ base.Int = cc in inr (e', refl)
  base_case base.Long b e = let e' : b ≡ base.Long = cc in inr (e', refl)
  base_case base.Float b e = let e' : b ≡ base.Float = cc in inr (e', refl)
  base_case base.Double b e = let e' : b ≡ base.Double = cc in inr (e', refl)

  -- what is the same of all classes is the same of both
  base_same : {A : Type 0} (f : Base → A) → ((c d : List ℕ) → f (base.Class d) ≡ f (base.Class c)) → (a b : Base)
      → BaseCase a b → f b ≡ f a
  base_same f h a b (inl x) = ap f x.3 ∙ h x.0 x.1 ∙ ap f (sym x.2)
  base_same f h a b (inr x) = ap f x.0

  kind_same : (t u : FieldType) → Typed t u → kind_of u ≡ kind_of t
  kind_same t u e = based kind_of t u e
      (λ b h. ap (λ k. if t.dims == 0 then k else kind.Ref)
      (base_same kind_of_base (λ c d. refl) t.base b (base_case _ _ h)))

  component_base_same : (k : Elem) (c d : List ℕ) → is_component_base k (base.Class d)
      ≡ is_component_base k (base.Class c)
  component_base_same elem.Int c d = refl
  component_base_same elem.Long c d = refl
  component_base_same elem.Ref c d = refl
  component_base_same elem.Byte c d = refl
  component_base_same elem.Char c d = refl
  component_base_same elem.Short c d = refl

  component_same : (k : Elem) (t u : FieldType) → Typed t u → is_component k u ≡ is_component k t
  component_same k t u e = based (is_component k) t u e
      (λ b h. ap (λ x. if t.dims == 0 then x else is_reference_elem k)
      (base_same (is_component_base k) (component_base_same k) t.base b (base_case _ _ h)))

  stored_same : (v : Value) (t u : FieldType) → Typed t u → stored u v ≡ stored t v
  stored_same (Int z) t u e = based (λ x. stored x (Int z)) t u e
      (λ b h. ap (λ x. Int (if t.dims == 0 then x else z))
      (base_same (λ x. narrowed x z) (λ c d. refl) t.base b (base_case _ _ h)))
  stored_same (Long z) t u e = refl
  stored_same Null t u e = refl
  stored_same (Ref n) t u e = refl
  stored_same (Lit x) t u e = refl

  -- ---- subtypes

  own_same : (c d o : List ℕ) → ClassCorr c d → is_own_class o ≡ true → is_text d o ≡ is_text c o
  own_same c d o e h = texts_agree m.names.class is.one_class c d o o e (is.own_class o h)

  above_arrays_same : (c d : List ℕ) → ClassCorr c d → is_above_arrays (base.Class d) ≡ is_above_arrays (base.Class c)
  above_arrays_same c d e = λ i.
      own_same c d object e refl i
      || (own_same c d (codes "java/lang/Cloneable") e refl i || (own_same c d serializable e refl i || false))

  above_same : (a b : Base) → BaseCase a b → is_above_arrays b ≡ is_above_arrays a
  above_same a b (inl x) = ap is_above_arrays x.3 ∙ above_arrays_same x.0 x.1 x.4 ∙ ap is_above_arrays (sym x.2)
  above_same a b (inr x) = ap is_above_arrays x.0

  primitive_first : (f : List ℕ → List ℕ → Bool) (a b : Base) → is_primitive a ≡ true
      → is_base_below f a b ≡ same_primitive a b
  primitive_first f (base.Class c) b e = absurd cc
  primitive_first f base.Boolean b e = refl
  primitive_first f base.Byte b e = refl
  primitive_first f base.Char b e = refl
  primitive_first f base.Short b e = refl
  primitive_first f base.Int b e = refl
  primitive_first f base.Long b e = refl
  primitive_first f base.Float b e = refl
  primitive_first f base.Double b e = refl

  primitive_last : (f : List ℕ → List ℕ → Bool) (c : List ℕ) (b : Base) → is_primitive b ≡ true
      → is_base_below f (base.Class c) b ≡ false
  primitive_last f c (base.Class d) e = absurd cc
  primitive_last f c base.Boolean e = refl
  primitive_last f c base.Byte e = refl
  primitive_last f c base.Char e = refl
  primitive_last f c base.Short e = refl
  primitive_last f c base.Int e = refl
  primitive_last f c base.Long e = refl
  primitive_last f c base.Float e = refl
  primitive_last f c base.Double e = refl

  no_class : (a : Base) (c : List ℕ) → is_primitive a ≡ true → same_primitive a (base.Class c) ≡ false
  no_class (base.Class d) c e = absurd cc
  no_class base.Boolean c e = refl
  no_class base.Byte c e = refl
  no_class base.Char c e = refl
  no_class base.Short c e = refl
  no_class base.Int c e = refl
  no_class base.Long c e = refl
  no_class base.Float c e = refl
  no_class base.Double c e = refl

  below_base : (a a' b b' : Base) → BaseCase a a' → BaseCase b b'
      → is_base_below q.is_sub a' b' ≡ is_base_below p.is_sub a b
  below_base a a' b b' (inl x) (inl y) =
      (λ i. is_base_below q.is_sub (x.3 i) (y.3 i)) ∙ is.is_sub x.0 y.0 x.1 y.1 x.4 y.4
      ∙ (λ i. is_base_below p.is_sub (sym x.2 i) (sym y.2 i))
  below_base a a' b b' (inl x) (inr y) =
      (λ i. is_base_below q.is_sub (x.3 i) (y.0 i)) ∙ primitive_last q.is_sub x.1 b y.1
      ∙ sym (primitive_last p.is_sub x.0 b y.1) ∙ ap (λ z. is_base_below p.is_sub z b) (sym x.2)
  below_base a a' b b' (inr x) (inl y) =
      (λ i. is_base_below q.is_sub (x.0 i) (y.3 i)) ∙ primitive_first q.is_sub a (base.Class y.1) x.1
      ∙ no_class a y.1 x.1 ∙ sym (no_class a y.0 x.1) ∙ sym (primitive_first p.is_sub a (base.Class y.0) x.1)
      ∙ ap (is_base_below p.is_sub a) (sym y.2)
  below_base a a' b b' (inr x) (inr y) =
      (λ i. is_base_below q.is_sub (x.0 i) (y.0 i)) ∙ primitive_first q.is_sub a b x.1
      ∙ sym (primitive_first p.is_sub a b x.1)

  below_array : (k : ℕ) (a a' : Base) (n : ℕ) (b b' : Base) → BaseCase a a' → BaseCase b b'
      → is_array_below q.is_sub k a' n b' ≡ is_array_below p.is_sub k a n b
  below_array (suc k) a a' (suc n) b b' x y = below_array k a a' n b b' x y
  below_array (suc k) a a' zero b b' x y = above_same b b' y
  below_array zero a a' (suc n) b b' x y = refl
  below_array zero a a' zero b b' x y = below_base a a' b b' x y

  below_same : (s s' t t' : FieldType) → Typed s s' → Typed t t' → is_type_below q.is_sub s' t'
      ≡ is_type_below p.is_sub s t
  below_same s s' t t' e f =
      let x = mapped_some (λ b. record { dims = s.dims; base = b }) (base_name m.names s.base) s' e in
      let y = mapped_some (λ b. record { dims = t.dims; base = b }) (base_name m.names t.base) t' f in
      (λ i. is_type_below q.is_sub (x.2 i) (y.2 i))
      ∙ below_array s.dims s.base x.0 t.dims t.base y.0 (base_case _ _ x.1) (base_case _ _ y.1)

  type_same : (x y : Object) → Objects x y → Typed (type_of x) (type_of y)
  type_same (Instance c fs k z) y r = subst (λ o. Typed (class_type c) (type_of o)) (sym r.2) (class_typed c r.0 r.3)
  type_same (Array t vs) y r = subst (λ o. Typed (array_of t) (type_of o)) (sym r.1) (array_typed t r.0 r.2)
  type_same (Str u) y r =
      subst (λ o. Typed (class_type string) (type_of o)) (sym r) (class_typed string string (is.own_class string refl))
  type_same (Builder u) y r = subst (λ o. Typed (class_type string_builder) (type_of o)) (sym r)
      (class_typed string_builder string_builder (is.own_class string_builder refl))

  pub class_same : (x y : Object) → Objects x y → ClassCorr (class_of x) (class_of y)
  class_same (Instance c fs k z) y r = subst (λ o. ClassCorr c (class_of o)) (sym r.2) r.3
  class_same (Array t vs) y r = subst (λ o. ClassCorr object (class_of o)) (sym r.1) (is.own_class object refl)
  class_same (Str u) y r = subst (λ o. ClassCorr string (class_of o)) (sym r) (is.own_class string refl)
  class_same (Builder u) y r =
      subst (λ o. ClassCorr string_builder (class_of o)) (sym r) (is.own_class string_builder refl)

  pub exception_same : (e : Exception) → ClassCorr (exception_class e) (exception_class e)
  exception_same Arithmetic = is.own_class (exception_class Arithmetic) refl
  exception_same NullPointer = is.own_class (exception_class NullPointer) refl
  exception_same ArrayIndex = is.own_class (exception_class ArrayIndex) refl
  exception_same NegativeSize = is.own_class (exception_class NegativeSize) refl
  exception_same ArrayStore = is.own_class (exception_class ArrayStore) refl
  exception_same ClassCast = is.own_class (exception_class ClassCast) refl
  exception_same TextIndex = is.own_class (exception_class TextIndex) refl
  exception_same NoClassDef = is.own_class (exception_class NoClassDef) refl
  exception_same InInitializer = is.own_class (exception_class InInitializer) refl
  exception_same IncompatibleChange = is.own_class (exception_class IncompatibleChange) refl
  exception_same IllegalAccess = is.own_class (exception_class IllegalAccess) refl
  exception_same AbstractMethod = is.own_class (exception_class AbstractMethod) refl

  -- an object with default values
  pub instance_same : (c d : List ℕ) → ClassCorr c d → (k z : Value)
      → Objects (Instance c blank k z) (Instance d blank k z)
  instance_same c d e k z = (d, blank, refl, e, is.field_default)

  fresh_by : (c d : List ℕ) → ClassCorr c d → (x : Bool)
      → Objects (if x then Builder [] else Instance c blank Null Null)
      (if x then Builder [] else Instance d blank Null Null)
  fresh_by c d e true = refl
  fresh_by c d e false = instance_same c d e Null Null

  pub fresh_same : (c d : List ℕ) → ClassCorr c d → Objects (fresh c) (fresh d)
  fresh_same c d e =
      subst (λ x. Objects (fresh c) (if x then Builder [] else Instance d blank Null Null))
      (sym (own_same c d string_builder e refl)) (fresh_by c d e (is_text c string_builder))

  -- ---- worlds

  module _ (a b : World) (h : Worlds a b) where
    abbrev pub Heaps : Option Object → Option Object → Type 0
    Heaps = OptionCorr Objects

    pub heap_at : (n : ℕ) → Heaps (slice_get a.heap n) (slice_get b.heap n)
    heap_at n = zip_get Objects a.heap b.heap h.heap n

    object_at : (v : Value) → Heaps (object_of a v) (object_of b v)
    object_at (Ref n) = heap_at n
    object_at (Lit u) = (Str u, refl, refl)
    object_at (Int z) = refl
    object_at (Long z) = refl
    object_at Null = refl

    pub one_more : (x y : Object) → Objects x y → Worlds (with_new a x) (with_new b y)
    one_more x y r = record {
      heap = AllZip-push Objects a.heap b.heap x y h.heap r;
      statics = h.statics;
      inits = h.inits;
      printed = h.printed;
    }

    another : (n : ℕ) (x y : Object) → Objects x y → Worlds (with_object a n x) (with_object b n y)
    another n x y r = record {
      heap = zip_set Objects a.heap b.heap h.heap n x y r;
      statics = h.statics;
      inits = h.inits;
      printed = h.printed;
    }

    pub same_length : length b.heap ≡ length a.heap
    same_length = AllZip-long Objects a.heap b.heap h.heap

    made_map : (x y : Object) → Objects x y → AnswerMap (put_on_heap a x) (put_on_heap b y)
    made_map x y r = (_, ap (λ n. Gives (Some (Ref n)) (with_new b y)) same_length, one_more x y r)

    gives : (o : Option Value) → AnswerMap (Gives o a) (Gives o b)
    gives o = (b, refl, h)

    -- ---- initialisation

    once_by : (c d : List ℕ) → ClassCorr c d → (i : Init) (x y : Answer) → AnswerMap x y
        → AnswerMap (once i c x) (once i d y)
    once_by c d e Fresh x y k = (d, refl, e)
    once_by c d e Failed x y k = (d, refl, e)
    once_by c d e Begun x y k = k
    once_by c d e Ready x y k = k

    once_map : (c d : List ℕ) → ClassCorr c d → (x y : Answer) → AnswerMap x y
        → AnswerMap (once_initialised a c x) (once_initialised b d y)
    once_map c d e x y k =
        subst (λ i. AnswerMap (once_initialised a c x) (once i d y)) (sym (h.inits c d e))
        (once_by c d e (a.inits c) x y k)

    -- ---- fields

    abbrev FieldCorr : Key → Key → Type 0
    FieldCorr k l = m.names.field k ≡ Some l

    get_static_map : (k l : Key) → FieldCorr k l → AnswerMap (get_static a k) (get_static b l)
    get_static_map k l e =
        once_map _ _ (is.field_class k l e) _ _ (b, ap (λ u. Gives (Some u) b) (h.statics k l e), h)

    put_static_map : (v : Value) (k l : Key) → FieldCorr k l → AnswerMap (put_static a v k) (put_static b v l)
    put_static_map v k l e =
        once_map _ _ (is.field_class k l e) _ _ (
          record b { statics = set_key b.statics l (stored_in k v) },
          ap (λ u. Gives None (record b { statics = set_key b.statics l u })) (is.field_stored k l e v),
          record {
            heap = h.heap;
            inits = h.inits;
            printed = h.printed;
            statics = set_key_agrees m.names.field is.one_field a.statics b.statics h.statics k l e (stored_in k v);
          },
        )

    get_from_map : (k l : Key) → FieldCorr k l → (x y : Object) → Objects x y
        → AnswerMap (get_from a k x) (get_from b l y)
    get_from_map k l e (Instance c fs i z) y r =
        subst (λ o. AnswerMap (get_from a k (Instance c fs i z)) (get_from b l o)) (sym r.2)
        (b, ap (λ u. Gives (Some u) b) (r.4 k l e), h)
    get_from_map k l e _ y r = tt

    put_into_map : (n : ℕ) (v : Value) (k l : Key) → FieldCorr k l → (x y : Object) → Objects x y
        → AnswerMap (put_into a n v k x) (put_into b n v l y)
    put_into_map n v k l e (Instance c fs i z) y r =
        subst (λ o. AnswerMap (put_into a n v k (Instance c fs i z)) (put_into b n v l o)) (sym r.2) (
          with_object b n (Instance r.0 (set_key r.1 l (stored_in k v)) i z),
          ap (λ u. Gives None (with_object b n (Instance r.0 (set_key r.1 l u) i z))) (is.field_stored k l e v),
          another n _ _ (r.0, _, refl, r.3, set_key_agrees m.names.field is.one_field fs r.1 r.4 k l e (stored_in k v)),
        )
    put_into_map n v k l e _ y r = tt

    get_field_map : (v : Value) (k l : Key) → FieldCorr k l → AnswerMap (get_field a v k) (get_field b v l)
    get_field_map (Ref n) k l e = of_some_map Objects _ _ _ _ (heap_at n) (get_from_map k l e)
    get_field_map Null k l e = refl
    get_field_map _ k l e = tt

    put_field_map : (v u : Value) (k l : Key) → FieldCorr k l → AnswerMap (put_field a v u k) (put_field b v u l)
    put_field_map (Ref n) u k l e = of_some_map Objects _ _ _ _ (heap_at n) (put_into_map n u k l e)
    put_field_map Null u k l e = refl
    put_field_map _ u k l e = tt

    new_map : (c d : List ℕ) → ClassCorr c d → AnswerMap (new a c) (new b d)
    new_map c d e = once_map c d e _ _ (made_map _ _ (fresh_same c d e))

    -- ---- the library sees the same

    seen_object_same : (n : ℕ) (x y : Object) → Objects x y → seen_object n y ≡ seen_object n x
    seen_object_same n (Instance c fs i z) y r = ap (seen_object n) r.2
    seen_object_same n (Array t vs) y r = ap (seen_object n) r.1
    seen_object_same n (Str u) y r = ap (seen_object n) r
    seen_object_same n (Builder u) y r = ap (seen_object n) r

    seen_at : (n : ℕ) (x y : Option Object) → Heaps x y
        → option_and_then (λ o. Some (seen_object n o)) y ≡ option_and_then (λ o. Some (seen_object n o)) x
    seen_at n None y r = ap (option_and_then (λ o. Some (seen_object n o))) r
    seen_at n (Some x) y r =
        ap (option_and_then (λ o. Some (seen_object n o))) r.1 ∙ ap Some (seen_object_same n x r.0 r.2)

    seen_same : (v : Value) → seen_operand b v ≡ seen_operand a v
    seen_same (Ref n) = seen_at n _ _ (heap_at n)
    seen_same (Int z) = refl
    seen_same (Long z) = refl
    seen_same Null = refl
    seen_same (Lit t) = refl

    all_seen_same : (vs : List Value) → all_seen b vs ≡ all_seen a vs
    all_seen_same [] = refl
    all_seen_same (v ∷ vs) =
        ap (λ o. o >>= (λ x. all_seen b vs >>= (λ xs. Some (x ∷ xs)))) (seen_same v)
        ∙ ap (λ o. seen_operand a v >>= (λ x. o >>= (λ xs. Some (x ∷ xs)))) (all_seen_same vs)

    set_builder_map : (n : ℕ) (u : List ℕ) (v : Option Value) (x y : Object) → Objects x y
        → AnswerMap (set_builder a n u v x) (set_builder b n u v y)
    set_builder_map n u v (Builder t) y r =
        subst (λ o. AnswerMap (set_builder a n u v (Builder t)) (set_builder b n u v o)) (sym r)
        (_, refl, another n _ _ refl)
    set_builder_map n u v _ y r = tt

    set_thrown_map : (n : ℕ) (i z : Value) (x y : Object) → Objects x y
        → AnswerMap (set_thrown a n i z x) (set_thrown b n i z y)
    set_thrown_map n i z (Instance c fs j k) y r =
        subst (λ o. AnswerMap (set_thrown a n i z (Instance c fs j k)) (set_thrown b n i z o)) (sym r.2)
        (_, refl, another n _ _ (r.0, r.1, refl, r.3, r.4))
    set_thrown_map n i z _ y r = tt

    act_map : (e : Act) → AnswerMap (acted a e) (acted b e)
    act_map (Returns v) = gives v
    act_map (MakesString u) = made_map (Str u) (Str u) refl
    act_map (SetsBuilder n u v) = of_some_map Objects _ _ _ _ (heap_at n) (set_builder_map n u v)
    act_map (SetsThrown n i z) = of_some_map Objects _ _ _ _ (heap_at n) (set_thrown_map n i z)
    act_map (Writes u) =
        (_, refl, record { heap = h.heap; statics = h.statics; inits = h.inits; printed = ap (λ x. x ++ u) h.printed })
    act_map (Throws e) = refl
    act_map NoAct = tt

    -- ---- calls

    row_by : (row : Row) (x : Option (List Seen))
        → AnswerMap (of_some (λ xs. acted a (act row xs)) x) (of_some (λ xs. acted b (act row xs)) x)
    row_by row None = tt
    row_by row (Some xs) = act_map (act row xs)

    row_map : (row : Row) (args : List Value) → AnswerMap (called a args (Library row)) (called b args (Library row))
    row_map row args =
        subst (λ x. AnswerMap (called a args (Library row)) (of_some (λ xs. acted b (act row xs)) x))
        (sym (all_seen_same args))
        (row_by row (all_seen a args))

    called_map : (args : List Value) (t u : Target) → TargetMap m.names t u
        → AnswerMap (called a args t) (called b args u)
    called_map args (Program k) u r =
        subst (λ z. AnswerMap (Begins k args) (called b args z)) (sym r.1) (r.0, refl, r.2)
    called_map args (Library row) u r =
        subst (λ z. AnswerMap (called a args (Library row)) (called b args z)) (sym r) (row_map row args)
    called_map args (Fails e) u r = subst (λ z. AnswerMap (Raises e) (called b args z)) (sym r) refl

    called_static_map : (args : List Value) (t u : Target) → TargetMap m.names t u
        → AnswerMap (called_static a args t) (called_static b args u)
    called_static_map args (Program k) u r =
        subst (λ z. AnswerMap (called_static a args (Program k)) (called_static b args z)) (sym r.1)
        (once_map _ _ (is.method_class k r.0 r.2) _ _ (r.0, refl, r.2))
    called_static_map args (Library row) u r =
        subst (λ z. AnswerMap (called a args (Library row)) (called_static b args z)) (sym r) (row_map row args)
    called_static_map args (Fails e) u r =
        subst (λ z. AnswerMap (Raises e) (called_static b args z)) (sym r) refl

    -- what runs on the receiver's object
    target_of_object : (f g : Object → Option Target)
        → ((x y : Object) → Objects x y → OptionCorr (TargetMap m.names) (f x) (g y))
        → (x y : Option Object) → Heaps x y → OptionCorr (TargetMap m.names) (option_and_then f x) (option_and_then g y)
    target_of_object f g k None y r = ap (option_and_then g) r
    target_of_object f g k (Some x) y r =
        subst (λ z. OptionCorr (TargetMap m.names) (f x) (option_and_then g z)) (sym r.1) (k x r.0 r.2)

    receiver_map : (args : List Value) (f g : Object → Option Target)
        → ((x y : Object) → Objects x y → OptionCorr (TargetMap m.names) (f x) (g y))
        → AnswerMap (on_receiver a args f) (on_receiver b args g)
    receiver_map [] f g k = tt
    receiver_map (Null ∷ args) f g k = refl
    receiver_map (v ∷ args) f g k =
        of_some_map (TargetMap m.names) (called a (v ∷ args)) (called b (v ∷ args)) (option_and_then f (object_of a v))
        (option_and_then g (object_of b v)) (target_of_object f g k (object_of a v) (object_of b v) (object_at v))
        (called_map (v ∷ args))

    -- what runs on an object and on the one that stands for it
    target_on_same : (r s : MemberRef) → m.method_ref r ≡ Some s → (x y : Object) → Objects x y
        → OptionCorr (TargetMap m.names) (target_on p r x) (target_on q s y)
    target_on_same r s e (Instance c fs i z) y k =
        subst (λ o. OptionCorr (TargetMap m.names) (p.selected_target c r) (target_on q s o)) (sym k.2)
        (is.selected_target c k.0 r s k.3 e)
    target_on_same r s e (Array t vs) y k =
        subst (λ o. OptionCorr (TargetMap m.names) (p.array_target r) (target_on q s o)) (sym k.1)
        (is.array_target r s e)
    target_on_same r s e (Str u) y k =
        subst (λ o. OptionCorr (TargetMap m.names) (p.selected_target string r) (target_on q s o)) (sym k)
        (is.selected_target string string r s (is.own_class string refl) e)
    target_on_same r s e (Builder u) y k =
        subst (λ o. OptionCorr (TargetMap m.names) (p.selected_target string_builder r) (target_on q s o)) (sym k)
        (is.selected_target string_builder string_builder r s (is.own_class string_builder refl) e)

    selected_map : (r s : MemberRef) → m.method_ref r ≡ Some s → (args : List Value)
        → AnswerMap (call_selected p a r args) (call_selected q b s args)
    selected_map r s e args = receiver_map args (target_on p r) (target_on q s) (target_on_same r s e)

    special_map : (c d : List ℕ) → ClassCorr c d → (r s : MemberRef) → m.special_ref c r ≡ Some s → (args : List Value)
        → AnswerMap (call_special p c a r args) (call_special q d b s args)
    special_map c d f r s e args = receiver_map args _ _ (λ x y k. is.special_target c d r s f e)

    -- ---- arrays

    blank_same : (t u : FieldType) → Typed t u → (n : ℕ) → Objects (blank_array t n) (blank_array u n)
    blank_same t u e n = (u, ap (λ k. Array u (replicate n (default_of k))) (kind_same t u e), e)

    new_array_map : (t u : FieldType) → Typed t u → (n : ℤ) → AnswerMap (new_array a t n) (new_array b u n)
    new_array_map t u e (pos n) = made_map _ _ (blank_same t u e n)
    new_array_map t u e (negsuc n) = refl

    arrays_same : (first count : ℕ) (t u : FieldType) → Typed t u → (ns : List ℕ)
        → AllZip Objects (arrays_from first count t ns) (arrays_from first count u ns)
    arrays_same first count t u e [] = tt
    arrays_same first count t u e (n ∷ []) =
        zip_replicate Objects count _ _ (blank_same _ _ (component_typed t u e) n)
    arrays_same first count t u e (n ∷ k ∷ ns) =
        zip_append Objects _ _ _ _
        (zip_map Objects _ _ (λ i. (component_of u, refl, component_typed t u e)) (range_with_len 0 count))
        (arrays_same (first + count) (count * n) (component_of t) (component_of u) (component_typed t u e) (k ∷ ns))

    new_arrays_by : (t u : FieldType) → Typed t u → (ns : List ℤ) (x : Bool)
        → AnswerMap
        (if x then Raises NegativeSize else Gives (Some (newest a))
        (record a { heap = a.heap ++ arrays_from (length a.heap) 1 t (map unsigned_abs ns) }))
        (if x then Raises NegativeSize else Gives (Some (newest b))
        (record b { heap = b.heap ++ arrays_from (length b.heap) 1 u (map unsigned_abs ns) }))
    new_arrays_by t u e ns true = refl
    new_arrays_by t u e ns false = (
      record b { heap = b.heap ++ arrays_from (length a.heap) 1 u (map unsigned_abs ns) },
      ap (λ n. Gives (Some (Ref n)) (record b {
        heap = b.heap
            ++ arrays_from n 1 u (map unsigned_abs ns);
      })) same_length,
      record {
        heap = zip_append Objects a.heap b.heap _ _ h.heap (arrays_same (length a.heap) 1 t u e (map unsigned_abs ns));
        statics = h.statics;
        inits = h.inits;
        printed = h.printed;
      },
    )

    new_arrays_map : (t u : FieldType) → Typed t u → (ns : List ℤ) → AnswerMap (new_arrays a t ns) (new_arrays b u ns)
    new_arrays_map t u e ns = new_arrays_by t u e ns (list_any (λ z. int_lt z (pos 0)) ns)

    array_map : (v : Value) (f g : ℕ → Object → Answer)
        → ((n : ℕ) (x y : Object) → Objects x y → AnswerMap (f n x) (g n y))
        → AnswerMap (on_array a v f) (on_array b v g)
    array_map (Ref n) f g k = of_some_map Objects _ _ _ _ (heap_at n) (k n)
    array_map Null f g k = refl
    array_map _ f g k = tt

    length_map : (n : ℕ) (x y : Object) → Objects x y → AnswerMap (length_in a n x) (length_in b n y)
    length_map n (Array t vs) y r =
        subst (λ o. AnswerMap (length_in a n (Array t vs)) (length_in b n o)) (sym r.1) (gives _)
    length_map n _ y r = tt

    index_map : (i : ℤ) (n : ℕ) (f g : ℕ → Answer) → ((k : ℕ) → AnswerMap (f k) (g k))
        → AnswerMap (at_index i n f) (at_index i n g)
    index_map (pos i) n f g k = by (nat_lt i n)
      where
        by : (x : Bool) → AnswerMap (if x then f i else Raises ArrayIndex) (if x then g i else Raises ArrayIndex)
        by true = k i
        by false = refl
    index_map (negsuc i) n f g k = refl

    item_map : (o : Option Value) → AnswerMap (of_some (λ v. Gives (Some v) a) o) (of_some (λ v. Gives (Some v) b) o)
    item_map None = tt
    item_map (Some v) = gives _

    -- an answer under a test that is the same on both sides
    if_map : (x x' : Bool) → x' ≡ x → (f g : Answer) → AnswerMap f g
        → AnswerMap (if x then f else NoAnswer) (if x' then g else NoAnswer)
    if_map x x' e f g k = subst (λ z. AnswerMap (if x then f else NoAnswer) (if z then g else NoAnswer)) (sym e) (by x)
      where
        by : (x : Bool) → AnswerMap (if x then f else NoAnswer) (if x then g else NoAnswer)
        by true = k
        by false = tt

    get_in_map : (e : Elem) (i : ℤ) (n : ℕ) (x y : Object) → Objects x y
        → AnswerMap (get_in a e i n x) (get_in b e i n y)
    get_in_map e i n (Array t vs) y r =
        subst (λ o. AnswerMap (get_in a e i n (Array t vs)) (get_in b e i n o)) (sym r.1)
        (if_map _ _ (component_same e t r.0 r.2) _ _ (index_map i (length vs) _ _ (λ k. item_map (slice_get vs k))))
    get_in_map e i n _ y r = tt

    below_map : (t u : FieldType) → Typed t u → (x y : Object) → Objects x y
        → is_type_below q.is_sub (type_of y) u ≡ is_type_below p.is_sub (type_of x) t
    below_map t u e x y r = below_same _ _ t u (type_same x y r) e

    choose_map : (x x' : Bool) → x' ≡ x → (f g : Answer) (e : Exception) → AnswerMap f g
        → AnswerMap (if x then f else Raises e) (if x' then g else Raises e)
    choose_map x x' e f g exception k =
        subst (λ z. AnswerMap (if x then f else Raises exception) (if z then g else Raises exception)) (sym e) (by x)
      where
        by : (x : Bool) → AnswerMap (if x then f else Raises exception) (if x then g else Raises exception)
        by true = k
        by false = refl

    -- an answer where an object is of a type
    abbrev if_below : Shape → FieldType → Answer → Exception → Object → Answer
    if_below shape t f exception o = if is_type_below shape.is_sub (type_of o) t then f else Raises exception

    if_below_map : (t u : FieldType) → Typed t u → (f g : Answer) (e : Exception) → AnswerMap f g → (v : Value)
        → AnswerMap (of_some (if_below p t f e) (object_of a v)) (of_some (if_below q u g e) (object_of b v))
    if_below_map t u e f g exception k v =
        of_some_map Objects (if_below p t f exception) (if_below q u g exception) (object_of a v) (object_of b v)
        (object_at v)
        (λ x y r. choose_map _ _ (below_map t u e x y r) f g exception k)

    storable_map : (t u : FieldType) → Typed t u → (v : Value) (f g : Answer) → AnswerMap f g
        → AnswerMap (if_storable p a t v f) (if_storable q b u v g)
    storable_map t u e (Int z) f g k = k
    storable_map t u e (Long z) f g k = k
    storable_map t u e Null f g k = k
    storable_map t u e (Ref n) f g k = if_below_map t u e f g ArrayStore k (Ref n)
    storable_map t u e (Lit s) f g k = if_below_map t u e f g ArrayStore k (Lit s)

    put_value_map : (n : ℕ) (t u : FieldType) → Typed t u → (vs : List Value) (k : ℕ) (v : Value)
        → AnswerMap (put_value a n t vs k v) (put_value b n u vs k v)
    put_value_map n t u e vs k v = (
      with_object b n (Array u (slice_set vs k (stored t v))),
      ap (λ x. Gives None (with_object b n (Array u (slice_set vs k x)))) (stored_same v t u e),
      another n _ _ (u, refl, e),
    )

    put_in_map : (e : Elem) (i : ℤ) (v : Value) (n : ℕ) (x y : Object) → Objects x y
        → AnswerMap (put_in p a e i v n x) (put_in q b e i v n y)
    put_in_map e i v n (Array t vs) y r =
        subst (λ o. AnswerMap (put_in p a e i v n (Array t vs)) (put_in q b e i v n o)) (sym r.1)
        (if_map _ _ (component_same e t r.0 r.2) _ _
        (index_map i (length vs) _ _ (λ k. storable_map t r.0 r.2 v _ _ (put_value_map n t r.0 r.2 vs k v))))
    put_in_map e i v n _ y r = tt

    -- ---- casts

    cast_map : (t u : FieldType) → Typed t u → (v : Value) → AnswerMap (cast p a t v) (cast q b u v)
    cast_map t u e Null = gives (Some Null)
    cast_map t u e v = if_below_map t u e (Gives (Some v) a) (Gives (Some v) b) ClassCast (gives (Some v)) v

    -- whether an object is of a type
    abbrev told_below : Shape → World → FieldType → Object → Answer
    told_below shape w t o = Gives (Some (truth (is_type_below shape.is_sub (type_of o) t))) w

    told_below_map : (t u : FieldType) → Typed t u → (v : Value)
        → AnswerMap (of_some (told_below p a t) (object_of a v)) (of_some (told_below q b u) (object_of b v))
    told_below_map t u e v =
        of_some_map Objects (told_below p a t) (told_below q b u) (object_of a v) (object_of b v) (object_at v)
        (λ x y r. (b, ap (λ z. Gives (Some (truth z)) b) (below_map t u e x y r), h))

    tested_map : (t u : FieldType) → Typed t u → (v : Value) → AnswerMap (instance_of p a t v) (instance_of q b u v)
    tested_map t u e Null = gives (Some (truth false))
    tested_map t u e v = told_below_map t u e v

    -- ---- all requests

    module _ (from from' : List ℕ) (of : ClassCorr from from') where
      abbrev Both : Request → Request → Type 0
      Both r s = AnswerMap (answer p from a r) (answer q from' b s)

      via : {A : Type 0} (r : Request) (x : Option A) (f : A → Request) (s : Request) → option_map f x ≡ Some s
          → ((y : A) → x ≡ Some y → Both r (f y)) → Both r s
      via r x f s e k = let y = mapped_some f x s e in subst (Both r) (sym y.2) (k y.0 y.1)

      plain : (r s : Request) → Some r ≡ Some s → Both r r → Both r s
      plain r s e k = let e' : r ≡ s = cc in subst (Both r) e' k

      pub answer_map : (r s : Request) → request_map m from r ≡ Some s → Both r s
      answer_map (Known v) s e = plain (Known v) s e (gives _)
      answer_map (Raise x) s e = plain (Raise x) s e refl
      answer_map (GetStatic r) s e = via (GetStatic r) (m.field_ref r) GetStatic s e
          (λ t k. of_some_map FieldCorr _ _ _ _ (is.field r t k) get_static_map)
      answer_map (PutStatic r v) s e = via (PutStatic r v) (m.field_ref r) (λ t. PutStatic t v) s e
          (λ t k. of_some_map FieldCorr _ _ _ _ (is.field r t k) (put_static_map v))
      answer_map (GetField r v) s e = via (GetField r v) (m.field_ref r) (λ t. GetField t v) s e
          (λ t k. of_some_map FieldCorr _ _ _ _ (is.field r t k) (get_field_map v))
      answer_map (PutField r v x) s e = via (PutField r v x) (m.field_ref r) (λ t. PutField t v x) s e
          (λ t k. of_some_map FieldCorr _ _ _ _ (is.field r t k) (put_field_map v x))
      answer_map (CallStatic r args) s e = via (CallStatic r args) (m.method_ref r) (λ t. CallStatic t args) s e
          (λ t k. of_some_map (TargetMap m.names) _ _ _ _ (is.static_target r t k) (called_static_map args))
      answer_map (CallSpecial r args) s e = via (CallSpecial r args) (m.special_ref from r)
          (λ t. CallSpecial t args) s e
          (λ t k. special_map from from' of r t k args)
      answer_map (CallVirtual r args) s e = via (CallVirtual r args) (m.method_ref r) (λ t. CallVirtual t args) s e
          (λ t k. selected_map r t k args)
      answer_map (CallInterface r args) s e = via (CallInterface r args) (m.method_ref r)
          (λ t. CallInterface t args) s e
          (λ t k. selected_map r t k args)
      answer_map (New c) s e = via (New c) (m.names.class c) New s e (λ d k. new_map c d k)
      answer_map (NewArray t n) s e = via (NewArray t n) (type_name m.names t) (λ u. NewArray u n) s e
          (λ u k. new_array_map t u k n)
      answer_map (NewArrays t ns) s e = via (NewArrays t ns) (type_name m.names t) (λ u. NewArrays u ns) s e
          (λ u k. new_arrays_map t u k ns)
      answer_map (ArrayLength v) s e = plain (ArrayLength v) s e (array_map v _ _ length_map)
      answer_map (GetAt k v i) s e = plain (GetAt k v i) s e (array_map v _ _ (get_in_map k i))
      answer_map (PutAt k v i x) s e = plain (PutAt k v i x) s e (array_map v _ _ (put_in_map k i x))
      answer_map (Cast t v) s e = via (Cast t v) (type_name m.names t) (λ u. Cast u v) s e (λ u k. cast_map t u k v)
      answer_map (Test t v) s e = via (Test t v) (type_name m.names t) (λ u. Test u v) s e (λ u k. tested_map t u k v)
