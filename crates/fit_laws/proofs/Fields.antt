-- The four instructions on fields, and `new`, from the instruction on (JVMS 6.5.getstatic, 6.5.putstatic, 6.5.getfield,
-- 6.5.putfield, 6.5.new).
use Rattle.std.proofs.Common.{ℕ, ◌+◌, ◌++◌, List, [], ◌∷◌, Option, Some, None, Bool, true, false, ◌≡◌, refl, sym}
use Rattle.std.proofs.Common.{ap, ◌∙◌, subst, slice_get, ◌&&◌}
use Rattle.std.specs.Prelude.{◌==◌, IfSome, cond, option_map, slice_set, Ok, Err}
use Rattle.std.specs.List.{list_any}
use Rattle.std.specs.Option.{option_and_then}
use Rattle.std.specs.Result.{result_ok}
use Rattle.std.proofs.lemmas.Bool.{and_parts, eqb-true}
use Rattle.jv_base.specs.Descriptors.{read_field}
use Rattle.jv_base.specs.Names.{is_text}
use Rattle.jv_base.specs.declared.types.Base.{Base}
use Rattle.jv_base.specs.declared.types.Base.TheVariants as base
use Rattle.jv_base.specs.declared.types.FieldType.{FieldType}
use Rattle.jv_base.proofs.Equality.{same_text}
use Rattle.class_model.specs.Frames.{vtype_of}
use Rattle.class_model.specs.declared.class.Class.{Class}
use Rattle.class_model.specs.declared.code.Ins.{Ins}
use Rattle.class_model.specs.declared.frame.VType.{VType}
use Rattle.class_model.specs.declared.frame.VType.TheVariants as vtype
use Rattle.class_model.specs.declared.op.Kind.{Kind}
use Rattle.class_model.specs.declared.op.Kind.TheVariants as kind
use Rattle.class_model.specs.declared.op.MemberRef.{MemberRef}
use Rattle.class_model.specs.declared.op.Op.TheVariants as op
use Rattle.jvm_model.specs.Answers.{Answer, Gives, of_some, once}
use Rattle.jvm_model.specs.Fields.{blank, fresh, get_field, get_from, get_static, put_field, put_into, put_on_heap}
use Rattle.jvm_model.specs.Fields.{put_static, stored_in}
use Rattle.jvm_model.specs.Heap.{Array, Begun, Builder, Failed, Fresh, Init, Instance, Object, Ready, Str, World}
use Rattle.jvm_model.specs.Heap.{string_builder, type_of}
use Rattle.jvm_model.specs.Instructions.{GetField, GetStatic, PutField, PutStatic, as_field, sort_of}
use Rattle.jvm_model.specs.Local.{by_sort}
use Rattle.jvm_model.specs.State.{Body}
use Rattle.jvm_model.specs.Types.{field_kind, field_type, kind_of}
use Rattle.jvm_model.specs.Value.{Int, Key, Lit, Long, Null, Ref, Value, as_kind, set_key}
use Rattle.type_verifier.specs.declared.fault.TypeKind.TheVariants.{Uninit as BadUninit}
use Rattle.type_verifier.specs.declared.frame.TypeFrame.{TypeFrame}
use Rattle.type_verifier.specs.Assignable.{class_type}
use Rattle.type_verifier.specs.Effects.{Checked, class_made_at, is_copy, made_class, stepped, substituted}
use Rattle.type_verifier.specs.Environment.{Environment, in_constructor}
use Rattle.type_verifier.specs.Members.{is_class_base, is_class_type, is_early_field, is_guarded_field}
use Rattle.type_verifier.specs.Rules.{Assignable, Makes, OrThis, Rule, field_read, field_write, receiver}
use Rattle.type_verifier.specs.Rules.{rule_of, static_read, static_write, told_type, written_receiver}
use Rattle.fit_laws.specs.Answered.{FitsAnswer, FitsLocal, FitsResult}
use Rattle.fit_laws.specs.Frames.{Environs, FitsBody, Leads}
use Rattle.fit_laws.specs.Growth.{Grows, IsLike}
use Rattle.fit_laws.specs.Held.{IsConcrete}
use Rattle.fit_laws.specs.Meaning.{MeansField, MeansObjectField}
use Rattle.fit_laws.specs.Order.{HasInstances}
use Rattle.fit_laws.specs.Sound.{IsSound}
use Rattle.fit_laws.specs.Values.{FitsInstance, FitsKey, FitsKnown, FitsObject, FitsReference, FitsType}
use Rattle.fit_laws.specs.Values.{FitsWithin, FitsWorld}
use Rattle.fit_laws.proofs.Constructors.{locals_become}
use Rattle.fit_laws.proofs.Going.{hierarchy_of}
use Rattle.fit_laws.proofs.Held.{IsHierarchy}
use Rattle.fit_laws.proofs.Heaps.{blank_fits, grown_key, grown_within, grows_new, grows_same, grows_set, key_set}
use Rattle.fit_laws.proofs.Heaps.{known_value, newest_at, stored_fits, world_new, world_set}
use Rattle.fit_laws.proofs.Operands.{of_reference, type_taken}
use Rattle.fit_laws.proofs.Sorts.{acted_of, asks_fit}
use Rattle.fit_laws.proofs.Taking.{TakesOne, object_taken, one_reads, two_reads, with_reads}
use Rattle.fit_laws.proofs.Using.{uses_takes}

both : (b : Bool) → b ≡ false → b ≡ true → ⊥
both b e f = cc

-- ---- what is answered

module _ (classes : List Class) (w : World) (x : FitsWorld classes w) (env : Environment)
    (same : env.classes ≡ classes) where
  result_known : (h : List Object) (t : VType) (v : Value) → FitsKnown classes h t v
      → FitsResult env h (Some t) (Some v)
  result_known h t v y = known_value env h t v (subst (λ (c : List Class). FitsKnown c h t v) (sym same) y)

  -- nothing of the world changes
  pub given_same : (t : VType) (v : Value) → FitsKnown classes w.heap t v
      → FitsAnswer classes env w (Some t) (Gives (Some v) w)
  given_same t v y = (grows_same w.heap, x, result_known w.heap t v y)

  -- what is done where a class is initialised
  done_once : (given : Option VType) (class : List ℕ) (a : Answer) → FitsAnswer classes env w given a → (i : Init)
      → FitsAnswer classes env w given (once i class a)
  done_once given class a y Ready = y
  done_once given class a y Begun = y
  done_once given class a y Fresh = tt
  done_once given class a y Failed = tt

  module _ (k : Key) (t : FieldType) (e : field_type k.descriptor ≡ Some t) where
    -- what a field holds, by its type
    of_key : (h : List Object) (v : Value) → FitsKey classes h k v → FitsType classes h t v
    of_key h v y = subst (λ (o : Option FieldType). IfSome o (λ ty. FitsType classes h ty v)) e y

    to_key : (h : List Object) (v : Value) → FitsType classes h t v → FitsKey classes h k v
    to_key h v y = subst (λ (o : Option FieldType). IfSome o (λ ty. FitsType classes h ty v)) (sym e) y

    pub get_static_fits : FitsAnswer classes env w (Some (vtype_of t)) (get_static w k)
    get_static_fits = done_once (Some (vtype_of t)) k.class (Gives (Some (w.statics k)) w)
        (given_same (vtype_of t) (w.statics k) (of_key w.heap (w.statics k) (x.statics k))) (w.inits k.class)

    pub put_static_fits : (v : Value) → FitsType classes w.heap t v → FitsAnswer classes env w None (put_static w v k)
    put_static_fits v y = done_once None k.class (Gives None after) (grows_same w.heap, world, tt) (w.inits k.class)
      where
        after : World
        after = record w { statics = set_key w.statics k (stored_in k v) }

        world : FitsWorld classes after
        world = record {
          objects = x.objects;
          statics = key_set classes w.heap w.statics k (stored_in k v) x.statics
              (stored_fits classes w.heap k v (to_key w.heap v y));
        }

    got_from : (o : Object) → FitsWithin classes w.heap o
        → (class : List ℕ) (fields : Key → Value) (m c : Value) → o ≡ Instance class fields m c
        → FitsAnswer classes env w (Some (vtype_of t)) (get_from w k o)
    got_from o y class fields m c is =
        subst (λ (z : Object). FitsAnswer classes env w (Some (vtype_of t)) (get_from w k z)) (sym is)
        (given_same (vtype_of t) (fields k) (of_key w.heap (fields k) (instance.fields_fit k)))
      where
        instance : FitsInstance classes w.heap class fields m c
        instance = subst (λ (z : Object). FitsWithin classes w.heap z) is y

    -- an object of a type whose objects are instances
    pub record IsInstance (o : Object) : Type 0 where
      pub class : List ℕ
      pub fields : Key → Value
      pub message : Value
      pub cause : Value
      pub is : o ≡ Instance class fields message cause

    instance_of : (ty : FieldType) → HasInstances classes ty → (o : Object) → FitsObject classes w.heap ty o
        → IsInstance o
    instance_of ty all (Instance class fields message cause) f =
        record { class = class; fields = fields; message = message; cause = cause; is = refl }
    instance_of ty all (Array component values) f = absurd (both _ (all.no_array component) f.held)
    instance_of ty all (Str units) f = absurd (both _ all.no_string f.held)
    instance_of ty all (Builder units) f = absurd (both _ all.no_builder f.held)

    pub get_field_fits : (ty : FieldType) → HasInstances classes ty → (v : Value) → FitsReference classes w.heap ty v
        → FitsAnswer classes env w (Some (vtype_of t)) (get_field w v k)
    get_field_fits ty all Null y = tt
    get_field_fits ty all (Lit units) y = absurd (both _ all.no_string y)
    get_field_fits ty all (Int z) y = absurd y
    get_field_fits ty all (Long z) y = absurd y
    get_field_fits ty all (Ref n) y =
        let i = instance_of ty all y.0 y.2 in
        subst (λ (o : Option Object). FitsAnswer classes env w (Some (vtype_of t)) (of_some (get_from w k) o)) (sym y.1)
        (got_from y.0 (x.objects n y.0 y.1) i.class i.fields i.message i.cause i.is)

    put_in : (v : Value) → FitsType classes w.heap t v → (n : ℕ) (class : List ℕ) (fields : Key → Value) (m c : Value)
        → slice_get w.heap n ≡ Some (Instance class fields m c)
        → FitsAnswer classes env w None (put_into w n v k (Instance class fields m c))
    put_in v y n class fields m c e = (grows, world_set classes w n o p x e like within, tt) where
      o : Object
      o = Instance class fields m c

      p : Object
      p = Instance class (set_key fields k (stored_in k v)) m c

      like : IsLike o p
      like = record { type = refl; whole = refl }

      grows : Grows w.heap (slice_set w.heap n p)
      grows = grows_set w.heap n o p e like

      old : FitsInstance classes (slice_set w.heap n p) class fields m c
      old = grown_within classes w.heap (slice_set w.heap n p) grows o (x.objects n o e)

      within : FitsWithin classes (slice_set w.heap n p) p
      within = record {
        made = old.made;
        no_builder = old.no_builder;
        fields_fit = key_set classes (slice_set w.heap n p) fields k (stored_in k v) old.fields_fit
            (grown_key classes w.heap (slice_set w.heap n p) grows (field_type k.descriptor) (stored_in k v)
            (stored_fits classes w.heap k v (to_key w.heap v y)));
        message_fits = old.message_fits;
        cause_fits = old.cause_fits;
      }

    pub put_field_fits : (v : Value) → FitsType classes w.heap t v → (ty : FieldType) → HasInstances classes ty
        → (u : Value) → FitsReference classes w.heap ty u → FitsAnswer classes env w None (put_field w u v k)
    put_field_fits v y ty all Null z = tt
    put_field_fits v y ty all (Lit units) z = absurd (both _ all.no_string z)
    put_field_fits v y ty all (Int n) z = absurd z
    put_field_fits v y ty all (Long n) z = absurd z
    put_field_fits v y ty all (Ref n) z =
        let i = instance_of ty all z.0 z.2 in
        subst (λ (o : Option Object). FitsAnswer classes env w None (of_some (put_into w n v k) o)) (sym z.1)
        (subst (λ (o : Object). FitsAnswer classes env w None (put_into w n v k o)) (sym i.is)
        (put_in v y n i.class i.fields i.message i.cause (z.1 ∙ ap (λ (o : Object). Some o) i.is)))

-- ---- the instructions

module _ (classes : List Class) (sound : IsSound classes) (w : World) (world : FitsWorld classes w) (k : Key)
    (env : Environment) (is : Environs classes k env) (b : Body) (f : TypeFrame) (x : FitsBody env w.heap f b) where
  hierarchy : IsHierarchy env.classes
  hierarchy = hierarchy_of classes sound k env is

  abbrev Next : TypeFrame → Type 0
  Next after = Leads env.classes is.frames (b.at + 1) after

  -- the type of a reference is that of its field
  typed : (r : MemberRef) (m : MeansField classes r) → field_type m.key.descriptor ≡ Some m.typed.ty
  typed r m = ap field_type m.same ∙ ap result_ok m.typed.read

  told : (r : MemberRef) (m : MeansField classes r) (rule : VType → Rule)
      → option_map rule (option_map vtype_of (told_type (read_field r.ty))) ≡ Some (rule (vtype_of m.typed.ty))
  told r m rule = ap (λ (o : Option FieldType). option_map rule (option_map vtype_of o)) (ap told_type m.typed.read)

  here_type : (t : FieldType) (v : Value) → FitsType env.classes w.heap t v → FitsType classes w.heap t v
  here_type t v y = subst (λ (c : List Class). FitsType c w.heap t v) is.classes_are y

  here_reference : (t : FieldType) (v : Value) → FitsReference env.classes w.heap t v → FitsReference classes w.heap t v
  here_reference t v y = subst (λ (c : List Class). FitsReference c w.heap t v) is.classes_are y

  pub gets_static : (r : MemberRef) → MeansField classes r → (after : TypeFrame)
      → stepped env b.at (op.GetStatic r) f ≡ Ok after → Next after
      → FitsLocal classes w k env is.frames b (by_sort b (sort_of (op.GetStatic r)))
  unfolding rule_of
  gets_static r m after h l =
      asks_fit classes w k env is hierarchy b f x [] (Some (vtype_of m.typed.ty)) _ after
      (with_reads env w.heap _ (GetStatic r)
      (subst (λ (o : Option Key). FitsAnswer classes env w (Some (vtype_of m.typed.ty)) (of_some (get_static w) o))
      (sym m.found) (get_static_fits classes w world env is.classes_are m.key m.typed.ty (typed r m))))
      (acted_of env b.at (op.GetStatic r) (static_read (vtype_of m.typed.ty)) f after (told r m static_read) h)
      l

  -- a value of a field's type is read
  field_taken : (r : MemberRef) (m : MeansField classes r)
      → TakesOne env w.heap (Assignable (vtype_of m.typed.ty)) (as_field r) (FitsType env.classes w.heap m.typed.ty)
  field_taken r m t v y z =
      let q = type_taken env w.heap hierarchy m.typed.ty m.typed.no_float t v y z in
      (q.0, ap (λ (o : Option Kind). option_and_then (λ d. as_kind d v) o) kind_is ∙ q.1, q.2)
    where
      kind_is : field_kind r.ty ≡ Some (kind_of m.typed.ty)
      kind_is = ap (λ (o : Option FieldType). option_map kind_of o) (ap result_ok m.typed.read)

  pub puts_static : (r : MemberRef) → MeansField classes r → (after : TypeFrame)
      → stepped env b.at (op.PutStatic r) f ≡ Ok after → Next after
      → FitsLocal classes w k env is.frames b (by_sort b (sort_of (op.PutStatic r)))
  unfolding rule_of
  puts_static r m after h l =
      asks_fit classes w k env is hierarchy b f x (Assignable (vtype_of m.typed.ty) ∷ []) None _ after
      (one_reads env w.heap (Assignable (vtype_of m.typed.ty)) (as_field r) (FitsType env.classes w.heap m.typed.ty)
      (field_taken r m) (PutStatic r) _
      (λ v y. subst (λ (o : Option Key). FitsAnswer classes env w None (of_some (put_static w v) o)) (sym m.found)
      (put_static_fits classes w world env is.classes_are m.key m.typed.ty (typed r m) v (here_type m.typed.ty v y))))
      (acted_of env b.at (op.PutStatic r) (static_write (vtype_of m.typed.ty)) f after (told r m static_write) h)
      l

  pub gets_field : (r : MemberRef) → MeansObjectField classes r → (after : TypeFrame)
      → stepped env b.at (op.GetField r) f ≡ Ok after → Next after
      → FitsLocal classes w k env is.frames b (by_sort b (sort_of (op.GetField r)))
  unfolding rule_of
  gets_field r m after h l =
      asks_fit classes w k env is hierarchy b f x (receiver env r ∷ []) (Some (vtype_of m.field.typed.ty)) _ after
      (one_reads env w.heap (Assignable (vtype.Object r.class)) (as_kind kind.Ref)
      (FitsReference env.classes w.heap r.class)
      (object_taken env w.heap hierarchy r.class) (GetField r) _
      (λ v y. subst (λ (o : Option Key). FitsAnswer classes env w (Some (vtype_of m.field.typed.ty))
      (of_some (get_field w v) o)) (sym m.field.found)
      (get_field_fits classes w world env is.classes_are m.field.key m.field.typed.ty (typed r m.field) r.class
      m.instances v (here_reference r.class v y))))
      (uses_takes env b.at [] (receiver env r) (is_guarded_field env r) (Some (vtype_of m.field.typed.ty)) f after
      (acted_of env b.at (op.GetField r) (field_read env r (vtype_of m.field.typed.ty)) f after
      (told r m.field (field_read env r)) h))
      l

  -- ---- the object whose field is written: of the class that is named, or `this` of a constructor

  this_is : (r : MemberRef) → is_class_type env.class.name r.class ≡ true → class_type env.class.name ≡ r.class
  this_is r e =
      by r.class.dims r.class.base (and_parts (r.class.dims == 0) (is_class_base env.class.name r.class.base) e)
    where
      by : (d : ℕ) (c : Base) → ((d == 0) ≡ true) × (is_class_base env.class.name c ≡ true)
          → class_type env.class.name ≡ record { dims = d; base = c }
      by d (base.Class name) p = λ i. record {
        dims = sym (eqb-true d 0 p.0) i;
        base = base.Class (same_text env.class.name name p.1 i);
      }
      by d base.Boolean p = absurd cc where
        no : is_class_base env.class.name base.Boolean ≡ true
        no = p.1
      by d base.Byte p = absurd cc where
        no : is_class_base env.class.name base.Byte ≡ true
        no = p.1
      by d base.Char p = absurd cc where
        no : is_class_base env.class.name base.Char ≡ true
        no = p.1
      by d base.Short p = absurd cc where
        no : is_class_base env.class.name base.Short ≡ true
        no = p.1
      by d base.Int p = absurd cc where
        no : is_class_base env.class.name base.Int ≡ true
        no = p.1
      by d base.Long p = absurd cc where
        no : is_class_base env.class.name base.Long ≡ true
        no = p.1
      by d base.Float p = absurd cc where
        no : is_class_base env.class.name base.Float ≡ true
        no = p.1
      by d base.Double p = absurd cc where
        no : is_class_base env.class.name base.Double ≡ true
        no = p.1

  this_taken : (r : MemberRef) → class_type env.class.name ≡ r.class
      → TakesOne env w.heap (OrThis r.class) (as_kind kind.Ref) (FitsReference env.classes w.heap r.class)
  this_taken r e vtype.UninitThis v y z = of_reference env w.heap hierarchy r.class v
      (subst (λ (t : FieldType). FitsReference env.classes w.heap t v) e z.2)
  this_taken r e vtype.Top v y z = object_taken env w.heap hierarchy r.class vtype.Top v y z
  this_taken r e vtype.Int v y z = object_taken env w.heap hierarchy r.class vtype.Int v y z
  this_taken r e vtype.Long v y z = object_taken env w.heap hierarchy r.class vtype.Long v y z
  this_taken r e vtype.Null v y z = object_taken env w.heap hierarchy r.class vtype.Null v y z
  this_taken r e (vtype.Object t) v y z = object_taken env w.heap hierarchy r.class (vtype.Object t) v y z
  this_taken r e (vtype.Uninit n) v y z = object_taken env w.heap hierarchy r.class (vtype.Uninit n) v y z

  written_taken : (r : MemberRef)
      → TakesOne env w.heap (written_receiver env r) (as_kind kind.Ref) (FitsReference env.classes w.heap r.class)
  written_taken r = by (is_early_field env r) refl where
    by : (t : Bool) → is_early_field env r ≡ t
        → TakesOne env w.heap (cond t (OrThis r.class) (receiver env r)) (as_kind kind.Ref)
        (FitsReference env.classes w.heap r.class)
    by true e = this_taken r (this_is r (and_parts (in_constructor env) (is_class_type env.class.name r.class)
        (and_parts (in_constructor env && is_class_type env.class.name r.class) _ e).0).1)
    by false e = object_taken env w.heap hierarchy r.class

  pub puts_field : (r : MemberRef) → MeansObjectField classes r → (after : TypeFrame)
      → stepped env b.at (op.PutField r) f ≡ Ok after → Next after
      → FitsLocal classes w k env is.frames b (by_sort b (sort_of (op.PutField r)))
  unfolding rule_of
  puts_field r m after h l =
      asks_fit classes w k env is hierarchy b f x
      (Assignable (vtype_of m.field.typed.ty) ∷ written_receiver env r ∷ []) None _ after
      (two_reads env w.heap (written_receiver env r) (Assignable (vtype_of m.field.typed.ty)) (as_kind kind.Ref)
      (as_field r) (FitsReference env.classes w.heap r.class) (FitsType env.classes w.heap m.field.typed.ty)
      (written_taken r) (field_taken r m.field) (PutField r) _
      (λ u v y z. subst (λ (o : Option Key). FitsAnswer classes env w None (of_some (put_field w u v) o))
      (sym m.field.found)
      (put_field_fits classes w world env is.classes_are m.field.key m.field.typed.ty (typed r m.field) v
      (here_type m.field.typed.ty v z) r.class m.instances u (here_reference r.class u y))))
      (uses_takes env b.at (Assignable (vtype_of m.field.typed.ty) ∷ []) (written_receiver env r)
      (is_guarded_field env r) None f after
      (acted_of env b.at (op.PutField r) (field_write env r (vtype_of m.field.typed.ty)) f after
      (told r m.field (field_write env r)) h))
      l

  -- ---- new

  fresh_type : (class : List ℕ) → type_of (fresh class) ≡ class_type class
  fresh_type class = by (is_text class string_builder) refl where
    by : (t : Bool) → is_text class string_builder ≡ t
        → (let o : Object = cond t (Builder []) (Instance class blank Null Null) in type_of o ≡ class_type class)
    by true e = ap class_type (sym (same_text class string_builder e))
    by false e = refl

  fresh_within : (class : List ℕ) → IsConcrete classes class → (h : List Object) → FitsWithin classes h (fresh class)
  fresh_within class made h = by (is_text class string_builder) refl where
    by : (t : Bool) → is_text class string_builder ≡ t
        → (let o : Object = cond t (Builder []) (Instance class blank Null Null) in FitsWithin classes h o)
    by true e = tt
    by false e = record {
      made = made;
      no_builder = e;
      fields_fit = blank_fits classes h;
      message_fits = tt;
      cause_fits = tt;
    }

  made_fits : (class : List ℕ) → IsConcrete classes class → class_made_at env.code b.at ≡ Some class
      → FitsAnswer classes env w (Some (vtype.Uninit b.at)) (put_on_heap w (fresh class))
  made_fits class made e = (
    grows_new w.heap (fresh class),
    world_new classes w (fresh class) world (fresh_within class made (w.heap ++ fresh class ∷ [])),
    (
      _,
      refl,
      record {
        name = class;
        new = e;
        object = fresh class;
        there = newest_at w.heap (fresh class);
        type = fresh_type class;
      },
    ),
  )

  passed : (c : Bool) (g after : TypeFrame)
      → (let R : Checked = cond c (Err BadUninit) (Ok g) in R) ≡ Ok after → g ≡ after
  passed true g after e = absurd cc
  passed false g after e = cc

  pub makes : (class : List ℕ) → IsConcrete classes class → (i : Ins) → slice_get env.code.ins b.at ≡ Some i
      → i.op ≡ op.New class → (after : TypeFrame) → stepped env b.at (op.New class) f ≡ Ok after → Next after
      → FitsLocal classes w k env is.frames b (by_sort b (sort_of (op.New class)))
  unfolding rule_of
  makes class made i there o after h l = (
    Some (vtype.Uninit b.at),
    rest,
    record {
      locals = locals_become env w.heap (vtype.Uninit b.at) vtype.Top (λ t e v y. tt) f.locals b.locals x.locals;
      stack = x.stack;
    },
    subst (λ (c : List Class). Leads c is.frames (b.at + 1) (record {
      locals = rest.locals;
      stack = vtype.Uninit b.at ∷ f.stack;
      marked = f.marked;
    })) is.classes_are (subst (λ (z : TypeFrame). Leads env.classes is.frames (b.at + 1) z) (sym goes) l),
    done_once classes w world env is.classes_are (Some (vtype.Uninit b.at)) class (put_on_heap w (fresh class))
        (made_fits class made (ap (option_and_then (λ (j : Ins). made_class j.op)) there ∙ ap made_class o))
        (w.inits class),
  )
    where
      rest : TypeFrame
      rest = record {
        locals = substituted (vtype.Uninit b.at) vtype.Top f.locals;
        stack = f.stack;
        marked = f.marked;
      }

      goes : record {
        locals = substituted (vtype.Uninit b.at) vtype.Top f.locals;
        stack = vtype.Uninit b.at ∷ f.stack;
        marked = f.marked;
      } ≡ after
      goes = passed (list_any (is_copy (vtype.Uninit b.at)) f.stack) _ after
          (acted_of env b.at (op.New class) Makes f after refl h)
