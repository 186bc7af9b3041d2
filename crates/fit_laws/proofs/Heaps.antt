-- Heaps and static fields that fit, with one more object, with default values, and with what is stored.
use Rattle.std.proofs.Common.{ℕ, ℤ, zero, suc, ◌++◌, List, [], ◌∷◌, Option, Some, None, Bool}
use Rattle.std.proofs.Common.{true, false, ◌≡◌, ◌⊎◌, ◌&&◌}
use Rattle.std.proofs.Common.{refl, sym, ◌∙◌, subst, slice_get, length, ⊎_elim, inl, inr}
use Rattle.std.specs.Prelude.{◌==◌, cond, option_map, IfSome}
use Rattle.std.specs.List.{AllByRecursion}
use Rattle.std.specs.Option.{option_map_or}
use Rattle.std.proofs.lemmas.Bool.{and_parts}
use Rattle.jv_base.specs.Names.{is_text}
use Rattle.jv_base.specs.declared.types.Base.{Base}
use Rattle.jv_base.specs.declared.types.Base.TheVariants as base
use Rattle.jv_base.specs.declared.types.FieldType.{FieldType}
use Rattle.jv_base.proofs.Lists.{got_in_front}
use Rattle.class_model.specs.Frames.{base_vtype, vtype_of}
use Rattle.class_model.specs.declared.class.Class.{Class}
use Rattle.class_model.specs.declared.frame.VType.{VType}
use Rattle.class_model.specs.declared.op.Kind.TheVariants as kind
use Rattle.class_model.specs.declared.frame.VType.TheVariants as vtype
use Rattle.jvm_model.specs.Fields.{blank, stored_in}
use Rattle.jvm_model.specs.Heap.{Object, Instance, Array, Str, Builder, World}
use Rattle.jvm_model.specs.Heap.{string, with_new}
use Rattle.jvm_model.specs.Types.{stored, default_of, field_type, kind_of, kind_of_base}
use Rattle.jvm_model.specs.Value.{Key, Value, Int, Long, Null, Ref, Lit}
use Rattle.type_verifier.specs.Assignable.{class_type}
use Rattle.type_verifier.specs.Environment.{Environment}
use Rattle.fit_laws.specs.Growth.{Grows}
use Rattle.fit_laws.specs.Values.{FitsKey, FitsKnown, FitsType}
use Rattle.fit_laws.specs.Values.{FitsValue, FitsWithin, FitsWorld, throwable}
use Rattle.fit_laws.proofs.Growing.{grown_known, grown_reference}
use Rattle.std.specs.Prelude.{slice_set}
use Rattle.jv_base.proofs.Equality.{same_text}
use Rattle.jvm_model.specs.Heap.{with_object}
use Rattle.jvm_model.specs.Value.{same_key, set_key}
use Rattle.fit_laws.specs.Growth.{IsLike}
use Rattle.fit_laws.proofs.Lists.{some_same}

pub newest_at : {A : Type 0} (xs : List A) (y : A) → slice_get (xs ++ y ∷ []) (length xs) ≡ Some y
newest_at [] y = refl
newest_at (x ∷ xs) y = newest_at xs y

-- what stands in a list with one more stood there before, or is that one
got_back : {A : Type 0} (xs : List A) (y : A) (n : ℕ) (x : A) → slice_get (xs ++ y ∷ []) n ≡ Some x
    → (slice_get xs n ≡ Some x) ⊎ (y ≡ x)
got_back [] y zero x h = inr (some_same y x h)
got_back [] y (suc n) x h = absurd cc
got_back (z ∷ xs) y zero x h = inl h
got_back (z ∷ xs) y (suc n) x h = got_back xs y n x h

pub grows_new : (h : List Object) (o : Object) → Grows h (h ++ o ∷ [])
grows_new h o n p e = (p, got_in_front h (o ∷ []) n p e, record { type = refl; whole = refl })

pub known_value : (env : Environment) (heap : List Object) (ty : VType) (v : Value)
    → FitsKnown env.classes heap ty v
    → FitsValue env heap ty v
known_value env heap vtype.Top v x = x
known_value env heap vtype.Int v x = x
known_value env heap vtype.Long v x = x
known_value env heap vtype.Null v x = x
known_value env heap vtype.UninitThis v x = absurd x
known_value env heap (vtype.Object ty) v x = x
known_value env heap (vtype.Uninit at) v x = absurd x

no_long : (y z : ℤ) → Int y ≡ Long z → ⊥
no_long y z e = cc

no_null : (z : ℤ) → Int z ≡ Null → ⊥
no_null z e = cc

module _ (classes : List Class) where
  pub grown_key : (h h' : List Object) → Grows h h' → (o : Option FieldType) (v : Value)
      → IfSome o (λ ty. FitsType classes h ty v)
      → IfSome o (λ ty. FitsType classes h' ty v)
  grown_key h h' g None v x = x
  grown_key h h' g (Some ty) v x = grown_known classes h h' g (vtype_of ty) v x

  pub grown_all : (h h' : List Object) → Grows h h' → (ty : FieldType) (vs : List Value)
      → AllByRecursion (FitsType classes h ty) vs
      → AllByRecursion (FitsType classes h' ty) vs
  grown_all h h' g ty [] x = x
  grown_all h h' g ty (v ∷ vs) x =
      (grown_known classes h h' g (vtype_of ty) v x.0, grown_all h h' g ty vs x.1)

  pub grown_within : (h h' : List Object) → Grows h h' → (o : Object) → FitsWithin classes h o
      → FitsWithin classes h' o
  grown_within h h' g (Instance class fields message cause) x = record {
    made = x.made;
    no_builder = x.no_builder;
    fields_fit = λ k. grown_key h h' g (field_type k.descriptor) (fields k) (x.fields_fit k);
    message_fits = grown_reference classes h h' g (class_type string) message x.message_fits;
    cause_fits = grown_reference classes h h' g throwable cause
        x.cause_fits;
  }
  grown_within h h' g (Array component values) x = grown_all h h' g component values x
  grown_within h h' g (Str units) x = x
  grown_within h h' g (Builder units) x = x

  -- a world with one more object
  pub world_new : (w : World) (o : Object) → FitsWorld classes w
      → FitsWithin classes (w.heap ++ o ∷ []) o
      → FitsWorld classes (with_new w o)
  world_new w o x f = record {
    objects = λ n p e. ⊎_elim
        (λ q. grown_within w.heap (w.heap ++ o ∷ []) (grows_new w.heap o) p (x.objects n p q))
        (λ q. subst (λ z. FitsWithin classes (w.heap ++ o ∷ []) z) q f)
        (got_back w.heap o n p e);
    statics = λ k. grown_key w.heap (w.heap ++ o ∷ []) (grows_new w.heap o)
        (field_type k.descriptor) (w.statics k) (x.statics k);
  }

  -- ---- default values

  blank_base : (h : List Object) (ty : FieldType) (b : Base)
      → FitsKnown classes h (base_vtype ty b) (default_of (kind_of_base b))
  blank_base h ty base.Boolean = (_, refl)
  blank_base h ty base.Byte = (_, refl)
  blank_base h ty base.Char = (_, refl)
  blank_base h ty base.Short = (_, refl)
  blank_base h ty base.Int = (_, refl)
  blank_base h ty base.Long = (_, refl)
  blank_base h ty base.Float = tt
  blank_base h ty base.Double = tt
  blank_base h ty (base.Class name) = tt

  pub blank_type : (h : List Object) (ty : FieldType)
      → FitsType classes h ty (default_of (kind_of ty))
  blank_type h ty = by (ty.dims == 0) where
    by : (b : Bool) → FitsKnown classes h (cond b (base_vtype ty ty.base) (vtype.Object ty))
        (default_of (cond b (kind_of_base ty.base) kind.Ref))
    by true = blank_base h ty ty.base
    by false = tt

  blank_told : (h : List Object) (o : Option FieldType)
      → IfSome o
      (λ ty. FitsType classes h ty (option_map_or default_of (option_map kind_of o) Null))
  blank_told h None = tt
  blank_told h (Some ty) = blank_type h ty

  pub blank_fits : (h : List Object) (k : Key) → FitsKey classes h k (blank k)
  blank_fits h k = blank_told h (field_type k.descriptor)

-- ---- what is stored

module _ (classes : List Class) where
  stored_value : (h : List Object) (ty t : FieldType) (v : Value) → FitsType classes h t v
      → FitsType classes h t (stored ty v)
  stored_value h ty t (Int z) x = int_stays (vtype_of t) x where
    int_stays : (u : VType) → FitsKnown classes h u (Int z)
        → FitsKnown classes h u (stored ty (Int z))
    int_stays vtype.Top x = tt
    int_stays vtype.Int x = (_, refl)
    int_stays vtype.Long x = absurd (no_long z x.0 x.1)
    int_stays vtype.Null x = absurd (no_null z x)
    int_stays vtype.UninitThis x = x
    int_stays (vtype.Object u) x = x
    int_stays (vtype.Uninit at) x = x
  stored_value h ty t (Long z) x = x
  stored_value h ty t Null x = x
  stored_value h ty t (Ref n) x = x
  stored_value h ty t (Lit units) x = x

  stored_told : (h : List Object) (o : Option FieldType) (v : Value)
      → IfSome o (λ t. FitsType classes h t v)
      → IfSome o (λ t. FitsType classes h t (option_map_or (λ ty. stored ty v) o v))
  stored_told h None v x = tt
  stored_told h (Some ty) v x = stored_value h ty ty v x

  pub stored_fits : (h : List Object) (k : Key) (v : Value) → FitsKey classes h k v
      → FitsKey classes h k (stored_in k v)
  stored_fits h k v x = stored_told h (field_type k.descriptor) v x

-- ---- another object in a place

got_set : {A : Type 0} (xs : List A) (n : ℕ) (y : A) (m : ℕ) (x : A)
    → slice_get (slice_set xs n y) m ≡ Some x
    → (slice_get xs m ≡ Some x) ⊎ (y ≡ x)
got_set [] n y m x e = inl e
got_set (z ∷ xs) zero y zero x e = inr (some_same y x e)
got_set (z ∷ xs) zero y (suc m) x e = inl e
got_set (z ∷ xs) (suc n) y zero x e = inl e
got_set (z ∷ xs) (suc n) y (suc m) x e = got_set xs n y m x e

like_self : (o : Object) → IsLike o o
like_self o = record { type = refl; whole = refl }

pub grows_same : (h : List Object) → Grows h h
grows_same h n o e = (o, e, like_self o)

pub grows_set : (h : List Object) (n : ℕ) (o p : Object) → slice_get h n ≡ Some o → IsLike o p
    → Grows h (slice_set h n p)
grows_set [] n o p e l m q f = absurd cc
grows_set (z ∷ h) zero o p e l zero q f =
    (p, refl, subst (λ (r : Object). IsLike r p) (sym (some_same z o e) ∙ some_same z q f) l)
grows_set (z ∷ h) zero o p e l (suc m) q f = (q, f, like_self q)
grows_set (z ∷ h) (suc n) o p e l zero q f = (q, f, like_self q)
grows_set (z ∷ h) (suc n) o p e l (suc m) q f = grows_set h n o p e l m q f

module _ (classes : List Class) where
  -- a world with another object in a place
  pub world_set : (w : World) (n : ℕ) (o p : Object) → FitsWorld classes w
      → slice_get w.heap n ≡ Some o → IsLike o p
      → FitsWithin classes (slice_set w.heap n p) p → FitsWorld classes (with_object w n p)
  world_set w n o p x e l f = record {
    objects = λ m q d. ⊎_elim
        (λ s. grown_within classes w.heap (slice_set w.heap n p) (grows_set w.heap n o p e l) q
        (x.objects m q s))
        (λ s. subst (λ (z : Object). FitsWithin classes (slice_set w.heap n p) z) s f)
        (got_set w.heap n p m q d);
    statics = λ k. grown_key classes w.heap (slice_set w.heap n p) (grows_set w.heap n o p e l)
        (field_type k.descriptor) (w.statics k)
        (x.statics k);
  }

  -- another value in one field
  pub key_set : (h : List Object) (fields : Key → Value) (k : Key) (v : Value)
      → ((l : Key) → FitsKey classes h l (fields l))
      → FitsKey classes h k v → (l : Key) → FitsKey classes h l (set_key fields k v l)
  key_set h fields k v x y l = by (same_key l k) refl where
    by : (b : Bool) → same_key l k ≡ b → FitsKey classes h l (cond b v (fields l))
    by false e = x l
    by true e = subst (λ (d : List ℕ). IfSome (field_type d) (λ ty. FitsType classes h ty v))
        (sym same) y where
          same : l.descriptor ≡ k.descriptor
          same = same_text l.descriptor k.descriptor
              (and_parts (is_text l.class k.class && is_text l.name k.name)
              (is_text l.descriptor k.descriptor) e).1
