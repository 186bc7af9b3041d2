-- What is answered of arrays fits (JVMS 6.5.arraylength, 6.5.xaload, 6.5.xastore).
use Rattle.std.proofs.Common.{ℕ, ℤ, pos, negsuc, zero, suc, List, [], ◌∷◌, Option, Some, None, Bool, true, false}
use Rattle.std.proofs.Common.{◌≡◌, ◌⊎◌, ◌<◌, inl, inr, ⊎_elim, refl, sym, subst, slice_get, length}
use Rattle.std.specs.Prelude.{◌==◌, cond, codes, nat_lt, slice_set}
use Rattle.std.specs.Int.{w32, int_wrap}
use Rattle.std.specs.List.{AllByRecursion}
use Rattle.std.proofs.lemmas.Bool.{ltb-true}
use Rattle.jv_base.proofs.Lists.{all_at, found_at}
use Rattle.jv_base.specs.declared.types.Base.{Base}
use Rattle.jv_base.specs.declared.types.Base.TheVariants as base
use Rattle.jv_base.specs.declared.types.FieldType.{FieldType}
use Rattle.class_model.specs.Frames.{base_vtype, vtype_of}
use Rattle.class_model.specs.declared.class.Class.{Class}
use Rattle.class_model.specs.declared.frame.VType.{VType}
use Rattle.class_model.specs.declared.frame.VType.TheVariants as vtype
use Rattle.class_model.specs.declared.op.Elem.{Elem}
use Rattle.class_model.specs.declared.op.Elem.TheVariants as elem
use Rattle.jvm_model.specs.Answers.{Answer, Gives, NoAnswer, Raises, of_some}
use Rattle.jvm_model.specs.Arrays.{at_index, get_in, if_storable, length_in, on_array, put_in, put_value}
use Rattle.jvm_model.specs.Exceptions.{ArrayIndex, ArrayStore}
use Rattle.jvm_model.specs.Heap.{Array, Builder, Instance, Object, Str, World, string, string_builder, type_of}
use Rattle.jvm_model.specs.Types.{array_of, is_component, is_component_base, is_reference_elem, is_type_below, stored}
use Rattle.jvm_model.specs.Value.{Int, Lit, Long, Null, Ref, Value}
use Rattle.set_view.specs.ViewOf.{shape_of}
use Rattle.type_verifier.specs.Assignable.{class_type}
use Rattle.type_verifier.specs.Environment.{Environment}
use Rattle.type_verifier.specs.Rules.{element_moved}
use Rattle.fit_laws.specs.Answered.{FitsAnswer}
use Rattle.fit_laws.specs.Growth.{Grows, IsLike}
use Rattle.fit_laws.specs.Held.{is_held, is_there}
use Rattle.fit_laws.specs.Sound.{IsSound}
use Rattle.fit_laws.specs.Values.{FitsKnown, FitsObject, FitsReference, FitsType, FitsWithin, FitsWorld}
use Rattle.fit_laws.proofs.Arrays.{no_dims, types_below}
use Rattle.fit_laws.proofs.Fields.{given_same}
use Rattle.fit_laws.proofs.Growing.{grown_known}
use Rattle.fit_laws.proofs.Heaps.{grown_all, grows_set, world_set}

-- a list with another value in one place
all_set : {A : Type 0} (P : A → Type 0) (xs : List A) (k : ℕ) (y : A) → AllByRecursion P xs → P y
    → AllByRecursion P (slice_set xs k y)
all_set P [] k y h p = h
all_set P (x ∷ xs) zero y h p = (p, h.1)
all_set P (x ∷ xs) (suc k) y h p = (h.0, all_set P xs k y h.1 p)

-- ---- components that an instruction works with

-- the type of what a component holds
abbrev pub moved_type : Elem → FieldType → VType
moved_type elem.Ref c = vtype.Object c
moved_type e c = element_moved e

component_base : (e : Elem) (c : FieldType) (b : Base) → is_component_base e b ≡ true
    → base_vtype c b ≡ moved_type e c
component_base elem.Int c base.Int h = refl
component_base elem.Int c base.Boolean h = absurd cc
component_base elem.Int c base.Byte h = absurd cc
component_base elem.Int c base.Char h = absurd cc
component_base elem.Int c base.Short h = absurd cc
component_base elem.Int c base.Long h = absurd cc
component_base elem.Int c base.Float h = absurd cc
component_base elem.Int c base.Double h = absurd cc
component_base elem.Int c (base.Class n) h = absurd cc
component_base elem.Long c base.Long h = refl
component_base elem.Long c base.Boolean h = absurd cc
component_base elem.Long c base.Byte h = absurd cc
component_base elem.Long c base.Char h = absurd cc
component_base elem.Long c base.Short h = absurd cc
component_base elem.Long c base.Int h = absurd cc
component_base elem.Long c base.Float h = absurd cc
component_base elem.Long c base.Double h = absurd cc
component_base elem.Long c (base.Class n) h = absurd cc
component_base elem.Byte c base.Byte h = refl
component_base elem.Byte c base.Boolean h = refl
component_base elem.Byte c base.Char h = absurd cc
component_base elem.Byte c base.Short h = absurd cc
component_base elem.Byte c base.Int h = absurd cc
component_base elem.Byte c base.Long h = absurd cc
component_base elem.Byte c base.Float h = absurd cc
component_base elem.Byte c base.Double h = absurd cc
component_base elem.Byte c (base.Class n) h = absurd cc
component_base elem.Char c base.Char h = refl
component_base elem.Char c base.Boolean h = absurd cc
component_base elem.Char c base.Byte h = absurd cc
component_base elem.Char c base.Short h = absurd cc
component_base elem.Char c base.Int h = absurd cc
component_base elem.Char c base.Long h = absurd cc
component_base elem.Char c base.Float h = absurd cc
component_base elem.Char c base.Double h = absurd cc
component_base elem.Char c (base.Class n) h = absurd cc
component_base elem.Short c base.Short h = refl
component_base elem.Short c base.Boolean h = absurd cc
component_base elem.Short c base.Byte h = absurd cc
component_base elem.Short c base.Char h = absurd cc
component_base elem.Short c base.Int h = absurd cc
component_base elem.Short c base.Long h = absurd cc
component_base elem.Short c base.Float h = absurd cc
component_base elem.Short c base.Double h = absurd cc
component_base elem.Short c (base.Class n) h = absurd cc
component_base elem.Ref c (base.Class n) h = refl
component_base elem.Ref c base.Boolean h = absurd cc
component_base elem.Ref c base.Byte h = absurd cc
component_base elem.Ref c base.Char h = absurd cc
component_base elem.Ref c base.Short h = absurd cc
component_base elem.Ref c base.Int h = absurd cc
component_base elem.Ref c base.Long h = absurd cc
component_base elem.Ref c base.Float h = absurd cc
component_base elem.Ref c base.Double h = absurd cc

pub component_type : (e : Elem) (c : FieldType) → is_component e c ≡ true → vtype_of c ≡ moved_type e c
component_type e c h = by (c.dims == 0) h where
  of_arrays : (e : Elem) → is_reference_elem e ≡ true → vtype.Object c ≡ moved_type e c
  of_arrays elem.Ref h = refl
  of_arrays elem.Int h = absurd cc
  of_arrays elem.Long h = absurd cc
  of_arrays elem.Byte h = absurd cc
  of_arrays elem.Char h = absurd cc
  of_arrays elem.Short h = absurd cc

  by : (t : Bool) → cond t (is_component_base e c.base) (is_reference_elem e) ≡ true
      → cond t (base_vtype c c.base) (vtype.Object c) ≡ moved_type e c
  by true h = component_base e c c.base h
  by false h = of_arrays e h

module _ (classes : List Class) (sound : IsSound classes) (w : World) (x : FitsWorld classes w) where
  -- an array of components that an instruction works with
  pub record ArrayAt (e : Elem) (v : Value) : Type 0 where
    pub number : ℕ
    pub component : FieldType
    pub values : List Value
    pub is : v ≡ Ref number
    pub there : slice_get w.heap number ≡ Some (Array component values)
    pub works : is_component e component ≡ true

  -- such an array or null
  abbrev pub IsArrayFor : Elem → Value → Type 0
  IsArrayFor e v = (v ≡ Null) ⊎ ArrayAt e v

  -- an array of a type of arrays
  pub record HeldArray (ty : FieldType) (v : Value) : Type 0 where
    pub number : ℕ
    pub component : FieldType
    pub values : List Value
    pub is : v ≡ Ref number
    pub there : slice_get w.heap number ≡ Some (Array component values)
    pub class_there : is_there classes (array_of component) ≡ true
    pub held : is_held classes (array_of component) ty ≡ true

  pub held_array : (ty : FieldType) → 0 < ty.dims → (v : Value) → FitsReference classes w.heap ty v
      → (v ≡ Null) ⊎ HeldArray ty v
  held_array ty some Null y = inl refl
  held_array ty some (Int z) y = absurd y
  held_array ty some (Long z) y = absurd y
  held_array ty some (Lit units) y = absurd (no_dims classes sound.ordered (class_type string) ty refl some y)
  held_array ty some (Ref n) y = inr (at y.0 y.1 y.2) where
    at : (o : Object) → slice_get w.heap n ≡ Some o → FitsObject classes w.heap ty o → HeldArray ty (Ref n)
    at (Array component values) e f = record {
      number = n;
      component = component;
      values = values;
      is = refl;
      there = e;
      class_there = f.there;
      held = f.held;
    }
    at (Instance class fields message cause) e f =
        absurd (no_dims classes sound.ordered (class_type class) ty refl some f.held)
    at (Str units) e f = absurd (no_dims classes sound.ordered (class_type string) ty refl some f.held)
    at (Builder units) e f = absurd (no_dims classes sound.ordered (class_type string_builder) ty refl some f.held)

  module _ (env : Environment) (same : env.classes ≡ classes) where
    -- what is done with an array
    on_fits : (given : Option VType) (f : ℕ → Object → Answer) (n : ℕ) (c : FieldType) (vs : List Value)
        → slice_get w.heap n ≡ Some (Array c vs) → FitsAnswer classes env w given (f n (Array c vs)) → (v : Value)
        → v ≡ Ref n → FitsAnswer classes env w given (on_array w v f)
    on_fits given f n c vs there y v is =
        subst (λ (u : Value). FitsAnswer classes env w given (on_array w u f)) (sym is)
        (subst (λ (o : Option Object). FitsAnswer classes env w given (of_some (f n) o)) (sym there) y)

    null_fits : (given : Option VType) (f : ℕ → Object → Answer) (v : Value) → v ≡ Null
        → FitsAnswer classes env w given (on_array w v f)
    null_fits given f v is = subst (λ (u : Value). FitsAnswer classes env w given (on_array w u f)) (sym is) tt

    -- the length
    pub length_fits : (ty : FieldType) → 0 < ty.dims → (v : Value) → FitsReference classes w.heap ty v
        → FitsAnswer classes env w (Some vtype.Int) (on_array w v (length_in w))
    length_fits ty some v y = ⊎_elim
        (λ e. null_fits (Some vtype.Int) (length_in w) v e)
        (λ a. on_fits (Some vtype.Int) (length_in w) a.number a.component a.values a.there
        (given_same classes w x env same vtype.Int (Int (int_wrap w32 (pos (length a.values)))) (_, refl)) v a.is)
        (held_array ty some v y)

    -- a component is read
    gets : (e : Elem) (given : VType) (c : FieldType) (vs : List Value) → is_component e c ≡ true
        → ((v : Value) → FitsType classes w.heap c v → FitsKnown classes w.heap given v)
        → AllByRecursion (FitsType classes w.heap c) vs → (i : ℤ) (n : ℕ)
        → FitsAnswer classes env w (Some given) (get_in w e i n (Array c vs))
    gets e given c vs works to all i n = by (is_component e c) works i where
      read : (k : ℕ) → k < length vs
          → FitsAnswer classes env w (Some given) (of_some (λ v. Gives (Some v) w) (slice_get vs k))
      read k low = let v = found_at vs k low in
          subst (λ (o : Option Value). FitsAnswer classes env w (Some given) (of_some (λ v. Gives (Some v) w) o))
          (sym v.1)
          (given_same classes w x env same given v.0 (to v.0 (all_at (FitsType classes w.heap c) vs k v.0 all v.1)))

      at : (k : ℕ) (t : Bool) → nat_lt k (length vs) ≡ t
          → FitsAnswer classes env w (Some given)
          (cond t (of_some (λ v. Gives (Some v) w) (slice_get vs k)) (Raises ArrayIndex))
      at k true l = read k (ltb-true k (length vs) l)
      at k false l = tt

      by : (t : Bool) → t ≡ true → (i : ℤ) → FitsAnswer classes env w (Some given)
          (cond t (at_index i (length vs) (λ k. of_some (λ v. Gives (Some v) w) (slice_get vs k))) NoAnswer)
      by false e i = absurd cc
      by true e (pos k) = at k (nat_lt k (length vs)) refl
      by true e (negsuc k) = tt

    pub get_fits : (e : Elem) (given : VType) (v : Value) → IsArrayFor e v
        → ((a : ArrayAt e v) (u : Value) → FitsType classes w.heap a.component u → FitsKnown classes w.heap given u)
        → (i : ℤ) → FitsAnswer classes env w (Some given) (on_array w v (get_in w e i))
    get_fits e given v h to i = ⊎_elim
        (λ q. null_fits (Some given) (get_in w e i) v q)
        (λ a. on_fits (Some given) (get_in w e i) a.number a.component a.values a.there
        (gets e given a.component a.values a.works (to a) (x.objects a.number (Array a.component a.values) a.there) i
        a.number) v a.is)
        h

    -- a component is written
    put_value_fits : (n : ℕ) (c : FieldType) (vs : List Value) → slice_get w.heap n ≡ Some (Array c vs) → (k : ℕ)
        (v : Value) → FitsType classes w.heap c (stored c v)
        → FitsAnswer classes env w None (put_value w n c vs k v)
    put_value_fits n c vs there k v y = (grows, world_set classes w n o p x there like within, tt) where
      o : Object
      o = Array c vs

      p : Object
      p = Array c (slice_set vs k (stored c v))

      like : IsLike o p
      like = record { type = refl; whole = refl }

      grows : Grows w.heap (slice_set w.heap n p)
      grows = grows_set w.heap n o p there like

      within : FitsWithin classes (slice_set w.heap n p) p
      within = all_set (FitsType classes (slice_set w.heap n p) c) vs k (stored c v)
          (grown_all classes w.heap (slice_set w.heap n p) grows c vs (x.objects n o there))
          (grown_known classes w.heap (slice_set w.heap n p) grows (vtype_of c) (stored c v) y)

    -- what may be stored fits the component type
    storable : (n : ℕ) (c : FieldType) (vs : List Value) → slice_get w.heap n ≡ Some (Array c vs)
        → vtype_of c ≡ vtype.Object c → (k : ℕ) (ty : FieldType) (v : Value) → FitsReference classes w.heap ty v
        → FitsAnswer classes env w None (if_storable (shape_of classes) w c v (put_value w n c vs k v))
    storable n c vs there e k ty Null y = put_value_fits n c vs there k Null (of_object e Null tt) where
      of_object : vtype_of c ≡ vtype.Object c → (u : Value) → FitsReference classes w.heap c u
          → FitsType classes w.heap c u
      of_object e u f = subst (λ (t : VType). FitsKnown classes w.heap t u) (sym e) f
    storable n c vs there e k ty (Int z) y = absurd y
    storable n c vs there e k ty (Long z) y = absurd y
    storable n c vs there e k ty (Lit units) y =
        by (is_type_below (shape_of classes).is_sub (class_type string) c) refl
      where
        by : (t : Bool) → is_type_below (shape_of classes).is_sub (class_type string) c ≡ t
            → FitsAnswer classes env w None (cond t (put_value w n c vs k (Lit units)) (Raises ArrayStore))
        by true h = put_value_fits n c vs there k (Lit units)
            (subst (λ (t : VType). FitsKnown classes w.heap t (Lit units)) (sym e)
            (types_below classes sound.ordered (class_type string) c h))
        by false h = tt
    storable n c vs there e k ty (Ref m) y =
        subst (λ (o : Option Object). FitsAnswer classes env w None (of_some (λ z.
        cond (is_type_below (shape_of classes).is_sub (type_of z) c) (put_value w n c vs k (Ref m))
        (Raises ArrayStore)) o))
        (sym y.1) (by (is_type_below (shape_of classes).is_sub (type_of y.0) c) refl)
      where
        by : (t : Bool) → is_type_below (shape_of classes).is_sub (type_of y.0) c ≡ t
            → FitsAnswer classes env w None (cond t (put_value w n c vs k (Ref m)) (Raises ArrayStore))
        by true h = put_value_fits n c vs there k (Ref m)
            (subst (λ (t : VType). FitsKnown classes w.heap t (Ref m)) (sym e) (
              y.0,
              y.1,
              record {
                whole = y.2.whole;
                there = y.2.there;
                held = types_below classes sound.ordered (type_of y.0) c h;
              },
            ))
        by false h = tt

    -- a number is stored as it is
    int_stored : (n : ℕ) (c : FieldType) (vs : List Value) → slice_get w.heap n ≡ Some (Array c vs)
        → vtype_of c ≡ vtype.Int → (k : ℕ) (v : Value) → (z : ℤ) × (v ≡ Int z)
        → FitsAnswer classes env w None (if_storable (shape_of classes) w c v (put_value w n c vs k v))
    int_stored n c vs there e k v y =
        subst (λ (u : Value). FitsAnswer classes env w None
        (if_storable (shape_of classes) w c u (put_value w n c vs k u)))
        (sym y.1) (put_value_fits n c vs there k (Int y.0)
        (subst (λ (t : VType). FitsKnown classes w.heap t (stored c (Int y.0))) (sym e) (_, refl)))

    long_stored : (n : ℕ) (c : FieldType) (vs : List Value) → slice_get w.heap n ≡ Some (Array c vs)
        → vtype_of c ≡ vtype.Long → (k : ℕ) (v : Value) → (z : ℤ) × (v ≡ Long z)
        → FitsAnswer classes env w None (if_storable (shape_of classes) w c v (put_value w n c vs k v))
    long_stored n c vs there e k v y =
        subst (λ (u : Value). FitsAnswer classes env w None
        (if_storable (shape_of classes) w c u (put_value w n c vs k u)))
        (sym y.1) (put_value_fits n c vs there k (Long y.0)
        (subst (λ (t : VType). FitsKnown classes w.heap t (Long y.0)) (sym e) (y.0, refl)))

    -- by what the instruction moves
    put_stored : (e : Elem) (n : ℕ) (c : FieldType) (vs : List Value) → slice_get w.heap n ≡ Some (Array c vs)
        → is_component e c ≡ true → (k : ℕ) (v : Value) → FitsKnown classes w.heap (element_moved e) v
        → FitsAnswer classes env w None (if_storable (shape_of classes) w c v (put_value w n c vs k v))
    put_stored elem.Int n c vs there works k v y = int_stored n c vs there (component_type elem.Int c works) k v y
    put_stored elem.Byte n c vs there works k v y = int_stored n c vs there (component_type elem.Byte c works) k v y
    put_stored elem.Char n c vs there works k v y = int_stored n c vs there (component_type elem.Char c works) k v y
    put_stored elem.Short n c vs there works k v y = int_stored n c vs there (component_type elem.Short c works) k v y
    put_stored elem.Long n c vs there works k v y = long_stored n c vs there (component_type elem.Long c works) k v y
    put_stored elem.Ref n c vs there works k v y =
        storable n c vs there (component_type elem.Ref c works) k (class_type (codes "java/lang/Object")) v y

    puts : (e : Elem) (n : ℕ) (c : FieldType) (vs : List Value) → slice_get w.heap n ≡ Some (Array c vs)
        → is_component e c ≡ true → (i : ℤ) (v : Value) → FitsKnown classes w.heap (element_moved e) v
        → FitsAnswer classes env w None (put_in (shape_of classes) w e i v n (Array c vs))
    puts e n c vs there works i v y = by (is_component e c) works i where
      at : (k : ℕ) (t : Bool) → FitsAnswer classes env w None
          (cond t (if_storable (shape_of classes) w c v (put_value w n c vs k v)) (Raises ArrayIndex))
      at k true = put_stored e n c vs there works k v y
      at k false = tt

      by : (t : Bool) → t ≡ true → (i : ℤ) → FitsAnswer classes env w None (cond t
          (at_index i (length vs) (λ k. if_storable (shape_of classes) w c v (put_value w n c vs k v))) NoAnswer)
      by false q i = absurd cc
      by true q (pos k) = at k (nat_lt k (length vs))
      by true q (negsuc k) = tt

    pub put_fits : (e : Elem) (v : Value) → IsArrayFor e v → (i : ℤ) (u : Value)
        → FitsKnown classes w.heap (element_moved e) u
        → FitsAnswer classes env w None (on_array w v (put_in (shape_of classes) w e i u))
    put_fits e v h i u y = ⊎_elim
        (λ q. null_fits None (put_in (shape_of classes) w e i u) v q)
        (λ a. on_fits None (put_in (shape_of classes) w e i u) a.number a.component a.values a.there
        (puts e a.number a.component a.values a.there a.works i u y) v a.is)
        h
