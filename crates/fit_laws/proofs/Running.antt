-- What a call runs fits: a method of the program begins with the arguments, or one of the library does what it does.
use Rattle.std.proofs.Common.{ℕ, List, [], ◌∷◌, Option, Some, Bool, true, false, ◌≡◌, ◌≢◌, refl, sym, ap}
use Rattle.std.proofs.Common.{◌∙◌, subst, slice_get}
use Rattle.std.specs.Prelude.{cond, map, option_map}
use Rattle.std.specs.List.{AllByRecursion, AllZip}
use Rattle.std.specs.Option.{option_and_then}
use Rattle.jv_base.specs.declared.types.FieldType.{FieldType}
use Rattle.jv_base.specs.declared.types.MethodType.{MethodType}
use Rattle.class_model.specs.Flags.{is_init, is_static}
use Rattle.class_model.specs.Frames.{initial_locals, this_type, vtype_of}
use Rattle.class_model.specs.declared.class.Class.{Class}
use Rattle.class_model.specs.declared.frame.VType.{VType}
use Rattle.class_model.specs.declared.frame.VType.TheVariants as vtype
use Rattle.class_model.specs.declared.op.MemberRef.{MemberRef}
use Rattle.jvm_model.specs.Answers.{Answer, Begins as Calls, of_some, once}
use Rattle.jvm_model.specs.Calls.{call_selected, call_special, called, called_static, target_on}
use Rattle.jvm_model.specs.Heap.{Array, Begun, Builder, Failed, Fresh, Init, Instance, Object, Ready, Str, World}
use Rattle.jvm_model.specs.Heap.{string, string_builder, type_of}
use Rattle.jvm_model.specs.Program.{Fails, Library, Program, Target}
use Rattle.jvm_model.specs.Types.{array_of}
use Rattle.jvm_model.specs.Value.{Int, Key, Lit, Long, Null, Ref, Value}
use Rattle.set_view.specs.ViewOf.{shape_of}
use Rattle.type_verifier.specs.Assignable.{class_type}
use Rattle.type_verifier.specs.Environment.{Environment}
use Rattle.type_verifier.specs.Rules.{returned}
use Rattle.fit_laws.specs.Answered.{FitsAnswer}
use Rattle.fit_laws.specs.Frames.{Begins}
use Rattle.fit_laws.specs.Held.{is_held}
use Rattle.fit_laws.specs.Meaning.{CallsSelected, IsMethodOf, RunsInit, RunsOn, RunsStatic}
use Rattle.fit_laws.specs.Sound.{IsSound}
use Rattle.fit_laws.specs.Values.{FitsObject, FitsReference, FitsType, FitsValue, FitsWorld}
use Rattle.fit_laws.proofs.Arguments.{NoTops}
use Rattle.fit_laws.proofs.Assigning.{held_reference}
use Rattle.fit_laws.proofs.Beginning.{begins_with}
use Rattle.fit_laws.proofs.Going.{hierarchy}
use Rattle.fit_laws.proofs.Heaps.{known_value}
use Rattle.fit_laws.proofs.Rows.{row_on, row_static}

module _ (env : Environment) (heap : List Object) where
  -- values of parameters
  typed_values : (ts : List FieldType) (vs : List Value) → AllZip (FitsType env.classes heap) ts vs
      → AllZip (FitsValue env heap) (map vtype_of ts) vs
  typed_values [] [] x = x
  typed_values [] (v ∷ vs) x = x
  typed_values (t ∷ ts) [] x = x
  typed_values (t ∷ ts) (v ∷ vs) x = (known_value env heap (vtype_of t) v x.0, typed_values ts vs x.1)

  no_tops : (ts : List FieldType) → AllByRecursion (λ (t : FieldType). vtype_of t ≢ vtype.Top) ts
      → NoTops env heap (map vtype_of ts)
  no_tops [] x = tt
  no_tops (t ∷ ts) x = (x.0, no_tops ts x.1)

no_top_object : (ty : FieldType) → vtype.Object ty ≢ vtype.Top
no_top_object ty e = cc

no_top_this : vtype.UninitThis ≢ vtype.Top
no_top_this e = cc

module _ (classes : List Class) (heap : List Object) where
  abbrev NoFloats : MethodType → Type 0
  NoFloats ty = AllByRecursion (λ (t : FieldType). vtype_of t ≢ vtype.Top) ty.args

  abbrev Fitting : MethodType → List Value → Type 0
  Fitting ty vs = AllZip (FitsType classes heap) ty.args vs

  abbrev Initial : Environment → List VType → List Value → Type 0
  Initial env ts vs = NoTops env heap ts × AllZip (FitsValue env heap) ts vs

  -- the first locals of a method, by what is known of it
  begins : (key : Key) (ty : MethodType) (static : Bool) (m : IsMethodOf classes key ty static) (vs : List Value)
      → Initial m.env (initial_locals m.env.class.name static m.env.method.name ty) vs
      → Begins classes heap (returned ty) key vs
  begins key ty static m vs x =
      subst (λ (t : MethodType). Begins classes heap (option_map vtype_of t.ret) key vs) m.described
      (begins_with classes heap key m.env m.is vs
      (subst (λ (t : MethodType). Initial m.env
      (initial_locals m.env.class.name (is_static m.env.method.flags.0) m.env.method.name t) vs) (sym m.described)
      (subst (λ (s : Bool). Initial m.env (initial_locals m.env.class.name s m.env.method.name ty) vs)
      (sym m.static_is) x)))

  typed_in : (env : Environment) → env.classes ≡ classes → (ty : MethodType) (vs : List Value) → Fitting ty vs
      → AllZip (FitsValue env heap) (map vtype_of ty.args) vs
  typed_in env same ty vs x = typed_values env heap ty.args vs
      (subst (λ (c : List Class). AllZip (FitsType c heap) ty.args vs) (sym same) x)

  pub begins_static : (key : Key) (ty : MethodType) → IsMethodOf classes key ty true → NoFloats ty → (vs : List Value)
      → Fitting ty vs → Begins classes heap (returned ty) key vs
  begins_static key ty m n vs x =
      begins key ty true m vs (no_tops m.env heap ty.args n, typed_in m.env m.is.classes_are ty vs x)

  -- `this` of a method
  this_fits : (env : Environment) → env.classes ≡ classes → (key : Key) → env.class.name ≡ key.class
      → env.method.name ≡ key.name → (b : Bool) → is_init key.name ≡ b → (v : Value)
      → (b ≡ true → (n : ℕ) × (v ≡ Ref n)) → FitsReference classes heap (class_type key.class) v
      → (this_type env.class.name env.method.name ≢ vtype.Top)
      × FitsValue env heap (this_type env.class.name env.method.name) v
  this_fits env same key class named b init v ref x =
      subst (λ (t : Bool). (cond t vtype.UninitThis (vtype.Object (class_type env.class.name)) ≢ vtype.Top)
      × FitsValue env heap (cond t vtype.UninitThis (vtype.Object (class_type env.class.name))) v)
      (sym (ap is_init named ∙ init)) (by b ref)
    where
      own : FitsReference env.classes heap (class_type env.class.name) v
      own = subst (λ (c : List Class). FitsReference c heap (class_type env.class.name) v) (sym same)
          (subst (λ (c : List ℕ). FitsReference classes heap (class_type c) v) (sym class) x)

      by : (t : Bool) → (t ≡ true → (n : ℕ) × (v ≡ Ref n))
          → (cond t vtype.UninitThis (vtype.Object (class_type env.class.name)) ≢ vtype.Top)
          × FitsValue env heap (cond t vtype.UninitThis (vtype.Object (class_type env.class.name))) v
      by true ref = let r = ref refl in (no_top_this, (r.0, r.1, own))
      by false ref = (no_top_object (class_type env.class.name), own)

  pub begins_on : (key : Key) (ty : MethodType) (m : IsMethodOf classes key ty false) → NoFloats ty → (b : Bool)
      → is_init key.name ≡ b → (v : Value) → (b ≡ true → (n : ℕ) × (v ≡ Ref n))
      → FitsReference classes heap (class_type key.class) v → (vs : List Value) → Fitting ty vs
      → Begins classes heap (returned ty) key (v ∷ vs)
  begins_on key ty m n b init v ref y vs x =
      let t = this_fits m.env m.is.classes_are key m.class m.named b init v ref y in
      begins key ty false m (v ∷ vs)
      ((t.0, no_tops m.env heap ty.args n), (t.1, typed_in m.env m.is.classes_are ty vs x))

module _ (classes : List Class) (sound : IsSound classes) (w : World) (x : FitsWorld classes w) (env : Environment)
    (same : env.classes ≡ classes) where
  abbrev Fits : MethodType → Answer → Type 0
  Fits ty a = FitsAnswer classes env w (returned ty) a

  abbrev Takes : MethodType → Type 0
  Takes ty = AllByRecursion (λ (t : FieldType). vtype_of t ≢ vtype.Top) ty.args

  abbrev Args : MethodType → List Value → Type 0
  Args ty vs = AllZip (FitsType classes w.heap) ty.args vs

  -- the class of a static method is initialised first
  initialised_first : (key : Key) (vs : List Value) (ty : MethodType) → Begins classes w.heap (returned ty) key vs
      → (i : Init) → Fits ty (once i key.class (Calls key vs))
  initialised_first key vs ty y Ready = y
  initialised_first key vs ty y Begun = y
  initialised_first key vs ty y Fresh = tt
  initialised_first key vs ty y Failed = tt

  pub static_fits : (ty : MethodType) → Takes ty → (t : Target) → RunsStatic classes ty t → (vs : List Value)
      → Args ty vs → Fits ty (called_static w vs t)
  static_fits ty n (Program key) m vs a =
      initialised_first key vs ty (begins_static classes w.heap key ty m n vs a) (w.inits key.class)
  static_fits ty n (Library row) i vs a = row_static classes sound w x env same row ty i vs a
  static_fits ty n (Fails e) u vs a = tt

  -- what fits a type fits each class that holds it
  received : (from : FieldType) (c : List ℕ) → is_held classes from (class_type c) ≡ true → (v : Value)
      → FitsReference classes w.heap from v → FitsReference classes w.heap (class_type c) v
  received from c h v y = held_reference classes w.heap (hierarchy classes sound) from (class_type c) h v y

  never : (b : Bool) (v : Value) → b ≡ false → b ≡ true → (n : ℕ) × (v ≡ Ref n)
  never b v e f = absurd cc

  pub ofloatsits : (ty : MethodType) → Takes ty → (from : FieldType) (t : Target) → RunsOn classes from ty t
      → (v : Value)
      → FitsReference classes w.heap from v → v ≢ Null → (vs : List Value) → Args ty vs
      → Fits ty (called w (v ∷ vs) t)
  ofloatsits ty n from (Program key) m v y some vs a = begins_on classes w.heap key ty m.0 n false m.1 v
      (never false v refl) (received from key.class m.2 v y) vs a
  ofloatsits ty n from (Library row) i v y some vs a =
      row_on classes sound w x env same row i.0 ty i.1 v (received from i.0 i.2 v y) some vs a
  ofloatsits ty n from (Fails e) u v y some vs a = tt

  no_null : (n : ℕ) → Ref n ≢ Null
  no_null n e = cc

  pub init_fits : (ty : MethodType) → Takes ty → (name : List ℕ) (t : Target) → RunsInit classes name ty t → (n : ℕ)
      → FitsReference classes w.heap (class_type name) (Ref n) → (vs : List Value) → Args ty vs
      → Fits ty (called w (Ref n ∷ vs) t)
  init_fits ty floats name (Program key) m n y vs a = begins_on classes w.heap key ty m.0 floats true m.1 (Ref n)
      (λ e. (n, refl)) (subst (λ (c : List ℕ). FitsReference classes w.heap (class_type c) (Ref n)) (sym m.2) y) vs a
  init_fits ty floats name (Library row) i n y vs a =
      row_on classes sound w x env same row i.0 ty i.1 (Ref n) (received (class_type name) i.0 i.2 (Ref n) y)
      (no_null n) vs a
  init_fits ty floats name (Fails e) u n y vs a = tt

  -- ---- receivers

  -- the object of a reference
  pub special_fits : (ty : MethodType) → Takes ty → (from : List ℕ) (r : MemberRef) (own : FieldType) (t : Target)
      → (shape_of classes).special_target from r ≡ Some t → RunsOn classes own ty t → (v : Value)
      → FitsReference classes w.heap own v → (vs : List Value) → Args ty vs
      → Fits ty (call_special (shape_of classes) from w r (v ∷ vs))
  special_fits ty n from r own t found runs Null y vs a = tt
  special_fits ty n from r own t found runs (Int z) y vs a = absurd y
  special_fits ty n from r own t found runs (Long z) y vs a = absurd y
  special_fits ty n from r own t found runs (Lit units) y vs a =
      subst (λ (o : Option Target). Fits ty (of_some (called w (Lit units ∷ vs)) o)) (sym found)
      (ofloatsits ty n own t runs (Lit units) y (λ e. no_text units e) vs a)
    where
      no_text : (units : List ℕ) → Lit units ≡ Null → ⊥
      no_text units e = cc
  special_fits ty n from r own t found runs (Ref m) y vs a =
      subst (λ (o : Option Object). Fits ty (of_some (called w (Ref m ∷ vs))
      (option_and_then (λ z. (shape_of classes).special_target from r) o))) (sym y.1)
      (subst (λ (o : Option Target). Fits ty (of_some (called w (Ref m ∷ vs)) o)) (sym found)
      (ofloatsits ty n own t runs (Ref m) y (no_null m) vs a))

  -- of a constructor
  pub special_init : (ty : MethodType) → Takes ty → (from : List ℕ) (r : MemberRef) (name : List ℕ) (t : Target)
      → (shape_of classes).special_target from r ≡ Some t → RunsInit classes name ty t → (n : ℕ)
      → FitsReference classes w.heap (class_type name) (Ref n) → (vs : List Value) → Args ty vs
      → Fits ty (call_special (shape_of classes) from w r (Ref n ∷ vs))
  special_init ty floats from r name t found runs n y vs a =
      subst (λ (o : Option Object). Fits ty (of_some (called w (Ref n ∷ vs))
      (option_and_then (λ z. (shape_of classes).special_target from r) o))) (sym y.1)
      (subst (λ (o : Option Target). Fits ty (of_some (called w (Ref n ∷ vs)) o)) (sym found)
      (init_fits ty floats name t runs n y vs a))

  -- by the class of the receiver
  pub selected_fits : (r : MemberRef) (c : CallsSelected classes r) (v : Value)
      → FitsReference classes w.heap r.class v → (vs : List Value) → Args c.typed.ty vs
      → Fits c.typed.ty (call_selected (shape_of classes) w r (v ∷ vs))
  selected_fits r c Null y vs a = tt
  selected_fits r c (Int z) y vs a = absurd y
  selected_fits r c (Long z) y vs a = absurd y
  selected_fits r c (Lit units) y vs a =
      let t = c.on_class string sound.library.strings y in
      subst (λ (o : Option Target). Fits c.typed.ty (of_some (called w (Lit units ∷ vs)) o)) (sym t.1)
      (ofloatsits c.typed.ty c.typed.no_floats (class_type string) t.0 t.2 (Lit units)
      ((hierarchy classes sound).itself (class_type string) (hierarchy classes sound).string_there)
      (λ e. no_text units e) vs a)
    where
      no_text : (units : List ℕ) → Lit units ≡ Null → ⊥
      no_text units e = cc
  selected_fits r c (Ref m) y vs a =
      subst (λ (o : Option Object). Fits c.typed.ty (of_some (called w (Ref m ∷ vs))
      (option_and_then (target_on (shape_of classes) r) o))) (sym y.1) (on y.0 y.1 y.2)
    where
      -- the object is of its own type
      own : (o : Object) → slice_get w.heap m ≡ Some o → FitsObject classes w.heap r.class o
          → FitsReference classes w.heap (type_of o) (Ref m)
      own o e f = (
        o,
        e,
        record {
          whole = f.whole;
          there = f.there;
          held = (hierarchy classes sound).itself (type_of o) f.there;
        },
      )

      runs : (from : FieldType) (z : Option Target)
          → (t : Target) × (z ≡ Some t) × RunsOn classes from c.typed.ty t
          → FitsReference classes w.heap from (Ref m) → Fits c.typed.ty (of_some (called w (Ref m ∷ vs)) z)
      runs from z t f = subst (λ (o : Option Target). Fits c.typed.ty (of_some (called w (Ref m ∷ vs)) o)) (sym t.1)
          (ofloatsits c.typed.ty c.typed.no_floats from t.0 t.2 (Ref m) f (no_null m) vs a)

      on : (o : Object) → slice_get w.heap m ≡ Some o → FitsObject classes w.heap r.class o
          → Fits c.typed.ty (of_some (called w (Ref m ∷ vs)) (target_on (shape_of classes) r o))
      on (Instance class fields message cause) e f = runs (class_type class) _
          (c.on_class class (x.objects m (Instance class fields message cause) e).made f.held)
          (own (Instance class fields message cause) e f)
      on (Array component values) e f = runs (array_of component) _ (c.on_array component f.held)
          (own (Array component values) e f)
      on (Str units) e f = runs (class_type string) _ (c.on_class string sound.library.strings f.held)
          (own (Str units) e f)
      on (Builder units) e f = runs (class_type string_builder) _
          (c.on_class string_builder sound.library.builders f.held) (own (Builder units) e f)
