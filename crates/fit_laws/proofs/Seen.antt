-- What the operands of a method of the library are seen as, by their types.
use Rattle.std.proofs.Common.{ℕ, ℤ, List, [], ◌∷◌, Option, Some, Bool, true, false, ◌≡◌, ◌≢◌}
use Rattle.std.proofs.Common.{refl, sym, ap, subst, slice_get, not}
use Rattle.std.specs.Prelude.{IsSome}
use Rattle.std.specs.Option.{option_and_then}
use Rattle.jv_base.specs.Names.{is_text}
use Rattle.jv_base.specs.declared.types.FieldType.{FieldType}
use Rattle.class_model.specs.declared.class.Class.{Class}
use Rattle.class_model.specs.declared.frame.VType.{VType}
use Rattle.jvm_model.specs.Answers.{of_some}
use Rattle.jvm_model.specs.Calls.{acted, called, seen_object, seen_operand}
use Rattle.jvm_model.specs.Heap.{Object, Instance, Array, Str, Builder, World, string, string_builder}
use Rattle.jvm_model.specs.Library.{Row, act, reference}
use Rattle.jvm_model.specs.Library.{Seen, ANull, AnInt, ALong, AString, ABuilder, AnInstance, AnArray}
use Rattle.jvm_model.specs.Program.{Library}
use Rattle.jvm_model.specs.Stack.{◌>>=◌}
use Rattle.jvm_model.specs.Types.{array_of}
use Rattle.jvm_model.specs.Value.{Value, Int, Long, Null, Ref, Lit}
use Rattle.type_verifier.specs.Assignable.{class_type}
use Rattle.type_verifier.specs.Environment.{Environment}
use Rattle.fit_laws.specs.Answered.{FitsAnswer}
use Rattle.fit_laws.specs.Held.{is_held}
use Rattle.fit_laws.specs.Order.{HasInstances}
use Rattle.fit_laws.specs.Sound.{IsSound}
use Rattle.fit_laws.specs.Values.{FitsInstance, FitsObject, FitsReference, FitsWorld, throwable}
use Rattle.fit_laws.proofs.Acts.{FitsAct, IsInstanceAt, acts_fit}

both : (b : Bool) → b ≡ false → b ≡ true → ⊥
both b e f = cc

module _ (classes : List Class) (sound : IsSound classes) (w : World) (x : FitsWorld classes w) where
  -- ---- what is seen

  -- an int
  abbrev pub IsInt : Seen → Type 0
  IsInt (AnInt z) = Unit {0}
  IsInt s = ⊥

  -- a long
  abbrev pub IsLong : Seen → Type 0
  IsLong (ALong z) = Unit {0}
  IsLong s = ⊥

  -- a string
  abbrev pub IsText : Seen → Type 0
  IsText (AString r units) = FitsReference classes w.heap (class_type string) r
  IsText s = ⊥

  -- a string or null
  abbrev pub MaybeText : Seen → Type 0
  MaybeText ANull = Unit {0}
  MaybeText (AString r units) = FitsReference classes w.heap (class_type string) r
  MaybeText s = ⊥

  -- a StringBuilder
  abbrev pub IsBuilder : Seen → Type 0
  IsBuilder (ABuilder n units) = slice_get w.heap n ≡ Some (Builder units)
  IsBuilder s = ⊥

  -- an instance, with what an exception was given
  pub record HasGiven (n : ℕ) (message cause : Value) : Type 0 where
    pub instance : IsInstanceAt w.heap n message cause
    pub message_fits : FitsReference classes w.heap (class_type string) message
    pub cause_fits : FitsReference classes w.heap throwable cause

  abbrev pub IsInstance : Seen → Type 0
  IsInstance (AnInstance n message cause) = HasGiven n message cause
  IsInstance s = ⊥

  -- an exception or null
  abbrev pub MaybeThrown : Seen → Type 0
  MaybeThrown ANull = Unit {0}
  MaybeThrown (AnInstance n message cause) = FitsReference classes w.heap throwable (Ref n)
  MaybeThrown s = ⊥

  -- a reference
  abbrev pub IsReference : Seen → Type 0
  IsReference s = IsSome (reference s)

  -- ---- by cases

  pub int_case : (G : Seen → Type 0) → ((z : ℤ) → G (AnInt z)) → (s : Seen) → IsInt s → G s
  int_case G f (AnInt z) h = f z
  int_case G f ANull h = absurd h
  int_case G f (ALong z) h = absurd h
  int_case G f (AString r units) h = absurd h
  int_case G f (ABuilder n units) h = absurd h
  int_case G f (AnInstance n m c) h = absurd h
  int_case G f (AnArray n) h = absurd h

  pub text_case : (G : Seen → Type 0)
      → ((r : Value) (units : List ℕ) → FitsReference classes w.heap (class_type string) r
      → G (AString r units)) → (s : Seen) → IsText s → G s
  text_case G f (AString r units) h = f r units h
  text_case G f ANull h = absurd h
  text_case G f (AnInt z) h = absurd h
  text_case G f (ALong z) h = absurd h
  text_case G f (ABuilder n units) h = absurd h
  text_case G f (AnInstance n m c) h = absurd h
  text_case G f (AnArray n) h = absurd h

  pub maybe_text_case : (G : Seen → Type 0) → G ANull
      → ((r : Value) (units : List ℕ) → FitsReference classes w.heap (class_type string) r
      → G (AString r units)) → (s : Seen) → MaybeText s → G s
  maybe_text_case G g f ANull h = g
  maybe_text_case G g f (AString r units) h = f r units h
  maybe_text_case G g f (AnInt z) h = absurd h
  maybe_text_case G g f (ALong z) h = absurd h
  maybe_text_case G g f (ABuilder n units) h = absurd h
  maybe_text_case G g f (AnInstance n m c) h = absurd h
  maybe_text_case G g f (AnArray n) h = absurd h

  pub builder_case : (G : Seen → Type 0)
      → ((n : ℕ) (units : List ℕ) → slice_get w.heap n ≡ Some (Builder units) → G (ABuilder n units))
      → (s : Seen) → IsBuilder s → G s
  builder_case G f (ABuilder n units) h = f n units h
  builder_case G f ANull h = absurd h
  builder_case G f (AnInt z) h = absurd h
  builder_case G f (ALong z) h = absurd h
  builder_case G f (AString r units) h = absurd h
  builder_case G f (AnInstance n m c) h = absurd h
  builder_case G f (AnArray n) h = absurd h

  pub instance_case : (G : Seen → Type 0)
      → ((n : ℕ) (m c : Value) → HasGiven n m c → G (AnInstance n m c)) → (s : Seen) → IsInstance s → G s
  instance_case G f (AnInstance n m c) h = f n m c h
  instance_case G f ANull h = absurd h
  instance_case G f (AnInt z) h = absurd h
  instance_case G f (ALong z) h = absurd h
  instance_case G f (AString r units) h = absurd h
  instance_case G f (ABuilder n units) h = absurd h
  instance_case G f (AnArray n) h = absurd h

  pub thrown_case : (G : Seen → Type 0) → G ANull
      → ((n : ℕ) (m c : Value) → FitsReference classes w.heap throwable (Ref n) → G (AnInstance n m c))
      → (s : Seen) → MaybeThrown s → G s
  thrown_case G g f ANull h = g
  thrown_case G g f (AnInstance n m c) h = f n m c h
  thrown_case G g f (AnInt z) h = absurd h
  thrown_case G g f (ALong z) h = absurd h
  thrown_case G g f (AString r units) h = absurd h
  thrown_case G g f (ABuilder n units) h = absurd h
  thrown_case G g f (AnArray n) h = absurd h

  -- ---- operands of a type

  -- an operand is seen so
  abbrev pub Sees : (Seen → Type 0) → Value → Type 0
  Sees P v = (s : Seen) × (seen_operand w v ≡ Some s) × P s

  -- the object of a reference
  shown : (P : Seen → Type 0) (n : ℕ) (o : Object) → slice_get w.heap n ≡ Some o → P (seen_object n o)
      → Sees P (Ref n)
  shown P n o e h = (seen_object n o, ap (λ z. option_and_then (λ y. Some (seen_object n y)) z) e, h)

  text_object : ((component : FieldType) → is_held classes (array_of component) (class_type string) ≡ true → ⊥)
      → (n : ℕ) (o : Object) → slice_get w.heap n ≡ Some o → FitsObject classes w.heap (class_type string) o
      → FitsReference classes w.heap (class_type string) (Ref n) → IsText (seen_object n o)
  text_object never n (Str units) e f r = r
  text_object never n (Array component values) e f r = absurd (never component f.held)
  text_object never n (Instance class fields message cause) e f r =
      absurd (both (is_text class string) (negated (is_text class string) f.whole)
      (sound.library.only_strings class f.held))
    where
      negated : (b : Bool) → not b ≡ true → b ≡ false
      negated true e = absurd cc
      negated false e = refl
  text_object never n (Builder units) e f r =
      absurd (both (is_text string_builder string) refl (sound.library.only_strings string_builder f.held))

  builder_object : ((component : FieldType) → is_held classes (array_of component) (class_type string_builder) ≡ true
      → ⊥) → (n : ℕ) (o : Object) → slice_get w.heap n ≡ Some o
      → FitsObject classes w.heap (class_type string_builder) o → IsBuilder (seen_object n o)
  builder_object never n (Builder units) e f = e
  builder_object never n (Array component values) e f = absurd (never component f.held)
  builder_object never n (Instance class fields message cause) e f =
      absurd (both (is_text class string_builder) (x.objects n _ e).no_builder
      (sound.library.only_builders class f.held))
  builder_object never n (Str units) e f =
      absurd (both (is_text string string_builder) refl (sound.library.only_builders string f.held))

  instance_object : (ty : FieldType) → HasInstances classes ty → (n : ℕ) (o : Object) → slice_get w.heap n ≡ Some o
      → FitsObject classes w.heap ty o → IsInstance (seen_object n o)
  instance_object ty all n (Instance class fields message cause) e f = record {
    instance = record { class = class; fields = fields; there = e };
    message_fits = held.message_fits;
    cause_fits = held.cause_fits;
  } where
    held : FitsInstance classes w.heap class fields message cause
    held = x.objects n (Instance class fields message cause) e
  instance_object ty all n (Array component values) e f = absurd (both _ (all.no_array component) f.held)
  instance_object ty all n (Str units) e f = absurd (both _ all.no_string f.held)
  instance_object ty all n (Builder units) e f = absurd (both _ all.no_builder f.held)

  module _ (strings : (component : FieldType) → is_held classes (array_of component) (class_type string) ≡ true → ⊥)
      (builders : (component : FieldType)
      → is_held classes (array_of component) (class_type string_builder) ≡ true → ⊥) where
    pub sees_text : (v : Value) → FitsReference classes w.heap (class_type string) v → v ≢ Null → Sees IsText v
    sees_text Null y n = absurd (n refl)
    sees_text (Int z) y n = absurd y
    sees_text (Long z) y n = absurd y
    sees_text (Lit units) y n = (AString (Lit units) units, refl, y)
    sees_text (Ref m) y n = shown IsText m y.0 y.1 (text_object strings m y.0 y.1 y.2 y)

    maybe : (s : Seen) → IsText s → MaybeText s
    maybe (AString r units) h = h
    maybe ANull h = absurd h
    maybe (AnInt z) h = absurd h
    maybe (ALong z) h = absurd h
    maybe (ABuilder n units) h = absurd h
    maybe (AnInstance n m c) h = absurd h
    maybe (AnArray n) h = absurd h

    pub sees_maybe_text : (v : Value) → FitsReference classes w.heap (class_type string) v → Sees MaybeText v
    sees_maybe_text Null y = (ANull, refl, tt)
    sees_maybe_text (Int z) y = absurd y
    sees_maybe_text (Long z) y = absurd y
    sees_maybe_text (Lit units) y = (AString (Lit units) units, refl, y)
    sees_maybe_text (Ref m) y =
        shown MaybeText m y.0 y.1 (maybe (seen_object m y.0) (text_object strings m y.0 y.1 y.2 y))

    pub sees_builder : (v : Value) → FitsReference classes w.heap (class_type string_builder) v → v ≢ Null
        → Sees IsBuilder v
    sees_builder Null y n = absurd (n refl)
    sees_builder (Int z) y n = absurd y
    sees_builder (Long z) y n = absurd y
    sees_builder (Lit units) y n =
        absurd (both (is_text string string_builder) refl (sound.library.only_builders string y))
    sees_builder (Ref m) y n = shown IsBuilder m y.0 y.1 (builder_object builders m y.0 y.1 y.2)

  pub sees_instance : (ty : FieldType) → HasInstances classes ty → (v : Value) → FitsReference classes w.heap ty v
      → v ≢ Null → Sees IsInstance v
  sees_instance ty all Null y n = absurd (n refl)
  sees_instance ty all (Int z) y n = absurd y
  sees_instance ty all (Long z) y n = absurd y
  sees_instance ty all (Lit units) y n = absurd (both _ all.no_string y)
  sees_instance ty all (Ref m) y n = shown IsInstance m y.0 y.1 (instance_object ty all m y.0 y.1 y.2)

  thrown : (n : ℕ) (o : Object) → IsInstance (seen_object n o) → FitsReference classes w.heap throwable (Ref n)
      → MaybeThrown (seen_object n o)
  thrown n (Instance class fields message cause) h r = r
  thrown n (Array component values) h r = absurd h
  thrown n (Str units) h r = absurd h
  thrown n (Builder units) h r = absurd h

  pub sees_thrown : (v : Value) → FitsReference classes w.heap throwable v → Sees MaybeThrown v
  sees_thrown Null y = (ANull, refl, tt)
  sees_thrown (Int z) y = absurd y
  sees_thrown (Long z) y = absurd y
  sees_thrown (Lit units) y = absurd (both _ sound.library.exceptions.no_string y)
  sees_thrown (Ref m) y = shown MaybeThrown m y.0 y.1 (thrown m y.0
      (instance_object throwable sound.library.exceptions m y.0 y.1 y.2) y)

  -- any object
  pub sees_reference : (ty : FieldType) (v : Value) → FitsReference classes w.heap ty v → Sees IsReference v
  sees_reference ty Null y = (ANull, refl, refl)
  sees_reference ty (Int z) y = absurd y
  sees_reference ty (Long z) y = absurd y
  sees_reference ty (Lit units) y = (AString (Lit units) units, refl, refl)
  sees_reference ty (Ref m) y = shown IsReference m y.0 y.1 (any y.0) where
    any : (o : Object) → IsReference (seen_object m o)
    any (Instance class fields message cause) = refl
    any (Array component values) = refl
    any (Str units) = refl
    any (Builder units) = refl

  -- ---- a row, by how many operands it has

  module _ (env : Environment) (same : env.classes ≡ classes) (given : Option VType) (row : Row) where
    abbrev Done : List Value → Type 0
    Done args = FitsAnswer classes env w given (called w args (Library row))

    pub one_seen : (P : Seen → Type 0) (v : Value) → Sees P v
        → ((s : Seen) → P s → FitsAct classes w given (act row (s ∷ []))) → Done (v ∷ [])
    one_seen P v s f = subst (λ (o : Option Seen). FitsAnswer classes env w given
        (of_some (λ z. acted w (act row z)) (o >>= (λ z. Some (z ∷ []))))) (sym s.1)
        (acts_fit classes sound w x env same given (act row (s.0 ∷ [])) (f s.0 s.2))

    pub two_seen : (P Q : Seen → Type 0) (u v : Value) → Sees P u → Sees Q v
        → ((s : Seen) → P s → (t : Seen) → Q t → FitsAct classes w given (act row (s ∷ t ∷ []))) → Done (u ∷ v ∷ [])
    two_seen P Q u v s t f = subst (λ (o : Option Seen). FitsAnswer classes env w given
        (of_some (λ z. acted w (act row z))
        (o >>= (λ y. (seen_operand w v >>= (λ z. Some (z ∷ []))) >>= (λ zs. Some (y ∷ zs)))))) (sym s.1)
        (subst (λ (o : Option Seen). FitsAnswer classes env w given
        (of_some (λ z. acted w (act row z))
        ((o >>= (λ z. Some (z ∷ []))) >>= (λ zs. Some (s.0 ∷ zs))))) (sym t.1)
        (acts_fit classes sound w x env same given (act row (s.0 ∷ t.0 ∷ [])) (f s.0 s.2 t.0 t.2)))

    pub three_seen : (P Q R : Seen → Type 0) (u v z : Value) → Sees P u → Sees Q v → Sees R z
        → ((s : Seen) → P s → (t : Seen) → Q t → (r : Seen) → R r
        → FitsAct classes w given (act row (s ∷ t ∷ r ∷ []))) → Done (u ∷ v ∷ z ∷ [])
    three_seen P Q R u v z s t r f = subst (λ (o : Option Seen). FitsAnswer classes env w given
        (of_some (λ y. acted w (act row y))
        (o >>= (λ a. (seen_operand w v >>= (λ b. (seen_operand w z >>= (λ c. Some (c ∷ []))) >>= (λ cs. Some (b ∷ cs))))
        >>= (λ bs. Some (a ∷ bs)))))) (sym s.1)
        (subst (λ (o : Option Seen). FitsAnswer classes env w given
        (of_some (λ y. acted w (act row y))
        ((o >>= (λ b. (seen_operand w z >>= (λ c. Some (c ∷ []))) >>= (λ cs. Some (b ∷ cs))))
        >>= (λ bs. Some (s.0 ∷ bs))))) (sym t.1)
        (subst (λ (o : Option Seen). FitsAnswer classes env w given
        (of_some (λ y. acted w (act row y))
        (((o >>= (λ c. Some (c ∷ []))) >>= (λ cs. Some (t.0 ∷ cs))) >>= (λ bs. Some (s.0 ∷ bs))))) (sym r.1)
        (acts_fit classes sound w x env same given (act row (s.0 ∷ t.0 ∷ r.0 ∷ []))
        (f s.0 s.2 t.0 t.2 r.0 r.2))))
