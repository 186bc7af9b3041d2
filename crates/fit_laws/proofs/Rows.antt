-- Each method of the library does what fits its type, on operands that fit (Java SE 8 API).
use Rattle.std.proofs.Common.{ℕ, ℤ, pos, negsuc, List, [], ◌∷◌, Option, Some, None, Bool, true, false}
use Rattle.std.proofs.Common.{◌≡◌, ◌≢◌, ◌||◌, refl, sym, ap, ◌∙◌, subst, slice_get, length, arith, ⊎_elim}
use Rattle.std.specs.Prelude.{◌+◌, IsSome, cond, nat_lt, option_map, slice_range, is_some}
use Rattle.std.specs.List.{AllZip}
use Rattle.std.specs.Option.{option_map_or}
use Rattle.jv_base.specs.declared.types.Base.TheVariants as base
use Rattle.jv_base.specs.declared.types.FieldType.{FieldType}
use Rattle.jv_base.specs.declared.types.MethodType.{MethodType}
use Rattle.class_model.specs.Frames.{vtype_of}
use Rattle.class_model.specs.declared.class.Class.{Class}
use Rattle.class_model.specs.declared.frame.VType.{VType}
use Rattle.class_model.specs.declared.frame.VType.TheVariants as vtype
use Rattle.class_pool.specs.Resolution.{is_interface_in}
use Rattle.class_pool.specs.declared.id.ClassId.{ClassId}
use Rattle.jvm_model.specs.Calls.{called, seen_operand}
use Rattle.jvm_model.specs.Exceptions.{TextIndex}
use Rattle.jvm_model.specs.Heap.{Builder, World, string, string_builder}
use Rattle.jvm_model.specs.Library.{Told, AsInt, AsLong, AsChar, AsBoolean, AsString, Act, MakesString, Returns, Throws}
use Rattle.jvm_model.specs.Library.{Row, ObjectInit, ObjectEquals, StringLength, StringCharAt}
use Rattle.jvm_model.specs.Library.{StringEquals, StringHashCode, StringIsEmpty, StringFrom}
use Rattle.jvm_model.specs.Library.{StringBetween, StringCompareTo, StringToString, StringValueOf}
use Rattle.jvm_model.specs.Library.{BuilderInit, BuilderInitWith, BuilderAppend, BuilderLength}
use Rattle.jvm_model.specs.Library.{BuilderToString, Print, PrintLine, EndLine, ThrowableInit}
use Rattle.jvm_model.specs.Library.{ThrowableInitWith, ThrowableInitFrom, GetMessage, GetCause}
use Rattle.jvm_model.specs.Library.{Seen, ANull, AnInt, ALong, AString, ABuilder, AnInstance, AnArray}
use Rattle.jvm_model.specs.Library.{act, int, part_of, reference, unit_at, value_text, with_reference, with_told}
use Rattle.jvm_model.specs.Program.{Library}
use Rattle.jvm_model.specs.Types.{array_of}
use Rattle.jvm_model.specs.Value.{Value, Int, Long, Null, Ref, Lit, truth}
use Rattle.type_verifier.specs.Assignable.{class_type, is_above_arrays, is_java_assignable}
use Rattle.type_verifier.specs.Environment.{Environment}
use Rattle.type_verifier.specs.Rules.{returned}
use Rattle.fit_laws.specs.Answered.{FitsAnswer}
use Rattle.fit_laws.specs.Held.{IsConcrete, erased_name, is_held}
use Rattle.fit_laws.specs.RowTypes.{IsRowOf, exception, object, print_stream, row_class, row_parameters}
use Rattle.fit_laws.specs.RowTypes.{plain, row_result, told}
use Rattle.fit_laws.specs.Sound.{IsSound}
use Rattle.fit_laws.specs.Values.{FitsReference, FitsType, FitsWorld, throwable}
use Rattle.fit_laws.proofs.Acts.{FitsAct}
use Rattle.fit_laws.proofs.Going.{hierarchy}
use Rattle.fit_laws.proofs.Held.{dims_test}
use Rattle.fit_laws.proofs.Seen.{HasGiven, IsBuilder, IsInstance, IsReference, IsText, MaybeText, MaybeThrown}
use Rattle.fit_laws.proofs.Seen.{Sees, builder_case, instance_case, maybe_text_case, one_seen, sees_builder}
use Rattle.fit_laws.proofs.Seen.{sees_instance, sees_maybe_text, sees_reference, sees_text, sees_thrown}
use Rattle.fit_laws.proofs.Seen.{text_case, three_seen, thrown_case, two_seen}

-- a class of which objects are made isn't erased
pub erased_class : (classes : List Class) (c : List ℕ) → IsConcrete classes c → erased_name classes c ≡ c
erased_class classes c made = ap (λ (t : Bool). cond t object c)
    (ap (λ (o : Option ClassId). option_map_or (is_interface_in classes) o false) made.named ∙ made.no_interface)

module _ (classes : List Class) (sound : IsSound classes) (w : World) (x : FitsWorld classes w) (env : Environment)
    (same : env.classes ≡ classes) where
  -- a class that isn't above arrays holds none
  holds_no_array : (c : List ℕ) → IsConcrete classes c → is_above_arrays (base.Class c) ≡ false
      → (component : FieldType) → is_held classes (array_of component) (class_type c) ≡ true → ⊥
  unfolding is_java_assignable
  holds_no_array c made below component h = ⊎_elim
      (λ p. omega (arith, p.0))
      (λ p. both _ (ap (λ (n : List ℕ). is_above_arrays (base.Class n)) (erased_class classes c made) ∙ below) p.1)
      (dims_test (component.dims + 1) 0 _ _ h)
    where
      both : (b : Bool) → b ≡ false → b ≡ true → ⊥
      both b e f = cc

  strings : (component : FieldType) → is_held classes (array_of component) (class_type string) ≡ true → ⊥
  strings = holds_no_array string sound.library.strings refl

  builders : (component : FieldType) → is_held classes (array_of component) (class_type string_builder) ≡ true → ⊥
  builders = holds_no_array string_builder sound.library.builders refl

  -- ---- acts

  abbrev Fits : Option VType → Act → Type 0
  Fits given a = FitsAct classes w given a

  truth_fits : (b : Bool) → Fits (Some vtype.Int) (Returns (Some (truth b)))
  truth_fits true = (_, refl)
  truth_fits false = (_, refl)

  unit_fits : (units : List ℕ) (z : ℤ) → Fits (Some vtype.Int) (unit_at units z)
  unit_fits units (pos n) = by (slice_get units n) where
    by : (o : Option ℕ) → Fits (Some vtype.Int) (option_map_or (λ u. int (pos u)) o (Throws TextIndex))
    by None = tt
    by (Some u) = (_, refl)
  unit_fits units (negsuc n) = tt

  part_fits : (units : List ℕ) (a b : ℤ) → Fits (Some (vtype.Object (class_type string))) (part_of units a b)
  part_fits units (pos a) (pos b) = by (nat_lt b a || nat_lt (length units) b) where
    by : (t : Bool) → Fits (Some (vtype.Object (class_type string)))
        (cond t (Throws TextIndex) (MakesString (slice_range units a b)))
    by true = tt
    by false = refl
  part_fits units (pos a) (negsuc b) = tt
  part_fits units (negsuc a) (pos b) = tt
  part_fits units (negsuc a) (negsuc b) = tt

  -- what is done with a reference
  with_fits : (given : Option VType) (f : Value → Act) → ((r : Value) → Fits given (f r)) → (s : Seen)
      → IsReference classes sound w x s → Fits given (with_reference (reference s) f)
  with_fits given f g s h = by (reference s) h where
    by : (o : Option Value) → IsSome o → Fits given (with_reference o f)
    by (Some r) h = g r
    by None h = absurd cc

  -- ---- what is told as a text

  told_text : (ty : Told) (v : Value) → FitsType classes w.heap (told ty) v
      → Sees classes sound w x (λ s. IsSome (value_text ty s)) v
  told_text AsInt (Int z) y = (AnInt z, refl, refl)
  told_text AsInt (Long z) y = absurd cc where
    no : Long z ≡ Int y.0
    no = y.1
  told_text AsInt Null y = absurd cc where
    no : Null ≡ Int y.0
    no = y.1
  told_text AsInt (Ref n) y = absurd cc where
    no : Ref n ≡ Int y.0
    no = y.1
  told_text AsInt (Lit units) y = absurd cc where
    no : Lit units ≡ Int y.0
    no = y.1
  told_text AsLong (Long z) y = (ALong z, refl, refl)
  told_text AsLong (Int z) y = absurd cc where
    no : Int z ≡ Long y.0
    no = y.1
  told_text AsLong Null y = absurd cc where
    no : Null ≡ Long y.0
    no = y.1
  told_text AsLong (Ref n) y = absurd cc where
    no : Ref n ≡ Long y.0
    no = y.1
  told_text AsLong (Lit units) y = absurd cc where
    no : Lit units ≡ Long y.0
    no = y.1
  told_text AsChar (Int z) y = (AnInt z, refl, refl)
  told_text AsChar (Long z) y = absurd cc where
    no : Long z ≡ Int y.0
    no = y.1
  told_text AsChar Null y = absurd cc where
    no : Null ≡ Int y.0
    no = y.1
  told_text AsChar (Ref n) y = absurd cc where
    no : Ref n ≡ Int y.0
    no = y.1
  told_text AsChar (Lit units) y = absurd cc where
    no : Lit units ≡ Int y.0
    no = y.1
  told_text AsBoolean (Int z) y = (AnInt z, refl, refl)
  told_text AsBoolean (Long z) y = absurd cc where
    no : Long z ≡ Int y.0
    no = y.1
  told_text AsBoolean Null y = absurd cc where
    no : Null ≡ Int y.0
    no = y.1
  told_text AsBoolean (Ref n) y = absurd cc where
    no : Ref n ≡ Int y.0
    no = y.1
  told_text AsBoolean (Lit units) y = absurd cc where
    no : Lit units ≡ Int y.0
    no = y.1
  told_text AsString v y = let s = sees_maybe_text classes sound w x strings builders v y in
      (s.0, s.1, maybe_text_case classes sound w x (λ z. IsSome (value_text AsString z)) refl (λ r us f. refl) s.0 s.2)

  told_fits : (given : Option VType) (f : List ℕ → Act) → ((us : List ℕ) → Fits given (f us)) → (o : Option (List ℕ))
      → IsSome o → Fits given (with_told o f)
  told_fits given f g (Some us) h = g us
  told_fits given f g None h = absurd cc

  -- ---- operands

  abbrev Arguments : List FieldType → List Value → Type 0
  Arguments ts vs = AllZip (FitsType classes w.heap) ts vs

  no_argument : (vs : List Value) → Arguments [] vs → vs ≡ []
  no_argument [] h = refl
  no_argument (v ∷ vs) h = absurd h

  -- one that is given
  pub record Given (t : FieldType) (vs : List Value) : Type 0 where
    pub one : Value
    pub is : vs ≡ one ∷ []
    pub fits : FitsType classes w.heap t one

  one_argument : (t : FieldType) (vs : List Value) → Arguments (t ∷ []) vs → Given t vs
  one_argument t [] h = absurd h
  one_argument t (v ∷ []) h = record { one = v; is = refl; fits = h.0 }
  one_argument t (v ∷ u ∷ vs) h = absurd h.1

  pub record GivenTwo (t u : FieldType) (vs : List Value) : Type 0 where
    pub one : Value
    pub two : Value
    pub is : vs ≡ one ∷ two ∷ []
    pub fits : FitsType classes w.heap t one
    pub fits_too : FitsType classes w.heap u two

  two_arguments : (t u : FieldType) (vs : List Value) → Arguments (t ∷ u ∷ []) vs → GivenTwo t u vs
  two_arguments t u [] h = absurd h
  two_arguments t u (v ∷ []) h = absurd h.1
  two_arguments t u (v ∷ z ∷ []) h = record { one = v; two = z; is = refl; fits = h.0; fits_too = h.1.0 }
  two_arguments t u (v ∷ z ∷ y ∷ vs) h = absurd h.1.1

  -- ---- the rows, with a receiver that isn't null

  abbrev Runs : Row → List Value → Type 0
  Runs row args = FitsAnswer classes env w (option_map vtype_of (row_result row)) (called w args (Library row))

  abbrev Own : List ℕ → Value → Type 0
  Own c v = FitsReference classes w.heap (class_type c) v

  -- without arguments
  alone : (row : Row) (P : Seen → Type 0) (v : Value) (vs : List Value) → vs ≡ [] → Sees classes sound w x P v
      → ((s : Seen) → P s → Fits (option_map vtype_of (row_result row)) (act row (s ∷ []))) → Runs row (v ∷ vs)
  alone row P v vs e s f = subst (λ (us : List Value). Runs row (v ∷ us)) (sym e)
      (one_seen classes sound w x env same (option_map vtype_of (row_result row)) row P v s f)

  -- with one
  with_one : (row : Row) (t : FieldType) (P Q : Seen → Type 0) (v : Value) (vs : List Value) (g : Given t vs)
      → Sees classes sound w x P v → Sees classes sound w x Q g.one
      → ((s : Seen) → P s → (r : Seen) → Q r → Fits (option_map vtype_of (row_result row)) (act row (s ∷ r ∷ [])))
      → Runs row (v ∷ vs)
  with_one row t P Q v vs g s q f = subst (λ (us : List Value). Runs row (v ∷ us)) (sym g.is)
      (two_seen classes sound w x env same (option_map vtype_of (row_result row)) row P Q v g.one s q f)

  with_two : (row : Row) (t u : FieldType) (P Q R : Seen → Type 0) (v : Value) (vs : List Value)
      (g : GivenTwo t u vs) → Sees classes sound w x P v → Sees classes sound w x Q g.one
      → Sees classes sound w x R g.two
      → ((s : Seen) → P s → (r : Seen) → Q r → (z : Seen) → R z
      → Fits (option_map vtype_of (row_result row)) (act row (s ∷ r ∷ z ∷ []))) → Runs row (v ∷ vs)
  with_two row t u P Q R v vs g s q r f = subst (λ (us : List Value). Runs row (v ∷ us)) (sym g.is)
      (three_seen classes sound w x env same (option_map vtype_of (row_result row)) row P Q R v g.one g.two s q r f)

  abbrev Text : Seen → Type 0
  Text s = IsText classes sound w x s

  abbrev Building : Seen → Type 0
  Building s = IsBuilder classes sound w x s

  abbrev Standing : Seen → Type 0
  Standing s = IsInstance classes sound w x s

  abbrev Any : Seen → Type 0
  Any s = IsReference classes sound w x s

  text : (v : Value) → Own string v → v ≢ Null → Sees classes sound w x Text v
  text v y n = sees_text classes sound w x strings builders v y n

  building : (v : Value) → Own string_builder v → v ≢ Null → Sees classes sound w x Building v
  building v y n = sees_builder classes sound w x strings builders v y n

  stream : (v : Value) → Own print_stream v → v ≢ Null → Sees classes sound w x Standing v
  stream v y n = sees_instance classes sound w x (class_type print_stream) sound.library.streams v y n

  thrown : (v : Value) → Own exception v → v ≢ Null → Sees classes sound w x Standing v
  thrown v y n = sees_instance classes sound w x throwable sound.library.exceptions v y n

  -- an int is seen as one
  number : (v : Value) (y : (z : ℤ) × (v ≡ Int z)) → Sees classes sound w x (λ s. s ≡ AnInt y.0) v
  number v y = (AnInt y.0, ap (λ (u : Value). seen_operand w u) y.1, refl)

  on_text : (G : Seen → Type 0) → ((r : Value) (us : List ℕ) → Own string r → G (AString r us)) → (s : Seen) → Text s
      → G s
  on_text G f s h = text_case classes sound w x G f s h

  on_maybe : (G : Seen → Type 0) → G ANull → ((r : Value) (us : List ℕ) → Own string r → G (AString r us)) → (s : Seen)
      → MaybeText classes sound w x s → G s
  on_maybe G g f s h = maybe_text_case classes sound w x G g f s h

  on_building : (G : Seen → Type 0)
      → ((n : ℕ) (us : List ℕ) → slice_get w.heap n ≡ Some (Builder us) → G (ABuilder n us)) → (s : Seen)
      → Building s → G s
  on_building G f s h = builder_case classes sound w x G f s h

  on_standing : (G : Seen → Type 0)
      → ((n : ℕ) (m c : Value) → HasGiven classes sound w x n m c → G (AnInstance n m c)) → (s : Seen) → Standing s
      → G s
  on_standing G f s h = instance_case classes sound w x G f s h

  -- StringEquals of any reference
  equals_fits : (r : Value) (us : List ℕ) (t : Seen) → Any t
      → Fits (Some vtype.Int) (act StringEquals (AString r us ∷ t ∷ []))
  equals_fits r us ANull h = truth_fits false
  equals_fits r us (AnInt z) h = absurd cc
  equals_fits r us (ALong z) h = absurd cc
  equals_fits r us (AString q vs) h = truth_fits _
  equals_fits r us (ABuilder n vs) h = truth_fits false
  equals_fits r us (AnInstance n m c) h = truth_fits false
  equals_fits r us (AnArray n) h = truth_fits false

  pub each : (row : Row) → is_some (row_class row) ≡ true → (v : Value)
      → FitsReference classes w.heap (option_map_or class_type (row_class row) (class_type object)) v → v ≢ Null
      → (vs : List Value) → Arguments (row_parameters row) vs → Runs row (v ∷ vs)
  each ObjectInit h v y n vs a = alone ObjectInit Any v vs (no_argument vs a)
      (sees_reference classes sound w x (class_type object) v y)
      (λ s k. with_fits None _ (λ r. tt) s k)
  each ObjectEquals h v y n vs a =
      let g = one_argument (class_type object) vs a in
      with_one ObjectEquals (class_type object) Any Any v vs g
      (sees_reference classes sound w x (class_type object) v y)
      (sees_reference classes sound w x (class_type object) g.one g.fits)
      (λ s k t l. with_fits (Some vtype.Int) _ (λ r. with_fits (Some vtype.Int) _ (λ q. truth_fits _) t l) s k)
  each StringLength h v y n vs a = alone StringLength Text v vs (no_argument vs a) (text v y n)
      (λ s k. on_text (λ z. Fits (Some vtype.Int) (act StringLength (z ∷ []))) (λ r us f. (_, refl)) s k)
  each StringCharAt h v y n vs a =
      let g = one_argument (plain base.Int) vs a in
      with_one StringCharAt (plain base.Int) Text (λ s. s ≡ AnInt g.fits.0) v vs g (text v y n)
      (number g.one g.fits)
      (λ s k t l. subst (λ z. Fits (Some vtype.Int) (act StringCharAt (s ∷ z ∷ []))) (sym l)
      (on_text (λ z. Fits (Some vtype.Int) (act StringCharAt (z ∷ AnInt g.fits.0 ∷ [])))
      (λ r us f. unit_fits us g.fits.0) s k))
  each StringEquals h v y n vs a =
      let g = one_argument (class_type object) vs a in
      with_one StringEquals (class_type object) Text Any v vs g (text v y n)
      (sees_reference classes sound w x (class_type object) g.one g.fits)
      (λ s k t l. on_text (λ z. Fits (Some vtype.Int) (act StringEquals (z ∷ t ∷ [])))
      (λ r us f. equals_fits r us t l) s k)
  each StringHashCode h v y n vs a = alone StringHashCode Text v vs (no_argument vs a) (text v y n)
      (λ s k. on_text (λ z. Fits (Some vtype.Int) (act StringHashCode (z ∷ []))) (λ r us f. (_, refl)) s k)
  each StringIsEmpty h v y n vs a = alone StringIsEmpty Text v vs (no_argument vs a) (text v y n)
      (λ s k. on_text (λ z. Fits (Some vtype.Int) (act StringIsEmpty (z ∷ []))) (λ r us f. truth_fits _) s k)
  each StringFrom h v y n vs a =
      let g = one_argument (plain base.Int) vs a in
      with_one StringFrom (plain base.Int) Text (λ s. s ≡ AnInt g.fits.0) v vs g (text v y n)
      (number g.one g.fits)
      (λ s k t l. subst (λ z. Fits (Some (vtype.Object (class_type string))) (act StringFrom (s ∷ z ∷ []))) (sym l)
      (on_text (λ z. Fits (Some (vtype.Object (class_type string))) (act StringFrom (z ∷ AnInt g.fits.0 ∷ [])))
      (λ r us f. part_fits us g.fits.0 (pos (length us))) s k))
  each StringBetween h v y n vs a =
      let g = two_arguments (plain base.Int) (plain base.Int) vs a in
      with_two StringBetween (plain base.Int) (plain base.Int) Text (λ s. s ≡ AnInt g.fits.0)
      (λ s. s ≡ AnInt g.fits_too.0) v vs g (text v y n) (number g.one g.fits) (number g.two g.fits_too)
      (λ s k t l r q. subst (λ z. Fits (Some (vtype.Object (class_type string))) (act StringBetween (s ∷ z ∷ r ∷ [])))
      (sym l)
      (subst (λ z. Fits (Some (vtype.Object (class_type string))) (act StringBetween (s ∷ AnInt g.fits.0 ∷ z ∷ [])))
      (sym q)
      (on_text (λ z. Fits (Some (vtype.Object (class_type string)))
      (act StringBetween (z ∷ AnInt g.fits.0 ∷ AnInt g.fits_too.0 ∷ [])))
      (λ u us f. part_fits us g.fits.0 g.fits_too.0) s k)))
  each StringCompareTo h v y n vs a =
      let g = one_argument (class_type string) vs a in
      with_one StringCompareTo (class_type string) Text (λ s. MaybeText classes sound w x s) v vs g (text v y n)
      (sees_maybe_text classes sound w x strings builders g.one g.fits)
      (λ s k t l. on_text (λ z. Fits (Some vtype.Int) (act StringCompareTo (z ∷ t ∷ [])))
      (λ r us f. on_maybe (λ z. Fits (Some vtype.Int) (act StringCompareTo (AString r us ∷ z ∷ []))) tt
      (λ q vs p. (_, refl)) t l) s k)
  each StringToString h v y n vs a = alone StringToString Text v vs (no_argument vs a) (text v y n)
      (λ s k. on_text (λ z. Fits (Some (vtype.Object (class_type string))) (act StringToString (z ∷ [])))
      (λ r us f. f) s k)
  each (StringValueOf ty) h v y n vs a = absurd cc
  each BuilderInit h v y n vs a = alone BuilderInit Building v vs (no_argument vs a) (building v y n)
      (λ s k. on_building (λ z. Fits None (act BuilderInit (z ∷ []))) (λ m us f. (us, f, tt)) s k)
  each BuilderInitWith h v y n vs a =
      let g = one_argument (class_type string) vs a in
      with_one BuilderInitWith (class_type string) Building (λ s. MaybeText classes sound w x s) v vs g
      (building v y n) (sees_maybe_text classes sound w x strings builders g.one g.fits)
      (λ s k t l. on_building (λ z. Fits None (act BuilderInitWith (z ∷ t ∷ [])))
      (λ m us f. on_maybe (λ z. Fits None (act BuilderInitWith (ABuilder m us ∷ z ∷ []))) tt
      (λ q vs p. (us, f, tt)) t l) s k)
  each (BuilderAppend ty) h v y n vs a =
      let g = one_argument (told ty) vs a in
      with_one (BuilderAppend ty) (told ty) Building (λ s. IsSome (value_text ty s)) v vs g (building v y n)
      (told_text ty g.one g.fits) (λ s k t l. appended ty s k t l)
    where
      appended : (ty : Told) (s : Seen) → Building s → (t : Seen)
          → IsSome (value_text ty t)
          → Fits (Some (vtype.Object (class_type string_builder))) (act (BuilderAppend ty) (s ∷ t ∷ []))
      appended ty s k t l = on_building
          (λ z. Fits (Some (vtype.Object (class_type string_builder))) (act (BuilderAppend ty) (z ∷ t ∷ [])))
          (λ m us f. told_fits (Some (vtype.Object (class_type string_builder))) _
          (λ zs. (us, f, builder_itself m us f))
          (value_text ty t) l) s k
        where
          builder_itself : (m : ℕ) (us : List ℕ) → slice_get w.heap m ≡ Some (Builder us)
              → Own string_builder (Ref m)
          builder_itself m us f = (
            Builder us,
            f,
            record {
              whole = refl;
              there = ap is_some sound.library.builders.named;
              held = (hierarchy classes sound).itself (class_type string_builder)
                  (ap is_some sound.library.builders.named);
            },
          )
  each BuilderLength h v y n vs a = alone BuilderLength Building v vs (no_argument vs a) (building v y n)
      (λ s k. on_building (λ z. Fits (Some vtype.Int) (act BuilderLength (z ∷ []))) (λ m us f. (_, refl)) s k)
  each BuilderToString h v y n vs a = alone BuilderToString Building v vs (no_argument vs a) (building v y n)
      (λ s k. on_building (λ z. Fits (Some (vtype.Object (class_type string))) (act BuilderToString (z ∷ [])))
      (λ m us f. refl) s k)
  each (Print ty) h v y n vs a =
      let g = one_argument (told ty) vs a in
      with_one (Print ty) (told ty) Standing (λ s. IsSome (value_text ty s)) v vs g (stream v y n)
      (told_text ty g.one g.fits)
      (λ s k t l. on_standing (λ z. Fits None (act (Print ty) (z ∷ t ∷ [])))
      (λ m c d f. told_fits None _ (λ us. refl) (value_text ty t) l) s k)
  each (PrintLine ty) h v y n vs a =
      let g = one_argument (told ty) vs a in
      with_one (PrintLine ty) (told ty) Standing (λ s. IsSome (value_text ty s)) v vs g (stream v y n)
      (told_text ty g.one g.fits)
      (λ s k t l. on_standing (λ z. Fits None (act (PrintLine ty) (z ∷ t ∷ [])))
      (λ m c d f. told_fits None _ (λ us. refl) (value_text ty t) l) s k)
  each EndLine h v y n vs a = alone EndLine Standing v vs (no_argument vs a) (stream v y n)
      (λ s k. on_standing (λ z. Fits None (act EndLine (z ∷ []))) (λ m c d f. refl) s k)
  each ThrowableInit h v y n vs a = alone ThrowableInit Standing v vs (no_argument vs a) (thrown v y n)
      (λ s k. on_standing (λ z. Fits None (act ThrowableInit (z ∷ [])))
      (λ m c d f. (c, d, f.instance, tt, tt, refl)) s k)
  each ThrowableInitWith h v y n vs a =
      let g = one_argument (class_type string) vs a in
      with_one ThrowableInitWith (class_type string) Standing (λ s. MaybeText classes sound w x s) v vs g
      (thrown v y n) (sees_maybe_text classes sound w x strings builders g.one g.fits)
      (λ s k t l. on_standing (λ z. Fits None (act ThrowableInitWith (z ∷ t ∷ [])))
      (λ m c d f. on_maybe (λ z. Fits None (act ThrowableInitWith (AnInstance m c d ∷ z ∷ [])))
      (c, d, f.instance, tt, tt, refl) (λ q us p. (c, d, f.instance, p, tt, refl)) t l) s k)
  each ThrowableInitFrom h v y n vs a =
      let g = two_arguments (class_type string) (class_type exception) vs a in
      with_two ThrowableInitFrom (class_type string) (class_type exception) Standing
      (λ s. MaybeText classes sound w x s) (λ s. MaybeThrown classes sound w x s) v vs g (thrown v y n)
      (sees_maybe_text classes sound w x strings builders g.one g.fits)
      (sees_thrown classes sound w x g.two g.fits_too)
      (λ s k t l r q. on_standing (λ z. Fits None (act ThrowableInitFrom (z ∷ t ∷ r ∷ [])))
      (λ m c d f. on_maybe (λ z. Fits None (act ThrowableInitFrom (AnInstance m c d ∷ z ∷ r ∷ [])))
      (thrown_case classes sound w x
      (λ z. Fits None (act ThrowableInitFrom (AnInstance m c d ∷ ANull ∷ z ∷ [])))
      (c, d, f.instance, tt, tt, refl) (λ i j k p. (c, d, f.instance, tt, p, refl)) r q)
      (λ o us e. thrown_case classes sound w x
      (λ z. Fits None (act ThrowableInitFrom (AnInstance m c d ∷ AString o us ∷ z ∷ [])))
      (c, d, f.instance, e, tt, refl) (λ i j k p. (c, d, f.instance, e, p, refl)) r q)
      t l) s k)
  each GetMessage h v y n vs a = alone GetMessage Standing v vs (no_argument vs a) (thrown v y n)
      (λ s k. on_standing (λ z. Fits (Some (vtype.Object (class_type string))) (act GetMessage (z ∷ [])))
      (λ m c d f. f.message_fits) s k)
  each GetCause h v y n vs a = alone GetCause Standing v vs (no_argument vs a) (thrown v y n)
      (λ s k. on_standing (λ z. Fits (Some (vtype.Object throwable)) (act GetCause (z ∷ [])))
      (λ m c d f. f.cause_fits) s k)

  -- ---- by the type of a row

  -- the result of a method type
  result_is : (row : Row) (ty : MethodType) → ty.ret ≡ row_result row
      → option_map vtype_of (row_result row) ≡ returned ty
  result_is row ty e = ap (option_map vtype_of) (sym e)

  -- a method of the library on an object that isn't null
  pub row_on : (row : Row) (c : List ℕ) (ty : MethodType) → IsRowOf row (Some c) ty → (v : Value) → Own c v
      → v ≢ Null → (vs : List Value) → Arguments ty.args vs
      → FitsAnswer classes env w (returned ty) (called w (v ∷ vs) (Library row))
  row_on row c ty i v y n vs a = subst
      (λ (t : Option VType). FitsAnswer classes env w t (called w (v ∷ vs) (Library row))) (result_is row ty i.result)
      (each row (ap is_some i.class) v
      (subst (λ (o : Option (List ℕ)). FitsReference classes w.heap (option_map_or class_type o (class_type object)) v)
      (sym i.class) y)
      n vs (subst (λ (ts : List FieldType). Arguments ts vs) i.parameters a))

  -- a static one
  valued : (ty : Told) (vs : List Value) → Arguments (told ty ∷ []) vs → Runs (StringValueOf ty) vs
  valued ty vs a =
      let g = one_argument (told ty) vs a in
      subst (λ (us : List Value). Runs (StringValueOf ty) us) (sym g.is)
      (one_seen classes sound w x env same (Some (vtype.Object (class_type string))) (StringValueOf ty)
      (λ s. IsSome (value_text ty s)) g.one (told_text ty g.one g.fits)
      (λ s k. told_fits (Some (vtype.Object (class_type string))) _ (λ us. refl) (value_text ty s) k))

  static_row : (row : Row) → row_class row ≡ None → (vs : List Value) → Arguments (row_parameters row) vs → Runs row vs
  static_row (StringValueOf ty) h vs a = valued ty vs a
  static_row ObjectInit h vs a = absurd cc
  static_row ObjectEquals h vs a = absurd cc
  static_row StringLength h vs a = absurd cc
  static_row StringCharAt h vs a = absurd cc
  static_row StringEquals h vs a = absurd cc
  static_row StringHashCode h vs a = absurd cc
  static_row StringIsEmpty h vs a = absurd cc
  static_row StringFrom h vs a = absurd cc
  static_row StringBetween h vs a = absurd cc
  static_row StringCompareTo h vs a = absurd cc
  static_row StringToString h vs a = absurd cc
  static_row BuilderInit h vs a = absurd cc
  static_row BuilderInitWith h vs a = absurd cc
  static_row (BuilderAppend ty) h vs a = absurd cc
  static_row BuilderLength h vs a = absurd cc
  static_row BuilderToString h vs a = absurd cc
  static_row (Print ty) h vs a = absurd cc
  static_row (PrintLine ty) h vs a = absurd cc
  static_row EndLine h vs a = absurd cc
  static_row ThrowableInit h vs a = absurd cc
  static_row ThrowableInitWith h vs a = absurd cc
  static_row ThrowableInitFrom h vs a = absurd cc
  static_row GetMessage h vs a = absurd cc
  static_row GetCause h vs a = absurd cc

  pub row_static : (row : Row) (ty : MethodType) → IsRowOf row None ty → (vs : List Value) → Arguments ty.args vs
      → FitsAnswer classes env w (returned ty) (called w vs (Library row))
  row_static row ty i vs a = subst
      (λ (t : Option VType). FitsAnswer classes env w t (called w vs (Library row))) (result_is row ty i.result)
      (static_row row i.class vs (subst (λ (ts : List FieldType). Arguments ts vs) i.parameters a))
