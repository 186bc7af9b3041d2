-- The classes of the library that the machine knows, in a set that is taken (Java SE 8 API).
use Rattle.std.proofs.Common.{◌≡◌, ◌||◌, ◌+◌, ⊎_elim, ℕ, Bool, true, false, List, Some, refl, sym, ap}
use Rattle.std.proofs.Common.{subst, ◌∙◌, arith, codes}
use Rattle.jv_base.specs.Names.{is_text}
use Rattle.jv_base.specs.declared.types.Base.TheVariants as base
use Rattle.jv_base.specs.declared.types.FieldType.{FieldType}
use Rattle.jv_base.proofs.Equality.{text_is}
use Rattle.class_model.specs.declared.class.Class.{Class}
use Rattle.lib_table.specs.Library.{library}
use Rattle.class_pool.specs.Found.{name_of}
use Rattle.class_pool.specs.Hierarchy.{class_named, is_open_kind, kind_in}
use Rattle.class_pool.specs.Resolution.{is_class_below, is_interface_in}
use Rattle.class_pool.specs.Walk.{upwards}
use Rattle.class_pool.specs.declared.id.ClassId.{ClassId}
use Rattle.class_pool.specs.declared.id.ClassId.TheVariants.{Lib}
use Rattle.jvm_model.specs.Exceptions.{Exception, Arithmetic, NullPointer, ArrayIndex, NegativeSize}
use Rattle.jvm_model.specs.Exceptions.{ArrayStore, ClassCast, TextIndex, NoClassDef, InInitializer}
use Rattle.jvm_model.specs.Exceptions.{IncompatibleChange, IllegalAccess, AbstractMethod, exception_class}
use Rattle.jvm_model.specs.Heap.{string, string_builder}
use Rattle.jvm_model.specs.Types.{array_of}
use Rattle.type_verifier.specs.Assignable.{class_type, is_above_arrays, is_class_assignable, is_java_assignable}
use Rattle.type_verifier.specs.Assignable.{reaches}
use Rattle.fit_laws.specs.Held.{IsConcrete, erased_name, is_held}
use Rattle.fit_laws.specs.Order.{HasInstances}
use Rattle.fit_laws.specs.RowTypes.{print_stream}
use Rattle.fit_laws.specs.Sound.{HasLibrary}
use Rattle.fit_laws.specs.Values.{throwable}
use Rattle.fit_laws.proofs.Held.{dims_test}
use Rattle.image_laws.specs.TakenSet.TakenSet.{IsTaken}
use Rattle.image_laws.proofs.TakenSet.Names.{library_named}
use Rattle.image_laws.proofs.ViewImage.Naming.{class_name}
use Rattle.type_sound.proofs.Chains.{below_final}
use Rattle.type_sound.proofs.Order.{assignable_cases, class_in, erased_own, held_below}

both : (b : Bool) → b ≡ false → b ≡ true → ⊥
both b e f = cc

some_is : {A : Type 0} (x y : A) → Some x ≡ Some y → x ≡ y
some_is x y e = cc

exception_name : List ℕ
exception_name = codes "java/lang/Throwable"

module _ (classes : List Class) (t : IsTaken classes) where
  -- a class of the table that is neither an interface nor abstract
  concrete : (name : List ℕ) (id : ℕ) → class_named classes name ≡ Some (Lib id)
      → is_interface_in classes (Lib id) ≡ false → IsConcrete classes name
  concrete name id e i = record { id = Lib id; named = e; no_interface = i; not_abstract = refl }

  pub string_at : class_named classes string ≡ Some (Lib 6)
  unfolding library
  string_at = library_named classes t string refl

  pub builder_at : class_named classes string_builder ≡ Some (Lib 7)
  unfolding library
  builder_at = library_named classes t string_builder refl

  stream_at : class_named classes print_stream ≡ Some (Lib 9)
  unfolding library
  stream_at = library_named classes t print_stream refl

  throwable_at : class_named classes (codes "java/lang/Throwable") ≡ Some (Lib 10)
  unfolding library
  throwable_at = library_named classes t (codes "java/lang/Throwable") refl

  class_six : is_interface_in classes (Lib 6) ≡ false
  unfolding library
  class_six = refl

  class_seven : is_interface_in classes (Lib 7) ≡ false
  unfolding library
  class_seven = refl

  class_nine : is_interface_in classes (Lib 9) ≡ false
  unfolding library
  class_nine = refl

  class_ten : is_interface_in classes (Lib 10) ≡ false
  unfolding library
  class_ten = refl

  -- ---- classes without subclasses

  final_six : is_open_kind (kind_in classes (Lib 6)) ≡ false
  unfolding library
  final_six = refl

  final_seven : is_open_kind (kind_in classes (Lib 7)) ≡ false
  unfolding library
  final_seven = refl

  held_names : (a b : List ℕ) → is_held classes (class_type a) (class_type b) ≡ true
      → is_class_assignable classes a (erased_name classes b) ≡ true
  unfolding is_java_assignable
  held_names a b h = h

  only_one : (name : List ℕ) (z : ClassId) → class_named classes name ≡ Some z → is_interface_in classes z ≡ false
      → is_open_kind (kind_in classes z) ≡ false → (a : List ℕ)
      → is_held classes (class_type a) (class_type name) ≡ true → is_text a name ≡ true
  only_one name z e i final a h = ⊎_elim
      (λ same. text_is a name same)
      (λ u. ⊎_elim
      (λ j. absurd (both (is_interface_in classes z) i
      (subst (λ v. is_interface_in classes v ≡ true) (some_is u.0 z (sym u.1.named ∙ e)) j)))
      (λ r. text_is a name (sym (class_name classes a r.0 r.1)
      ∙ ap (name_of classes) (below_final classes t r.0 z (class_in classes t a r.0 r.1) final
      (subst (λ v. is_class_below classes r.0 v ≡ true) (some_is u.0 z (sym u.1.named ∙ e)) r.2))
      ∙ class_name classes name z e))
      u.1.above)
      (assignable_cases classes t a name
      (subst (λ n. is_class_assignable classes a n ≡ true) (erased_own classes t name z e i) (held_names a name h)))

  -- ---- types all of whose objects are instances

  -- one class of the library isn't below another
  pub not_held : (a b : List ℕ) (x y : ClassId) → class_named classes a ≡ Some x → class_named classes b ≡ Some y
      → is_text a b ≡ false → is_interface_in classes y ≡ false → is_class_below classes x y ≡ false
      → is_held classes (class_type a) (class_type b) ≡ false
  unfolding is_java_assignable
  not_held a b x y e f apart i h =
      ap (is_class_assignable classes a) (erased_own classes t b y f i)
      ∙ ap (λ o. is_text a b || reaches classes o (class_named classes b)) e
      ∙ ap (λ o. is_text a b || reaches classes (Some x) o) f
      ∙ ap (λ c. c || (is_interface_in classes y || is_class_below classes x y)) apart
      ∙ ap (λ c. c || is_class_below classes x y) i ∙ h

  pub no_arrays : (b : List ℕ) (y : ClassId) → class_named classes b ≡ Some y → is_interface_in classes y ≡ false
      → is_above_arrays (base.Class b) ≡ false → (component : FieldType)
      → is_held classes (array_of component) (class_type b) ≡ false
  unfolding is_java_assignable
  no_arrays b y f i below component = by (is_held classes (array_of component) (class_type b)) refl where
    never : is_held classes (array_of component) (class_type b) ≡ true → ⊥
    never h = ⊎_elim
        (λ p. let q = p.0 in omega (arith, q))
        (λ p. both _ (ap (λ n. is_above_arrays (base.Class n)) (erased_own classes t b y f i) ∙ below) p.1)
        (dims_test (component.dims + 1) 0 _ _ h)

    by : (c : Bool) → is_held classes (array_of component) (class_type b) ≡ c
        → is_held classes (array_of component) (class_type b) ≡ false
    by false e = e
    by true e = absurd (never e)

  six_nine : is_class_below classes (Lib 6) (Lib 9) ≡ false
  unfolding library upwards
  six_nine = refl

  seven_nine : is_class_below classes (Lib 7) (Lib 9) ≡ false
  unfolding library upwards
  seven_nine = refl

  six_ten : is_class_below classes (Lib 6) (Lib 10) ≡ false
  unfolding library upwards
  six_ten = refl

  seven_ten : is_class_below classes (Lib 7) (Lib 10) ≡ false
  unfolding library upwards
  seven_ten = refl

  streams : HasInstances classes (class_type print_stream)
  streams = record {
    no_array = no_arrays print_stream (Lib 9) stream_at class_nine refl;
    no_string = not_held string print_stream (Lib 6) (Lib 9) string_at stream_at refl class_nine six_nine;
    no_builder = not_held string_builder print_stream (Lib 7) (Lib 9) builder_at stream_at refl class_nine seven_nine;
  }

  exceptions : HasInstances classes throwable
  exceptions = record {
    no_array = no_arrays (codes "java/lang/Throwable") (Lib 10) throwable_at class_ten refl;
    no_string =
        not_held string (codes "java/lang/Throwable") (Lib 6) (Lib 10) string_at throwable_at refl class_ten six_ten;
    no_builder = not_held string_builder (codes "java/lang/Throwable") (Lib 7) (Lib 10) builder_at throwable_at refl
        class_ten seven_ten;
  }

  -- ---- the machine's own exceptions

  -- the number of the class of each
  abbrev number_of : Exception → ℕ
  number_of Arithmetic = 14
  number_of NullPointer = 18
  number_of ArrayIndex = 20
  number_of NegativeSize = 17
  number_of ArrayStore = 15
  number_of ClassCast = 16
  number_of TextIndex = 21
  number_of NoClassDef = 27
  number_of InInitializer = 28
  number_of IncompatibleChange = 29
  number_of IllegalAccess = 30
  number_of AbstractMethod = 31

  exception_at : (e : Exception) → class_named classes (exception_class e) ≡ Some (Lib (number_of e))
  unfolding library
  exception_at Arithmetic = library_named classes t (exception_class Arithmetic) refl
  exception_at NullPointer = library_named classes t (exception_class NullPointer) refl
  exception_at ArrayIndex = library_named classes t (exception_class ArrayIndex) refl
  exception_at NegativeSize = library_named classes t (exception_class NegativeSize) refl
  exception_at ArrayStore = library_named classes t (exception_class ArrayStore) refl
  exception_at ClassCast = library_named classes t (exception_class ClassCast) refl
  exception_at TextIndex = library_named classes t (exception_class TextIndex) refl
  exception_at NoClassDef = library_named classes t (exception_class NoClassDef) refl
  exception_at InInitializer = library_named classes t (exception_class InInitializer) refl
  exception_at IncompatibleChange = library_named classes t (exception_class IncompatibleChange) refl
  exception_at IllegalAccess = library_named classes t (exception_class IllegalAccess) refl
  exception_at AbstractMethod = library_named classes t (exception_class AbstractMethod) refl

  exception_is : (e : Exception) → is_interface_in classes (Lib (number_of e)) ≡ false
  unfolding library
  exception_is Arithmetic = refl
  exception_is NullPointer = refl
  exception_is ArrayIndex = refl
  exception_is NegativeSize = refl
  exception_is ArrayStore = refl
  exception_is ClassCast = refl
  exception_is TextIndex = refl
  exception_is NoClassDef = refl
  exception_is InInitializer = refl
  exception_is IncompatibleChange = refl
  exception_is IllegalAccess = refl
  exception_is AbstractMethod = refl

  exception_below : (e : Exception) → is_class_below classes (Lib (number_of e)) (Lib 10) ≡ true
  unfolding library upwards
  exception_below Arithmetic = refl
  exception_below NullPointer = refl
  exception_below ArrayIndex = refl
  exception_below NegativeSize = refl
  exception_below ArrayStore = refl
  exception_below ClassCast = refl
  exception_below TextIndex = refl
  exception_below NoClassDef = refl
  exception_below InInitializer = refl
  exception_below IncompatibleChange = refl
  exception_below IllegalAccess = refl
  exception_below AbstractMethod = refl

  pub held_class : (a b : List ℕ) (x y : ClassId) → class_named classes a ≡ Some x → class_named classes b ≡ Some y
      → is_class_below classes x y ≡ true → is_held classes (class_type a) (class_type b) ≡ true
  unfolding is_java_assignable
  held_class a b x y e f h = held_below classes t a b x y e f h

  pub has_library : HasLibrary classes
  has_library = record {
    strings = concrete string 6 string_at class_six;
    only_strings = only_one string (Lib 6) string_at class_six final_six;
    builders = concrete string_builder 7 builder_at class_seven;
    only_builders = only_one string_builder (Lib 7) builder_at class_seven final_seven;
    streams = streams;
    stream = concrete print_stream 9 stream_at class_nine;
    exceptions = exceptions;
    made = λ e. concrete (exception_class e) (number_of e) (exception_at e) (exception_is e);
    thrown = λ e. held_class (exception_class e) (codes "java/lang/Throwable") (Lib (number_of e)) (Lib 10)
        (exception_at e) throwable_at (exception_below e);
  }
