-- Exceptions that are made, and the moves of an initialisation, keep what fits (JVMS 5.5).
use Rattle.std.proofs.Common.{ℕ, ◌++◌, List, [], ◌∷◌, Option, Some, None, Bool}
use Rattle.std.proofs.Common.{true, false, not, ◌≡◌}
use Rattle.std.proofs.Common.{refl, sym, ap, subst, length}
use Rattle.std.specs.Prelude.{cond, is_some}
use Rattle.std.specs.Option.{option_map_or}
use Rattle.jv_base.specs.Names.{is_text}
use Rattle.class_model.specs.declared.class.Class.{Class}
use Rattle.class_model.specs.declared.frame.VType.{VType}
use Rattle.jvm_model.specs.Exceptions.{Exception, Arithmetic, NullPointer, ArrayIndex, NegativeSize}
use Rattle.jvm_model.specs.Exceptions.{ArrayStore, ClassCast, TextIndex, NoClassDef, InInitializer}
use Rattle.jvm_model.specs.Exceptions.{IncompatibleChange, IllegalAccess, AbstractMethod}
use Rattle.jvm_model.specs.Exceptions.{exception_class}
use Rattle.jvm_model.specs.Fields.{blank, fresh, stored_in}
use Rattle.jvm_model.specs.Heap.{Object, Instance, Builder, World, Init, Fresh, Begun}
use Rattle.jvm_model.specs.Heap.{Ready, Failed, string, string_builder, with_new}
use Rattle.jvm_model.specs.Initialisation.{begin_by, complete, goes_back, is_due, marked}
use Rattle.jvm_model.specs.Initialisation.{prepare, raised, run_clinit, state}
use Rattle.jvm_model.specs.State.{Wait, AfterCall, AfterInit, AfterFirst, AfterClinit}
use Rattle.jvm_model.specs.State.{ToEntry}
use Rattle.jvm_model.specs.State.{Unwinds, Initialises}
use Rattle.jvm_model.specs.Value.{Key, Value, Null}
use Rattle.set_view.specs.ViewOf.{shape_of}
use Rattle.fit_laws.specs.Growth.{Grows}
use Rattle.fit_laws.specs.Sound.{IsSound}
use Rattle.fit_laws.specs.States.{AResult, AThrow, Done, Fits, FitsWaits}
use Rattle.fit_laws.specs.Values.{FitsKey, FitsReference}
use Rattle.fit_laws.specs.Values.{FitsWithin, FitsWorld, throwable}
use Rattle.fit_laws.specs.Held.{IsConcrete}
use Rattle.fit_laws.proofs.Growing.{grown_reference, grown_waits}
use Rattle.fit_laws.proofs.Heaps.{blank_fits, grows_new, newest_at, stored_fits, world_new}
use Rattle.fit_laws.proofs.Going.{begun, done_thrown}

module _ (classes : List Class) (sound : IsSound classes) where
  -- ---- exceptions

  pub fresh_is : (class : List ℕ) → is_text class string_builder ≡ false
      → fresh class ≡ Instance class blank Null Null
  fresh_is class e = ap (λ (b : Bool). cond b (Builder []) (Instance class blank Null Null)) e

  pub instance_fits : (h : List Object) (class : List ℕ) → IsConcrete classes class
      → is_text class string_builder ≡ false → (cause : Value) → FitsReference classes h throwable cause
      → FitsWithin classes h (Instance class blank Null cause)
  instance_fits h class made no_builder cause x = record {
    made = made;
    no_builder = no_builder;
    fields_fit = blank_fits classes h;
    message_fits = tt;
    cause_fits = x;
  }

  -- the machine's own exceptions are neither strings nor what builds them
  no_string : (e : Exception) → is_text (exception_class e) string ≡ false
  no_string Arithmetic = refl
  no_string NullPointer = refl
  no_string ArrayIndex = refl
  no_string NegativeSize = refl
  no_string ArrayStore = refl
  no_string ClassCast = refl
  no_string TextIndex = refl
  no_string NoClassDef = refl
  no_string InInitializer = refl
  no_string IncompatibleChange = refl
  no_string IllegalAccess = refl
  no_string AbstractMethod = refl

  no_builder : (e : Exception) → is_text (exception_class e) string_builder ≡ false
  no_builder Arithmetic = refl
  no_builder NullPointer = refl
  no_builder ArrayIndex = refl
  no_builder NegativeSize = refl
  no_builder ArrayStore = refl
  no_builder ClassCast = refl
  no_builder TextIndex = refl
  no_builder NoClassDef = refl
  no_builder InInitializer = refl
  no_builder IncompatibleChange = refl
  no_builder IllegalAccess = refl
  no_builder AbstractMethod = refl

  -- an object that is made is thrown
  pub made_thrown : (w : World) → FitsWorld classes w → (e : Exception) (cause : Value)
      → FitsReference classes w.heap throwable cause → (ws : List Wait)
      → FitsWaits classes w.heap AThrow ws
      → Fits classes (state (with_new w (Instance (exception_class e) blank Null cause))
      (Unwinds (length w.heap)) ws)
  made_thrown w x e cause c ws y = record {
    world = world_new classes w o x
        (instance_fits (w.heap ++ o ∷ []) (exception_class e) (sound.library.made e) (no_builder e) cause
        (grown_reference classes w.heap (w.heap ++ o ∷ []) g throwable cause c));
    control = (
      record {
        fits = (
          o,
          newest_at w.heap o,
          record {
            whole = ap not (no_string e);
            there = ap is_some (sound.library.made e).named;
            held = sound.library.thrown e;
          },
        );
      },
      grown_waits classes w.heap (w.heap ++ o ∷ []) g AThrow ws y,
    );
  } where
    o : Object
    o = Instance (exception_class e) blank Null cause

    g : Grows w.heap (w.heap ++ o ∷ [])
    g = grows_new w.heap o

  pub raises : (w : World) → FitsWorld classes w → (e : Exception) (ws : List Wait)
      → FitsWaits classes w.heap AThrow ws → Fits classes (raised w e ws)
  raises w x e ws y = subst
      (λ (o : Object). Fits classes (state (with_new w o) (Unwinds (length w.heap)) ws))
      (sym (fresh_is (exception_class e) (no_builder e)))
      (made_thrown w x e Null tt ws y)

  -- ---- initialisation

  pub goes_back_fits : (w : World) → FitsWorld classes w → (ws : List Wait)
      → FitsWaits classes w.heap Done ws
      → Fits classes (goes_back w ws)
  goes_back_fits w x [] y = absurd y
  goes_back_fits w x (AfterCall f ∷ ws) y = absurd y
  goes_back_fits w x (AfterClinit class ∷ ws) y = absurd y
  goes_back_fits w x (AfterInit f ∷ ws) y = record { world = x; control = y }
  goes_back_fits w x (AfterFirst class firsts ∷ ws) y = record { world = x; control = y }
  goes_back_fits w x (ToEntry k args ∷ ws) y =
      let b = begun classes sound w.heap y.0 k args y.1 in
      record {
        world = x;
        control = (
          b.0,
          subst (λ (t : Option VType). FitsWaits classes w.heap (AResult t) ws) (sym b.1)
              y.2,
        );
      }

  constants_fit : (h : List Object) (k : Key) (o : Option Value)
      → (shape_of classes).constant k ≡ o → (v : Value)
      → FitsKey classes h k v → (b : Bool)
      → FitsKey classes h k (cond b (option_map_or (stored_in k) o v) v)
  constants_fit h k o e v x false = x
  constants_fit h k None e v x true = x
  constants_fit h k (Some c) e v x true = stored_fits classes h k c (sound.initialisers.constants h k c e)

  pub begin_fits : (w : World) → FitsWorld classes w → (class : List ℕ) (ws : List Wait)
      → FitsWaits classes w.heap Done ws
      → (i : Init) → Fits classes (begin_by (shape_of classes) w class ws i)
  begin_fits w x class ws y Fresh = record {
    world = record {
      objects = x.objects;
      statics = λ k. constants_fit w.heap k _ refl (w.statics k) (x.statics k)
          (is_text k.class class);
    };
    control = y;
  }
  begin_fits w x class ws y Begun = goes_back_fits w x ws y
  begin_fits w x class ws y Ready = goes_back_fits w x ws y
  begin_fits w x class ws y Failed = raises w x NoClassDef ws (done_thrown classes w.heap ws y)

  pub complete_fits : (w : World) → FitsWorld classes w → (class : List ℕ) (ws : List Wait)
      → FitsWaits classes w.heap Done ws
      → Fits classes (complete w class ws)
  complete_fits w x class ws y =
      goes_back_fits (marked w class Ready) (record { objects = x.objects; statics = x.statics })
      ws y

  clinit_fits : (w : World) → FitsWorld classes w → (class : List ℕ) (ws : List Wait)
      → FitsWaits classes w.heap Done ws
      → (o : Option Key) → (shape_of classes).clinit class ≡ o
      → Fits classes (run_clinit w class ws o)
  clinit_fits w x class ws y None e = complete_fits w x class ws y
  clinit_fits w x class ws y (Some k) e =
      let c = sound.initialisers.clinit class k e w.heap in
      let b = begun classes sound w.heap c.0 k [] c.1 in
      record { world = x; control = (b.0, y) }

  pub prepare_fits : (w : World) → FitsWorld classes w
      → (class : List ℕ) (firsts : List (List ℕ)) (ws : List Wait)
      → FitsWaits classes w.heap Done ws
      → Fits classes (prepare (shape_of classes) w class firsts ws)
  prepare_fits w x class [] ws y = clinit_fits w x class ws y _ refl
  prepare_fits w x class (first ∷ firsts) ws y =
      by (is_due (w.inits first)) (prepare_fits w x class firsts ws y) where
        by : (b : Bool) → Fits classes (prepare (shape_of classes) w class firsts ws)
            → Fits classes (cond b (state w (Initialises first) (AfterFirst class firsts ∷ ws))
            (prepare (shape_of classes) w class firsts ws))
        by true r = record { world = x; control = y }
        by false r = r
