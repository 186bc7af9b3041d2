-- An object that is thrown goes up, and enters handlers where it fits (JVMS 2.10).
use Rattle.std.proofs.Common.{ℕ, List, [], ◌∷◌, Option, Some, None, Bool}
use Rattle.std.proofs.Common.{true, false, not, ◌≡◌, ◌&&◌, ◌||◌}
use Rattle.std.proofs.Common.{refl, sym, ◌∙◌, subst, slice_get}
use Rattle.std.specs.Prelude.{codes, option_map}
use Rattle.std.specs.List.{find}
use Rattle.std.specs.Option.{option_map_or}
use Rattle.std.proofs.lemmas.Bool.{and_parts}
use Rattle.class_model.specs.declared.class.Class.{Class}
use Rattle.class_model.specs.declared.code.Code.{Code}
use Rattle.class_model.specs.declared.code.Handler.{Handler}
use Rattle.class_model.specs.declared.code.Ins.{Ins}
use Rattle.class_model.specs.declared.frame.VType.{VType}
use Rattle.jvm_model.specs.Exceptions.{InInitializer}
use Rattle.jvm_model.specs.Heap.{Object, Instance, Array, Str, Builder, World}
use Rattle.jvm_model.specs.Heap.{Failed, class_of, string, string_builder}
use Rattle.jvm_model.specs.Initialisation.{frame, marked}
use Rattle.jvm_model.specs.Local.{at_handler}
use Rattle.jvm_model.specs.Local.{handler_for, handles}
use Rattle.jvm_model.specs.State.{Frame, Wait, AfterCall, AfterInit, AfterFirst, AfterClinit}
use Rattle.jvm_model.specs.State.{ToEntry}
use Rattle.jvm_model.specs.Unwinding.{enter, is_of_class, unwind, unwind_clinit, unwind_frame}
use Rattle.jvm_model.specs.Value.{Ref}
use Rattle.set_view.specs.ViewOf.{shape_of, view_of}
use Rattle.type_verifier.specs.declared.frame.TypeFrame.{TypeFrame}
use Rattle.type_verifier.specs.Assignable.{class_type, is_assignable}
use Rattle.type_verifier.specs.Effects as effects
use Rattle.type_verifier.specs.Walk.{caught_type, covers, fits_at, satisfies, satisfies_handlers}
use Rattle.fit_laws.specs.Frames.{FitsBody, Leads, Stands, result_of}
use Rattle.fit_laws.specs.Sound.{IsSound}
use Rattle.fit_laws.specs.States.{AResult, AThrow, Fits, FitsWaits}
use Rattle.fit_laws.specs.Values.{FitsKnown, FitsObject, FitsReference}
use Rattle.fit_laws.specs.Values.{FitsWorld, IsThrown, throwable}
use Rattle.type_verifier.specs.Rules.{class_of as rules_class, throwable as rules_throwable}
use Rattle.fit_laws.proofs.Lists.{all_pass, found_in, some_same}
use Rattle.fit_laws.proofs.Heaps.{known_value}
use Rattle.fit_laws.proofs.Going.{Frames, done_thrown, result_thrown, stands_where}
use Rattle.fit_laws.proofs.Initialising.{made_thrown}
use Rattle.fit_laws.proofs.TypedAt.{at_place, instruction_at, leads_to_handler}

module _ (classes : List Class) (sound : IsSound classes) where
  -- ---- handlers

  sub_held : (h : List Object) (o : Object) → FitsObject classes h throwable o
      → (c : List ℕ) → (shape_of classes).is_sub (class_of o) c ≡ true → FitsObject classes h (class_type c) o
  sub_held h (Instance class fields message cause) x c e =
      record { whole = x.whole; there = x.there; held = sound.ordered.below class c e }
  sub_held h (Array component values) x c e =
      absurd (both _ (sound.library.exceptions.no_array component) x.held) where
        both : (b : Bool) → b ≡ false → b ≡ true → ⊥
        both b e f = cc
  sub_held h (Str units) x c e =
      record { whole = x.whole; there = x.there; held = sound.ordered.below string c e }
  sub_held h (Builder units) x c e =
      record { whole = x.whole; there = x.there; held = sound.ordered.below string_builder c e }

  caught_reference : (h : List Object) (n : ℕ) → IsThrown classes h n → (c : List ℕ)
      → is_of_class (shape_of classes) (slice_get h n) c ≡ true
      → FitsReference classes h (class_type c) (Ref n)
  caught_reference h n t c e =
      let o = t.fits in (
        o.0,
        o.1,
        sub_held h o.0 o.2 c
            (subst (λ (q : Option Object). is_of_class (shape_of classes) q c ≡ true) o.1 e),
      )

  caught_fits : (h : List Object) (n : ℕ) → IsThrown classes h n → (c : Option (List ℕ))
      → option_map_or (is_of_class (shape_of classes) (slice_get h n)) c true ≡ true
      → FitsKnown classes h (option_map_or rules_class c rules_throwable) (Ref n)
  caught_fits h n t None e = t.fits
  caught_fits h n t (Some c) e = caught_reference h n t c e

  entry_of : (entry : ℕ) (o : Option Handler) → option_map (λ (h : Handler). h.entry) o ≡ Some entry
      → (h : Handler) × (o ≡ Some h) × (h.entry ≡ entry)
  entry_of entry None e = absurd cc
  entry_of entry (Some h) e = (h, refl, some_same h.entry entry e)

  passes_over : (c s : Bool) → c ≡ true → (not c || s) ≡ true → s ≡ true
  passes_over true s e h = h
  passes_over false s e h = absurd cc

  pub catches : (h : List Object) (n : ℕ) → IsThrown classes h n
      → (f : Frame) (a : Stands classes h f) (entry : ℕ)
      → handler_for (is_of_class (shape_of classes) (slice_get h n)) f.body.at a.env.code.handlers
      ≡ Some entry
      → Frames classes sound h (frame f.method (at_handler f.body entry n)) (result_of a.env)
  catches h n t f a entry e = stands_where classes sound h f.method a.env a.is (at_handler f.body entry n) caught
      body
      (subst (λ (to : ℕ). Leads a.env.classes a.is.frames to caught) q.2
      (leads_to_handler a.env a.is.frames a.is.typed k.0 q.0 k.1 caught fit.1))
    where
      is : List ℕ → Bool
      is = is_of_class (shape_of classes) (slice_get h n)

      q : (x : Handler) × (find (handles is f.body.at) a.env.code.handlers ≡ Some x)
          × (x.entry ≡ entry)
      q = entry_of entry (find (handles is f.body.at) a.env.code.handlers) e

      k : (i : ℕ) × (slice_get a.env.code.handlers i ≡ Some q.0) × (handles is f.body.at q.0 ≡ true)
      k = found_in (handles is f.body.at) a.env.code.handlers q.0 q.1

      both : (covers f.body.at q.0 ≡ true) × (option_map_or is q.0.caught true ≡ true)
      both = and_parts (covers f.body.at q.0) (option_map_or is q.0.caught true) k.2

      i : (x : Ins) × (slice_get a.env.code.ins f.body.at ≡ Some x)
      i = instruction_at a.env a.is.frames a.is.typed f.body.at a.here a.there

      satisfied : satisfies_handlers a.env f.body.at a.here ≡ true
      satisfied = subst (λ (z : TypeFrame). satisfies_handlers a.env f.body.at z ≡ true)
          (some_same (at_place a.env a.is.frames a.is.typed f.body.at i.0 i.1).f a.here
          (sym (at_place a.env a.is.frames a.is.typed f.body.at i.0 i.1).there ∙ a.there))
          (at_place a.env a.is.frames a.is.typed f.body.at i.0 i.1).handlers

      caught : TypeFrame
      caught = effects.with_stack a.here (caught_type q.0 ∷ [])

      fit : ((not a.here.marked && is_assignable a.env.classes (caught_type q.0) rules_throwable) ≡ true)
          × (fits_at a.env caught q.0.entry ≡ true)
      fit = and_parts (not a.here.marked && is_assignable a.env.classes (caught_type q.0) rules_throwable)
          (fits_at a.env caught q.0.entry)
          (passes_over (covers f.body.at q.0) (satisfies a.env a.here q.0) both.0
          (all_pass (λ x. not (covers f.body.at x) || satisfies a.env a.here x) a.env.code.handlers
          k.0 q.0 satisfied k.1))

      body : FitsBody a.env h caught (at_handler f.body entry n)
      body = record {
        locals = a.locals;
        stack = (
          known_value a.env h (caught_type q.0) (Ref n)
              (subst (λ (c : List Class). FitsKnown c h (caught_type q.0) (Ref n))
              (sym a.is.classes_are)
              (caught_fits h n t q.0.caught both.1)),
          tt,
        );
      }

  -- ---- unwinding

  enters_fit : (w : World) → FitsWorld classes w → (n : ℕ) → IsThrown classes w.heap n
      → (f : Frame) (a : Stands classes w.heap f)
      → (ws : List Wait) → FitsWaits classes w.heap (AResult (result_of a.env)) ws → (o : Option ℕ)
      → handler_for (is_of_class (shape_of classes) (slice_get w.heap n)) f.body.at
      a.env.code.handlers ≡ o
      → Fits classes (enter w n f ws o)
  enters_fit w x n t f a ws y None e = record {
    world = x;
    control = (t, result_thrown classes w.heap (result_of a.env) ws y);
  }
  enters_fit w x n t f a ws y (Some entry) e =
      let c = catches w.heap n t f a entry e in
      record {
        world = x;
        control = (
          c.0,
          subst (λ (r : Option VType). FitsWaits classes w.heap (AResult r) ws) (sym c.1)
              y,
        );
      }

  frame_unwinds : (w : World) → FitsWorld classes w → (n : ℕ) → IsThrown classes w.heap n
      → (f : Frame)
      (a : Stands classes w.heap f) (ws : List Wait)
      → FitsWaits classes w.heap (AResult (result_of a.env)) ws
      → Fits classes (unwind_frame (shape_of classes) w n f ws ((view_of classes).code f.method))
  frame_unwinds w x n t f a ws y =
      subst (λ (c : Option Code). Fits classes (unwind_frame (shape_of classes) w n f ws c))
      (sym a.is.code) (enters_fit w x n t f a ws y _ refl)

  pub unwinds : (w : World) → FitsWorld classes w → (n : ℕ) → IsThrown classes w.heap n
      → (ws : List Wait)
      → FitsWaits classes w.heap AThrow ws → Fits classes (unwind (view_of classes) w n ws)
  unwinds w x n t [] y = record { world = x; control = tt }
  unwinds w x n t (AfterCall f ∷ ws) y = frame_unwinds w x n t f y.0 ws y.1
  unwinds w x n t (AfterInit f ∷ ws) y = frame_unwinds w x n t f y.0 ws y.1
  unwinds w x n t (AfterFirst class firsts ∷ ws) y = record {
    world = record { objects = x.objects; statics = x.statics };
    control = (t, done_thrown classes w.heap ws y);
  }
  unwinds w x n t (AfterClinit class ∷ ws) y =
      by (is_of_class (shape_of classes) (slice_get w.heap n) (codes "java/lang/Error"))
    where
      m : FitsWorld classes (marked w class Failed)
      m = record { objects = x.objects; statics = x.statics }

      by : (b : Bool) → Fits classes (unwind_clinit (marked w class Failed) n ws b)
      by true = record { world = m; control = (t, done_thrown classes w.heap ws y) }
      by false = made_thrown classes sound (marked w class Failed) m InInitializer (Ref n) t.fits ws
          (done_thrown classes w.heap ws y)
  unwinds w x n t (ToEntry k args ∷ ws) y = record { world = x; control = tt }
