-- What a method of the library does fits, act by act.
use Rattle.std.proofs.Common.{ℕ, List, true, Option, Some, None, ◌≡◌, refl, sym, subst, slice_get}
use Rattle.std.specs.Prelude.{slice_set}
use Rattle.class_model.specs.declared.class.Class.{Class}
use Rattle.class_model.specs.declared.frame.VType.{VType}
use Rattle.class_model.specs.declared.frame.VType.TheVariants as vtype
use Rattle.jvm_model.specs.Answers.{of_some}
use Rattle.jvm_model.specs.Calls.{acted, set_builder, set_thrown}
use Rattle.jvm_model.specs.Heap.{Object, Instance, Str, Builder, World, newest, string}
use Rattle.jvm_model.specs.Library.{Act, Returns, MakesString, SetsBuilder, SetsThrown, Writes, Throws}
use Rattle.jvm_model.specs.Library.{NoAct}
use Rattle.jvm_model.specs.Value.{Key, Value}
use Rattle.type_verifier.specs.Assignable.{class_type}
use Rattle.type_verifier.specs.Environment.{Environment}
use Rattle.fit_laws.specs.Answered.{FitsAnswer, FitsResult, FitsReturned}
use Rattle.fit_laws.specs.Growth.{Grows, IsLike}
use Rattle.fit_laws.specs.Held.{is_there}
use Rattle.fit_laws.specs.Sound.{IsSound}
use Rattle.fit_laws.specs.Values.{FitsInstance, FitsReference, FitsWithin, FitsWorld, throwable}
use Rattle.fit_laws.proofs.Going.{hierarchy, returned_result}
use Rattle.fit_laws.proofs.Growing.{grown_known, grown_reference}
use Rattle.fit_laws.proofs.Heaps.{grown_within, grows_new, grows_same, grows_set, newest_at}
use Rattle.fit_laws.proofs.Heaps.{world_new, world_set}

-- there is an instance with this number
pub record IsInstanceAt (heap : List Object) (n : ℕ) (message cause : Value) : Type 0 where
  pub class : List ℕ
  pub fields : Key → Value
  pub there : slice_get heap n ≡ Some (Instance class fields message cause)

module _ (classes : List Class) (w : World) where
  -- an act fits a result of this type, or none: it has its objects, and gives such a result
  abbrev pub FitsAct : Option VType → Act → Type 0
  FitsAct given (Returns result) = FitsReturned classes w.heap given result
  FitsAct given (MakesString units) = given ≡ Some (vtype.Object (class_type string))
  FitsAct given (SetsBuilder n units result) = (old : List ℕ) × (slice_get w.heap n ≡ Some (Builder old))
      × FitsReturned classes w.heap given result
  FitsAct given (SetsThrown n message cause) = (m c : Value) × IsInstanceAt w.heap n m c
      × FitsReference classes w.heap (class_type string) message × FitsReference classes w.heap throwable cause
      × (given ≡ None)
  FitsAct given (Writes units) = given ≡ None
  FitsAct given (Throws exception) = Unit {0}
  FitsAct given NoAct = ⊥

-- what fits in a heap fits when it has grown
grown_returned : (classes : List Class) (h later : List Object) → Grows h later → (given : Option VType)
    (o : Option Value) → FitsReturned classes h given o → FitsReturned classes later given o
grown_returned classes h later g None None x = x
grown_returned classes h later g None (Some v) x = x
grown_returned classes h later g (Some ty) None x = x
grown_returned classes h later g (Some ty) (Some v) x = grown_known classes h later g ty v x

module _ (classes : List Class) (sound : IsSound classes) (w : World) (x : FitsWorld classes w)
    (env : Environment) (same : env.classes ≡ classes) where
  result : (h : List Object) (given : Option VType) (o : Option Value) → FitsReturned classes h given o
      → FitsResult env h given o
  result h given o y = returned_result classes sound env same h given o y

  makes_string : (units : List ℕ) (given : Option VType) → given ≡ Some (vtype.Object (class_type string))
      → FitsAnswer classes env w given (acted w (MakesString units))
  makes_string units given e = subst (λ (t : Option VType). FitsAnswer classes env w t (acted w (MakesString units)))
      (sym e) (
        grows_new w.heap (Str units),
        world_new classes w (Str units) x tt,
        result _ (Some (vtype.Object (class_type string))) (Some (newest w)) (
          Str units,
          newest_at w.heap (Str units),
          record {
            whole = refl;
            there = there;
            held = (hierarchy classes sound).itself (class_type string) there;
          },
        ),
      )
    where
      there : is_there classes (class_type string) ≡ true
      there = (hierarchy classes sound).string_there

  sets_builder : (n : ℕ) (units old : List ℕ) (o : Option Value) → slice_get w.heap n ≡ Some (Builder old)
      → (given : Option VType) → FitsReturned classes w.heap given o
      → FitsAnswer classes env w given (acted w (SetsBuilder n units o))
  sets_builder n units old o there given y = subst
      (λ (z : Option Object). FitsAnswer classes env w given (of_some (set_builder w n units o) z)) (sym there) (
        grows,
        world_set classes w n (Builder old) (Builder units) x there like tt,
        result _ given o (grown_returned classes w.heap (slice_set w.heap n (Builder units)) grows given o y),
      )
    where
      like : IsLike (Builder old) (Builder units)
      like = record { type = refl; whole = refl }

      grows : Grows w.heap (slice_set w.heap n (Builder units))
      grows = grows_set w.heap n (Builder old) (Builder units) there like

  sets_thrown : (n : ℕ) (message cause m c : Value) (i : IsInstanceAt w.heap n m c)
      → FitsReference classes w.heap (class_type string) message → FitsReference classes w.heap throwable cause
      → FitsAnswer classes env w None (acted w (SetsThrown n message cause))
  sets_thrown n message cause m c i f g = subst
      (λ (z : Option Object). FitsAnswer classes env w None (of_some (set_thrown w n message cause) z)) (sym i.there)
      (grows, world_set classes w n o p x i.there like within, tt)
    where
      o : Object
      o = Instance i.class i.fields m c

      p : Object
      p = Instance i.class i.fields message cause

      like : IsLike o p
      like = record { type = refl; whole = refl }

      grows : Grows w.heap (slice_set w.heap n p)
      grows = grows_set w.heap n o p i.there like

      old : FitsInstance classes (slice_set w.heap n p) i.class i.fields m c
      old = grown_within classes w.heap (slice_set w.heap n p) grows o (x.objects n o i.there)

      within : FitsWithin classes (slice_set w.heap n p) p
      within = record {
        made = old.made;
        no_builder = old.no_builder;
        fields_fit = old.fields_fit;
        message_fits = grown_reference classes w.heap (slice_set w.heap n p) grows (class_type string) message f;
        cause_fits = grown_reference classes w.heap (slice_set w.heap n p) grows throwable cause g;
      }

  -- what an act that fits does to the world fits
  pub acts_fit : (given : Option VType) (a : Act) → FitsAct classes w given a
      → FitsAnswer classes env w given (acted w a)
  acts_fit given (Returns o) y = (grows_same w.heap, x, result w.heap given o y)
  acts_fit given (MakesString units) y = makes_string units given y
  acts_fit given (SetsBuilder n units o) y = sets_builder n units y.0 o y.1 given y.2
  acts_fit given (SetsThrown n message cause) y =
      subst (λ (t : Option VType). FitsAnswer classes env w t (acted w (SetsThrown n message cause))) (sym y.5)
      (sets_thrown n message cause y.0 y.1 y.2 y.3 y.4)
  acts_fit given (Writes units) y =
      subst (λ (t : Option VType). FitsAnswer classes env w t (acted w (Writes units))) (sym y)
      (grows_same w.heap, record { objects = x.objects; statics = x.statics }, tt)
  acts_fit given (Throws exception) y = tt
  acts_fit given NoAct y = absurd y
