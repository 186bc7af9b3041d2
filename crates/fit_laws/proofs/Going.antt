-- A frame that begins, goes on with what it is given, or returns fits (JVMS 2.6).
use Rattle.std.proofs.Common.{ℕ, ◌+◌, List, [], ◌∷◌, Option, Some, None}
use Rattle.std.proofs.Common.{◌≡◌}
use Rattle.std.proofs.Common.{refl, sym, ap, ◌∙◌, subst}
use Rattle.std.specs.Prelude.{is_some}
use Rattle.class_model.specs.declared.class.Class.{Class}
use Rattle.class_model.specs.declared.frame.VType.{VType}
use Rattle.jvm_model.specs.Heap.{Object, World}
use Rattle.jvm_model.specs.Initialisation.{frame}
use Rattle.jvm_model.specs.Local.{called_with}
use Rattle.jvm_model.specs.Local.{resumed}
use Rattle.jvm_model.specs.State.{Body, Frame, Wait, AfterCall, AfterInit, AfterFirst, AfterClinit}
use Rattle.jvm_model.specs.State.{ToEntry}
use Rattle.jvm_model.specs.Step.{return}
use Rattle.jvm_model.specs.Value.{Key, Value}
use Rattle.type_verifier.specs.declared.frame.TypeFrame.{TypeFrame}
use Rattle.type_verifier.specs.Effects.{gives}
use Rattle.type_verifier.specs.Environment.{Environment, initial_frame}
use Rattle.fit_laws.specs.Answered.{FitsResult, FitsReturned}
use Rattle.fit_laws.specs.Frames.{Begins, Environs, FitsBody, FitsFrame, Leads, result_of}
use Rattle.fit_laws.specs.Sound.{IsSound}
use Rattle.fit_laws.specs.States.{AResult, AThrow, Done, Fits, FitsWaits}
use Rattle.fit_laws.specs.Values.{FitsKnown}
use Rattle.fit_laws.specs.Values.{FitsWorld}
use Rattle.fit_laws.proofs.Assigning.{flow_body}
use Rattle.fit_laws.proofs.Held.{IsHierarchy, hierarchy_from}
use Rattle.fit_laws.proofs.Heaps.{known_value}
use Rattle.fit_laws.proofs.TypedAt.{head}

-- ---- waits

module _ (classes : List Class) where
  pub result_thrown : (h : List Object) (given : Option VType) (ws : List Wait)
      → FitsWaits classes h (AResult given) ws
      → FitsWaits classes h AThrow ws
  result_thrown h given [] x = tt
  result_thrown h given (AfterCall f ∷ ws) x = (x.0.stands, x.1)
  result_thrown h given (AfterClinit class ∷ ws) x = x
  result_thrown h given (AfterInit f ∷ ws) x = absurd x
  result_thrown h given (AfterFirst class firsts ∷ ws) x = absurd x
  result_thrown h given (ToEntry k args ∷ ws) x = absurd x

  pub done_thrown : (h : List Object) (ws : List Wait) → FitsWaits classes h Done ws
      → FitsWaits classes h AThrow ws
  done_thrown h [] x = absurd x
  done_thrown h (AfterCall f ∷ ws) x = absurd x
  done_thrown h (AfterClinit class ∷ ws) x = absurd x
  done_thrown h (AfterInit f ∷ ws) x = (x.0.stands, x.1)
  done_thrown h (AfterFirst class firsts ∷ ws) x = x
  done_thrown h (ToEntry k args ∷ ws) x = tt

-- ---- frames that begin, go on, and catch

module _ (classes : List Class) (sound : IsSound classes) where
  -- what follows of types
  pub hierarchy : IsHierarchy classes
  hierarchy = hierarchy_from classes sound.ordered (ap is_some sound.library.strings.named)

  pub hierarchy_of : (k : Key) (env : Environment) → Environs classes k env → IsHierarchy env.classes
  hierarchy_of k env is = subst (λ (c : List Class). IsHierarchy c) (sym is.classes_are)
      hierarchy

  -- a frame that fits, and whose method has this result
  abbrev pub Frames : List Object → Frame → Option VType → Type 0
  Frames h f given = (a : FitsFrame classes h f) × (result_of a.stands.env ≡ given)

  -- a body that fits a frame that leads to where it stands
  pub stands_where : (h : List Object) (k : Key) (env : Environment) (is : Environs classes k env)
      (b : Body) (f : TypeFrame)
      → FitsBody env h f b → Leads env.classes is.frames b.at f
      → Frames h (frame k b) (result_of env)
  stands_where h k env is b f x l = (
    record {
      stands = record {
        env = env;
        is = is;
        here = l.0;
        there = l.1;
        locals = y.locals;
      };
      stack = y.stack;
    },
    refl,
  ) where
    y : FitsBody env h l.0 b
    y = flow_body env h (hierarchy_of k env is) f l.0 l.2 b x

  pub begun : (h : List Object) (given : Option VType) (k : Key) (args : List Value)
      → Begins classes h given k args
      → Frames h (frame k (called_with args)) given
  begun h given k args x =
      let r = stands_where h k x.env x.is (called_with args) (initial_frame x.env) x.fits
      (head x.env 0 (initial_frame x.env) x.env.code.ins x.is.frames x.is.typed) in
      (r.0, r.1 ∙ x.result)

  -- what was asked for has come
  given_fits : (env : Environment) (h : List Object) (given : Option VType) (rest : TypeFrame)
      (b : Body)
      → FitsBody env h rest b → (o : Option Value) → FitsResult env h given o
      → FitsBody env h (gives given rest) (resumed b o)
  given_fits env h None rest b x None y = record { locals = x.locals; stack = x.stack }
  given_fits env h None rest b x (Some v) y = absurd y
  given_fits env h (Some ty) rest b x None y = absurd y
  given_fits env h (Some ty) rest b x (Some v) y =
      record { locals = x.locals; stack = (y, x.stack) }

  at_next : (b : Body) (o : Option Value) → (resumed b o).at ≡ b.at + 1
  at_next b None = refl
  at_next b (Some v) = refl

  pub goes_on_with : (h : List Object) (k : Key) (env : Environment) (is : Environs classes k env)
      (b : Body)
      (given : Option VType) (rest : TypeFrame) → FitsBody env h rest b
      → Leads classes is.frames (b.at + 1) (gives given rest)
      → (o : Option Value) → FitsResult env h given o
      → Frames h (frame k (resumed b o)) (result_of env)
  goes_on_with h k env is b given rest x l o y =
      stands_where h k env is (resumed b o) (gives given rest)
      (given_fits env h given rest b x o y)
      (subst (λ (n : ℕ). Leads env.classes is.frames n (gives given rest)) (sym (at_next b o))
      (subst (λ (c : List Class). Leads c is.frames (b.at + 1) (gives given rest))
      (sym is.classes_are) l))

  pub returned_result : (env : Environment) → env.classes ≡ classes
      → (h : List Object) (given : Option VType) (o : Option Value)
      → FitsReturned classes h given o → FitsResult env h given o
  returned_result env e h None None x = x
  returned_result env e h None (Some v) x = x
  returned_result env e h (Some ty) None x = x
  returned_result env e h (Some ty) (Some v) x =
      known_value env h ty v (subst (λ (c : List Class). FitsKnown c h ty v) (sym e) x)

  -- a method returns
  pub returns : (w : World) → FitsWorld classes w → (given : Option VType) (ws : List Wait)
      → FitsWaits classes w.heap (AResult given) ws → (o : Option Value)
      → FitsReturned classes w.heap given o
      → Fits classes (return w o ws)
  returns w x given [] y o r = record { world = x; control = tt }
  returns w x given (AfterCall f ∷ ws) y o r =
      let a = y.0 in
      let g = goes_on_with w.heap f.method a.stands.env a.stands.is f.body given a.rest a.fits
      a.goes_on o
      (returned_result a.stands.env a.stands.is.classes_are w.heap given o r) in
      record {
        world = x;
        control = (
          g.0,
          subst (λ (t : Option VType). FitsWaits classes w.heap (AResult t) ws) (sym g.1)
              y.1,
        );
      }
  returns w x given (AfterClinit class ∷ ws) y o r = record { world = x; control = y }
  returns w x given (AfterInit f ∷ ws) y o r = absurd y
  returns w x given (AfterFirst class firsts ∷ ws) y o r = absurd y
  returns w x given (ToEntry k args ∷ ws) y o r = absurd y
