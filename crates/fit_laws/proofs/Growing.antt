-- What fits stays so when the heap grows.
use Rattle.std.proofs.Common.{ℕ, List, [], ◌∷◌, Option, Some, None, ap, ◌∙◌}
use Rattle.jv_base.specs.declared.types.FieldType.{FieldType}
use Rattle.class_model.specs.declared.class.Class.{Class}
use Rattle.class_model.specs.declared.frame.VType.{VType}
use Rattle.class_model.specs.declared.frame.VType.TheVariants as vtype
use Rattle.jvm_model.specs.Heap.{Object}
use Rattle.jvm_model.specs.Local.{called_with}
use Rattle.jvm_model.specs.State.{Body, Frame, Wait, AfterCall, AfterInit, AfterFirst, AfterClinit}
use Rattle.jvm_model.specs.State.{ToEntry}
use Rattle.jvm_model.specs.Value.{Key, Value, Int, Long, Null, Ref, Lit}
use Rattle.type_verifier.specs.declared.frame.TypeFrame.{TypeFrame}
use Rattle.type_verifier.specs.Environment.{Environment, initial_frame}
use Rattle.fit_laws.specs.Frames.{Awaits, Begins, FitsBody, FitsFrame, FitsLocals, FitsSlot}
use Rattle.fit_laws.specs.Frames.{result_of, FitsStack, Stands}
use Rattle.fit_laws.specs.Growth.{Grows, IsLike}
use Rattle.fit_laws.specs.Held.{is_held, is_there}
use Rattle.fit_laws.specs.States.{AResult, AThrow, Done, Due, FitsWaits}
use Rattle.fit_laws.specs.Values.{FitsKnown, FitsObject, FitsReference, FitsValue, IsThrown}

module _ (classes : List Class) (h h' : List Object) (g : Grows h h') where
  like_fits : (ty : FieldType) (o p : Object) → IsLike o p → FitsObject classes h ty o
      → FitsObject classes h' ty p
  like_fits ty o p l f = record {
    whole = l.whole ∙ f.whole;
    there = ap (λ t. is_there classes t) l.type ∙ f.there;
    held = ap (λ t. is_held classes t ty) l.type ∙ f.held;
  }

  pub grown_reference : (ty : FieldType) (v : Value) → FitsReference classes h ty v
      → FitsReference classes h' ty v
  grown_reference ty Null f = f
  grown_reference ty (Lit units) f = f
  grown_reference ty (Ref n) f = let p = g n f.0 f.1 in (p.0, p.1, like_fits ty f.0 p.0 p.2 f.2)
  grown_reference ty (Int z) f = f
  grown_reference ty (Long z) f = f

  pub grown_known : (ty : VType) (v : Value) → FitsKnown classes h ty v → FitsKnown classes h' ty v
  grown_known vtype.Top v f = f
  grown_known vtype.Int v f = f
  grown_known vtype.Long v f = f
  grown_known vtype.Null v f = f
  grown_known (vtype.Object ty) v f = grown_reference ty v f
  grown_known vtype.UninitThis v f = f
  grown_known (vtype.Uninit at) v f = f

module _ (env : Environment) (h h' : List Object) (g : Grows h h') where
  pub grown_value : (ty : VType) (v : Value) → FitsValue env h ty v → FitsValue env h' ty v
  grown_value vtype.Top v f = f
  grown_value vtype.Int v f = f
  grown_value vtype.Long v f = f
  grown_value vtype.Null v f = f
  grown_value (vtype.Object ty) v f = grown_reference env.classes h h' g ty v f
  grown_value vtype.UninitThis v f = (f.0, f.1, grown_reference env.classes h h' g _ v f.2)
  grown_value (vtype.Uninit at) v f = let p = g f.0 f.2.object f.2.there in (
    f.0,
    f.1,
    record {
      name = f.2.name;
      new = f.2.new;
      object = p.0;
      there = p.1;
      type = p.2.type ∙ f.2.type;
    },
  )

  grown_slot : (ty : VType) (o : Option Value) → FitsSlot env h ty o → FitsSlot env h' ty o
  grown_slot ty None f = f
  grown_slot ty (Some v) f = grown_value ty v f

  pub grown_locals : (types : List VType) (locals : ℕ → Option Value)
      → FitsLocals env h types locals
      → FitsLocals env h' types locals
  grown_locals types locals f slot ty e = grown_slot ty (locals slot) (f slot ty e)

  pub grown_stack : (types : List VType) (stack : List Value) → FitsStack env h types stack
      → FitsStack env h' types stack
  grown_stack [] [] f = f
  grown_stack [] (v ∷ vs) f = f
  grown_stack (t ∷ ts) [] f = f
  grown_stack (t ∷ ts) (v ∷ vs) f = (grown_value t v f.0, grown_stack ts vs f.1)

  pub grown_body : (f : TypeFrame) (b : Body) → FitsBody env h f b → FitsBody env h' f b
  grown_body f b x = record {
    locals = grown_locals f.locals b.locals x.locals;
    stack = grown_stack f.stack b.stack x.stack;
  }

module _ (classes : List Class) (h h' : List Object) (g : Grows h h') where
  abbrev pub grown_stands : (f : Frame) → Stands classes h f → Stands classes h' f
  grown_stands f a = record {
    env = a.env;
    is = a.is;
    here = a.here;
    there = a.there;
    locals = grown_locals a.env h h' g a.here.locals f.body.locals a.locals;
  }

  abbrev pub grown_frame : (f : Frame) → FitsFrame classes h f → FitsFrame classes h' f
  grown_frame f a = record {
    stands = grown_stands f a.stands;
    stack = grown_stack a.stands.env h h' g a.stands.here.stack f.body.stack a.stack;
  }

  abbrev pub grown_awaits : (given : Option VType) (f : Frame) → Awaits classes h given f
      → Awaits classes h' given f
  grown_awaits given f a = record {
    stands = grown_stands f a.stands;
    rest = a.rest;
    fits = grown_body a.stands.env h h' g a.rest f.body a.fits;
    goes_on = a.goes_on;
  }

  abbrev pub grown_begins : (given : Option VType) (k : Key) (args : List Value)
      → Begins classes h given k args
      → Begins classes h' given k args
  grown_begins given k args a = record {
    env = a.env;
    is = a.is;
    fits = grown_body a.env h h' g (initial_frame a.env) (called_with args) a.fits;
    result = a.result;
  }

  pub grown_waits : (d : Due) (ws : List Wait) → FitsWaits classes h d ws
      → FitsWaits classes h' d ws
  grown_waits (AResult given) [] f = f
  grown_waits (AResult given) (AfterCall x ∷ ws) f =
      (grown_awaits given x f.0, grown_waits (AResult (result_of f.0.stands.env)) ws f.1)
  grown_waits (AResult given) (AfterClinit class ∷ ws) f = grown_waits Done ws f
  grown_waits (AResult given) (AfterInit x ∷ ws) f = f
  grown_waits (AResult given) (AfterFirst class firsts ∷ ws) f = f
  grown_waits (AResult given) (ToEntry k args ∷ ws) f = f
  grown_waits Done [] f = f
  grown_waits Done (AfterCall x ∷ ws) f = f
  grown_waits Done (AfterClinit class ∷ ws) f = f
  grown_waits Done (AfterInit x ∷ ws) f =
      (grown_frame x f.0, grown_waits (AResult (result_of f.0.stands.env)) ws f.1)
  grown_waits Done (AfterFirst class firsts ∷ ws) f = grown_waits Done ws f
  grown_waits Done (ToEntry k args ∷ ws) f =
      (f.0, grown_begins f.0 k args f.1, grown_waits (AResult f.0) ws f.2)
  grown_waits AThrow [] f = f
  grown_waits AThrow (AfterCall x ∷ ws) f =
      (grown_stands x f.0, grown_waits (AResult (result_of f.0.env)) ws f.1)
  grown_waits AThrow (AfterInit x ∷ ws) f =
      (grown_stands x f.0, grown_waits (AResult (result_of f.0.env)) ws f.1)
  grown_waits AThrow (AfterClinit class ∷ ws) f = grown_waits Done ws f
  grown_waits AThrow (AfterFirst class firsts ∷ ws) f = grown_waits Done ws f
  grown_waits AThrow (ToEntry k args ∷ ws) f = f

  pub grown_thrown : (n : ℕ) → IsThrown classes h n → IsThrown classes h' n
  grown_thrown n t = record { fits = grown_reference classes h h' g _ (Ref n) t.fits }
