-- A step keeps what fits, where what its frame does fits.
use Rattle.std.proofs.Common.{ℕ, zero, suc, ◌+◌, List, ◌∷◌, Option}
use Rattle.std.proofs.Common.{◌≢◌}
use Rattle.std.proofs.Common.{refl, sym, subst}
use Rattle.class_model.specs.declared.class.Class.{Class}
use Rattle.class_model.specs.declared.code.Code.{Code}
use Rattle.class_model.specs.declared.frame.VType.{VType}
use Rattle.jvm_model.specs.Answers.{Answer, Gives, Raises, Begins as Calls, Awaits as Waits}
use Rattle.jvm_model.specs.Answers.{NoAnswer}
use Rattle.jvm_model.specs.Exceptions.{NullPointer}
use Rattle.jvm_model.specs.Heap.{Object, World}
use Rattle.jvm_model.specs.Initialisation.{frame}
use Rattle.jvm_model.specs.Local.{Local, Moves, Wants, Ends, Tosses, Stuck}
use Rattle.jvm_model.specs.Local.{local, with_stack}
use Rattle.jvm_model.specs.Requests.{answer}
use Rattle.jvm_model.specs.State.{Body, Frame, Wait, AfterCall, AfterInit}
use Rattle.jvm_model.specs.State.{Control, Runs, Unwinds, Initialises, Prepares, Completes}
use Rattle.jvm_model.specs.State.{Returned, Threw, Wrong, State, WentWrong, status, status_of}
use Rattle.jvm_model.specs.Step.{next, on_answer, on_local, run, run_frame, step, toss}
use Rattle.jvm_model.specs.Value.{Value, Int, Long, Null, Ref, Lit}
use Rattle.set_view.specs.ViewOf.{shape_of, view_of}
use Rattle.type_verifier.specs.declared.frame.TypeFrame.{TypeFrame}
use Rattle.type_verifier.specs.Effects.{gives}
use Rattle.type_verifier.specs.Environment.{Environment}
use Rattle.fit_laws.specs.Answered.{FitsAnswer, FitsLocal, IsTossed}
use Rattle.fit_laws.specs.Frames.{FitsBody, FitsFrame, Leads, result_of}
use Rattle.fit_laws.specs.Growth.{Grows}
use Rattle.fit_laws.specs.Sound.{IsSound}
use Rattle.fit_laws.specs.States.{AResult, Fits, FitsControl, FitsWaits}
use Rattle.fit_laws.specs.Values.{FitsWorld}
use Rattle.fit_laws.specs.Laws.{LocalsFit}
use Rattle.fit_laws.proofs.Growing.{grown_body, grown_waits}
use Rattle.fit_laws.proofs.Going.{begun, goes_on_with, returns}
use Rattle.fit_laws.proofs.Initialising.{begin_fits, complete_fits, prepare_fits, raises}
use Rattle.fit_laws.proofs.Unwinding.{unwinds}

module _ (classes : List Class) (sound : IsSound classes) where
  -- ---- instructions

  grown_here : (h h' : List Object) → Grows h h' → (env : Environment) (f : TypeFrame) (b : Body)
      → FitsBody env h f b
      → FitsBody env h' f b
  grown_here h h' g env f b x = grown_body env h h' g f b x

  -- it asked, and is answered
  answers : (w : World) → FitsWorld classes w
      → (f : Frame) (a : FitsFrame classes w.heap f) (ws : List Wait)
      → FitsWaits classes w.heap (AResult (result_of a.stands.env)) ws
      → (s : List Value) (given : Option VType) (rest : TypeFrame)
      → FitsBody a.stands.env w.heap rest (with_stack f.body s)
      → Leads classes a.stands.is.frames (f.body.at + 1) (gives given rest) → (r : Answer)
      → FitsAnswer classes a.stands.env w given r
      → Fits classes (on_answer (shape_of classes) w f.method f.body (with_stack f.body s) ws r)
  answers w x f a ws y s given rest b l (Gives result after) q =
      let g = goes_on_with classes sound after.heap f.method a.stands.env a.stands.is (with_stack f.body s) given
      rest
      (grown_here w.heap after.heap q.0 a.stands.env rest (with_stack f.body s) b) l result q.2 in
      record {
        world = q.1;
        control = (
          g.0,
          subst (λ (t : Option VType). FitsWaits classes after.heap (AResult t) ws) (sym g.1)
              (grown_waits classes w.heap after.heap q.0 (AResult (result_of a.stands.env)) ws y),
        );
      }
  answers w x f a ws y s given rest b l (Raises e) q =
      raises classes sound w x e (AfterCall (frame f.method (with_stack f.body s)) ∷ ws) (
        record {
          env = a.stands.env;
          is = a.stands.is;
          here = a.stands.here;
          there = a.stands.there;
          locals = a.stands.locals;
        },
        y,
      )
  answers w x f a ws y s given rest b l (Calls k args) q =
      let c = begun classes sound w.heap given k args q in
      record {
        world = x;
        control = (
          c.0,
          subst (λ (t : Option VType). FitsWaits classes w.heap (AResult t)
              (AfterCall (frame f.method (with_stack f.body s)) ∷ ws))
              (sym c.1) (
                record {
                  stands = record {
                    env = a.stands.env;
                    is = a.stands.is;
                    here = a.stands.here;
                    there = a.stands.there;
                    locals = a.stands.locals;
                  };
                  rest = rest;
                  fits = b;
                  goes_on = l;
                },
                y,
              ),
        );
      }
  answers w x f a ws y s given rest b l (Waits class) q =
      begin_fits classes sound w x class (AfterInit (frame f.method f.body) ∷ ws) (a, y) (w.inits class)
  answers w x f a ws y s given rest b l NoAnswer q = absurd q

  tosses : (w : World) → FitsWorld classes w
      → (f : Frame) (a : FitsFrame classes w.heap f) (ws : List Wait)
      → FitsWaits classes w.heap (AResult (result_of a.stands.env)) ws → (v : Value)
      → IsTossed classes w.heap v
      → Fits classes (toss w f v ws)
  tosses w x f a ws y (Ref n) t =
      record { world = x; control = (record { fits = t.fits }, (a.stands, y)) }
  tosses w x f a ws y Null t = raises classes sound w x NullPointer (AfterInit f ∷ ws) (a.stands, y)
  tosses w x f a ws y (Lit units) t = absurd (t.no_text units refl)
  tosses w x f a ws y (Int z) t = absurd t.fits
  tosses w x f a ws y (Long z) t = absurd t.fits

  does : (w : World) → FitsWorld classes w
      → (f : Frame) (a : FitsFrame classes w.heap f) (ws : List Wait)
      → FitsWaits classes w.heap (AResult (result_of a.stands.env)) ws → (l : Local)
      → FitsLocal classes w f.method a.stands.env a.stands.is.frames f.body l
      → Fits classes (on_local (shape_of classes) w f.method f.body ws l)
  does w x f a ws y (Moves after) q = record {
    world = x;
    control = (
      record {
        stands = record {
          env = a.stands.env;
          is = a.stands.is;
          here = q.0;
          there = q.1;
          locals = q.2.locals;
        };
        stack = q.2.stack;
      },
      y,
    );
  }
  does w x f a ws y (Wants r s) q =
      answers w x f a ws y s q.0 q.1 q.2 q.3 (answer (shape_of classes) f.method.class w r) q.4
  does w x f a ws y (Ends result) q = returns classes sound w x (result_of a.stands.env) ws y result q
  does w x f a ws y (Tosses v) q = tosses w x f a ws y v q
  does w x f a ws y Stuck q = absurd q

  frame_runs : LocalsFit classes → (w : World) → FitsWorld classes w
      → (f : Frame) (a : FitsFrame classes w.heap f) (ws : List Wait)
      → FitsWaits classes w.heap (AResult (result_of a.stands.env)) ws
      → Fits classes
      (run_frame (shape_of classes) w f.method f.body ws ((view_of classes).code f.method))
  frame_runs each w x f a ws y = subst
      (λ (c : Option Code). Fits classes (run_frame (shape_of classes) w f.method f.body ws c))
      (sym a.stands.is.code)
      (does w x f a ws y (local a.stands.env.code f.body) (each w x f a))

  -- a step keeps it
  pub next_fits : LocalsFit classes → (w : World) → FitsWorld classes w
      → (ws : List Wait) (c : Control)
      → FitsControl classes w.heap c ws → Fits classes (next (view_of classes) w ws c)
  next_fits each w x ws (Runs f) y = frame_runs each w x f y.0 ws y.1
  next_fits each w x ws (Unwinds n) y = unwinds classes sound w x n y.0 ws y.1
  next_fits each w x ws (Initialises class) y = begin_fits classes sound w x class ws y (w.inits class)
  next_fits each w x ws (Prepares class firsts) y = prepare_fits classes sound w x class firsts ws y
  next_fits each w x ws (Completes class) y = complete_fits classes sound w x class ws y
  next_fits each w x ws (Returned result) y = record { world = x; control = y }
  next_fits each w x ws (Threw n) y = record { world = x; control = y }
  next_fits each w x ws Wrong y = absurd y

  pub step_fits : LocalsFit classes → (s : State) → Fits classes s
      → Fits classes (step (view_of classes) s)
  step_fits each s x = next_fits each s.world x.world s.waits s.control x.control

  pub run_fits : LocalsFit classes → (s : State) → Fits classes s → (n : ℕ)
      → Fits classes (run (view_of classes) s n)
  run_fits each s x zero = x
  run_fits each s x (suc n) = step_fits each (run (view_of classes) s n) (run_fits each s x n)

  not_wrong : (h : List Object) (c : Control) (ws : List Wait) → FitsControl classes h c ws
      → status_of c ≢ WentWrong
  not_wrong h (Runs f) ws y e = absurd cc
  not_wrong h (Unwinds n) ws y e = absurd cc
  not_wrong h (Initialises class) ws y e = absurd cc
  not_wrong h (Prepares class firsts) ws y e = absurd cc
  not_wrong h (Completes class) ws y e = absurd cc
  not_wrong h (Returned result) ws y e = absurd cc
  not_wrong h (Threw n) ws y e = absurd cc
  not_wrong h Wrong ws y e = y

  pub never_wrong : LocalsFit classes → (s : State) → Fits classes s → (n : ℕ)
      → status (run (view_of classes) s n) ≢ WentWrong
  never_wrong each s x n = not_wrong _ _ _ (run_fits each s x n).control
