-- What a run of a set has come to, by what its parts say.
use Rattle.std.proofs.Common.{◌≡◌, ◌∙◌, ℕ, List, Result, Ok, Err, IfOk, sym, ap}
use Rattle.class_model.specs.declared.class.Class.{Class}
use Rattle.class_run.specs.Ended.{end_of, ended_after, ended_of}
use Rattle.class_run.specs.Started.{started}
use Rattle.class_run.specs.declared.ended.Arg.{Arg}
use Rattle.class_run.specs.declared.ended.End.{End}
use Rattle.class_run.specs.declared.ended.Ended.{Ended}
use Rattle.jvm_model.specs.Heap.{Object}
use Rattle.jvm_model.specs.Program.{Shape, View}
use Rattle.jvm_model.specs.Step.{run, start}
use Rattle.jvm_model.specs.Value.{Key, Value}
use Rattle.jvm_model.specs.State.{HasThrown, status}
use Rattle.jvm_model.specs.State as machine
use Rattle.run_machine.specs.States.{program, state_of}
use Rattle.run_machine.specs.declared.state.State.{State}
use Rattle.set_view.specs.ViewOf.{shape_of, view_of}

-- what is told of the state that it has come to
pub told : {E : Type 0} (r : Result Ended E) (s : State) (p : Shape) (due : Ended)
    → IfOk r (λ e. (q : Shape) → e ≡ ended_of (state_of q s)) → ended_of (state_of p s) ≡ due → IfOk r (λ e. e ≡ due)
told (Ok e) s p due h is = h p ∙ is
told (Err e) s p due h is = tt

-- which state that is; the program that ran is the set
pub ran : (classes ran_on : List Class) (old new : State) (entry : Key) (heap : List Object) (values : List Value)
    (args : List Arg) (steps : ℕ) → ran_on ≡ classes
    → state_of (shape_of ran_on) new
    ≡ run (program (shape_of ran_on) (view_of ran_on).code) (state_of (shape_of ran_on) old) steps
    → ((v : View) → state_of v.shape old ≡ start v entry heap values)
    → heap ≡ (started args).heap → values ≡ (started args).args
    → ended_of (state_of (shape_of classes) new) ≡ ended_after classes entry args steps
ran classes ran_on old new entry heap values args steps same stepped begun heap_is values_is =
    ap (λ (cs : List Class). ended_of (state_of (shape_of cs) new)) (sym same)
    ∙ ap ended_of (stepped ∙ ap (λ (s : machine.State). run (view_of ran_on) s steps) (begun (view_of ran_on)))
    ∙ ap (λ (cs : List Class). ended_of (run (view_of cs) (start (view_of cs) entry heap values) steps)) same
    ∙ ap (λ (objects : List Object). ended_of (run (view_of classes)
    (start (view_of classes) entry objects values) steps)) heap_is
    ∙ ap (λ (vs : List Value). ended_of (run (view_of classes)
    (start (view_of classes) entry (started args).heap vs) steps)) values_is

-- how a run has ended that has thrown an object
pub thrown_so : {E : Type 0} (r : Result End E) (s : State) (n : ℕ)
    → IfOk r (λ how. (p : Shape) → how ≡ end_of (state_of p s).world.heap (HasThrown n))
    → ((p : Shape) → HasThrown n ≡ status (state_of p s))
    → IfOk r (λ how. (p : Shape) → how ≡ end_of (state_of p s).world.heap (status (state_of p s)))
thrown_so (Ok how) s n h is = λ p. h p ∙ ap (end_of (state_of p s).world.heap) (is p)
thrown_so (Err e) s n h is = tt
