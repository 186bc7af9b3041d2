-- A frame that was answered is one of the same method.
use Rattle.std.proofs.Common.{◌≡◌, ◌∙◌, ◌++◌, ◌∷◌, [], false, ℕ, suc, List, None, Option, Some, ap, arith, length, refl}
use Rattle.std.proofs.Common.{sym}
use Rattle.std.proofs.lemmas.List.{length-map}
use Rattle.std.specs.Prelude.{IfSome}
use Rattle.std.specs.Option.{unwrap_or}
use Rattle.jvm_model.specs.Answers.{Answer as Due, Awaits, Begins, Gives, NoAnswer, Raises}
use Rattle.jvm_model.specs.Heap.{Begun, Failed, Fresh, Init, Ready, World as Whole}
use Rattle.jvm_model.specs.Initialisation.{begin_by}
use Rattle.jvm_model.specs.Program.{Shape}
use Rattle.jvm_model.specs.Requests.{answer}
use Rattle.jvm_model.specs.State.{AfterInit, Body as Standing, Control, Runs, State, Wait}
use Rattle.jvm_model.specs.Step.{on_answer}
use Rattle.jvm_model.specs.Value.{Key, Value}
use Rattle.run_machine.specs.States.{control_of, state_at, wait_of, waits_of, whole}
use Rattle.run_machine.specs.bodies.Asked.{Asks}
use Rattle.run_machine.specs.bodies.Going.{is_frame}
use Rattle.run_machine.specs.declared.state.Control.{Control as Doing}
use Rattle.run_machine.specs.declared.state.Control.TheVariants as doing
use Rattle.run_machine.specs.declared.state.Frame.{Frame}
use Rattle.run_machine.specs.declared.state.Rest.{Rest}
use Rattle.run_steps.specs.Frames.{body_of}
use Rattle.run_steps.specs.Outcomes.{Waits, operands_of, request_of}
use Rattle.run_steps.specs.declared.body.Body.{Body}
use Rattle.run_steps.specs.declared.outcome.Outcome.TheVariants as outcome
use Rattle.run_steps.specs.declared.outcome.Request.{Request}

-- the method of the frame that runs; where none does, the other one
abbrev method_or : Key → Control → Key
method_or m (Runs f) = f.method
method_or m _ = m

-- by how far the class is for which the frame waits
once_begun : (p : Shape) (w : Whole) (class : List ℕ) (m : Key) (b : Standing) (ws : List Wait) (i : Init)
    → method_or m (begin_by p w class (AfterInit (record { method = m; body = b }) ∷ ws) i).control ≡ m
once_begun p w class m b ws Fresh = refl
once_begun p w class m b ws Begun = refl
once_begun p w class m b ws Ready = refl
once_begun p w class m b ws Failed = refl

-- where as much waits as before
same_method : (p : Shape) (w : Whole) (m : Key) (b asking : Standing) (ws : List Wait) (a : Due) (s : State)
    → s ≡ on_answer p w m b asking ws a → length s.waits ≡ length ws → method_or m s.control ≡ m
same_method p w m b asking ws (Gives r after) s e l = ap (λ (x : State). method_or m x.control) e
same_method p w m b asking ws (Raises x) s e l = ap (λ (x : State). method_or m x.control) e
same_method p w m b asking ws (Begins k args) s e l =
    let more : length s.waits ≡ suc (length ws) = ap (λ (x : State). length x.waits) e in
    absurd (omega (arith, more, l))
same_method p w m b asking ws (Awaits class) s e l =
    ap (λ (x : State). method_or m x.control) e ∙ once_begun p w class m b ws (w.inits class)
same_method p w m b asking ws NoAnswer s e l = ap (λ (x : State). method_or m x.control) e

-- the frame as it stood before it took the operands of what it asks
abbrev asker : Request → Body → Body
asker r f = record f { stack = unwrap_or (operands_of r) [] ++ f.stack }

has_operands : (o : Option (List Value)) (s : List Value) → IfSome o (λ vs. unwrap_or o [] ++ s ≡ vs ++ s)
has_operands None s = tt
has_operands (Some vs) s = refl

asker_waits : (r : Request) (f : Body) → Waits (outcome.Wants r) (asker r f) f
asker_waits r f = (refl, refl, has_operands (operands_of r) f.stack)

-- a frame that asked, and that runs again while as much waits as before
pub asked_again : (p : Shape) (before after : Rest) (f next : Frame) (r : Request)
    → Asks p before after (doing.Runs next) f r → length after.waits ≡ length before.waits → next.method ≡ f.method
asked_again p before after f next r asks same =
    same_method p (whole p before) f.method (body_of (asker r f.body)) (body_of f.body) (waits_of before.waits)
    (answer p f.method.class (whole p before) (request_of r)) (state_at p after (doing.Runs next))
    (asks (asker r f.body) (asker_waits r f.body))
    (length-map after.waits wait_of ∙ same ∙ sym (length-map before.waits wait_of))

-- what is done isn't that a frame runs
pub no_frame : (c : Doing) → ((f : Frame) → c ≡ doing.Runs f → ⊥) → is_frame (control_of c) ≡ false
no_frame (doing.Runs f) not = absurd (not f refl)
no_frame (doing.Unwinds n) not = refl
no_frame (doing.Initialises class) not = refl
no_frame (doing.Prepares class firsts) not = refl
no_frame (doing.Completes class) not = refl
no_frame (doing.Returned v) not = refl
no_frame (doing.Threw n) not = refl
no_frame doing.Wrong not = refl
