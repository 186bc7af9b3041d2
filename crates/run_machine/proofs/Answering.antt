-- What comes of what a frame asks.
use Rattle.std.proofs.Common.{◌≡◌, ◌∙◌, true, false, ℕ, List, ◌∷◌, None, ap, refl, sym}
use Rattle.std.specs.Borrow.{Bor}
use Rattle.class_model.specs.declared.op.MemberRef.{MemberRef}
use Rattle.jvm_model.specs.Answers.{Answer as Due, Awaits, Raises, once, once_initialised}
use Rattle.jvm_model.specs.Heap.{Begun, Failed, Fresh, Init, Ready, World as Whole}
use Rattle.jvm_model.specs.Initialisation.{begin, is_due}
use Rattle.jvm_model.specs.Program.{Shape}
use Rattle.jvm_model.specs.State.{AfterInit, Body as Standing, Wait as Waiting}
use Rattle.jvm_model.specs.Step.{on_answer}
use Rattle.jvm_model.specs.Value.{Key, Value}
use Rattle.run_heap.specs.Answers.{Changes, model_answer}
use Rattle.run_heap.specs.Worlds.{world_of}
use Rattle.run_heap.specs.declared.answer.Answer.{Answer}
use Rattle.run_heap.specs.declared.answer.Answer.TheVariants as answer
use Rattle.run_heap.specs.declared.world.World.{World}
use Rattle.run_library.specs.Rows.{exception_of}
use Rattle.run_steps.specs.Outcomes.{operands_of}
use Rattle.run_steps.specs.declared.outcome.Request.{Request}
use Rattle.run_steps.specs.declared.outcome.Request.TheVariants as request

-- a class that still has to be initialised
once_due : (i : Init) (class : List ℕ) (a : Due) → is_due i ≡ true → once i class a ≡ Awaits class
once_due Fresh class a e = refl
once_due Begun class a e = let f : false ≡ true = e in absurd cc
once_due Ready class a e = let f : false ≡ true = e in absurd cc
once_due Failed class a e = refl

-- any other one
once_passed : (i : Init) (class : List ℕ) (a : Due) → is_due i ≡ false → once i class a ≡ a
once_passed Fresh class a e = let f : true ≡ false = e in absurd cc
once_passed Begun class a e = refl
once_passed Ready class a e = refl
once_passed Failed class a e = let f : true ≡ false = e in absurd cc

-- the frame, as it stood, waits for the class
pub awaited : (p : Shape) (w : Whole) (m : Key) (b b' asking : Standing) (ws : List Waiting) (class : List ℕ) (a : Due)
    → is_due (w.inits class) ≡ true → b' ≡ b
    → begin p w class (AfterInit (record { method = m; body = b' }) ∷ ws)
    ≡ on_answer p w m b asking ws (once_initialised w class a)
awaited p w m b b' asking ws class a e same =
    ap (λ (x : Standing). begin p w class (AfterInit (record { method = m; body = x }) ∷ ws)) same
    ∙ ap (on_answer p w m b asking ws) (sym (once_due (w.inits class) class a e))

-- it goes on
pub passed : (p : Shape) (w : Whole) (m : Key) (b asking : Standing) (ws : List Waiting) (class : List ℕ) (a : Due)
    → is_due (w.inits class) ≡ false
    → on_answer p w m b asking ws a ≡ on_answer p w m b asking ws (once_initialised w class a)
passed p w m b asking ws class a e = ap (on_answer p w m b asking ws) (sym (once_passed (w.inits class) class a e))

-- what is answered, in the world as it is after it
pub carried : (p : Shape) (inits : List ℕ → Init) (m : Key) (b asking : Standing) (ws : List Waiting) (a : Answer)
    (before after : World) (d : Whole → Due) → Changes a before after d
    → on_answer p (world_of inits after) m b asking ws (model_answer a (world_of inits after))
    ≡ on_answer p (world_of inits before) m b asking ws (d (world_of inits before))
carried p inits m b asking ws (answer.Gives v) before after d h =
    ap (on_answer p (world_of inits before) m b asking ws) (h.0 inits)
carried p inits m b asking ws (answer.Raises e) before after d h =
    ap (λ (w : Whole). on_answer p w m b asking ws (Raises (exception_of e))) (h.1 inits)
    ∙ ap (on_answer p (world_of inits before) m b asking ws) (h.0 inits)
carried p inits m b asking ws (answer.Begins key args) before after d h =
    ap (λ (w : Whole). on_answer p w m b asking ws (model_answer (answer.Begins key args) w)) (h.1 inits)
    ∙ ap (on_answer p (world_of inits before) m b asking ws) (h.0 inits)
carried p inits m b asking ws answer.NoAnswer before after d h =
    ap (λ (w : Whole). on_answer p w m b asking ws (model_answer answer.NoAnswer w)) (h.1 inits)
    ∙ ap (on_answer p (world_of inits before) m b asking ws) (h.0 inits)

-- what is no request of the four before which a class may have to be initialised
pub plain : (q : Request) → ((r : Bor MemberRef) → q ≡ request.GetStatic r → ⊥)
    → ((r : Bor MemberRef) (v : Value) → q ≡ request.PutStatic r v → ⊥)
    → ((r : Bor MemberRef) (args : List Value) → q ≡ request.CallStatic r args → ⊥)
    → ((c : Bor (List ℕ)) → q ≡ request.New c → ⊥) → operands_of q ≡ None
plain (request.Known v) a b c d = refl
plain request.DividesByZero a b c d = refl
plain (request.GetStatic r) a b c d = absurd (a r refl)
plain (request.PutStatic r v) a b c d = absurd (b r v refl)
plain (request.GetField r v) a b c d = refl
plain (request.PutField r v x) a b c d = refl
plain (request.CallStatic r args) a b c d = absurd (c r args refl)
plain (request.CallSpecial r args) a b c d = refl
plain (request.CallVirtual r args) a b c d = refl
plain (request.CallInterface r args) a b c d = refl
plain (request.New class) a b c d = absurd (d class refl)
plain (request.NewBaseArray base n) a b c d = refl
plain (request.NewArray ty n) a b c d = refl
plain (request.NewArrays ty sizes) a b c d = refl
plain (request.ArrayLength v) a b c d = refl
plain (request.GetAt e v i) a b c d = refl
plain (request.PutAt e v i x) a b c d = refl
plain (request.Cast ty v) a b c d = refl
plain (request.Test ty v) a b c d = refl
