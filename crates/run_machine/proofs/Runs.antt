-- Runs by their first step, and a run that has ended.
use Rattle.std.proofs.Common.{◌≡◌, ◌∙◌, ℕ, zero, suc, true, false, List, None, Some, ap, refl, sym}
use Rattle.class_model.specs.declared.code.Code.{Code}
use Rattle.jvm_model.specs.Heap.{World}
use Rattle.jvm_model.specs.Initialisation.{frame, state}
use Rattle.jvm_model.specs.Local.{local}
use Rattle.jvm_model.specs.Program.{View}
use Rattle.jvm_model.specs.State.{Body, Completes, Control, Initialises, Prepares, Returned, Runs, State, Threw}
use Rattle.jvm_model.specs.State.{Unwinds, Wait, Wrong}
use Rattle.jvm_model.specs.Step.{next, on_local, run, run_frame, step}
use Rattle.jvm_model.specs.Value.{Key}
use Rattle.run_machine.specs.bodies.Ended.{has_ended}

-- the first step, and then the others
first : (v : View) (s : State) (n : ℕ) → run v s (suc n) ≡ run v (step v s) n
first v s zero = refl
first v s (suc n) = ap (step v) (first v s n)

-- a step is done, and the others are left
pub onward : (v : View) (s t : State) (n k : ℕ) → n ≡ suc k → t ≡ step v s → run v t k ≡ run v s n
onward v s t n k is e = ap (λ (x : State). run v x k) e ∙ sym (first v s k) ∙ sym (ap (run v s) is)

-- the same of an instruction of a frame, by the code of its method
pub instructed : (v : View) (w : World) (ws : List Wait) (m m' : Key) (b : Body) (code : Code) (t : State) (n k : ℕ)
    → n ≡ suc k → Some code ≡ v.code m' → m ≡ m' → t ≡ on_local v.shape w m b ws (local code b)
    → run v t k ≡ run v (state w (Runs (frame m b)) ws) n
instructed v w ws m m' b code t n k is found same does =
    onward v (state w (Runs (frame m b)) ws) t n k is
    (does ∙ ap (run_frame v.shape w m b ws) (found ∙ ap v.code (sym same)))

-- the same of a frame of a method without a code
pub without_code : (v : View) (w : World) (ws : List Wait) (m : Key) (b : Body) (n k : ℕ) → n ≡ suc k
    → None ≡ v.code m → run v (state w Wrong ws) k ≡ run v (state w (Runs (frame m b)) ws) n
without_code v w ws m b n k is missing =
    onward v (state w (Runs (frame m b)) ws) (state w Wrong ws) n k is (ap (run_frame v.shape w m b ws) missing)

next_stays : (v : View) (w : World) (ws : List Wait) (c : Control) → has_ended c ≡ true → next v w ws c ≡ state w c ws
next_stays v w ws (Runs f) h = let k : false ≡ true = h in absurd cc
next_stays v w ws (Unwinds n) h = let k : false ≡ true = h in absurd cc
next_stays v w ws (Initialises class) h = let k : false ≡ true = h in absurd cc
next_stays v w ws (Prepares class firsts) h = let k : false ≡ true = h in absurd cc
next_stays v w ws (Completes class) h = let k : false ≡ true = h in absurd cc
next_stays v w ws (Returned value) h = refl
next_stays v w ws (Threw n) h = refl
next_stays v w ws Wrong h = refl

stays : (v : View) (s : State) → has_ended s.control ≡ true → step v s ≡ s
stays v s e = next_stays v s.world s.waits s.control e

-- a run that has ended stays as it is
pub rests : (v : View) (s : State) (n : ℕ) → has_ended s.control ≡ true → run v s n ≡ s
rests v s zero e = refl
rests v s (suc n) e = ap (step v) (rests v s n e) ∙ stays v s e
