-- What holds of each body of a code while it runs (the project's own).
use Rattle.std.specs.Prelude.{◌≡◌, ℕ, ℤ, Bool, IsTrue, List, ◌∷◌, Option, Some}
use Rattle.class_model.specs.declared.code.Code.{Code}
use Rattle.code_edit.specs.Facts.{Facts, pushed_before}
use Rattle.jvm_model.specs.Instructions.{Request}
use Rattle.jvm_model.specs.Local.{Moves, Wants, at_handler, called_with, handler_for, local}
use Rattle.jvm_model.specs.Local.{resumed, with_stack}
use Rattle.jvm_model.specs.State.{Body}
use Rattle.jvm_model.specs.Value.{Value, Int}

-- it holds when the method begins, and is kept by moves, by what comes back, and where a handler
-- begins
pub record Keeps (I : Body → Type 0) (c : Code) : Type 0 where
  pub begins : (args : List Value) → I (called_with args)
  pub moves : (f f' : Body) → I f → local c f ≡ Moves f' → I f'
  pub returns : (f : Body) (r : Request) (s : List Value) → I f → local c f ≡ Wants r s
      → (o : Option Value) → I (resumed (with_stack f s) o)
  pub enters : (f : Body) → I f → (is : List ℕ → Bool) (entry : ℕ)
      → handler_for is f.at c.handlers ≡ Some entry → (x : ℕ) → I (at_handler f entry x)

-- the facts at its index hold of the local variables, and an int that was pushed directly before is
-- on the top of the stack
pub record Holds (c : Code) (facts : ℕ → Facts) (f : Body) : Type 0 where
  pub ints : (slot : ℕ) (z : ℤ) → IsTrue (facts slot f.at z) → f.locals slot ≡ Some (Int z)
  pub pushed : (z : ℤ) → pushed_before c f.at ≡ Some z → (s : List Value) × (f.stack ≡ Int z ∷ s)
