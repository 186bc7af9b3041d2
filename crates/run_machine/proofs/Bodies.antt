-- A frame that has its operands again is the one that asked.
use Rattle.std.proofs.Common.{◌≡◌, ◌∙◌, ◌++◌, ℕ, List, Option, refl, sym}
use Rattle.jvm_model.specs.Local.{with_stack}
use Rattle.jvm_model.specs.State.{Body as Standing}
use Rattle.jvm_model.specs.Value.{Value}
use Rattle.run_steps.specs.Frames.{body_of}
use Rattle.run_steps.specs.Outcomes.{IsWithout}
use Rattle.run_steps.specs.declared.body.Body.{Body}
use Rattle.run_values.specs.Slots.{slots_of}

-- frames with the same parts
same_body : (a c : ℕ) (l m : List (Option Value)) (s t : List Value) → a ≡ c → l ≡ m → s ≡ t
    → ◌≡◌ {A = Standing} (record { at = a; locals = slots_of l; stack = s })
    (record { at = c; locals = slots_of m; stack = t })
same_body a c l m s t e f g = λ i. record { at = e i; locals = slots_of (f i); stack = g i }

-- the frame with these operands on its stack
pub put_back : (vs : List Value) (b f g : Body) → IsWithout vs b f → g.at ≡ f.at → g.locals ≡ f.locals
    → g.stack ≡ vs ++ f.stack → body_of g ≡ body_of b
put_back vs b f g w e h i = same_body g.at b.at g.locals b.locals g.stack b.stack (e ∙ w.0) (h ∙ w.1) (i ∙ sym w.2)

-- the frame that asks, without its operands
pub without : (b f : Body) → f.at ≡ b.at → f.locals ≡ b.locals → with_stack (body_of b) f.stack ≡ body_of f
without b f e h = same_body b.at f.at b.locals f.locals f.stack f.stack (sym e) (sym h) refl
