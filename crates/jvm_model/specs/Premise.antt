-- What a change of codes owes, told of one frame alone, so that the changed program does the same (the
-- project's own: what a law about changed codes asks).
use Rattle.std.specs.Prelude.{◌≡◌, ◌<◌, ◌⊎◌, ℕ, List, Option, Some, None, Bool}
use Rattle.class_model.specs.declared.code.Code.{Code}
use Rattle.jvm_model.specs.Local.{Local, Moves, Wants, Ends, Tosses, Stuck, at_handler, called_with, handler_for, local}
use Rattle.jvm_model.specs.Local.{resumed}
use Rattle.jvm_model.specs.Local.{with_stack}
use Rattle.jvm_model.specs.Same.{LineCorr, line_at}
use Rattle.jvm_model.specs.State.{Body}
use Rattle.jvm_model.specs.Value.{Value}

-- A relation between a body in the old code and one in the new, at a number.
abbrev pub Relation : Type 1
Relation = ℕ → Body → Body → Type 0

-- an exception leaves both bodies, or both enter handlers, related then
abbrev pub Enters : Relation → Body → Body → Option ℕ → Option ℕ → Type 0
Enters R f g None entry' = entry' ≡ None
Enters R f g (Some entry) entry' =
    (e : ℕ) × (entry' ≡ Some e) × ((x : ℕ) → (n : ℕ) × R n (at_handler f entry x) (at_handler g e x))

-- both do the same outside, and are related after it and after each answer
abbrev pub Effect : Relation → Body → Body → Local → Local → Type 0
Effect R f g (Moves f') l = (g' : Body) × (l ≡ Moves g') × (n : ℕ) × R n f' g'
Effect R f g (Wants r s) l = (t : List Value) × (l ≡ Wants r t)
    × ((o : Option Value) → (n : ℕ) × R n (resumed (with_stack f s) o) (resumed (with_stack g t) o))
Effect R f g (Ends o) l = l ≡ Ends o
Effect R f g (Tosses v) l = l ≡ Tosses v
Effect R f g Stuck l = Unit {0}

-- both are at instructions of one line that do the same; whatever the exception, both leave or enter handlers
pub record Meets (R : ℕ → Body → Body → Type 0) (c d : Code) (f g : Body) : Type 0 where
  pub line : LineCorr (line_at f.at c) (line_at g.at d)
  pub caught : (is : List ℕ → Bool) → Enters R f g (handler_for is f.at c.handlers) (handler_for is g.at d.handlers)
  pub effect : Effect R f g (local c f) (local d g)

-- What the old body does next: it breaks; it moves alone, and the number falls; or both do the same.
pub data Turn (R : ℕ → Body → Body → Type 0) (c d : Code) (n : ℕ) (f g : Body) : Type 0 where
  breaks : local c f ≡ Stuck → Turn R c d n f g
  alone : (f' : Body) → local c f ≡ Moves f' → (k : ℕ) → R k f' g → k < n → Turn R c d n f g
  together : Meets R c d f g → Turn R c d n f g

-- bodies are related when a method begins, and what they do next keeps them so
pub record Premise (R : ℕ → Body → Body → Type 0) (c d : Code) : Type 0 where
  pub begins : (args : List Value) → (n : ℕ) × R n (called_with args) (called_with args)
  pub turn : (n : ℕ) (f g : Body) → R n f g → Turn R c d n f g

-- the same code, or one that is put in its place
abbrev pub Stands : (Code → Code → Type 0) → Option Code → Option Code → Type 0
Stands puts a b = (b ≡ a) ⊎ ((c : Code) × (d : Code) × (a ≡ Some c) × (b ≡ Some d) × puts c d)
