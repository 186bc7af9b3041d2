-- What of the locals changed since handlers were satisfied (only the proof of the walk needs it).
use Rattle.std.specs.Prelude.{◌≡◌, ◌<◌, ◌≤◌, ℕ, ◌+◌, ◌-◌, Bool, true, IsTrue, List, Option, Some, None, length, take}
use Rattle.std.specs.Prelude.{drop}
use Rattle.std.specs.Prelude.{if◌then◌else◌}
use Rattle.std.specs.Cmp.Lexicographic.{pointwise}
use Rattle.class_model.specs.declared.code.Handler.{Handler}
use Rattle.class_model.specs.declared.op.Op.{Op}
use Rattle.class_model.specs.declared.op.Op.TheVariants as op
use Rattle.type_verifier.specs.declared.changed.Changed.{Changed}
use Rattle.type_verifier.specs.declared.frame.TypeFrame.{TypeFrame}
use Rattle.type_verifier.specs.Environment.{Environment}
use Rattle.type_verifier.specs.Walk.{satisfies, satisfies_handlers}

-- no words
abbrev pub nothing : Changed
nothing = record { from = 0; to = 0 }

-- the words before, at and behind a local
abbrev pub around : ℕ → Changed
around slot = record { from = slot - 1; to = slot + 2 }

-- the words that an instruction may change
abbrev pub changed_by : Op → Option Changed
changed_by (op.Store k slot) = Some (around slot)
changed_by (op.New name) = None
changed_by (op.InvokeSpecial r) = None
changed_by _ = Some nothing

-- the same where a frame flows on
abbrev pub since_after : Bool → Op → Option Changed
since_after flows op = if flows then changed_by op else None

-- what is told of the frame that flows in
abbrev pub since_there : Bool → Option Changed → Option Changed
since_there same since = if same then since else None

-- two frames have the same locals and flag
abbrev pub IsSame : TypeFrame → TypeFrame → Type 0
IsSame f g = (g.locals ≡ f.locals) × (g.marked ≡ f.marked)

-- the same but for these words
pub record Agrees (c : Changed) (f g : TypeFrame) : Type 0 where
  pub ordered : c.from ≤ c.to
  pub long : length g.locals ≡ length f.locals
  pub front : take c.from g.locals ≡ take c.from f.locals
  pub rest : drop c.to g.locals ≡ drop c.to f.locals
  pub marked : g.marked ≡ f.marked

-- the same where words are told
abbrev pub AgreesBy : Option Changed → TypeFrame → TypeFrame → Type 0
AgreesBy None f g = Unit {0}
AgreesBy (Some c) f g = Agrees c f g

-- a frame satisfies each handler that covers the instruction before this one, and this one differs from it by what is
-- told
abbrev pub IsSince : Environment → ℕ → Option Changed → TypeFrame → Type 0
IsSince env at None f = Unit {0}
IsSince env at (Some c) f =
    (0 < at) × (before : TypeFrame) × IsTrue (satisfies_handlers env (at - 1) before) × Agrees c before f

-- a frame satisfies a handler, and this one differs from it by these words
abbrev pub IsKnown : Environment → Handler → Changed → TypeFrame → Type 0
IsKnown env h c f = (before : TypeFrame) × IsTrue (satisfies env before h) × Agrees c before f

-- two lists are as long, and elements at the same places are related, but for these places
pub record AreElse {X : Type 0} (E : X → X → Bool) (c : Changed) (xs ys : List X) : Type 0 where
  pub ordered : c.from ≤ c.to
  pub long : length xs ≡ length ys
  pub front : pointwise E (take c.from xs) (take c.from ys) ≡ true
  pub rest : pointwise E (drop c.to xs) (drop c.to ys) ≡ true
