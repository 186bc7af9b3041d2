-- Handlers that stand for others where locals change (only the proof of the walk needs it).
use Rattle.std.specs.Prelude.{◌≡◌, ◌<◌, ◌≤◌, ℕ, Bool, false, ◌&&◌, ◌||◌, ◌==◌, not, nat_eq, nat_lt, List, length}
use Rattle.std.specs.Prelude.{Option, None, get_or}
use Rattle.std.specs.List.{find, list_all}
use Rattle.std.specs.Option.{option_map}
use Rattle.class_model.specs.declared.code.Code.{Code}
use Rattle.class_model.specs.declared.code.Handler.{Handler}
use Rattle.class_model.specs.declared.frame.FrameAt.{FrameAt}
use Rattle.class_model.specs.declared.frame.VType.{VType}
use Rattle.type_verifier.specs.declared.frame.TypeFrame.{TypeFrame}
use Rattle.type_verifier.specs.Environment.{Environment}
use Rattle.type_verifier.specs.Walk.{covers, satisfies}

-- ---- which stand for which

-- what stands behind the last handler: one that covers nothing
abbrev pub no_handler : Handler
no_handler = record { from = 0; to = 0; entry = 0; caught = None }

-- the handler of a number
abbrev pub handler_at : Code → ℕ → Handler
handler_at code number = get_or code.handlers number no_handler

-- the locals that are declared at an instruction
abbrev pub locals_at : Code → ℕ → Option (List VType)
locals_at code at = option_map (λ (f : FrameAt). f.frame.locals) (find (λ (f : FrameAt). f.index == at) code.frames)

-- a handler covers each instruction that another one covers, and the same locals are declared where they begin
pub record StandsFor (code : Code) (one other : Handler) : Type 0 where
  pub from : one.from ≤ other.from
  pub to : other.to ≤ one.to
  pub locals : locals_at code one.entry ≡ locals_at code other.entry

-- these are numbers of handlers
abbrev pub AreThere : Code → List ℕ → Type 0
AreThere code numbers = (i : ℕ) → i < length numbers → get_or numbers i 0 < length code.handlers

-- one of these stands for the handler of a number
abbrev pub IsStoodFor : Code → List ℕ → ℕ → Type 0
IsStoodFor code numbers n =
    (i : ℕ) × (i < length numbers) × StandsFor code (handler_at code (get_or numbers i 0)) (handler_at code n)

-- the handler of a number stands for the one at a place of these
pub record StandsForPlace (code : Code) (numbers : List ℕ) (n at : ℕ) : Type 0 where
  pub within : at < length numbers
  pub stands : StandsFor code (handler_at code n) (handler_at code (get_or numbers at 0))

-- these stand for the handlers before a number
pub record AreAskedBefore (code : Code) (count : ℕ) (numbers : List ℕ) : Type 0 where
  pub there : AreThere code numbers
  pub each : (n : ℕ) → n < count → IsStoodFor code numbers n

-- these stand for all handlers
abbrev pub AreAsked : Code → List ℕ → Type 0
AreAsked code numbers = AreAskedBefore code (length code.handlers) numbers

-- no handler covers the instruction
abbrev pub IsUncovered : Code → ℕ → Type 0
IsUncovered code at = (n : ℕ) → n < length code.handlers → covers at (handler_at code n) ≡ false

-- ---- what they are asked

-- the handler covers the instruction as the first
abbrev pub covers_first : ℕ → Handler → Bool
covers_first at h = nat_eq at h.from && covers at h

-- the handler covers the instruction and the one before
abbrev pub covers_behind : ℕ → Handler → Bool
covers_behind at h = nat_lt h.from at && nat_lt at h.to

module _ (env : Environment) where
  -- a frame satisfies the handler, if that covers the instruction as the first
  abbrev pub satisfies_if_first : ℕ → TypeFrame → Handler → Bool
  satisfies_if_first at f h = not (covers_first at h) || satisfies env f h

  -- a frame satisfies each handler that covers the instruction as the first
  abbrev pub satisfies_first : ℕ → TypeFrame → Bool
  satisfies_first at f = list_all (satisfies_if_first at f) env.code.handlers

  -- a frame satisfies the handler, if that covers the instruction and the one before
  abbrev pub satisfies_if_behind : ℕ → TypeFrame → Handler → Bool
  satisfies_if_behind at f h = not (covers_behind at h) || satisfies env f h

  -- a frame satisfies each handler that covers the instruction and the one before
  abbrev pub satisfies_behind : ℕ → TypeFrame → Bool
  satisfies_behind at f = list_all (satisfies_if_behind at f) env.code.handlers
