-- Types that are noted to fit in the locals where handlers begin (only the proof of the walk needs it).
use Rattle.std.specs.Prelude.{◌≡◌, ◌<◌, ◌≤◌, ◌⊎◌, ℕ, ◌-◌, true, false, IfSome, IsTrue, List, length, get_or, Option}
use Rattle.std.specs.Prelude.{Some, None}
use Rattle.class_model.specs.declared.class.Class.{Class}
use Rattle.class_model.specs.declared.code.Handler.{Handler}
use Rattle.class_model.specs.declared.frame.VType.{VType}
use Rattle.class_model.specs.declared.frame.VType.TheVariants as vtype
use Rattle.type_verifier.specs.declared.changed.Changed.{Changed}
use Rattle.type_verifier.specs.declared.fitting.Fitting.{Fitting}
use Rattle.type_verifier.specs.declared.fitting.Noted.{Noted}
use Rattle.type_verifier.specs.declared.frame.TypeFrame.{TypeFrame}
use Rattle.type_verifier.specs.Assignable.{is_assignable}
use Rattle.type_verifier.specs.Environment.{Environment, declared_frame_at}
use Rattle.type_verifier.specs.Walk.{satisfies_handlers}
use Rattle.type_verifier.specs.bodies.Asked.{covers_behind, handler_at}

-- what a word of some locals holds; behind the last one it is Top
abbrev pub word_of : List VType → ℕ → VType
word_of types word = get_or types word vtype.Top

-- ---- what is noted

-- a type is noted of a word
abbrev pub HasNoted : List (Option Noted) → ℕ → VType → Type 0
HasNoted noted word ty = (place : ℕ) × (get_or noted place None ≡ Some (record { word = word; ty = ty }))

-- what is noted was noted before
abbrev pub StillNoted : List (Option Noted) → List (Option Noted) → Type 0
StillNoted old new = (word : ℕ) (ty : VType) → HasNoted new word ty → HasNoted old word ty

-- what is noted was noted before, or is this type of this word
abbrev pub NotesWord : List (Option Noted) → List (Option Noted) → ℕ → VType → Type 0
NotesWord old new at other = (word : ℕ) (ty : VType) → HasNoted new word ty
    → HasNoted old word ty ⊎ ((word ≡ at) × (ty ≡ other))

-- what is noted was noted before, or is what some locals hold
abbrev pub Notes : List (Option Noted) → List (Option Noted) → List VType → Type 0
Notes old new types = (word : ℕ) (ty : VType) → HasNoted new word ty
    → HasNoted old word ty ⊎ ((word < length types) × (ty ≡ word_of types word))

-- a type that is noted fits in these locals
abbrev pub FitsIn : List Class → List VType → ℕ → VType → Type 0
FitsIn classes locals word ty = word < length locals → is_assignable classes ty (word_of locals word) ≡ true

-- ---- what is told by it

-- a frame may fail a handler in these words alone: those that changed, or all of them where it has as many as the one
-- before and isn't marked
abbrev pub IsInDoubt : Fitting → TypeFrame → Option Changed → Changed → Type 0
IsInDoubt fitting f since doubt = (since ≡ Some doubt)
    ⊎ ((since ≡ None) × (fitting.count ≡ Some (length f.locals)) × (f.marked ≡ false)
    × (doubt ≡ record { from = 0; to = length f.locals }))

-- the types in these words are noted
abbrev pub AreTold : List (Option Noted) → Changed → List VType → Type 0
AreTold noted doubt types = (word : ℕ) → doubt.from ≤ word → word < doubt.to → word < length types
    → HasNoted noted word (word_of types word)

-- the types of a frame are noted in all words in which it may fail
abbrev pub IsTold : Fitting → TypeFrame → Option Changed → Type 0
IsTold fitting f since = (doubt : Changed) × IsInDoubt fitting f since doubt
    × AreTold fitting.noted.items doubt f.locals

-- ---- what it means

module _ (env : Environment) where
  -- a type fits in a word of the locals that are declared where a handler begins
  abbrev pub FitsWord : Handler → ℕ → VType → Type 0
  FitsWord h word ty = h.entry < length env.code.ins → (d : TypeFrame) → declared_frame_at env h.entry ≡ Some d
      → FitsIn env.classes d.locals word ty

  -- it fits at each handler that covers an instruction and the one before
  abbrev pub FitsBehind : ℕ → ℕ → VType → Type 0
  FitsBehind at word ty = (n : ℕ) → n < length env.code.handlers → covers_behind at (handler_at env.code n) ≡ true
      → FitsWord (handler_at env.code n) word ty

  -- each type that is noted does
  abbrev pub AreNoted : ℕ → List (Option Noted) → Type 0
  AreNoted at noted = (word : ℕ) (ty : VType) → HasNoted noted word ty → FitsBehind at word ty

  -- some frame of as many words satisfied each handler that covers the instruction before
  abbrev pub IsCount : ℕ → ℕ → Type 0
  IsCount at count = (0 < at) × (before : TypeFrame) × IsTrue (satisfies_handlers env (at - 1) before)
      × (length before.locals ≡ count)

  pub record AreFitting (at : ℕ) (fitting : Fitting) : Type 0 where
    pub count : IfSome fitting.count (IsCount at)
    pub noted : AreNoted at fitting.noted.items
