-- When two programs do the same (the project's own: what is promised). What the second does is what the first does,
-- read through new names.
use Rattle.std.specs.Prelude.{◌≡◌, ◌≢◌, ◌≤◌, ◌⊎◌, ℕ, List, Option, Some, None, IsSome, slice_get}
use Rattle.std.specs.List.{AllZip, Contains}
use Rattle.std.specs.Option.{option_and_then, option_map}
use Rattle.jv_base.specs.declared.types.Base.{Base}
use Rattle.jv_base.specs.declared.types.Base.TheVariants as base
use Rattle.jv_base.specs.declared.types.FieldType.{FieldType}
use Rattle.class_model.specs.declared.code.Code.{Code}
use Rattle.jvm_model.specs.Heap.{Array, Builder, Instance, Object, Str, World}
use Rattle.jvm_model.specs.Program.{View}
use Rattle.jvm_model.specs.Start.{ArePlain}
use Rattle.jvm_model.specs.State.{Frame, Running, State, Status, WentWrong, frames, in_flight, status}
use Rattle.jvm_model.specs.Step.{run, start}
use Rattle.jvm_model.specs.Value.{Key, Value}

-- The new names of classes, fields and methods; what has none isn't kept.
pub record Names : Type 0 where
  pub class : List ℕ → Option (List ℕ)
  pub field : Key → Option Key
  pub method : Key → Option Key

-- each name stands for itself
abbrev pub own_names : Names
own_names = record { class = Some; field = Some; method = Some }

-- the names that the second gives to those that the first gives
abbrev pub chain : Names → Names → Names
chain a b = record {
  class = λ x. option_and_then b.class (a.class x);
  field = λ x. option_and_then b.field (a.field x);
  method = λ x. option_and_then b.method (a.method x);
}

-- a type under the new names
abbrev pub base_name : Names → Base → Option Base
base_name names (base.Class name) = option_map base.Class (names.class name)
base_name names b = Some b

-- the same of a type with its dimensions
abbrev pub type_name : Names → FieldType → Option FieldType
type_name names ty = option_map (λ b. record { dims = ty.dims; base = b }) (base_name names ty.base)

-- An object has the class of the new name and the same values in kept fields; what was given to an exception, the
-- components of an array, and texts are the same.
abbrev pub ObjectCorr : Names → Object → Object → Type 0
ObjectCorr names (Instance class fields message cause) o =
    (class' : List ℕ) × (fields' : Key → Value) × (o ≡ Instance class' fields' message cause)
    × (names.class class ≡ Some class') × ((k l : Key) → names.field k ≡ Some l → fields' l ≡ fields k)
ObjectCorr names (Array component values) o =
    (component' : FieldType) × (o ≡ Array component' values) × (type_name names component ≡ Some component')
ObjectCorr names (Str units) o = o ≡ Str units
ObjectCorr names (Builder units) o = o ≡ Builder units

-- Objects have the same numbers; the static fields and the initialisation of what is kept agree, and the printed units.
pub record WorldCorr (names : Names) (a b : World) : Type 0 where
  pub heap : AllZip (ObjectCorr names) a.heap b.heap
  pub statics : (k l : Key) → names.field k ≡ Some l → b.statics l ≡ a.statics k
  pub inits : (c d : List ℕ) → names.class c ≡ Some d → b.inits d ≡ a.inits c
  pub printed : b.printed ≡ a.printed

-- one status, with the same value or the same number of what is thrown, and not that something was wrong
abbrev pub StatusCorr : Status → Status → Type 0
StatusCorr a b = (b ≡ a) × (a ≢ WentWrong)

-- the line of an instruction (JVMS 4.7.12)
abbrev pub line_at : ℕ → Code → Option ℕ
line_at at code = option_and_then (λ i. i.line) (slice_get code.ins at)

-- the line at which a frame stands
abbrev pub line_of : View → Frame → Option ℕ
line_of v f = option_and_then (line_at f.body.at) (v.code f.method)

-- the line of the second, where it has one, is that of the first
abbrev pub LineCorr : Option ℕ → Option ℕ → Type 0
LineCorr a (Some line) = a ≡ Some line
LineCorr a None = Unit {0}

-- a frame is one of the method of the new name, at the same line
pub record FrameCorr (v w : View) (names : Names) (f g : Frame) : Type 0 where
  pub method : names.method f.method ≡ Some g.method
  pub line : LineCorr (line_of v f) (line_of w g)

-- Two states agree (the project's own): in status, world, the object that is going up, and the frames one to one, the
-- present one first.
pub record Corr (v w : View) (names : Names) (s t : State) : Type 0 where
  pub ending : StatusCorr (status s) (status t)
  pub world : WorldCorr names s.world t.world
  pub thrown : in_flight t.control ≡ in_flight s.control
  pub stack : AllZip (FrameCorr v w names) (frames s) (frames t)

-- of the world what is printed, and all of it when the run has ended
abbrev pub ToldCorr : Status → Names → World → World → Type 0
ToldCorr Running names a b = b.printed ≡ a.printed
ToldCorr _ names a b = WorldCorr names a b

-- two states agree in what may be told of them (the project's own): in status and print, and at the end in the world
pub record CorrEnd (names : Names) (s t : State) : Type 0 where
  pub ending : StatusCorr (status s) (status t)
  pub told : ToldCorr (status s) names s.world t.world

-- From two states the second program gets as far as the first, and goes no further, unless the first goes wrong.
pub record Alike (v w : View) (names : Names) (a b : State) : Type 0 where
  pub as_far : (n : ℕ) → status (run v a n) ≢ WentWrong → (k : ℕ) × (k ≤ n) × CorrEnd names (run v a n) (run w b k)
  pub no_further : (k : ℕ)
      → ((n : ℕ) × (k ≤ n) × Corr v w names (run v a n) (run w b k)) ⊎ ((n : ℕ) × (status (run v a n) ≡ WentWrong))

-- From two states the second program is, after each number of steps, where the first one is, unless the first has gone
-- wrong by then.
abbrev pub InStep : View → View → Names → State → State → Type 0
InStep v w names a b = (n : ℕ) → (status (run v a n) ≡ WentWrong) ⊎ Corr v w names (run v a n) (run w b n)

-- Each of these entries has a new name, and from there the second program does what the first does from the entry,
-- whatever heap of strings and arrays and whatever arguments they are given (the project's own).
abbrev pub Same : View → View → Names → List Key → Type 0
Same v w names entries = (entry : Key) → Contains entries entry
    → (entry' : Key) × (names.method entry ≡ Some entry') × ((heap : List Object) → ArePlain heap → (args : List Value)
    → Alike v w names (start v entry heap args) (start w entry' heap args))

-- The same at equal numbers of steps: each step of the first program is one of the second (the project's own).
abbrev pub SameSteps : View → View → Names → List Key → Type 0
SameSteps v w names entries = (entry : Key) → Contains entries entry
    → (entry' : Key) × (names.method entry ≡ Some entry') × ((heap : List Object) → ArePlain heap → (args : List Value)
    → InStep v w names (start v entry heap args) (start w entry' heap args))

-- each of these methods has a new name, so is kept
abbrev pub AreKept : Names → List Key → Type 0
AreKept names entries = (entry : Key) → Contains entries entry → IsSome (names.method entry)

-- the new names of these entries are among those
abbrev pub Renamed : Names → List Key → List Key → Type 0
Renamed names entries others = (entry entry' : Key) → Contains entries entry → names.method entry ≡ Some entry'
    → Contains others entry'
