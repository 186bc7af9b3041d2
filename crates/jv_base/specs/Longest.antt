-- Where a text leaves a language (the project's own: where a text with a fault breaks off).
use Rattle.std.specs.Prelude.{ℕ, ◌+◌, ◌<◌, ◌≤◌, List, ◌++◌, length, take, Result, Ok, Err}
use Rattle.jv_base.specs.declared.outcome.Or.{Or}
use Rattle.jv_base.specs.declared.outcome.Or.TheVariants.{Fault, OutOfMemory}

-- the text is the beginning of one that stands for a value
abbrev pub GoesOn : {V : Type 0} → (List ℕ → V → Type 0) → List ℕ → Type 0
GoesOn {V} spells text = (more : List ℕ) × (value : V) × spells (text ++ more) value

-- the text stands for no value, and its longest prefix that is the beginning of one that does has this length
pub record IsLongest {V : Type 0} (spells : List ℕ → V → Type 0) (text : List ℕ) (n : ℕ) : Type 0 where
  pub within : n ≤ length text
  pub prefix : GoesOn spells (take n text)
  pub longest : n < length text → ¬ (GoesOn spells (take (n + 1) text))
  pub wrong : (value : V) → ¬ (spells text value)

-- a fact of the fault, if one came
abbrev pub IfFault : {T X : Type 0} → Result T (Or X) → (X → Type 0) → Type 0
IfFault (Ok x) P = Unit {0}
IfFault (Err (Fault f)) P = P f
IfFault (Err OutOfMemory) P = Unit {0}
