-- What is gathered of what an item wants (only the proof of system_of needs it).
use Rattle.std.specs.Prelude.{◌≡◌, ℕ, ◌==◌, Bool, not, List, [], ◌++◌}
use Rattle.std.specs.List.{filter, list_any}
use Rattle.class_model.specs.declared.class.Class.{Class}
use Rattle.require_sys.specs.Requires.{Item, ascending, numbers}

-- the numbers of what was wanted so far of a set
pub record Wanted : Type 0 where
  pub classes : List Class
  pub numbers : List ℕ

-- nothing so far
abbrev pub wanting_nothing : List Class → Wanted
wanting_nothing classes = record { classes = classes; numbers = [] }

-- some more
abbrev pub wanting : Wanted → List Item → Wanted
wanting w items = record { classes = w.classes; numbers = w.numbers ++ numbers w.classes items }

-- these numbers but one, ascending, each once
abbrev pub needs_from : ℕ → List ℕ → List ℕ
needs_from own numbers = filter (λ x. not (x == own)) (ascending numbers)

-- a number stands in a list
abbrev pub has : ℕ → List ℕ → Bool
has x numbers = list_any (λ y. x == y) numbers

-- the same was wanted, perhaps in another order or more often
pub record HasSame (one other : Wanted) : Type 0 where
  pub classes : one.classes ≡ other.classes
  pub numbers : (x : ℕ) → has x one.numbers ≡ has x other.numbers
