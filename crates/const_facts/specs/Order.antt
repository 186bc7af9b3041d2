-- What is known of a slot: what is known later is at most what was known (the project's own; only
-- the code's contracts need it).
use Rattle.std.specs.Prelude.{◌≡◌, ◌⊎◌, ℕ, ℤ, Option, Some, None, if◌then◌else◌}
use Rattle.std.specs.Int.{w32, int_wrapping_add}
use Rattle.std.specs.Ordering.{int_eq}
use Rattle.code_edit.specs.declared.change.Change.{Change}
use Rattle.code_edit.specs.declared.change.Change.TheVariants.{Keeps, Becomes, Adds, Clobbers}
use Rattle.const_facts.specs.declared.held.Held.{Held}
use Rattle.const_facts.specs.declared.held.Held.TheVariants.{Unreached, Always, Varies}

-- the int that is known
abbrev pub int_of : Held → Option ℤ
int_of (Always value) = Some value
int_of h = None

-- where two ways meet
abbrev pub meet : Held → Held → Held
meet Unreached b = b
meet (Always a) Unreached = Always a
meet (Always a) (Always b) = if int_eq a b then Always a else Varies
meet (Always a) Varies = Varies
meet Varies b = Varies

-- after an instruction
abbrev pub through : Change → Held → Held
through Keeps h = h
through (Becomes value) h = Always value
through (Adds by) (Always value) = Always (int_wrapping_add w32 value by)
through (Adds by) h = h
through Clobbers h = Varies

-- the second may be known where the first was
abbrev pub AtMost : Held → Held → Type 0
AtMost Unreached b = Unit {0}
AtMost (Always a) b = (b ≡ Always a) ⊎ (b ≡ Varies)
AtMost Varies b = b ≡ Varies

-- how often it may still fall
abbrev pub rank : Held → ℕ
rank Unreached = 2
rank (Always a) = 1
rank Varies = 0
