-- Stretches of places, by local variable and then index (the project's own; only the code's
-- contracts need it).
use Rattle.std.specs.Prelude.{◌≡◌, ◌⊎◌, ℕ, ◌-◌, ◌&&◌, ◌||◌, ◌==◌, List, [], ◌∷◌, Bool, true, false}
use Rattle.std.specs.Prelude.{Option, Some, None, nat_le, nat_lt, slice_get, if◌then◌else◌}
use Rattle.std.specs.List.{AllByRecursion}
use Rattle.std.specs.Option.{option_or}
use Rattle.const_tables.specs.declared.facts.Next.{Next}
use Rattle.const_tables.specs.declared.facts.Next.TheVariants.{Former, Latter}
use Rattle.const_tables.specs.declared.facts.Stretch.{Stretch}

-- a stretch begins at a place or before it
abbrev pub is_up_to : Stretch → ℕ → ℕ → Bool
is_up_to s slot at = nat_lt s.slot slot || (s.slot == slot && nat_le s.at at)

-- what the last stretch says that begins at a place or before it, or what was said before them
abbrev pub first_in : Option ℕ → List Stretch → ℕ → ℕ → Option ℕ
first_in before [] slot at = before
first_in before (s ∷ stretches) slot at =
    if is_up_to s slot at then first_in s.first stretches slot at else before

-- the one begins where the other does, or before it
abbrev pub IsUpTo : Stretch → Stretch → Type 0
IsUpTo a b = is_up_to a b.slot b.at ≡ true

-- each stretch begins where those before it do, or later
abbrev pub IsOrdered : List Stretch → Type 0
IsOrdered [] = Unit {0}
IsOrdered (s ∷ stretches) = AllByRecursion (IsUpTo s) stretches × IsOrdered stretches

-- of the next stretches of two lists the one that begins first
abbrev pub next_of : Option Stretch → Option Stretch → Option Next
next_of (Some a) (Some b) = if is_up_to a b.slot b.at then Some (Former a) else Some (Latter b)
next_of (Some a) None = Some (Former a)
next_of None (Some b) = Some (Latter b)
next_of None None = None

-- stretches say what two lists say, of which the former one counts where both say something
pub record IsJoined (former latter all : List Stretch) : Type 0 where
  pub told : (slot at : ℕ) → first_in None all slot at
      ≡ option_or (first_in None former slot at) (first_in None latter slot at)
  pub ordered : IsOrdered all

-- ---- a place in a list

abbrev pub up_by : Option Stretch → ℕ → ℕ → Bool
up_by None slot at = false
up_by (Some s) slot at = is_up_to s slot at

-- the stretch before so many begins up to the place, and the one behind them doesn't
abbrev pub IsSplit : List Stretch → ℕ → ℕ → ℕ → Type 0
IsSplit stretches slot at count =
    ((count ≡ 0) ⊎ (up_by (slice_get stretches (count - 1)) slot at ≡ true))
    × (up_by (slice_get stretches count) slot at ≡ false)

abbrev pub first_by : Option Stretch → Option ℕ
first_by None = None
first_by (Some s) = s.first

-- what the last of so many stretches says
abbrev pub first_before : List Stretch → ℕ → Option ℕ
first_before stretches count =
    if count == 0 then None else first_by (slice_get stretches (count - 1))
