-- The first act that names a local variable at an index (the project's own; only the code's
-- contracts need it).
use Rattle.std.specs.Prelude.{◌≡◌, ℕ, suc, ℤ, ◌&&◌, ◌==◌, List, [], ◌∷◌, Bool, false, Option, Some, None}
use Rattle.std.specs.Prelude.{nat_le, slice_get, if◌then◌else◌}
use Rattle.code_edit.specs.declared.act.Act.{Act}
use Rattle.code_edit.specs.declared.act.Act.TheVariants as act
use Rattle.const_tables.specs.declared.facts.Stretch.{Stretch}
use Rattle.const_tables.specs.Stretches.{IsOrdered, first_in}

-- a fact names the slot at the index
abbrev pub names : ℕ → ℕ → Act → Bool
names slot at (act.Fact from to named value) = slot == named && (nat_le from at && nat_le at to)
names slot at a = false

-- the number of the first act that does, the first act's being n
abbrev pub first_from : ℕ → List Act → ℕ → ℕ → Option ℕ
first_from n [] slot at = None
first_from n (a ∷ acts) slot at =
    if names slot at a then Some n else first_from (suc n) acts slot at

-- stretches tell that of acts, the first one's number being n
pub record AreFirst (n : ℕ) (acts : List Act) (stretches : List Stretch) : Type 0 where
  pub told : (slot at : ℕ) → first_in None stretches slot at ≡ first_from n acts slot at
  pub ordered : IsOrdered stretches

-- ---- ints

-- the int of a fact
abbrev pub value_in : Option Act → Option ℤ
value_in (Some (act.Fact from to slot value)) = Some value
value_in a = None

abbrev pub value_of : List Act → Option ℕ → Option ℤ
value_of acts None = None
value_of acts (Some k) = value_in (slice_get acts k)

-- the int that the slot holds at the index, by the first act that names both
abbrev pub int_at : List Stretch → List Act → ℕ → ℕ → Option ℤ
int_at facts acts slot at = value_of acts (first_in None facts slot at)
