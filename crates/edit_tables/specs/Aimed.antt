-- Where aims lead targets, told as it is kept (the project's own; only the code's contracts need
-- it).
use Rattle.std.specs.Prelude.{◌≡◌, ℕ, List, [], ◌∷◌, Option, None}
use Rattle.std.specs.BTreeMap.{get}
use Rattle.std.specs.Option.{option_or, unwrap_or}
use Rattle.std.specs.Ordering.{nat_cmp, ordering_then}
use Rattle.std.specs.declared.cmp.Ordering.{Ordering}
use Rattle.code_edit.specs.declared.act.Act.{Act}
use Rattle.code_edit.specs.Jumps.{moved_by}
use Rattle.edit_tables.specs.declared.aims.Aims.{Aims}

-- where the first act that moves this target of the index moves it to
abbrev pub moved : List Act → ℕ → ℕ → Option ℕ
moved [] at which = None
moved (a ∷ acts) at which = option_or (moved_by at which a) (moved acts at which)

-- by index, then by number
abbrev pub target_order : (ℕ × ℕ) → (ℕ × ℕ) → Ordering
target_order x y = ordering_then (nat_cmp x.0 y.0) (nat_cmp x.1 y.1)

-- what is kept of a target
abbrev pub kept_aim : Aims → ℕ → ℕ → Option ℕ
kept_aim aims at which = get target_order aims.table (at, which)

-- where this target of the index leads
abbrev pub aimed : Aims → ℕ → ℕ → ℕ → ℕ
aimed aims at which to = unwrap_or (kept_aim aims at which) to

-- the aims of some acts are kept
abbrev pub TellsAims : Aims → List Act → Type 0
TellsAims aims acts = (at which : ℕ) → kept_aim aims at which ≡ moved acts at which
