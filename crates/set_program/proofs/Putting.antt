-- A row that was put among others.
use Rattle.std.proofs.Common.{List, Option, rules}
use Rattle.set_program.specs.bodies.Rows.{AllHold, PutsRow}

-- each row is still so
pub all_hold : {T : Type 0} (P : T → Type 0) (row : T) (before after : List (Option T)) → P row → AllHold P before
    → PutsRow row before after → AllHold P after
all_hold P row before after is all puts = search rules
