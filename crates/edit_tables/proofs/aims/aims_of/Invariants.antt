use Rattle.std.proofs.Common.{◌≡◌, ℕ, drop}
use Rattle.std.specs.Option.{option_or}
use Rattle.edit_tables.specs.Aimed.{kept_aim, moved}
use Rattle.edit_tables.proofs.aims.aims_of.Given as goal

abbrev pub invariant-loop-act : goal.invariant-loop-act
invariant-loop-act l =
    (at which : ℕ) → option_or (kept_aim l.aims at which) (moved (drop l.act-index l.acts) at which)
    ≡ moved l.acts at which
