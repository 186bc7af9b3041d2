use Rattle.std.proofs.Common.{◌≡◌, All, None}
use Rattle.set_program.proofs.rows.no_rows.Given as goal

abbrev pub invariant-loop : goal.invariant-loop
invariant-loop g l = All (λ row. row ≡ None) l.rows.items
