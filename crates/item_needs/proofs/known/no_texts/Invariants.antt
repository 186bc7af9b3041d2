use Rattle.std.proofs.Common.{◌≡◌, All, None}
use Rattle.item_needs.proofs.known.no_texts.Given as goal

abbrev pub invariant-loop : goal.invariant-loop
invariant-loop l = All (λ row. row ≡ None) l.rows.items
