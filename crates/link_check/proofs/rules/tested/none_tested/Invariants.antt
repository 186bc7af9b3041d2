use Rattle.std.proofs.Common.{◌≡◌, All, None}
use Rattle.link_check.proofs.rules.tested.none_tested.Given as goal

abbrev pub invariant-loop : goal.invariant-loop
invariant-loop l = All (λ one. one ≡ None) l.tested.items
