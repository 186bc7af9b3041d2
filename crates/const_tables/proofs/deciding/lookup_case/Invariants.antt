use Rattle.std.proofs.Common.{◌≡◌, drop}
use Rattle.code_edit.specs.Deciding.{lookup_case}
use Rattle.const_tables.proofs.deciding.lookup_case.Given as goal

abbrev pub invariant-loop-case : goal.invariant-loop-case
invariant-loop-case l = lookup_case l.cases l.key ≡ lookup_case (drop l.case-index l.cases) l.key
