use Rattle.std.proofs.Common.{◌≡◌, ◌-◌, replicate}
use Rattle.lib_table.specs.bodies.Stripping.{behind}
use Rattle.lib_table.proofs.descriptor.behind_brackets.Given as goal

abbrev pub invariant-loop : goal.invariant-loop
invariant-loop l = behind (replicate (l.dims - l.counter) 91) l.rest ≡ behind (replicate l.dims 91) l.fn.text
