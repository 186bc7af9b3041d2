use Rattle.std.proofs.Common.{◌≡◌, ◌++◌, codes}
use Rattle.std.specs.List.{repeat}
use Rattle.std.specs.Prelude.{string_bytes}
use Rattle.jv_base.proofs.external_form.push_dimensions.Given as goal

abbrev pub invariant-loop : goal.invariant-loop
invariant-loop l = string_bytes l.text ≡ string_bytes l.fn.text ++ repeat l.counter (codes "[]")
