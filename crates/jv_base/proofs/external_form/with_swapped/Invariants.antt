use Rattle.std.proofs.Common.{◌≡◌, ◌++◌, map, string_bytes}
use Rattle.std.specs.Str.Iter.{chars_rest}
use Rattle.jv_base.specs.External.{swapped}
use Rattle.jv_base.proofs.external_form.with_swapped.Given as goal

abbrev pub invariant-loop-c : goal.invariant-loop-c
invariant-loop-c l = string_bytes l.made ++ map (swapped l.from l.to) (chars_rest l.c-iterator)
    ≡ map (swapped l.from l.to) l.text
