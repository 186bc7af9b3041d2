-- The next index of a code, where control may go on to it (JVMS 4.10.1.6; only the code's contracts
-- need it).
use Rattle.std.specs.Prelude.{ℕ, ◌+◌, Option, Some, None, length, nat_lt, slice_get, if◌then◌else◌}
use Rattle.class_model.specs.declared.code.Code.{Code}
use Rattle.class_model.specs.declared.code.Ins.{Ins}
use Rattle.code_edit.specs.Flow.{goes_elsewhere}

-- after this instruction, at an index of a code of n instructions
abbrev pub next_in : ℕ → ℕ → Option Ins → Option ℕ
next_in n at None = None
next_in n at (Some i) =
    if goes_elsewhere i.op then None else if nat_lt (at + 1) n then Some (at + 1) else None

abbrev pub next_index : Code → ℕ → Option ℕ
next_index code at = next_in (length code.ins) at (slice_get code.ins at)
