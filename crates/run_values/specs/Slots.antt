-- Local variables as a list (JVMS 2.6.1).
use Rattle.std.specs.Prelude.{ℕ, List, Option, slice_get}
use Rattle.std.specs.Option.{option_and_then}
use Rattle.jvm_model.specs.Value.{Value}

-- what each slot holds: nothing in those past the list
abbrev pub slots_of : List (Option Value) → ℕ → Option Value
slots_of slots n = option_and_then (λ v. v) (slice_get slots n)
