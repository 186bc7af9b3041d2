-- Fields that get their ConstantValue, one after the other (JVMS 4.7.2; only the proof of the bodies needs it).
use Rattle.std.specs.Prelude.{List, [], ◌∷◌}
use Rattle.std.specs.Option.{option_map_or}
use Rattle.jvm_model.specs.Fields.{stored_in}
use Rattle.jvm_model.specs.Program.{Shape}
use Rattle.jvm_model.specs.Value.{Key, Value, set_key}

-- a field holds its ConstantValue, where it has one
abbrev pub with_constant : Shape → (Key → Value) → Key → Key → Value
with_constant p f key = option_map_or (λ v. set_key f key (stored_in key v)) (p.constant key) f

-- the same of each of some fields
abbrev pub with_each : Shape → List Key → (Key → Value) → Key → Value
with_each p [] f = f
with_each p (key ∷ keys) f = with_each p keys (with_constant p f key)
