-- Reading Modified UTF-8 from left to right: parts that only the proofs of bodies need (the project's own: steps of a
-- call).
use Rattle.std.specs.Prelude.{◌<◌, Option, Some}
use Rattle.std.specs.Prelude.{None}
use Rattle.jv_base.specs.declared.mutf8.Awaited.{Awaited}
use Rattle.jv_base.specs.declared.mutf8.Awaited.TheVariants.{Lead, Zero, Middle, Last}
use Rattle.jv_base.specs.declared.mutf8.Taken.{Taken}
use Rattle.jv_base.specs.declared.mutf8.Taken.TheVariants.{Whole, Part}

-- so many bits can stand before the awaited byte (only the proof of units_of_mutf8 needs it)
abbrev pub HasBits : Awaited → Type 0
HasBits Lead = Unit {0}
HasBits Zero = Unit {0}
HasBits (Middle bits) = bits < 16
HasBits (Last bits) = bits < 1024

-- the same of a byte that was taken (only the proof of units_of_mutf8 needs it)
abbrev pub TakesBits : Option Taken → Type 0
TakesBits (Some (Part next)) = HasBits next
TakesBits (Some (Whole unit)) = unit < 65536
TakesBits None = Unit {0}
