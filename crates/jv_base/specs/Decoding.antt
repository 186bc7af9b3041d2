-- Reading Modified UTF-8 from left to right (JVMS 4.4.7).
use Rattle.std.specs.Prelude.{◌≡◌, ℕ, ◌+◌, ◌-◌, ◌*◌, ◌&&◌, Bool, List, [], ◌∷◌, ◌++◌, nat_le, ◌==◌, Option, Some}
use Rattle.std.specs.Prelude.{None, Result, Ok, Err, if◌then◌else◌}
use Rattle.jv_base.specs.Mutf8.{mutf8, IsUnits}
use Rattle.jv_base.specs.Walk.{walk}
use Rattle.jv_base.specs.declared.mutf8.Awaited.{Awaited}
use Rattle.jv_base.specs.declared.mutf8.Awaited.TheVariants.{Lead, Zero, Middle, Last}
use Rattle.jv_base.specs.declared.mutf8.Taken.{Taken}
use Rattle.jv_base.specs.declared.mutf8.Taken.TheVariants.{Whole, Part}
use Rattle.jv_base.specs.declared.mutf8.BadUtf8.{BadUtf8}

-- the bytes spell the units
abbrev pub SpellsUnits : List ℕ → List ℕ → Type 0
SpellsUnits bytes units = IsUnits units × (mutf8 units ≡ bytes)

-- a byte from low to high
abbrev pub is_from_to : ℕ → ℕ → ℕ → Bool
is_from_to low high b = nat_le low b && nat_le b high

-- what a byte is where a unit begins
abbrev pub lead_byte : ℕ → Option Taken
lead_byte b =
    if is_from_to 0x01 0x7F b then Some (Whole b)
    else if b == 0xC0 then Some (Part Zero)
    else if is_from_to 0xC2 0xDF b then Some (Part (Last (b - 0xC0)))
    else if is_from_to 0xE0 0xEF b then Some (Part (Middle (b - 0xE0)))
    else None

-- the bits of a unit, with the six of one more byte
abbrev pub with_six : ℕ → ℕ → ℕ
with_six bits b = bits * 0x40 + (b - 0x80)

-- what a byte is, if it can stand here: a unit of three bytes is 800 or more
unfoldable pub byte_taken : Awaited → ℕ → Option Taken
byte_taken Lead b = lead_byte b
byte_taken Zero b = if b == 0x80 then Some (Whole 0) else None
byte_taken (Middle bits) b =
    if is_from_to (if bits == 0 then 0xA0 else 0x80) 0xBF b then Some (Part (Last (with_six bits b))) else None
byte_taken (Last bits) b = if is_from_to 0x80 0xBF b then Some (Whole (with_six bits b)) else None

-- the units so far, and what the next byte has to be
pub record Decoded : Type 0 where
  pub units : List ℕ
  pub awaited : Awaited

-- what is decoded behind one more byte, if it can stand there (JVMS 4.4.7)
abbrev pub decoded_on : List ℕ → Option Taken → Option Decoded
decoded_on units (Some (Whole unit)) = Some (record { units = units ++ unit ∷ []; awaited = Lead })
decoded_on units (Some (Part next)) = Some (record { units = units; awaited = next })
decoded_on units None = None

-- one more byte
abbrev pub decode_byte : Decoded → ℕ → Option Decoded
decode_byte d b = decoded_on d.units (byte_taken d.awaited b)

-- the units, where no byte is awaited (JVMS 4.4.7)
abbrev pub whole_units : List ℕ → Awaited → Option (List ℕ)
whole_units units Lead = Some units
whole_units units Zero = None
whole_units units (Middle bits) = None
whole_units units (Last bits) = None

-- the units, where the last one is whole
abbrev pub decode_end : Decoded → Option (List ℕ)
decode_end d = whole_units d.units d.awaited

-- what the bytes from a place on give
abbrev pub decode_from : Decoded → ℕ → List ℕ → Result (List ℕ) ℕ
decode_from d at bytes = walk decode_byte decode_end d at bytes

-- a place as the fault that tells it (the project's own: where the spelling breaks off)
abbrev pub bad_utf8 : {V : Type 0} → Result V ℕ → Result V BadUtf8
bad_utf8 (Ok x) = Ok x
bad_utf8 (Err at) = Err (record { offset = at })

-- the units that the bytes spell, or the place of the first byte where no spelling goes on
-- (JVMS 4.4.7; the place of a fault is the project's own)
unfoldable pub read_mutf8 : List ℕ → Result (List ℕ) BadUtf8
read_mutf8 bytes = bad_utf8 (decode_from (record { units = []; awaited = Lead }) 0 bytes)
