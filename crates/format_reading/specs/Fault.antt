-- A fault of a class file (the project's own: which item is at fault, by its offset).
use Rattle.std.specs.Prelude.{ℕ}
use Rattle.jv_base.specs.declared.cursor.End.{End}
use Rattle.jv_base.specs.declared.outcome.Or.{Or}
use Rattle.jv_base.specs.declared.outcome.Or.TheVariants.{Fault, OutOfMemory}
use Rattle.format_reading.specs.declared.fault.FormatFault.{FormatFault}
use Rattle.format_reading.specs.declared.fault.FormatKind.{FormatKind}
use Rattle.format_reading.specs.declared.fault.FormatKind.TheVariants.{Cut, BadAttribute}

-- the rule that is broken by the item at an offset
abbrev pub fault : ℕ → FormatKind → FormatFault
fault offset kind = record { offset = offset; kind = kind }

-- the bytes end too soon
abbrev pub cut : End → FormatFault
cut end = fault end.0 Cut

-- a fault at an offset, where the bytes of the attribute at the other end too soon
abbrev pub inside_of_kind : ℕ → ℕ → FormatKind → FormatFault
inside_of_kind attribute offset Cut = fault attribute BadAttribute
inside_of_kind attribute offset kind = fault offset kind

-- a fault in a part of an attribute: where the part ends too soon, the attribute is at fault
abbrev pub inside : ℕ → FormatFault → FormatFault
inside attribute f = inside_of_kind attribute f.offset f.kind

-- the same beside want of memory, which stays
abbrev pub or_inside : ℕ → Or FormatFault → Or FormatFault
or_inside attribute (Fault f) = Fault (inside attribute f)
or_inside attribute OutOfMemory = OutOfMemory
