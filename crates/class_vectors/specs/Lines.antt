-- Lines that are class files in hex (the project's own: how files are given to the program).
use Rattle.std.specs.Prelude.{ℕ, List, length, nat_lt, Option, Some, None, Result, Ok, Err, if◌then◌else◌}
use Rattle.hex.specs.declared.error.FromHexError.{FromHexError}
use Rattle.hex.specs.Hex.{decode_of}

-- the bytes that were decoded, if a class file may be so long
abbrev pub short : Result (List ℕ) FromHexError → Option (List ℕ)
short (Ok bytes) = if nat_lt (length bytes) 4294967295 then Some bytes else None
short (Err e) = None

-- the bytes that a line is in hex, fewer than 4 GiB
abbrev pub bytes_of : List ℕ → Option (List ℕ)
bytes_of line = short (decode_of line)
