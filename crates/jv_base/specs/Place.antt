-- A place in bytes, and what is read there (the project's own: readers go from left to right).
use Rattle.std.specs.Prelude.{◌≡◌, ℕ, ◌+◌, ◌-◌, List, length, take, slice_range, Result, Ok, Err, nat_lt, if◌then◌else◌}
use Rattle.std.specs.Int.{Width, byte_len, from_be_bytes}
use Rattle.jv_base.specs.declared.cursor.End.{End}

-- all of the bytes, and how many stand before the place
pub record Place : Type 0 where
  pub bytes : List ℕ
  pub at : ℕ

-- the place before the first byte
abbrev pub start : List ℕ → Place
start bytes = record { bytes = bytes; at = 0 }

-- the place n bytes further on
abbrev pub after : ℕ → Place → Place
after n p = record { bytes = p.bytes; at = p.at + n }

-- too few bytes are left
abbrev pub ended : Place → End
ended p = record { 0 = length p.bytes }

-- the next n bytes
abbrev pub taken_at : ℕ → Place → Result (List ℕ × Place) End
taken_at n p =
    if nat_lt (length p.bytes - p.at) n then Err (ended p)
    else Ok (slice_range p.bytes p.at (p.at + n), after n p)

-- the same place, where the bytes end n bytes further on
abbrev pub cut_off : ℕ → Place → Place
cut_off n p = record { bytes = take (p.at + n) p.bytes; at = p.at }

-- the next n bytes as a part, in which each place is that of the whole
abbrev pub part_at : ℕ → Place → Result (Place × Place) End
part_at n p =
    if nat_lt (length p.bytes - p.at) n then Err (ended p)
    else Ok (cut_off n p, after n p)

-- the big-endian number in the next bytes (JVMS 4)
abbrev pub number_at : Width → Place → Result (ℕ × Place) End
number_at w p =
    if nat_lt (length p.bytes - p.at) (byte_len w) then Err (ended p)
    else Ok (from_be_bytes w (slice_range p.bytes p.at (p.at + byte_len w)), after (byte_len w) p)

-- what came, seen by view, is what is read, and the place is the one behind it; after End it is as it was
abbrev pub MovesTo : {T V X : Type 0} → (T → V) → Result T X → Place → Place → Result (V × Place) X → Type 0
MovesTo view (Ok x) old new due = due ≡ Ok (view x, new)
MovesTo view (Err e) old new due = (due ≡ Err e) × (new ≡ old)

-- the same where contracts see the value itself
abbrev pub Moves : {T X : Type 0} → Result T X → Place → Place → Result (T × Place) X → Type 0
Moves result old new due = MovesTo (λ x. x) result old new due
