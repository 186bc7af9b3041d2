-- Reading the instructions of a code, and then their targets (JVMS 4.9.1).
use Rattle.std.specs.Prelude.{ℕ, zero, suc, List, [], ◌∷◌, ◌++◌, length, ◌==◌, if◌then◌else◌, Result, Ok, Err}
use Rattle.jv_base.specs.Place.{Place}
use Rattle.class_model.specs.declared.pool.Entry.{Entry}
use Rattle.class_model.specs.ReadingCode.{read_instruction}
use Rattle.code_read.specs.declared.fault.CodeFault.{CodeFault}
use Rattle.code_read.specs.declared.fault.Wrong.{Wrong}
use Rattle.code_read.specs.declared.unaimed.Placed.{Placed}
use Rattle.code_read.specs.declared.unaimed.Unaimed.{Unaimed}
use Rattle.code_read.specs.Fault.{code_fault}
use Rattle.code_read.specs.Meaning.{meaning_of_read}

-- ---- one instruction

-- the instruction at an offset, or what is wrong with it (the project's own: the instruction is at fault)
abbrev pub at_offset : ℕ → Result (Unaimed × Place) Wrong → Result (Placed × Place) CodeFault
at_offset at (Ok x) = Ok (record { at = at; op = x.0 }, x.1)
at_offset at (Err w) = Err (code_fault at w)

-- the instruction that begins at a place of a code (JVMS 6.5)
unfoldable pub placed_at : List Entry → Place → Result (Placed × Place) CodeFault
placed_at pool p = at_offset p.at (meaning_of_read pool (read_instruction pool 0 p))

-- ---- all of them

-- a list before what else was read, or the fault behind it (the project's own: the first fault counts)
abbrev pub in_front : {A : Type 0} → List A → Result (List A) CodeFault → Result (List A) CodeFault
in_front front (Ok xs) = Ok (front ++ xs)
in_front front (Err f) = Err f

-- an instruction, and from the place behind it the others; of several faults the first counts
-- (the project's own: the first fault counts)
abbrev pub after_first : Result (Placed × Place) CodeFault → (Place → Result (List Placed) CodeFault)
    → Result (List Placed) CodeFault
after_first (Ok x) others = in_front (x.0 ∷ []) (others x.1)
after_first (Err f) others = Err f

-- the instructions up to the end of the bytes, n at most (JVMS 4.7.3, 4.9.1)
unfoldable pub placed_to_end : ℕ → List Entry → Place → Result (List Placed) CodeFault
placed_to_end zero pool p = Ok []
placed_to_end (suc n) pool p = if p.at == length p.bytes then Ok [] else after_first (placed_at pool p)
    (placed_to_end n pool)
