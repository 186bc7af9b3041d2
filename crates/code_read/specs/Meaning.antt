-- What an instruction's bytes stand for before its targets are known, and then with them
-- (JVMS 6.5; that targets come last is the project's own).
use Rattle.std.specs.Prelude.{ℕ, ℤ, List, map, Result}
use Rattle.std.specs.Prelude.{Ok, Err}
use Rattle.std.specs.Int.{w16, w32, cast_signed}
use Rattle.jv_base.specs.Place.{Place}
use Rattle.format_reading.specs.declared.fault.FormatFault.{FormatFault}
use Rattle.format_reading.specs.declared.fault.FormatKind.{FormatKind}
use Rattle.format_reading.specs.declared.fault.FormatKind.TheVariants as bad
use Rattle.class_model.specs.declared.pool.Entry.{Entry}
use Rattle.class_model.specs.declared.op.Op.{Op}
use Rattle.class_model.specs.InstructionStructure.{MatchOffset, Info, Branch, GotoWide, TableSwitch}
use Rattle.class_model.specs.InstructionStructure.{LookupSwitch}
use Rattle.class_model.specs.InstructionMeaning.{op_of}
use Rattle.class_model.specs.ReadingCode.{Read, instruction, left_out}
use Rattle.code_read.specs.declared.fault.Wrong.{Wrong}
use Rattle.code_read.specs.declared.fault.Wrong.TheVariants as wrong
use Rattle.code_read.specs.declared.unaimed.Match.{Match}
use Rattle.code_read.specs.declared.unaimed.Unaimed.{Unaimed}
use Rattle.code_read.specs.declared.unaimed.Unaimed.TheVariants as unaimed
use Rattle.code_read.specs.Fault.{wrong_of}

-- no target is asked for (the project's own: targets come last)
abbrev pub no_aim : ℤ → Result ℕ FormatKind
no_aim target = Err bad.BadTarget

-- an instruction without targets, or what is wrong with its operand
abbrev pub whole : Result Op FormatKind → Result Unaimed Wrong
whole (Ok o) = Ok (unaimed.Whole o)
whole (Err kind) = Err (wrong_of kind)

-- a match and its offset, the structure's as the decoder's
abbrev pub match_of : MatchOffset → Match
match_of pair = record { key = pair.key; offset = pair.offset }

-- an instruction, whose targets are still offsets
abbrev pub unaimed_of : List Entry → Info → Result Unaimed Wrong
unaimed_of pool (Branch opcode offset) = Ok (unaimed.Branch opcode (cast_signed w16 offset))
unaimed_of pool (GotoWide offset) = Ok (unaimed.Branch 0xA7 (cast_signed w32 offset))
unaimed_of pool (TableSwitch pad default low high offsets) = Ok (unaimed.TableSwitch default low offsets)
unaimed_of pool (LookupSwitch pad default pairs) = Ok (unaimed.LookupSwitch default (map match_of pairs))
unaimed_of pool info = whole (op_of no_aim pool 0 info)

-- with the place behind it
abbrev pub with_place : Result Unaimed Wrong → Place → Result (Unaimed × Place) Wrong
with_place (Ok u) p = Ok (u, p)
with_place (Err w) p = Err w

-- an instruction as it is meant, or that it is left out
abbrev pub meaning_at : List Entry → Read → Place → Result (Unaimed × Place) Wrong
meaning_at pool (instruction info) p = with_place (unaimed_of pool info) p
meaning_at pool (left_out opcode) p = Err (wrong.LeftOut opcode)

-- what was read of an instruction, as it is meant
abbrev pub meaning_of_read : List Entry → Result (Read × Place) FormatFault → Result (Unaimed × Place) Wrong
meaning_of_read pool (Ok x) = meaning_at pool x.0 x.1
meaning_of_read pool (Err f) = Err (wrong_of f.kind)
