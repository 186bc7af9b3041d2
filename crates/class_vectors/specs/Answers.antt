-- What is said of the bytes of a class file (the project's own: lines that other readers can be checked by).
use Rattle.std.specs.Prelude.{ℕ, List, ◌++◌, codes, Option, Some, None, Result, Ok, Err}
use Rattle.std.specs.Fmt.{decimal}
use Rattle.format_reading.specs.declared.fault.FormatFault.{FormatFault}
use Rattle.class_model.specs.declared.class.Class.{Class}
use Rattle.class_model.specs.declared.class.LeftKind.{LeftKind}
use Rattle.class_model.specs.declared.class.LeftKind.TheVariants as left
use Rattle.class_model.specs.declared.class.LeftOut.{LeftOut}
use Rattle.class_model.specs.declared.limit.WriteLimit.{WriteLimit}
use Rattle.class_model.specs.WriteLimits.{class_written}
use Rattle.report_text.specs.Kinds.{format_name, limit_name}
use Rattle.hex.specs.Hex.{encode_lower}

-- the name of what is left out
abbrev pub left_name : LeftKind → List ℕ
left_name left.Flag = codes "Flag"
left_name left.Constant = codes "Constant"
left_name left.Opcode = codes "Opcode"
left_name left.FloatType = codes "FloatType"

-- the number of a member, - for the class itself
abbrev pub member_text : Option ℕ → List ℕ
member_text (Some n) = decimal n
member_text None = codes "-"

-- what is said of a class that is written
abbrev pub written_answer : Result (List ℕ) WriteLimit → List ℕ
written_answer (Ok bytes) = codes "ok " ++ encode_lower bytes
written_answer (Err l) = codes "limit " ++ limit_name l

-- what is said of something left out
abbrev pub left_answer : LeftOut → List ℕ
left_answer left_out = codes "left-out " ++ (member_text left_out.member ++ (codes " " ++ left_name left_out.kind))

-- what is said of a class that was read
abbrev pub class_answer : Class → Option LeftOut → List ℕ
class_answer class None = written_answer (class_written class)
class_answer class (Some left_out) = left_answer left_out

-- what is said of a fault
abbrev pub fault_answer : FormatFault → List ℕ
fault_answer f = codes "fault " ++ (decimal f.offset ++ (codes " " ++ format_name f.kind))

-- what is said of bytes
abbrev pub answer : Result Class FormatFault → List ℕ
answer (Ok class) = class_answer class class.left_out
answer (Err f) = fault_answer f
