-- What the definitions give for a few class files, which are computed (the project's own: definitions are tried on
-- files). The files are written in hexadecimal digits.
use Rattle.std.specs.Prelude.{pos, replicate, ◌≡◌, ℕ, ◌+◌, ◌-◌, ◌*◌, List, [], ◌∷◌, ◌++◌, length, map, take, drop}
use Rattle.std.specs.Prelude.{filter, codes, Option, Some, None, option_map, Result, Ok, Err, is_err, nat_le, false}
use Rattle.std.specs.Prelude.{if◌then◌else◌}
use Rattle.std.specs.Int.{w32, to_be_bytes}
use Rattle.std.specs.List.{range_with_len}
use Rattle.format_reading.specs.Fault.{fault}
use Rattle.format_reading.specs.declared.fault.FormatFault.{FormatFault}
use Rattle.format_reading.specs.declared.fault.FormatKind.{FormatKind}
use Rattle.format_reading.specs.declared.fault.FormatKind.TheVariants as bad
use Rattle.class_model.specs.declared.limit.WriteLimit.{WriteLimit}
use Rattle.class_model.specs.declared.limit.WriteLimit.TheVariants.{BranchTooFar, CodeTooLong}
use Rattle.class_model.specs.declared.class.Class.{Class}
use Rattle.class_model.specs.declared.class.Field.{Field}
use Rattle.class_model.specs.declared.class.Method.{Method}
use Rattle.class_model.specs.declared.class.Constant.TheVariants as constant
use Rattle.class_model.specs.declared.code.Code.{Code}
use Rattle.class_model.specs.declared.code.Ins.{Ins}
use Rattle.class_model.specs.declared.op.Op.{Op}
use Rattle.class_model.specs.declared.op.Op.TheVariants as op
use Rattle.class_model.specs.declared.op.Kind.TheVariants as kind
use Rattle.class_model.specs.declared.op.Cond.TheVariants as cond
use Rattle.class_model.specs.declared.frame.FrameAt.{FrameAt}
use Rattle.class_model.specs.declared.frame.VType.TheVariants as vtype
use Rattle.jv_base.specs.declared.types.FieldType.{FieldType}
use Rattle.jv_base.specs.declared.types.Base.TheVariants as base
use Rattle.class_model.specs.declared.class.LeftOut.{LeftOut}
use Rattle.class_model.specs.declared.class.LeftKind.{LeftKind}
use Rattle.class_model.specs.declared.class.LeftKind.TheVariants as left
use Rattle.class_model.specs.Flags.{flags_of}
use Rattle.class_model.specs.ClassFile.{File}
use Rattle.class_model.specs.InstructionStructure.{Plain, pad_length}
use Rattle.class_model.specs.Opcodes.{plain_op}
use Rattle.class_model.specs.WellFormed.{IsWellFormed}
use Rattle.class_model.specs.ReadingCode.{begun}
use Rattle.class_model.specs.ReadingClass.{class_read}
use Rattle.class_model.specs.CanonicalCode.{op_info}
use Rattle.class_model.specs.WriteLimits.{class_written, code_fits}

-- ---- hexadecimal digits

-- 0 to 9, A to F
abbrev pub digit : ℕ → ℕ
digit c = if nat_le c 57 then c - 48 else c - 55

-- the bytes of an even number of digits
abbrev pub hex : List ℕ → List ℕ
hex [] = []
hex (c ∷ []) = []
hex (c ∷ d ∷ cs) = (16 * digit c + digit d) ∷ hex cs

-- ---- an interface without members

-- interface A of the unnamed package, with flags 0600, super java/lang/Object and nothing else, in 53 bytes
abbrev pub bytes_of_a : List ℕ
bytes_of_a = hex (codes "CAFEBABE000000340005010001410700010100106A6176612F6C616E672F4F626A656374070003")
    ++ hex (codes "0600000200040000000000000000")

-- the interface A, abstract, without members, attributes or anything left out
abbrev pub class_a : Class
class_a = record {
  flags = flags_of 0x0600;
  name = codes "A";
  super_name = codes "java/lang/Object";
  interfaces = [];
  fields = [];
  methods = [];
  source = None;
  synthetic = false;
  deprecated = false;
  left_out = None;
}

-- the bytes spell the class
abbrev pub IsSpelled : Type 0
IsSpelled = File bytes_of_a class_a

-- the bytes are read as the class
abbrev pub IsRead : Type 0
IsRead = class_read bytes_of_a ≡ Ok class_a

-- the bytes are the canonical spelling of the class
abbrev pub IsWritten : Type 0
IsWritten = class_written class_a ≡ Ok bytes_of_a

-- what is read of a file that must be refused
abbrev pub refused : ℕ → FormatKind → Result Class FormatFault
refused offset kind = Err (fault offset kind)

-- each beginning of the bytes ends too soon, at its end
abbrev pub IsCutAnywhere : Type 0
IsCutAnywhere = map (λ n. class_read (take n bytes_of_a)) (range_with_len 0 53)
    ≡ map (λ n. refused n bad.Cut) (range_with_len 0 53)

-- one more byte follows the class file
abbrev pub IsTrailed : Type 0
IsTrailed = class_read (bytes_of_a ++ 0 ∷ []) ≡ refused 53 bad.Trailing

-- ---- changed bytes of that file

-- the first n bytes, others, and what stands behind as many
abbrev pub with_bytes : ℕ → List ℕ → List ℕ
with_bytes n others = take n bytes_of_a ++ (others ++ drop (n + length others) bytes_of_a)

-- the magic; minor_version and major_version; a tag; a byte 0 in a text; a Class entry that names a Class entry; a name
-- with a dot; an interface that isn't abstract; a this_class that names a text
abbrev pub HeadFaults : Type 0
HeadFaults =
    (class_read (with_bytes 0 (0xCB ∷ [])) ≡ refused 0 bad.BadMagic)
    × (class_read (with_bytes 5 (3 ∷ [])) ≡ refused 4 bad.BadVersion)
    × (class_read (with_bytes 7 (53 ∷ [])) ≡ refused 6 bad.BadVersion)
    × (class_read (with_bytes 10 (2 ∷ [])) ≡ refused 10 bad.BadTag)
    × (class_read (with_bytes 13 (0 ∷ [])) ≡ refused 13 bad.BadUtf8)
    × (class_read (with_bytes 16 (2 ∷ [])) ≡ refused 14 bad.BadIndex)
    × (class_read (with_bytes 13 (46 ∷ [])) ≡ refused 14 bad.BadName)
    × (class_read (with_bytes 39 (0x02 ∷ [])) ≡ refused 39 bad.BadFlags)
    × (class_read (with_bytes 42 (1 ∷ [])) ≡ refused 41 bad.BadIndex)

-- ---- a class with a method

-- class T up to its interfaces; its pool has 1 "T", 2 Class 1, 3 "java/lang/Object", 4 Class 3, 5 "f", 6 "(I)I", 7
-- "Code", 8 "StackMapTable", 9 a long, 11 "ConstantValue", 12 "J", 13 the int 7, 14 "LineNumberTable", 15 "<init>", 16
-- "()V"; fields_count is at 148
abbrev pub head_of_t : List ℕ
head_of_t =
    (hex (codes "CAFEBABE000000340011010001540700010100106A6176612F6C616E672F4F626A656374070003010001660100042849")
    ++ (hex (codes "2949010004436F646501000D537461636B4D61705461626C6505000000010000000201000D436F6E7374616E7456616C")
    ++ (hex (codes "75650100014A030000000701000F4C696E654E756D6265725461626C650100063C696E69743E01000328295600210002")
    ++ (hex (codes "00040000")))))

-- the class with fields and methods, each behind their count, and without attributes
abbrev pub with_members : List ℕ → List ℕ → List ℕ
with_members fields methods = head_of_t ++ (fields ++ (methods ++ hex (codes "0000")))

-- the class with the method public static int f(int) alone, which begins at 152 and whose attribute Code begins at 160,
-- with these contents; its instructions begin at 174
abbrev pub with_code : List ℕ → List ℕ
with_code contents = with_members (hex (codes "0000"))
    (hex (codes "000100090005000600010007") ++ (to_be_bytes w32 (length contents) ++ contents))

-- a code of length 0; a code that ends inside an instruction; jsr; wide before nop; ldc of a long; keys of lookupswitch
-- that do not ascend; a branch into an instruction; an empty range; a frame_type without a form; a frame inside an
-- instruction; a local too many; two locals gone of one; a frame that runs past its attribute; two StackMapTables; a
-- byte behind the contents of Code; Code without its attributes_count
abbrev pub CodeFaults : Type 0
CodeFaults =
    (class_read (with_code (hex (codes "000200010000000000000000"))) ≡ refused 170 bad.BadCode)
    × (class_read (with_code (hex (codes "00020001000000031A110000000000"))) ≡ refused 175 bad.BadCode)
    × (class_read (with_code (hex (codes "00020001000000041AA8000000000000"))) ≡ refused 175 bad.BadOpcode)
    × (class_read (with_code (hex (codes "0002000100000003C400AC00000000"))) ≡ refused 174 bad.BadOpcode)
    × (class_read (with_code (hex (codes "00020001000000031209AC00000000"))) ≡ refused 174 bad.BadOperand)
    × (class_read
    (with_code (hex (codes "000200010000001D1AAB00000000001B0000000200000005000000130000000500000013AC00000000")))
    ≡ refused 175 bad.BadOperand)
    × (class_read (with_code (hex (codes "00020001000000061A9900021AAC00000000"))) ≡ refused 175 bad.BadTarget)
    × (class_read (with_code (hex (codes "00020001000000041A0460AC000100010001000000000000")))
    ≡ refused 180 bad.BadHandler)
    × (class_read (with_code (hex (codes "00020001000000041A0460AC00000001000800000003000180")))
    ≡ refused 190 bad.BadFrame)
    × (class_read (with_code (hex (codes "00020001000000031004AC00000001000800000003000101")))
    ≡ refused 189 bad.BadFrame)
    × (class_read (with_code (hex (codes "00020001000000041A0460AC000000010008000000060001FC000101")))
    ≡ refused 190 bad.BadFrame)
    × (class_read (with_code (hex (codes "00020001000000041A0460AC000000010008000000050001F90001")))
    ≡ refused 190 bad.BadFrame)
    × (class_read (with_code (hex (codes "00020001000000041A0460AC000000010008000000050001FC0001")))
    ≡ refused 182 bad.BadAttribute)
    × (class_read (with_code (hex (codes "00020001000000041A0460AC0000000200080000000200000008000000020000")))
    ≡ refused 190 bad.Repeated)
    × (class_read (with_code (hex (codes "00020001000000041A0460AC0000000000"))) ≡ refused 160 bad.BadAttribute)
    × (class_read (with_code (hex (codes "00020001000000041A0460AC0000"))) ≡ refused 160 bad.BadAttribute)

-- what is left out first, of a class that is read
abbrev pub left_out_of : Result Class FormatFault → Option (Option LeftOut)
left_out_of (Ok class) = Some class.left_out
left_out_of (Err f) = None

-- something of this kind is left out in the first member
abbrev pub leaves_out : LeftKind → Option (Option LeftOut)
leaves_out kind = Some (Some (record { member = Some 0; kind = kind }))

-- fload_0, then bytes that are no code and handlers that are none; ldc of a class; a float on the stack
abbrev pub CodeLeftOut : Type 0
CodeLeftOut =
    (left_out_of (class_read (with_code (hex (codes "00020001000000041A22FFFF0001FFFFFFFFFFFFFFFF0000"))))
    ≡ leaves_out left.Opcode)
    × (left_out_of (class_read (with_code (hex (codes "00020001000000031202AC00000000")))) ≡ leaves_out left.Constant)
    × (left_out_of (class_read (with_code (hex (codes "00020001000000041A0460AC0000000100080000000400014102"))))
    ≡ leaves_out left.FloatType)

-- two methods of one name and descriptor; a method both public and private; a method without Code; a field descriptor
-- on a method; a name with an opening parenthesis; a name index that leads to a class; an int for a field of type long;
-- a static instance initialisation method; one that gives an int; an abstract method with a Code
abbrev pub MemberFaults : Type 0
MemberFaults =
    (class_read
    (with_members (hex (codes "0000"))
    ((hex (codes "0002000900050006000100070000001000020001000000041A0460AC0000000000090005000600010007000000100002")
    ++ (hex (codes "0001000000041A0460AC00000000"))))) ≡ refused 182 bad.Repeated)
    × (class_read
    (with_members (hex (codes "0000"))
    (hex (codes "0001000300050006000100070000001000020001000000041A0460AC00000000"))) ≡ refused 152 bad.BadFlags)
    × (class_read (with_members (hex (codes "0000")) (hex (codes "00010009000500060000")))
    ≡ refused 152 bad.BadAttribute)
    × (class_read
    (with_members (hex (codes "0000"))
    (hex (codes "000100090005000C000100070000001000020001000000041A0460AC00000000")))
    ≡ refused 156 bad.BadDescriptor)
    × (class_read
    (with_members (hex (codes "0000"))
    (hex (codes "0001000900060006000100070000001000020001000000041A0460AC00000000"))) ≡ refused 154 bad.BadName)
    × (class_read
    (with_members (hex (codes "0000"))
    (hex (codes "0001000900020006000100070000001000020001000000041A0460AC00000000"))) ≡ refused 154 bad.BadIndex)
    × (class_read (with_members (hex (codes "000100080005000C0001000B00000002000D")) (hex (codes "0000")))
    ≡ refused 164 bad.BadConstant)
    × (class_read
    (with_members (hex (codes "0000")) (hex (codes "00010009000F0010000100070000000D0002000100000001B100000000")))
    ≡ refused 156 bad.BadFlags)
    × (class_read
    (with_members (hex (codes "0000")) (hex (codes "00010001000F0006000100070000000E00020001000000021AAC00000000")))
    ≡ refused 156 bad.BadDescriptor)
    × (class_read
    (with_members (hex (codes "0000"))
    (hex (codes "0001040100050006000100070000001000020001000000041A0460AC00000000")))
    ≡ refused 160 bad.BadAttribute)

-- a long at the last index, whose value is not read; a reference to a field whose NameAndType, behind it, has a text
-- that is no descriptor; a reference to a field with the name of an instance initialisation method; a text that is
-- none, behind a class that names nothing: the bytes come first; an unpaired surrogate in the name of a class; a class
-- that names its own entry
abbrev pub PoolFaults : Type 0
PoolFaults =
    (class_read (hex (codes "CAFEBABE00000034000205")) ≡ refused 10 bad.BadTag)
    × (class_read (hex (codes "CAFEBABE00000034000709000300020C0005000607000401000141010001660100013F"))
    ≡ refused 10 bad.BadDescriptor)
    × (class_read (hex (codes "CAFEBABE00000034000709000300020C00050006070004010001410100063C696E69743E01000149"))
    ≡ refused 10 bad.BadName)
    × (class_read (hex (codes "CAFEBABE00000034000307000901000100")) ≡ refused 16 bad.BadUtf8)
    × (class_read (hex (codes "CAFEBABE000000340003070002010003EDA080")) ≡ refused 10 bad.BadName)
    × (class_read (hex (codes "CAFEBABE000000340002070001")) ≡ refused 10 bad.BadIndex)

-- what is left out of the class itself, or of a member without code: an annotation; a float that is not used; a native
-- method
abbrev pub ClassLeftOut : Type 0
ClassLeftOut =
    (left_out_of
    (class_read
    ((hex (codes "CAFEBABE000000340005010001410700010100106A6176612F6C616E672F4F626A656374070003260000020004000000")
    ++ (hex (codes "0000000000"))))) ≡ Some (Some (record { member = None; kind = left.Flag })))
    × (left_out_of
    (class_read
    ((hex (codes "CAFEBABE000000340006010001410700010100106A6176612F6C616E672F4F626A656374070003043F80000006000002")
    ++ (hex (codes "00040000000000000000"))))) ≡ Some (Some (record { member = None; kind = left.Constant })))
    × (left_out_of
    (class_read
    ((hex (codes "CAFEBABE000000340011010001540700010100106A6176612F6C616E672F4F626A656374070003010001660100042849")
    ++ (hex (codes "2949010004436F646501000D537461636B4D61705461626C6505000000010000000201000D436F6E7374616E7456616C")
    ++ (hex (codes "75650100014A030000000701000F4C696E654E756D6265725461626C650100063C696E69743E01000328295600210002")
    ++ (hex (codes "000400000000000101010005000600000000")))))))
    ≡ Some (Some (record { member = (Some 0); kind = left.Flag })))

-- ---- a class with a field and a method, whose code has a branch, a handler, lines and a frame

-- class T with static long f, whose constant is the long at index 9, and static int f(int), whose Code is 49 bytes long
abbrev pub bytes_of_t : List ℕ
bytes_of_t = with_members (hex (codes "000100080005000C0001000B000000020009"))
    (hex (codes "000100090005000600010007000000310002000100000008")
    ++ hex (codes "1A99000504AC03AC000100000001000600040002000E00000006000100000007000800000003000106"))

-- the type int, of the parameter and of what is returned
abbrev pub int_type : FieldType
int_type = record { dims = 0; base = base.Int }

-- an instruction on line 7
abbrev pub ins_at_7 : Op → Ins
ins_at_7 o = record { op = o; line = Some 7 }

-- the one frame, at the target of the branch, with the parameter as its only local
abbrev pub frame_of_t : FrameAt
frame_of_t = record { index = 4; frame = record { locals = vtype.Int ∷ []; stack = [] } }

-- iload_0, ifeq to the handler, iconst_1, ireturn, and there iconst_0, ireturn; the handler catches from the first
-- alone
abbrev pub code_of_t : Code
code_of_t = record {
  max_stack = 2;
  max_locals = 1;
  ins = ins_at_7 (op.Load kind.Int 0) ∷ ins_at_7 (op.IfZero cond.Eq 4) ∷ ins_at_7 (op.PushInt (pos 1)) ∷ ins_at_7
      (op.Return (Some kind.Int))
      ∷ ins_at_7 (op.PushInt (pos 0)) ∷ ins_at_7 (op.Return (Some kind.Int)) ∷ [];
  handlers = record { from = 0; to = 1; entry = 4; caught = Some (codes "java/lang/Object") } ∷ [];
  frames = frame_of_t ∷ [];
}

-- static long f, with the constant 2 to the 32nd and 2
abbrev pub field_of_t : Field
field_of_t = record {
  flags = flags_of 0x0008;
  name = codes "f";
  ty = record { dims = 0; base = base.Long };
  constant = Some (constant.Long (pos 4294967298));
  synthetic = false;
  deprecated = false;
}

-- public static int f(int), of the same name as the field but another descriptor
abbrev pub method_of_t : Method
method_of_t = record {
  flags = flags_of 0x0009;
  name = codes "f";
  ty = record { args = int_type ∷ []; ret = Some int_type };
  code = Some code_of_t;
  throws = [];
  synthetic = false;
  deprecated = false;
}

-- the class that the bytes spell, public, with nothing left out
abbrev pub class_t : Class
class_t = record {
  flags = flags_of 0x0021;
  name = codes "T";
  super_name = codes "java/lang/Object";
  interfaces = [];
  fields = field_of_t ∷ [];
  methods = method_of_t ∷ [];
  source = None;
  synthetic = false;
  deprecated = false;
  left_out = None;
}

-- the bytes spell the class
abbrev pub TIsSpelled : Type 0
TIsSpelled = File bytes_of_t class_t

-- nothing is left out of the class, and it meets the rules of the format (JVMS 4.1 to 4.9)
abbrev pub TIsWellFormed : Type 0
TIsWellFormed = IsWellFormed class_t

-- the bytes are read as the class
abbrev pub TIsRead : Type 0
TIsRead = class_read bytes_of_t ≡ Ok class_t

-- ---- limits

-- an instruction without a line
abbrev pub unlined : Op → Ins
unlined o = record { op = o; line = None }

-- a goto over a tableswitch of 8,187 cases, which ends at 32,764, and over what stands behind it; and then a return
abbrev pub code_over : List Op → Code
code_over behind = record {
  max_stack = 1;
  max_locals = 0;
  ins = map unlined (op.Goto (2 + length behind) ∷ op.TableSwitch (pos 0) 0 (replicate 8187 0) ∷
      (behind ++ op.Return None ∷ []));
  handlers = [];
  frames = [];
}

-- a tableswitch of 16,384 cases, and then a return
abbrev pub long_code : Code
long_code = record {
  max_stack = 1;
  max_locals = 0;
  ins = map unlined (op.TableSwitch (pos 0) 1 (replicate 16384 1) ∷ op.Return None ∷ []);
  handlers = [];
  frames = [];
}

-- a branch over 32,767 bytes is near enough, one over 32,768 is too far; a code of 65,553 bytes is too long
abbrev pub CodeLimits : Type 0
CodeLimits = (code_fits [] (Some (code_over (op.Nop ∷ op.Nop ∷ op.Nop ∷ []))) ≡ Ok tt)
    × (code_fits [] (Some (code_over (op.Nop ∷ op.Nop ∷ op.Nop ∷ op.Nop ∷ []))) ≡ Err (BranchTooFar 0 (pos 32768)))
    × (code_fits [] (Some long_code) ≡ Err (CodeTooLong 65553))

-- ---- canonical spellings

-- the canonical spelling of the class that the bytes are read as
abbrev pub respelled : Result Class FormatFault → Option (Result (List ℕ) WriteLimit)
respelled (Ok class) = Some (class_written class)
respelled (Err f) = None

-- class Main with public static int f(int), which adds 1, in 104 bytes
abbrev pub bytes_of_main : List ℕ
bytes_of_main =
    (hex (codes "CAFEBABE0000003400080100044D61696E0700010100106A6176612F6C616E672F4F626A656374070003010001660100")
    ++ (hex (codes "0428492949010004436F6465002100020004000000000001000900050006000100070000001000020001000000041A04")
    ++ (hex (codes "60AC000000000000"))))

-- the same with iload 0 and bipush 1, in longer forms
abbrev pub longer_main : List ℕ
longer_main =
    (hex (codes "CAFEBABE0000003400080100044D61696E0700010100106A6176612F6C616E672F4F626A656374070003010001660100")
    ++ (hex (codes "0428492949010004436F6465002100020004000000000001000900050006000100070000001200020001000000061500")
    ++ (hex (codes "100160AC000000000000"))))

-- both are respelled as the shorter one
abbrev pub MainIsCanonical : Type 0
MainIsCanonical = (respelled (class_read bytes_of_main) ≡ Some (Ok bytes_of_main))
    × (respelled (class_read longer_main) ≡ Some (Ok bytes_of_main))

-- class files as javac 8 writes them, and their canonical spellings: first an interface with a constant and a method
abbrev pub compiled_1 : List ℕ
compiled_1 =
    (hex (codes "CAFEBABE00000034001107000201000C7368617065732F53686170650700040100106A6176612F6C616E672F4F626A65")
    ++ (hex (codes "63740700060100146A6176612F6C616E672F436F6D70617261626C6501000553494445530100014901000D436F6E7374")
    ++ (hex (codes "616E7456616C75650300000004010004617265610100032829490100095369676E61747572650100384C6A6176612F6C")
    ++ (hex (codes "616E672F4F626A6563743B4C6A6176612F6C616E672F436F6D70617261626C653C4C7368617065732F53686170653B3E")
    ++ (hex (codes "3B01000A536F7572636546696C6501000B5368617065732E6A6176610600000100030001000500010019000700080001")
    ++ (hex (codes "000900000002000A00010401000B000C00000002000D00000002000E000F000000020010")))))))

-- the first respelled: constants in the order of their first use, and no attribute Signature
abbrev pub canonical_1 : List ℕ
canonical_1 =
    (hex (codes "CAFEBABE00000034000F01000C7368617065732F53686170650700010100106A6176612F6C616E672F4F626A65637407")
    ++ (hex (codes "00030100146A6176612F6C616E672F436F6D70617261626C6507000501000553494445530100014901000D436F6E7374")
    ++ (hex (codes "616E7456616C756503000000040100046172656101000328294901000A536F7572636546696C6501000B536861706573")
    ++ (hex (codes "2E6A6176610600000200040001000600010019000700080001000900000002000A00010401000B000C00000001000D00")
    ++ (hex (codes "000002000E"))))))

-- a class with long constants, branches, frames and lines
abbrev pub compiled_2 : List ℕ
compiled_2 =
    (hex (codes "CAFEBABE0000003400240A000200030700040C000500060100106A6176612F6C616E672F4F626A6563740100063C696E")
    ++ (hex (codes "69743E01000328295605000000000000000409000A000B07000C0C000D000E0100106A6176612F6C616E672F53797374")
    ++ (hex (codes "656D0100036F75740100154C6A6176612F696F2F5072696E7453747265616D3B0500000000000000030A001200130700")
    ++ (hex (codes "140C00150016010005466C6F77340100016601000528494A29490A0018001907001A0C001B001C0100136A6176612F69")
    ++ (hex (codes "6F2F5072696E7453747265616D0100077072696E746C6E01000428492956010004436F646501000F4C696E654E756D62")
    ++ (hex (codes "65725461626C6501000D537461636B4D61705461626C650100046D61696E010016285B4C6A6176612F6C616E672F5374")
    ++ (hex (codes "72696E673B295601000A536F7572636546696C6501000A466C6F77342E6A617661002100120002000000000003000100")
    ++ (hex (codes "0500060001001D0000001D00010001000000052AB70001B100000001001E000000060001000000010008001500160001")
    ++ (hex (codes "001D0000005C0004000400000034073E1A9E002C1A047E9A000A1D1A603EA700091D1A0768823E8400FF1F1A85949C00")
    ++ (hex (codes "06A7FFDF1F1400076540A7FFD61D1F8860AC00000002001E00000006000100000001001F0000000A0005FC0002011005")
    ++ (hex (codes "0C080009002000210001001D00000047000600020000002010FD3C1B1009A20019B200091B1B8514000F69B80011B600")
    ++ (hex (codes "17840101A7FFE7B100000002001E00000006000100000001001F000000090002FC000301FA001B000100220000000200")
    ++ (hex (codes "23"))))))))))))))

-- the second respelled: the same code, with the constants in the order of their first use
abbrev pub canonical_2 : List ℕ
canonical_2 =
    (hex (codes "CAFEBABE000000340024010005466C6F77340700010100106A6176612F6C616E672F4F626A6563740700030100063C69")
    ++ (hex (codes "6E69743E010003282956010004436F64650C000500060A0004000801000F4C696E654E756D6265725461626C65010001")
    ++ (hex (codes "6601000528494A294905000000000000000401000D537461636B4D61705461626C650100046D61696E010016285B4C6A")
    ++ (hex (codes "6176612F6C616E672F537472696E673B29560100106A6176612F6C616E672F53797374656D0700120100036F75740100")
    ++ (hex (codes "154C6A6176612F696F2F5072696E7453747265616D3B0C0014001509001300160500000000000000030C000B000C0A00")
    ++ (hex (codes "02001A0100136A6176612F696F2F5072696E7453747265616D07001C0100077072696E746C6E010004284929560C001E")
    ++ (hex (codes "001F0A001D002001000A536F7572636546696C6501000A466C6F77342E6A617661002100020004000000000003000100")
    ++ (hex (codes "050006000100070000001D00010001000000052AB70009B100000001000A000000060001000000010008000B000C0001")
    ++ (hex (codes "00070000005C0004000400000034073E1A9E002C1A047E9A000A1D1A603EA700091D1A0768823E8400FF1F1A85949C00")
    ++ (hex (codes "06A7FFDF1F14000D6540A7FFD61D1F8860AC00000002000A00000006000100000001000F0000000A0005FC0002011005")
    ++ (hex (codes "0C080009001000110001000700000047000600020000002010FD3C1B1009A20019B200171B1B8514001869B8001BB600")
    ++ (hex (codes "21840101A7FFE7B100000002000A00000006000100000001000F000000090002FC000301FA001B000100220000000200")
    ++ (hex (codes "23"))))))))))))))

-- each is respelled as its canonical spelling
abbrev pub CompiledAreRespelled : Type 0
CompiledAreRespelled = (respelled (class_read compiled_1) ≡ Some (Ok canonical_1))
    × (respelled (class_read compiled_2) ≡ Some (Ok canonical_2))

-- ---- opcodes

-- the opcodes that begin no instruction: jsr, ret, jsr_w, and those from CA on
abbrev pub UnknownOpcodes : Type 0
UnknownOpcodes = filter (λ opcode. is_err (begun [] 0 opcode)) (range_with_len 0 256)
    ≡ 0xA8 ∷ 0xA9 ∷ 0xC9 ∷ range_with_len 0xCA 54

-- the canonical spelling of an instruction without operands is the opcode that stands for it
abbrev pub PlainIsCanonical : Type 0
PlainIsCanonical = map (λ opcode. option_map (op_info [] (λ to. 0) 0) (plain_op opcode)) (range_with_len 0 256)
    ≡ map (λ opcode. option_map (λ o. Plain opcode) (plain_op opcode)) (range_with_len 0 256)

-- a switch at 0, 1, 2, 3 and 4
abbrev pub Padding : Type 0
Padding = map pad_length (range_with_len 0 5) ≡ 3 ∷ 2 ∷ 1 ∷ 0 ∷ 3 ∷ []
