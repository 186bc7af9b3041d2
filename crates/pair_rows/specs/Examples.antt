-- Small pairs of programs: classes, mappings, rules and witnesses (the project's own: definitions are tried on pairs).
use Rattle.std.specs.Prelude.{ℕ, pos, true, false, List, [], ◌∷◌, ◌++◌, Some, None, codes}
use Rattle.jv_base.specs.declared.types.Base.TheVariants as base
use Rattle.jv_base.specs.declared.types.FieldType.{FieldType}
use Rattle.tree_io.specs.declared.file_at.FileAt.{FileAt}
use Rattle.class_model.specs.Flags.{flags_of}
use Rattle.class_model.specs.declared.class.Class.{Class}
use Rattle.class_model.specs.declared.class.Method.{Method}
use Rattle.class_model.specs.declared.op.Kind.TheVariants as kind
use Rattle.class_model.specs.declared.op.Op.{Op}
use Rattle.class_model.specs.declared.op.Op.TheVariants as op
use Rattle.class_model.specs.rows.Rows.{hex}
use Rattle.class_pool.specs.rows.LinkRows.{object, plain_class}
use Rattle.link_check.specs.rows.ProfileRows.{code_of, made_method, of_class, system_out}
use Rattle.code_edit.specs.declared.act.Act.TheVariants as act
use Rattle.code_edit.specs.declared.act.Pass.{Pass}
use Rattle.code_edit.specs.declared.act.Pass.TheVariants as passes
use Rattle.code_edit.specs.declared.act.PassEdits.{PassEdits}
use Rattle.keep_rules.specs.declared.rules.Keep.{Keep}
use Rattle.keep_rules.specs.declared.rules.KeepKind.TheVariants as keep
use Rattle.keep_rules.specs.declared.rules.Rules.{Rules}
use Rattle.mapping_file.specs.declared.mapping.MapClass.{MapClass}
use Rattle.mapping_file.specs.declared.mapping.MapMethod.{MapMethod}
use Rattle.mapping_file.specs.declared.mapping.Mapping.{Mapping}
use Rattle.witness_file.specs.declared.witness.Witness.{Witness}

-- ---- what classes are made of

-- the type int
abbrev pub int : FieldType
int = record { dims = 0; base = base.Int }

-- public static int name() with these instructions
abbrev pub int_method : List ℕ → List Op → Method
int_method name ops = made_method 0x0009 name [] (Some int) [] (Some (code_of ops [] []))

-- one that returns a number
abbrev pub returning : List ℕ → ℕ → Method
returning name n = int_method name (op.PushInt (pos n) ∷ op.Return (Some kind.Int) ∷ [])

-- public static void name() that prints what another such method gives, in a line
abbrev pub printing : List ℕ → List ℕ → List ℕ → Method
printing name class called = made_method 0x0009 name [] None [] (Some (code_of
    (op.GetStatic system_out ∷ op.InvokeStatic (of_class class called (codes "()I"))
    ∷ op.InvokeVirtual (of_class (codes "java/io/PrintStream") (codes "println") (codes "(I)V")) ∷ op.Return None ∷ [])
    [] []))

-- a public class below Object with these methods
abbrev pub class : List ℕ → List Method → Class
class name methods = plain_class 0x0021 name object [] [] methods

-- ---- the input, and what it becomes

-- p.A { void f() { System.out.println(p.B.g()); } } and p.B { int g() { return 7; } int h() { return 8; } }
abbrev pub old_a : Class
old_a = class (codes "p/A") (printing (codes "f") (codes "p/B") (codes "g") ∷ [])

abbrev pub old_b : Class
old_b = class (codes "p/B") (returning (codes "g") 7 ∷ returning (codes "h") 8 ∷ [])

abbrev pub input : List Class
input = old_a ∷ old_b ∷ []

-- p.A, whose f calls the method a of another class
abbrev pub new_a : List ℕ → Class
new_a other = class (codes "p/A") (printing (codes "f") other (codes "a") ∷ [])

-- p.a { int a() { return 7; } }
abbrev pub new_b : Class
new_b = class (codes "p/a") (returning (codes "a") 7 ∷ [])

-- p.B with g has new names, and h is gone
abbrev pub output : List Class
output = new_a (codes "p/a") ∷ new_b ∷ []

-- ---- the rules: -keep class p.A { void f(); }

-- the option
abbrev pub keep_f : Keep
keep_f = record {
  kind = keep.Keep;
  descriptor_classes = false;
  allow_shrinking = false;
  allow_obfuscation = false;
  spec = record {
    flags = [];
    kind = codes "class";
    names = record { negated = false; pattern = codes "p.A" } ∷ [];
    above = None;
    members = record { flags = []; ty = Some (codes "void"); name = codes "f"; args = Some [] } ∷ [];
  };
}

-- the rules, which shrink and obfuscate
abbrev pub rules : Rules
rules = record {
  in_dir = codes "in";
  out_dir = codes "out";
  mapping = codes "map";
  seeds = None;
  usage = None;
  apply = None;
  shrink = true;
  optimise = false;
  obfuscate = true;
  attrs = [];
  source_name = None;
  keeps = keep_f ∷ [];
}

-- ---- mappings and witnesses

-- the line of a method int old()
abbrev pub method_line : List ℕ → List ℕ → MapMethod
method_line old new = record { lines = None; ty = record { args = []; ret = Some int }; old = old; new = new }

-- that of f, with its new name
abbrev pub line_of_f : List ℕ → MapMethod
line_of_f new = record { lines = None; ty = record { args = []; ret = None }; old = codes "f"; new = new }

-- the line of a class, with those of its methods
abbrev pub class_line : List ℕ → List ℕ → List MapMethod → MapClass
class_line old new methods = record { old = old; new = new; fields = []; methods = methods }

-- the line of p.A, of which f has this name
abbrev pub line_of_a : MapClass
line_of_a = class_line (codes "p/A") (codes "p/A") (line_of_f (codes "f") ∷ [])

-- the line of p.B, of which g has a new name
abbrev pub line_of_b : MapClass
line_of_b = class_line (codes "p/B") (codes "p/a") (method_line (codes "g") (codes "a") ∷ [])

-- a mapping of two classes
abbrev pub lines : MapClass → MapClass → Mapping
lines one other = record { classes = one ∷ other ∷ [] }

-- the mapping of the output
abbrev pub mapping : Mapping
mapping = lines line_of_a line_of_b

-- no method was edited
abbrev pub unedited : Witness
unedited = record { methods = [] }

-- ---- mappings that break a clause by the same output

-- MapShape: p.B has no method k
abbrev pub stray_line : Mapping
stray_line = lines line_of_a (class_line (codes "p/B") (codes "p/a") (method_line (codes "k") (codes "a") ∷ []))

-- FixedName: f, which is kept, has another name
abbrev pub kept_renamed : Mapping
kept_renamed = lines (class_line (codes "p/A") (codes "p/A") (line_of_f (codes "b") ∷ [])) line_of_b

-- SeedLost: f, which is kept, has no line
abbrev pub seed_lost : Mapping
seed_lost = lines (class_line (codes "p/A") (codes "p/A") []) line_of_b

-- NotClosed: g, which f calls, has no line
abbrev pub needed_lost : Mapping
needed_lost = lines line_of_a (class_line (codes "p/B") (codes "p/a") [])

-- a witness that tells of g alone
abbrev pub of_g : List PassEdits → Witness
of_g steps = record {
  methods = record {
    class = codes "p/B";
    name = codes "g";
    ty = codes "()I";
    edits = record { steps = steps };
  } ∷ [];
}

-- WitnessStray: g has an entry without steps
abbrev pub edited : Witness
edited = of_g []

-- a step without an act
abbrev pub no_act : Pass → PassEdits
no_act pass = record { pass = pass; acts = [] }

-- EditIllegal: the first step drops the first instruction of g, where control begins
abbrev pub dropped : Witness
dropped = of_g (record { pass = passes.Reach; acts = act.Drop 0 0 ∷ [] } ∷ no_act passes.Const ∷ no_act passes.Reach
    ∷ no_act passes.Slots ∷ no_act passes.Jumps ∷ no_act passes.Reach ∷ [])

-- ---- outputs that break a clause

-- Package: p.B becomes q.a
abbrev pub moved : Mapping
moved = lines line_of_a (class_line (codes "p/B") (codes "q/a") (method_line (codes "g") (codes "a") ∷ []))

abbrev pub b_moved : Class
b_moved = class (codes "q/a") (returning (codes "a") 7 ∷ [])

abbrev pub output_moved : List Class
output_moved = new_a (codes "q/a") ∷ b_moved ∷ []

-- MemberDiffers: a isn't public
abbrev pub b_hidden : Class
b_hidden = class (codes "p/a") (record (returning (codes "a") 7) { flags = flags_of 0x0008 } ∷ [])

abbrev pub output_hidden : List Class
output_hidden = new_a (codes "p/a") ∷ b_hidden ∷ []

-- CodeDiffers: a has an instruction more
abbrev pub b_longer : Class
b_longer = class (codes "p/a")
    (int_method (codes "a") (op.Nop ∷ op.PushInt (pos 7) ∷ op.Return (Some kind.Int) ∷ []) ∷ [])

abbrev pub output_longer : List Class
output_longer = new_a (codes "p/a") ∷ b_longer ∷ []

-- OutputProfile: p.A is below p.B, which isn't there
abbrev pub orphan : Class
orphan = plain_class 0x0021 (codes "p/A") (codes "p/B") [] [] []

-- ---- a class whose code has a line

-- LineRange: rules that keep each name and each attribute
abbrev pub plain_rules : Rules
plain_rules = record rules { obfuscate = false }

-- p.A { void f() { } }, whose instruction has line 3
abbrev pub lined : Class
lined = class (codes "p/A") (made_method 0x0009 (codes "f") [] None [] (Some (record {
  max_stack = 0;
  max_locals = 0;
  ins = record { op = op.Return None; line = Some 3 } ∷ [];
  handlers = [];
  frames = [];
})) ∷ [])

-- f has lines 1 and 2
abbrev pub other_lines : Mapping
other_lines = record {
  classes = class_line (codes "p/A") (codes "p/A")
      (record (line_of_f (codes "f")) { lines = Some (record { first = 1; last = 2 }) } ∷ []) ∷ [];
}

-- ---- files, in hexadecimal digits

-- a file with its path
abbrev pub file : List ℕ → List ℕ → FileAt
file path bytes = record { path = path; bytes = bytes }

-- those of the input
abbrev pub file_of_old_a : FileAt
file_of_old_a = file (codes "p/A.class")
    (hex (codes "CAFEBABE00000034001A010003702F410700010100106A6176612F6C616E672F4F626A65637407000301000166010003")
    ++ (hex (codes "282956010004436F64650100106A6176612F6C616E672F53797374656D0700080100036F75740100154C6A6176612F69")
    ++ (hex (codes "6F2F5072696E7453747265616D3B0C000A000B090009000C010003702F4207000E010001670100032829490C00100011")
    ++ (hex (codes "0A000F00120100136A6176612F696F2F5072696E7453747265616D0700140100077072696E746C6E010004284929560C")
    ++ (hex (codes "001600170A001500180021000200040000000000010009000500060001000700000016000200020000000AB2000DB800")
    ++ (hex (codes "13B60019B1000000000000")))))))

abbrev pub file_of_old_b : FileAt
file_of_old_b = file (codes "p/B.class")
    (hex (codes "CAFEBABE000000340009010003702F420700010100106A6176612F6C616E672F4F626A65637407000301000167010003")
    ++ (hex (codes "282949010004436F646501000168002100020004000000000002000900050006000100070000000F0002000200000003")
    ++ (hex (codes "1007AC00000000000900080006000100070000000F00020002000000031008AC000000000000"))))

abbrev pub input_files : List FileAt
input_files = file_of_old_a ∷ file_of_old_b ∷ []

-- that of p.A
abbrev pub file_of_a : FileAt
file_of_a = file (codes "p/A.class")
    (hex (codes "CAFEBABE00000034001A010003702F410700010100106A6176612F6C616E672F4F626A65637407000301000166010003")
    ++ (hex (codes "282956010004436F64650100106A6176612F6C616E672F53797374656D0700080100036F75740100154C6A6176612F69")
    ++ (hex (codes "6F2F5072696E7453747265616D3B0C000A000B090009000C010003702F6107000E010001610100032829490C00100011")
    ++ (hex (codes "0A000F00120100136A6176612F696F2F5072696E7453747265616D0700140100077072696E746C6E010004284929560C")
    ++ (hex (codes "001600170A001500180021000200040000000000010009000500060001000700000016000200020000000AB2000DB800")
    ++ (hex (codes "13B60019B1000000000000")))))))

-- that of p.A with q.a
abbrev pub file_of_a_moved : FileAt
file_of_a_moved = file (codes "p/A.class")
    (hex (codes "CAFEBABE00000034001A010003702F410700010100106A6176612F6C616E672F4F626A65637407000301000166010003")
    ++ (hex (codes "282956010004436F64650100106A6176612F6C616E672F53797374656D0700080100036F75740100154C6A6176612F69")
    ++ (hex (codes "6F2F5072696E7453747265616D3B0C000A000B090009000C010003712F6107000E010001610100032829490C00100011")
    ++ (hex (codes "0A000F00120100136A6176612F696F2F5072696E7453747265616D0700140100077072696E746C6E010004284929560C")
    ++ (hex (codes "001600170A001500180021000200040000000000010009000500060001000700000016000200020000000AB2000DB800")
    ++ (hex (codes "13B60019B1000000000000")))))))

-- that of p.a
abbrev pub file_of_b : FileAt
file_of_b = file (codes "p/a.class")
    (hex (codes "CAFEBABE000000340008010003702F610700010100106A6176612F6C616E672F4F626A65637407000301000161010003")
    ++ (hex (codes "282949010004436F6465002100020004000000000001000900050006000100070000000F00020002000000031007AC00")
    ++ (hex (codes "0000000000"))))

-- that of q.a
abbrev pub file_of_b_moved : FileAt
file_of_b_moved = file (codes "q/a.class")
    (hex (codes "CAFEBABE000000340008010003712F610700010100106A6176612F6C616E672F4F626A65637407000301000161010003")
    ++ (hex (codes "282949010004436F6465002100020004000000000001000900050006000100070000000F00020002000000031007AC00")
    ++ (hex (codes "0000000000"))))

-- that of p.a with a method that isn't public
abbrev pub file_of_b_hidden : FileAt
file_of_b_hidden = file (codes "p/a.class")
    (hex (codes "CAFEBABE000000340008010003702F610700010100106A6176612F6C616E672F4F626A65637407000301000161010003")
    ++ (hex (codes "282949010004436F6465002100020004000000000001000800050006000100070000000F00020002000000031007AC00")
    ++ (hex (codes "0000000000"))))

-- that of p.a with an instruction more
abbrev pub file_of_b_longer : FileAt
file_of_b_longer = file (codes "p/a.class")
    (hex (codes "CAFEBABE000000340008010003702F610700010100106A6176612F6C616E672F4F626A65637407000301000161010003")
    ++ (hex (codes "282949010004436F646500210002000400000000000100090005000600010007000000100002000200000004001007AC")
    ++ (hex (codes "000000000000"))))

-- that of p.A below p.B
abbrev pub file_of_orphan : FileAt
file_of_orphan = file (codes "p/A.class")
    (hex (codes "CAFEBABE000000340005010003702F41070001010003702F420700030021000200040000000000000000"))

-- that of the class whose code has a line
abbrev pub file_of_lined : FileAt
file_of_lined = file (codes "p/A.class")
    (hex (codes "CAFEBABE000000340009010003702F410700010100106A6176612F6C616E672F4F626A65637407000301000166010003")
    ++ (hex (codes "282956010004436F646501000F4C696E654E756D6265725461626C650021000200040000000000010009000500060001")
    ++ (hex (codes "0007000000190000000000000001B1000000010008000000060001000000030000"))))

-- OutputFormat: one of two bytes
abbrev pub cut_file : FileAt
cut_file = file (codes "p/A.class") (hex (codes "CAFE"))

-- those of the output
abbrev pub files : List FileAt
files = file_of_a ∷ file_of_b ∷ []
