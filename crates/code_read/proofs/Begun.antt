-- What an opcode begins, where tests came out.
use Rattle.std.proofs.Common.{◌≡◌, ℕ, ◌≤◌, Bool, true, false, cond, eqb, ◌||◌, List, Ok, refl, arith}
use Rattle.std.proofs.lemmas.Bool.Decides.{nat_tests}
use Rattle.std.specs.Prelude.{is_some}
use Rattle.class_model.specs.declared.pool.Entry.{Entry}
use Rattle.class_model.specs.Opcodes.{plain_op, local_op, branch_op, is_left_out_local}
use Rattle.class_model.specs.InstructionStructure.{Local, WideLocal, Branch}
use Rattle.class_model.specs.ReadingCode.{one_byte, two_bytes, ldc_wide, widened, begun, is_member_opcode}
use Rattle.class_model.specs.ReadingCode.{is_class_opcode}
use Rattle.code_read.specs.bodies.Meaning.{begun_by_table}
use Rattle.class_model.proofs.BackInfos.{if_yes}

if_no : {A : Type 0} (b : Bool) (x y z : A) → b ≡ false → y ≡ z → cond b x y ≡ z
if_no true x y z h e = absurd cc
if_no false x y z h e = e

if_same : {A : Type 0} (b : Bool) (x y z : A) → y ≡ z → cond b x y ≡ cond b x z
if_same true x y z e = refl
if_same false x y z e = e

neither : (a b : Bool) → a ≡ false → b ≡ false → (a || b) ≡ false
neither true b h k = absurd cc
neither false b h k = k

either : {A : Type 0} (a b : Bool) (x y : A) → a ≡ false → cond (a || b) x y ≡ cond b x y
either true b x y h = absurd cc
either false b x y h = refl

pub widened_local : (opcode : ℕ) → eqb opcode 0x84 ≡ false → is_left_out_local opcode ≡ false
    → is_some (local_op opcode) ≡ true → widened opcode ≡ Ok (two_bytes (λ index. WideLocal opcode index))
widened_local opcode h k l = if_no (eqb opcode 0x84) _ _ _ h
    (if_no (is_left_out_local opcode) _ _ _ k (if_yes (is_some (local_op opcode)) _ _ l))

pub table_local : (pool : List Entry) (opcode : ℕ) → is_some (local_op opcode) ≡ true
    → begun_by_table pool opcode ≡ Ok (one_byte (λ index. Local opcode index))
table_local pool opcode h = if_yes (is_some (local_op opcode)) _ _ h

pub table_branch : (pool : List Entry) (opcode : ℕ) → is_some (local_op opcode) ≡ false
    → is_some (branch_op opcode) ≡ true → begun_by_table pool opcode ≡ Ok (two_bytes (λ offset. Branch opcode offset))
table_branch pool opcode h k = if_no (is_some (local_op opcode)) _ _ _ h (if_yes (is_some (branch_op opcode)) _ _ k)

-- an opcode that is none of those with an operand of their own
pub record IsOther (opcode : ℕ) : Type 0 where
  pub plain : is_some (plain_op opcode) ≡ false
  pub bipush : eqb opcode 0x10 ≡ false
  pub sipush : eqb opcode 0x11 ≡ false
  pub ldc : eqb opcode 0x12 ≡ false
  pub ldc_w : eqb opcode 0x13 ≡ false
  pub ldc2_w : eqb opcode 0x14 ≡ false
  pub iinc : eqb opcode 0x84 ≡ false
  pub wide : eqb opcode 0xC4 ≡ false
  pub goto_w : eqb opcode 0xC8 ≡ false
  pub tableswitch : eqb opcode 0xAA ≡ false
  pub lookupswitch : eqb opcode 0xAB ≡ false
  pub invokeinterface : eqb opcode 0xB9 ≡ false
  pub newarray : eqb opcode 0xBC ≡ false
  pub multianewarray : eqb opcode 0xC5 ≡ false
  pub invokedynamic : eqb opcode 0xBA ≡ false

pub begun_other : (pool : List Entry) (at opcode : ℕ) → IsOther opcode
    → begun pool at opcode ≡ begun_by_table pool opcode
begun_other pool at opcode o =
    if_no (is_some (plain_op opcode)) _ _ _ o.plain
    (if_no (eqb opcode 0x10) _ _ _ o.bipush
    (if_no (eqb opcode 0x11) _ _ _ o.sipush (if_no (eqb opcode 0x12) _ _ _ o.ldc
    (if_no (eqb opcode 0x13 || eqb opcode 0x14) _ _ _ (neither _ _ o.ldc_w o.ldc2_w)
    (if_same (is_some (local_op opcode)) _ _ _
    (if_no (eqb opcode 0x84) _ _ _ o.iinc
    (if_no (eqb opcode 0xC4) _ _ _ o.wide (if_same (is_some (branch_op opcode)) _ _ _
    (if_no (eqb opcode 0xC8) _ _ _ o.goto_w
    (if_no (eqb opcode 0xAA) _ _ _ o.tableswitch (if_no (eqb opcode 0xAB) _ _ _ o.lookupswitch
    (if_same (is_member_opcode opcode) _ _ _
    (if_no (eqb opcode 0xB9) _ _ _ o.invokeinterface (if_same (is_class_opcode opcode) _ _ _
    (if_no (eqb opcode 0xBC) _ _ _ o.newarray
    (if_no (eqb opcode 0xC5) _ _ _ o.multianewarray (either (eqb opcode 0xBA) _ _ _ o.invokedynamic)))))))))))))))))

-- ldc_w and ldc2_w
pub begun_load : (pool : List Entry) (at opcode : ℕ) → is_some (plain_op opcode) ≡ false → eqb opcode 0x10 ≡ false
    → eqb opcode 0x11 ≡ false → eqb opcode 0x12 ≡ false → (eqb opcode 0x13 || eqb opcode 0x14) ≡ true
    → begun pool at opcode ≡ Ok (ldc_wide pool opcode)
begun_load pool at opcode plain bipush sipush ldc is =
    if_no (is_some (plain_op opcode)) _ _ _ plain
    (if_no (eqb opcode 0x10) _ _ _ bipush
    (if_no (eqb opcode 0x11) _ _ _ sipush
    (if_no (eqb opcode 0x12) _ _ _ ldc (if_yes (eqb opcode 0x13 || eqb opcode 0x14) _ _ is))))

pub is_19_or_20 : (n : ℕ) → 19 ≤ n → n ≤ 20 → (eqb n 19 || eqb n 20) ≡ true
is_19_or_20 n low high = grind (arith, nat_tests)
