-- What an opcode leads to, by one form for each kind of operands (JVMS 6.5).
use Rattle.std.proofs.Common.{◌≡◌, ℕ, zero, suc, ◌<◌, Bool, true, false, cond, eqb, ◌||◌, ◌&&◌, List, Result, Ok, Err}
use Rattle.std.proofs.Common.{refl, ap, ◌∙◌, arith}
use Rattle.std.proofs.lemmas.Bool.{eqb-true, eqb-false, and_parts}
use Rattle.std.specs.Prelude.{is_some}
use Rattle.format_reading.specs.Reader.{FormatReader, u1, lead, item, give}
use Rattle.format_reading.specs.declared.fault.FormatKind.{FormatKind}
use Rattle.format_reading.specs.declared.fault.FormatKind.TheVariants as bad
use Rattle.class_model.specs.declared.pool.Entry.{Entry}
use Rattle.class_model.specs.Opcodes.{plain_op, local_op, branch_op, is_left_out_local, is_left_out_opcode}
use Rattle.class_model.specs.InstructionStructure.{Plain, Bipush, Sipush, Local, WideLocal, Branch}
use Rattle.class_model.specs.ReadingCode.{Read, left_out, whole, ldc, ldc_wide, one_byte, two_bytes, iinc, wide_iinc}
use Rattle.class_model.specs.ReadingCode.{widened, goto_wide, table_switch, lookup_switch, member, class_operand}
use Rattle.class_model.specs.ReadingCode.{invoke_interface, array_type_read, multi_new_array, is_member_opcode}
use Rattle.class_model.specs.ReadingCode.{is_class_opcode, begun}

-- ---- a chain of tests

-- what a test chooses, seen through a function
through : {A B : Type 0} (f : A → B) (b : Bool) (x y : A) (r : B) → r ≡ f y → cond b (f x) r ≡ f (cond b x y)
through f true x y r h = refl
through f false x y r h = h

-- what holds of either choice holds of what a test chooses
either_holds : {A : Type 0} (g : A → Bool) (b : Bool) (x y : A) → (b ≡ true → g x ≡ true) → g y ≡ true
    → g (cond b x y) ≡ true
either_holds g true x y h k = h refl
either_holds g false x y h k = k

-- ---- a test of each number below a limit

unfoldable pub all_below : ℕ → (ℕ → Bool) → Bool
all_below zero test = true
all_below (suc n) test = test n && all_below n test

at_or_below : (n : ℕ) (test : ℕ → Bool) (c : ℕ) (b : Bool) → eqb c n ≡ b → c < suc n → test n ≡ true
    → (c < n → test c ≡ true) → test c ≡ true
at_or_below n test c true is lt here below = ap test (eqb-true c n is) ∙ here
at_or_below n test c false is lt here below = below (let d : c ≡ n → ⊥ = eqb-false c n is in grind arith)

-- each of them passes
pub below_at : (n : ℕ) (test : ℕ → Bool) (c : ℕ) → c < n → all_below n test ≡ true → test c ≡ true
unfolding all_below
below_at zero test c lt h = absurd (omega (arith, lt))
below_at (suc n) test c lt h =
    let both = and_parts (test n) (all_below n test) h in
    at_or_below n test c (eqb c n) refl lt both.0 (λ less. below_at n test c less both.1)

-- a test that follows from another
pub implied : (a b : Bool) → cond a b true ≡ true → a ≡ true → b ≡ true
implied true b h k = h
implied false b h k = absurd cc

-- ---- the forms

-- what follows an opcode
pub data Form : Type 0 where
  Alone : Form
  OfByte : Form
  OfShort : Form
  OfLoad : Form
  OfWideLoad : Form
  OfLocal : Form
  OfIinc : Form
  OfWide : Form
  OfBranch : Form
  OfWideGoto : Form
  OfTable : Form
  OfLookup : Form
  OfMember : Form
  OfInterface : Form
  OfClass : Form
  OfArray : Form
  OfArrays : Form
  OfNone : Form
  NoForm : Form

-- the form of an opcode
unfoldable pub form_of : ℕ → Form
form_of c =
    cond (is_some (plain_op c)) Alone (cond (eqb c 0x10) OfByte (cond (eqb c 0x11) OfShort (cond (eqb c 0x12) OfLoad
    (cond (eqb c 0x13 || eqb c 0x14) OfWideLoad (cond (is_some (local_op c)) OfLocal (cond (eqb c 0x84) OfIinc
    (cond (eqb c 0xC4) OfWide (cond (is_some (branch_op c)) OfBranch (cond (eqb c 0xC8) OfWideGoto
    (cond (eqb c 0xAA) OfTable (cond (eqb c 0xAB) OfLookup (cond (is_member_opcode c) OfMember
    (cond (eqb c 0xB9) OfInterface (cond (is_class_opcode c) OfClass (cond (eqb c 0xBC) OfArray
    (cond (eqb c 0xC5) OfArrays (cond (eqb c 0xBA || is_left_out_opcode c) OfNone NoForm)))))))))))))))))

-- what an opcode of a form begins
unfoldable pub begun_by : List Entry → ℕ → ℕ → Form → Result (FormatReader Read) FormatKind
begun_by pool at c Alone = Ok (whole (Plain c))
begun_by pool at c OfByte = Ok (one_byte (λ byte. Bipush byte))
begun_by pool at c OfShort = Ok (two_bytes (λ short. Sipush short))
begun_by pool at c OfLoad = Ok (ldc pool)
begun_by pool at c OfWideLoad = Ok (ldc_wide pool c)
begun_by pool at c OfLocal = Ok (one_byte (λ index. Local c index))
begun_by pool at c OfIinc = Ok iinc
begun_by pool at c OfWide = Ok (lead u1 widened)
begun_by pool at c OfBranch = Ok (two_bytes (λ offset. Branch c offset))
begun_by pool at c OfWideGoto = Ok goto_wide
begun_by pool at c OfTable = Ok (table_switch at)
begun_by pool at c OfLookup = Ok (lookup_switch at)
begun_by pool at c OfMember = Ok (member pool c)
begun_by pool at c OfInterface = Ok (invoke_interface pool)
begun_by pool at c OfClass = Ok (class_operand pool c)
begun_by pool at c OfArray = Ok (item u1 array_type_read)
begun_by pool at c OfArrays = Ok (multi_new_array pool)
begun_by pool at c OfNone = Ok (give (left_out c))
begun_by pool at c NoForm = Err bad.BadOpcode

-- what an opcode begins is what its form begins
pub begun_is : (pool : List Entry) (at c : ℕ) → begun pool at c ≡ begun_by pool at c (form_of c)
unfolding form_of begun_by
begun_is pool at c =
    let f : Form → Result (FormatReader Read) FormatKind = begun_by pool at c in
    through f (is_some (plain_op c)) Alone _ _
    (through f (eqb c 0x10) OfByte _ _ (through f (eqb c 0x11) OfShort _ _ (through f (eqb c 0x12) OfLoad _ _
    (through f (eqb c 0x13 || eqb c 0x14) OfWideLoad _ _
    (through f (is_some (local_op c)) OfLocal _ _ (through f (eqb c 0x84) OfIinc _ _
    (through f (eqb c 0xC4) OfWide _ _
    (through f (is_some (branch_op c)) OfBranch _ _ (through f (eqb c 0xC8) OfWideGoto _ _
    (through f (eqb c 0xAA) OfTable _ _
    (through f (eqb c 0xAB) OfLookup _ _ (through f (is_member_opcode c) OfMember _ _
    (through f (eqb c 0xB9) OfInterface _ _
    (through f (is_class_opcode c) OfClass _ _ (through f (eqb c 0xBC) OfArray _ _
    (through f (eqb c 0xC5) OfArrays _ _
    (through f (eqb c 0xBA || is_left_out_opcode c) OfNone NoForm _ refl)))))))))))))))))

-- the test that an opcode of a form passes
unfoldable pub passes : ℕ → Form → Bool
passes c Alone = is_some (plain_op c)
passes c OfByte = eqb c 0x10
passes c OfShort = eqb c 0x11
passes c OfLoad = eqb c 0x12
passes c OfWideLoad = eqb c 0x13 || eqb c 0x14
passes c OfLocal = is_some (local_op c)
passes c OfIinc = eqb c 0x84
passes c OfWide = eqb c 0xC4
passes c OfBranch = is_some (branch_op c)
passes c OfWideGoto = eqb c 0xC8
passes c OfTable = eqb c 0xAA
passes c OfLookup = eqb c 0xAB
passes c OfMember = is_member_opcode c
passes c OfInterface = eqb c 0xB9
passes c OfClass = is_class_opcode c
passes c OfArray = eqb c 0xBC
passes c OfArrays = eqb c 0xC5
passes c OfNone = eqb c 0xBA || is_left_out_opcode c
passes c NoForm = true

-- an opcode passes the test of its form
pub form_passes : (c : ℕ) → passes c (form_of c) ≡ true
unfolding form_of passes
form_passes c =
    let g : Form → Bool = passes c in
    either_holds g (is_some (plain_op c)) Alone _ (λ h. h)
    (either_holds g (eqb c 0x10) OfByte _ (λ h. h)
    (either_holds g (eqb c 0x11) OfShort _ (λ h. h) (either_holds g (eqb c 0x12) OfLoad _ (λ h. h)
    (either_holds g (eqb c 0x13 || eqb c 0x14) OfWideLoad _ (λ h. h)
    (either_holds g (is_some (local_op c)) OfLocal _ (λ h. h) (either_holds g (eqb c 0x84) OfIinc _ (λ h. h)
    (either_holds g (eqb c 0xC4) OfWide _ (λ h. h)
    (either_holds g (is_some (branch_op c)) OfBranch _ (λ h. h) (either_holds g (eqb c 0xC8) OfWideGoto _ (λ h. h)
    (either_holds g (eqb c 0xAA) OfTable _ (λ h. h)
    (either_holds g (eqb c 0xAB) OfLookup _ (λ h. h) (either_holds g (is_member_opcode c) OfMember _ (λ h. h)
    (either_holds g (eqb c 0xB9) OfInterface _ (λ h. h)
    (either_holds g (is_class_opcode c) OfClass _ (λ h. h) (either_holds g (eqb c 0xBC) OfArray _ (λ h. h)
    (either_holds g (eqb c 0xC5) OfArrays _ (λ h. h)
    (either_holds g (eqb c 0xBA || is_left_out_opcode c) OfNone NoForm (λ h. h) refl)))))))))))))))))

-- ---- behind wide

-- what follows wide
pub data WideForm : Type 0 where
  WideOfIinc : WideForm
  WideOfNone : WideForm
  WideOfLocal : WideForm
  NoWideForm : WideForm

-- the form of an opcode behind wide
unfoldable pub wide_form_of : ℕ → WideForm
wide_form_of c = cond (eqb c 0x84) WideOfIinc
    (cond (is_left_out_local c) WideOfNone (cond (is_some (local_op c)) WideOfLocal NoWideForm))

-- what an opcode of a form begins behind wide
unfoldable pub widened_by : ℕ → WideForm → Result (FormatReader Read) FormatKind
widened_by c WideOfIinc = Ok wide_iinc
widened_by c WideOfNone = Ok (give (left_out 0xC4))
widened_by c WideOfLocal = Ok (two_bytes (λ index. WideLocal c index))
widened_by c NoWideForm = Err bad.BadOpcode

-- what stands behind wide is what its form begins
pub widened_is : (c : ℕ) → widened c ≡ widened_by c (wide_form_of c)
unfolding wide_form_of widened_by
widened_is c =
    let f : WideForm → Result (FormatReader Read) FormatKind = widened_by c in
    through f (eqb c 0x84) WideOfIinc _ _
    (through f (is_left_out_local c) WideOfNone _ _
    (through f (is_some (local_op c)) WideOfLocal NoWideForm _ refl))

-- the test that an opcode of a form passes behind wide
unfoldable pub wide_passes : ℕ → WideForm → Bool
wide_passes c WideOfIinc = eqb c 0x84
wide_passes c WideOfNone = is_left_out_local c
wide_passes c WideOfLocal = is_some (local_op c)
wide_passes c NoWideForm = true

-- an opcode passes the test of its form
pub wide_form_passes : (c : ℕ) → wide_passes c (wide_form_of c) ≡ true
unfolding wide_form_of wide_passes
wide_form_passes c =
    let g : WideForm → Bool = wide_passes c in
    either_holds g (eqb c 0x84) WideOfIinc _ (λ h. h)
    (either_holds g (is_left_out_local c) WideOfNone _ (λ h. h)
    (either_holds g (is_some (local_op c)) WideOfLocal NoWideForm (λ h. h) refl))
