-- The operands of each form are read exactly where they are spelled.
use Rattle.std.proofs.Common.{◌≡◌, ℕ, zero, suc, ◌+◌, ◌^◌, ◌<◌, Bool, true, false, cond, eqb, List, [], ◌∷◌, ◌++◌}
use Rattle.std.proofs.Common.{length, Option, Some, None, Result, Ok, Err, refl, sym, ap, subst, ◌∙◌, append_assoc}
use Rattle.std.proofs.Common.{arith}
use Rattle.std.specs.Prelude.{is_some, int_le, nat_lt}
use Rattle.std.proofs.lemmas.Bool.{ltb-true, lt-ltb, eqb-true}
use Rattle.std.proofs.lemmas.List.{nil_from_length}
use Rattle.std.specs.Int.{w8, w16, w32, to_be_bytes, cast_signed}
use Rattle.std.specs.List.{flat_map, AllByRecursion}
use Rattle.format_reading.specs.Reader.{FormatReader, u1, u2, u4, lead, item, bind, give, many}
use Rattle.format_reading.specs.Spelling.{Spells, AllStand, ManyStand}
use Rattle.format_reading.specs.declared.fault.FormatKind.{FormatKind}
use Rattle.format_reading.specs.declared.fault.FormatKind.TheVariants as bad
use Rattle.format_reading.proofs.Exact.{Exact, Leads, Both, Below, nothing, as_raw, lead_exact, item_exact, bind_exact}
use Rattle.format_reading.proofs.Exact.{map_exact, give_exact, u1_exact, u2_exact, u4_exact, bytes_exact, many_exact}
use Rattle.class_model.specs.declared.pool.Entry.{Entry}
use Rattle.class_model.specs.InstructionStructure.{MatchOffset, match_offset, Info, Plain, Bipush, Sipush, Ldc, LdcWide}
use Rattle.class_model.specs.InstructionStructure.{Local, WideLocal, Iinc, WideIinc, Branch, GotoWide, TableSwitch}
use Rattle.class_model.specs.InstructionStructure.{LookupSwitch, MemberOperand, InvokeInterface, ClassOperand}
use Rattle.class_model.specs.InstructionStructure.{MultiNewArray, pad_length}
use Rattle.class_model.specs.InstructionMeaning.{loaded, loaded_wide, member_op, class_op}
use Rattle.class_model.specs.Lookups.{test, type_at, interface_methodref_at}
use Rattle.class_model.specs.ReadingCode.{Read, instruction, left_out, whole, if_meant, load_read, iinc, wide_iinc}
use Rattle.class_model.specs.ReadingCode.{widened, table_length, table_high, table_switch, lookup_count, ascends}
use Rattle.class_model.specs.ReadingCode.{lookup_key, match_offsets, lookup_switch, is_count, count_at}
use Rattle.class_model.specs.ReadingCode.{invoke_interface, array_type_read, are_dimensions, multi_new_array, begun}
use Rattle.class_model.proofs.InstructionForms.{Form, Alone, OfByte, OfShort, OfLoad, OfWideLoad, OfLocal, OfIinc}
use Rattle.class_model.proofs.InstructionForms.{OfWide, OfBranch, OfWideGoto, OfTable, OfLookup, OfMember, OfInterface}
use Rattle.class_model.proofs.InstructionForms.{OfClass, OfArray, OfArrays, OfNone, NoForm, form_of, begun_by, WideForm}
use Rattle.class_model.proofs.InstructionForms.{WideOfIinc, WideOfNone, WideOfLocal, NoWideForm, wide_form_of}
use Rattle.class_model.proofs.InstructionForms.{widened_by, widened_is, begun_is}

-- ---- tests and meanings

-- what follows an operand that has a meaning
pub meant_ok : {A B : Type 0} (o : Option A) (y x : B) → if_meant o y ≡ Ok x → (is_some o ≡ true) × (y ≡ x)
meant_ok (Some z) y x h = (refl, cc)
meant_ok None y x h = absurd cc

pub is_meant : {A B : Type 0} (o : Option A) (y : B) → is_some o ≡ true → if_meant o y ≡ Ok y
is_meant (Some z) y h = refl
is_meant None y h = absurd cc

-- what follows a test that accepts
pub accepted : {A : Type 0} (b : Bool) (y x : A) (kind : FormatKind)
    → cond b (let R : Result A FormatKind = Ok y in R) (Err kind) ≡ Ok x → (b ≡ true) × (y ≡ x)
accepted true y x kind h = (refl, cc)
accepted false y x kind h = absurd cc

pub is_accepted : {A : Type 0} (b : Bool) (y : A) (kind : FormatKind) → b ≡ true
    → cond b (let R : Result A FormatKind = Ok y in R) (Err kind) ≡ Ok y
is_accepted true y kind h = refl
is_accepted false y kind h = absurd cc

-- ---- the operands of each form

-- an operand below a limit, and what is made of it
abbrev pub MakesOp : (ℕ → Info) → ℕ → ℕ → ℕ → Read → Type 0
MakesOp make limit at raw y = (x : ℕ) × Below limit at raw x × (y ≡ instruction (make x))

-- an operand below a limit, and what it means
abbrev pub MeantBy : (ℕ → Result Read FormatKind) → ℕ → ℕ → ℕ → Read → Type 0
MeantBy f limit at raw y = (x : ℕ) × Below limit at raw x × (f x ≡ Ok y)

-- a slot and a summand
abbrev pub IsSummed : (ℕ → ℕ → Info) → ℕ → ℕ → ℕ × ℕ → Read → Type 0
IsSummed make limit at w y = (w.0 < limit) × (w.1 < limit) × (y ≡ instruction (make w.0 w.1))

abbrev pub below_32 : ℕ → Type 0
below_32 n = n < 2 ^ 32

-- a tableswitch at an offset of the code
pub record IsTable (at : ℕ) (pad : List ℕ) (default low high : ℕ) (offsets : List ℕ) : Type 0 where
  pub padded : length pad ≡ pad_length at
  pub default_fits : default < 2 ^ 32
  pub low_fits : low < 2 ^ 32
  pub high_fits : high < 2 ^ 32
  pub range : int_le (cast_signed w32 low) (cast_signed w32 high) ≡ true
  pub counted : length offsets ≡ table_length low high
  pub offsets_fit : AllByRecursion below_32 offsets

abbrev pub TableParts : Type 0
TableParts = List ℕ × (ℕ × (ℕ × (ℕ × List ℕ)))

abbrev pub table_bytes : TableParts → List ℕ
table_bytes w = w.0 ++ (to_be_bytes w32 w.1.0 ++ (to_be_bytes w32 w.1.1.0 ++
    (to_be_bytes w32 w.1.1.1.0 ++ flat_map (to_be_bytes w32) w.1.1.1.1)))

abbrev pub IsTableParts : ℕ → ℕ → TableParts → Read → Type 0
IsTableParts at o w y = IsTable at w.0 w.1.0 w.1.1.0 w.1.1.1.0 w.1.1.1.1
    × (y ≡ instruction (TableSwitch w.0 w.1.0 w.1.1.0 w.1.1.1.0 w.1.1.1.1))

-- keys that ascend, behind one that may have come before, and their offsets
abbrev pub Ascending : Option ℕ → List MatchOffset → Type 0
Ascending previous [] = Unit {0}
Ascending previous (pair ∷ pairs) = (pair.key < 2 ^ 32) × (ascends previous pair.key ≡ true) × (pair.offset < 2 ^ 32)
    × Ascending (Some pair.key) pairs

-- a lookupswitch at an offset of the code
pub record IsLookup (at : ℕ) (pad : List ℕ) (default : ℕ) (pairs : List MatchOffset) : Type 0 where
  pub padded : length pad ≡ pad_length at
  pub default_fits : default < 2 ^ 32
  pub count_fits : length pairs < 2 ^ 31
  pub ascending : Ascending None pairs

abbrev pub LookupParts : Type 0
LookupParts = List ℕ × (ℕ × List MatchOffset)

abbrev pub lookup_bytes : LookupParts → List ℕ
lookup_bytes w = w.0 ++ (to_be_bytes w32 w.1.0 ++ (to_be_bytes w32 (length w.1.1) ++ flat_map match_offset w.1.1))

abbrev pub IsLookupParts : ℕ → ℕ → LookupParts → Read → Type 0
IsLookupParts at o w y = IsLookup at w.0 w.1.0 w.1.1 × (y ≡ instruction (LookupSwitch w.0 w.1.0 w.1.1))

-- the index and count of invokeinterface
pub record IsInterface (pool : List Entry) (index count : ℕ) : Type 0 where
  pub index_fits : index < 2 ^ 16
  pub there : is_some (interface_methodref_at pool index) ≡ true
  pub count_fits : count < 256
  pub counted : is_count (count_at pool index) count ≡ true

-- the index and dimensions of multianewarray
pub record IsArrays (pool : List Entry) (index dimensions : ℕ) : Type 0 where
  pub index_fits : index < 2 ^ 16
  pub there : is_some (type_at pool index) ≡ true
  pub dimensions_fit : dimensions < 256
  pub made : are_dimensions (type_at pool index) dimensions ≡ true

-- what stands behind wide and an opcode
abbrev pub WideOperands : ℕ → WideForm → ℕ → List ℕ → Read → Type 0
WideOperands c WideOfIinc = Spells (λ (w : ℕ × ℕ). to_be_bytes w16 w.0 ++ to_be_bytes w16 w.1)
    (IsSummed (λ index const. WideIinc index const) (2 ^ 16))
WideOperands c WideOfNone = Spells nothing (λ at u y. y ≡ left_out 0xC4)
WideOperands c WideOfLocal = Spells (to_be_bytes w16) (MakesOp (λ index. WideLocal c index) (2 ^ 16))
WideOperands c NoWideForm = λ at t y. ⊥

-- what stands behind an opcode
abbrev pub Operands : List Entry → ℕ → ℕ → Form → ℕ → List ℕ → Read → Type 0
Operands pool at c Alone = Spells nothing (λ o u y. y ≡ instruction (Plain c))
Operands pool at c OfByte = Spells (to_be_bytes w8) (MakesOp (λ byte. Bipush byte) 256)
Operands pool at c OfShort = Spells (to_be_bytes w16) (MakesOp (λ short. Sipush short) (2 ^ 16))
Operands pool at c OfLoad = Spells (to_be_bytes w8)
    (MeantBy (λ index. load_read pool 0x12 index (loaded pool index) (Ldc index)) 256)
Operands pool at c OfWideLoad = Spells (to_be_bytes w16)
    (MeantBy (λ index. load_read pool c index (loaded_wide c pool index) (LdcWide c index)) (2 ^ 16))
Operands pool at c OfLocal = Spells (to_be_bytes w8) (MakesOp (λ index. Local c index) 256)
Operands pool at c OfIinc = Spells (λ (w : ℕ × ℕ). to_be_bytes w8 w.0 ++ to_be_bytes w8 w.1)
    (IsSummed (λ index const. Iinc index const) 256)
Operands pool at c OfWide = Spells (λ (w : ℕ × List ℕ). to_be_bytes w8 w.0 ++ w.1)
    (Both (to_be_bytes w8) (Below 256) (λ d. WideOperands d (wide_form_of d)))
Operands pool at c OfBranch = Spells (to_be_bytes w16) (MakesOp (λ offset. Branch c offset) (2 ^ 16))
Operands pool at c OfWideGoto = Spells (to_be_bytes w32) (MakesOp (λ offset. GotoWide offset) (2 ^ 32))
Operands pool at c OfTable = Spells table_bytes (IsTableParts at)
Operands pool at c OfLookup = Spells lookup_bytes (IsLookupParts at)
Operands pool at c OfMember = Spells (to_be_bytes w16)
    (MeantBy (λ index. if_meant (member_op c pool index) (instruction (MemberOperand c index))) (2 ^ 16))
Operands pool at c OfInterface = Spells (λ (w : ℕ × ℕ). to_be_bytes w16 w.0 ++ (to_be_bytes w8 w.1 ++ to_be_bytes w8 0))
    (λ o w y. IsInterface pool w.0 w.1 × (y ≡ instruction (InvokeInterface w.0 w.1)))
Operands pool at c OfClass = Spells (to_be_bytes w16)
    (MeantBy (λ index. if_meant (class_op c pool index) (instruction (ClassOperand c index))) (2 ^ 16))
Operands pool at c OfArray = Spells (to_be_bytes w8) (MeantBy array_type_read 256)
Operands pool at c OfArrays = Spells (λ (w : ℕ × ℕ). to_be_bytes w16 w.0 ++ to_be_bytes w8 w.1)
    (λ o w y. IsArrays pool w.0 w.1 × (y ≡ instruction (MultiNewArray w.0 w.1)))
Operands pool at c OfNone = Spells nothing (λ o u y. y ≡ left_out c)
Operands pool at c NoForm = λ o t y. ⊥

-- ---- each of them is read

-- a text as its own spelling
pub as_text : {A : Type 0} {r : FormatReader A} {g : ℕ → List ℕ → A → Type 0} → Exact r g → Exact r (Spells (λ t. t) g)
as_text {g = g} e = record {
  found = λ p x q fits h. let o = e.found p x q fits h in (o.0, (o.0, refl, o.1), o.2);
  only = λ p text x q h k. e.only p text x q (subst (λ (t : List ℕ). g p.at t x) (sym h.1) h.2) k;
}

pub leads_text : {A : Type 0} (o : Result (FormatReader A) FormatKind) (g : ℕ → List ℕ → A → Type 0) → Leads o g
    → Leads o (Spells (λ t. t) g)
leads_text (Ok r) g l = as_text {g = g} l
leads_text (Err k) g l = λ at t y h. l at t y (subst (λ (u : List ℕ). g at u y) (sym h.1) h.2)

iinc_exact : Exact iinc (Spells (λ (w : ℕ × ℕ). to_be_bytes w8 w.0 ++ to_be_bytes w8 w.1)
    (IsSummed (λ index const. Iinc index const) 256))
iinc_exact = as_raw _ (IsSummed (λ index const. Iinc index const) 256) (λ w. w) (λ w. w)
    (λ at w y h. (
      refl,
      (
        h.1.0,
        h.2.1.0,
        h.2.2 ∙ ap (λ k. instruction (Iinc h.0 k)) h.2.1.1
            ∙ ap (λ k. instruction (Iinc k w.1)) h.1.1,
      ),
    ))
    (λ at w y h. (refl, (w.0, (h.0, refl), (w.1, (h.1, refl), h.2))))
    (bind_exact (λ index. bind u1 (λ const. whole (Iinc index const))) (to_be_bytes w8)
    (λ x. MakesOp (λ n. Iinc x n) 256) u1_exact
    (λ index. map_exact (λ const. instruction (Iinc index const)) u1_exact))

wide_iinc_exact : Exact wide_iinc
    (Spells (λ (w : ℕ × ℕ). to_be_bytes w16 w.0 ++ to_be_bytes w16 w.1)
    (IsSummed (λ index const. WideIinc index const) (2 ^ 16)))
wide_iinc_exact = as_raw _ (IsSummed (λ index const. WideIinc index const) (2 ^ 16)) (λ w. w) (λ w. w)
    (λ at w y h. (
      refl,
      (
        h.1.0,
        h.2.1.0,
        h.2.2 ∙ ap (λ k. instruction (WideIinc h.0 k)) h.2.1.1
            ∙ ap (λ k. instruction (WideIinc k w.1)) h.1.1,
      ),
    ))
    (λ at w y h. (refl, (w.0, (h.0, refl), (w.1, (h.1, refl), h.2))))
    (bind_exact (λ index. bind u2 (λ const. whole (WideIinc index const))) (to_be_bytes w16)
    (λ x. MakesOp (λ n. WideIinc x n) (2 ^ 16)) u2_exact
    (λ index. map_exact (λ const. instruction (WideIinc index const)) u2_exact))

wide_operands_exact : (c : ℕ) (f : WideForm) → Leads (widened_by c f) (WideOperands c f)
unfolding widened_by
wide_operands_exact c WideOfIinc = wide_iinc_exact
wide_operands_exact c WideOfNone = give_exact (left_out 0xC4)
wide_operands_exact c WideOfLocal = map_exact (λ index. instruction (WideLocal c index)) u2_exact
wide_operands_exact c NoWideForm = λ at t y h. h

widened_leads : (c : ℕ) → Leads (widened c) (WideOperands c (wide_form_of c))
widened_leads c = subst (λ (r : Result (FormatReader Read) FormatKind). Leads r (WideOperands c (wide_form_of c)))
    (sym (widened_is c)) (wide_operands_exact c (wide_form_of c))

-- numbers below a limit, each read as it is
same_numbers : (limit o : ℕ) (raws xs : List ℕ) → AllStand (to_be_bytes w32) (Below limit) o raws xs
    → (xs ≡ raws) × AllByRecursion (λ n. n < limit) raws
same_numbers limit o [] [] h = (refl, tt)
same_numbers limit o [] (y ∷ ys) h = absurd h
same_numbers limit o (x ∷ xs) [] h = absurd h
same_numbers limit o (x ∷ xs) (y ∷ ys) h =
    let s = same_numbers limit (o + length (to_be_bytes w32 x)) xs ys h.1 in
    (ap (λ n. n ∷ ys) h.0.1 ∙ ap (λ ns. x ∷ ns) s.0, (h.0.0, s.1))

numbers_stand : (limit o : ℕ) (raws : List ℕ) → AllByRecursion (λ n. n < limit) raws
    → AllStand (to_be_bytes w32) (Below limit) o raws raws
numbers_stand limit o [] h = tt
numbers_stand limit o (x ∷ xs) h = ((h.0, refl), numbers_stand limit (o + length (to_be_bytes w32 x)) xs h.1)

-- ---- tableswitch

-- the offsets behind high
abbrev FromOffsets : List ℕ → ℕ → ℕ → ℕ → ℕ → List ℕ → Read → Type 0
FromOffsets pad default low high at raws y = (xs : List ℕ)
    × ManyStand (to_be_bytes w32) (Below (2 ^ 32)) (table_length low high) at raws xs
    × (y ≡ instruction (TableSwitch pad default low high xs))

-- high, as it is written
abbrev IsHigh : ℕ → ℕ → ℕ → ℕ → Type 0
IsHigh low at raw high = (x : ℕ) × Below (2 ^ 32) at raw x × (table_high low x ≡ Ok high)

abbrev FromHigh : List ℕ → ℕ → ℕ → ℕ → ℕ × List ℕ → Read → Type 0
FromHigh pad default low = Both (to_be_bytes w32) (IsHigh low) (FromOffsets pad default low)

abbrev FromLow : List ℕ → ℕ → ℕ → ℕ × (ℕ × List ℕ) → Read → Type 0
FromLow pad default = Both (to_be_bytes w32) (Below (2 ^ 32)) (FromHigh pad default)

abbrev FromDefault : List ℕ → ℕ → ℕ × (ℕ × (ℕ × List ℕ)) → Read → Type 0
FromDefault pad = Both (to_be_bytes w32) (Below (2 ^ 32)) (FromLow pad)

abbrev high_bytes : ℕ × List ℕ → List ℕ
high_bytes w = to_be_bytes w32 w.0 ++ flat_map (to_be_bytes w32) w.1

abbrev low_bytes : ℕ × (ℕ × List ℕ) → List ℕ
low_bytes w = to_be_bytes w32 w.0 ++ high_bytes w.1

abbrev default_bytes : ℕ × (ℕ × (ℕ × List ℕ)) → List ℕ
default_bytes w = to_be_bytes w32 w.0 ++ low_bytes w.1

table_there : (at o : ℕ) (w : TableParts) (y : Read) (pad : List ℕ) (default low x high : ℕ) (offsets : List ℕ)
    → length w.0 ≡ pad_length at → pad ≡ w.0 → w.1.0 < 2 ^ 32 → default ≡ w.1.0 → w.1.1.0 < 2 ^ 32 → low ≡ w.1.1.0
    → w.1.1.1.0 < 2 ^ 32 → x ≡ w.1.1.1.0
    → table_high low x ≡ Ok high → length w.1.1.1.1 ≡ table_length low high
    → AllStand (to_be_bytes w32) (Below (2 ^ 32)) o w.1.1.1.1 offsets
    → y ≡ instruction (TableSwitch pad default low high offsets)
    → IsTable at w.0 w.1.0 w.1.1.0 w.1.1.1.0 w.1.1.1.1
    × (y ≡ instruction (TableSwitch w.0 w.1.0 w.1.1.0 w.1.1.1.0 w.1.1.1.1))
table_there at o w y pad default low x high offsets padded pad-is default-fits default-is low-fits low-is high-fits
    x-is high-is counted stand y-is =
    let range = accepted (int_le (cast_signed w32 low) (cast_signed w32 x)) x high bad.BadOperand high-is in
    let same = same_numbers (2 ^ 32) o w.1.1.1.1 offsets stand in
    let r0 = range.0 in
    let r1 = range.1 in
    let s0 = same.0 in (
      record {
        padded = padded;
        default_fits = default-fits;
        low_fits = low-fits;
        high_fits = high-fits;
        range = cc;
        counted = cc;
        offsets_fit = same.1;
      },
      cc,
    )

table_exact : (at : ℕ) → Exact (table_switch at) (Spells table_bytes (IsTableParts at))
table_exact at = as_raw table_bytes (IsTableParts at) (λ w. w) (λ w. w)
    (λ o w y h. (
      refl,
      table_there at _ w y h.0 h.2.0 h.2.2.0 h.2.2.2.1.0 h.2.2.2.0 h.2.2.2.2.0 h.1.0 h.1.1 h.2.1.0 h.2.1.1
          h.2.2.1.0 h.2.2.1.1 h.2.2.2.1.1.0 h.2.2.2.1.1.1 h.2.2.2.1.2 h.2.2.2.2.1.0 h.2.2.2.2.1.1 h.2.2.2.2.2,
    ))
    (λ o w y h. (
      refl,
      (
        w.0,
        (h.0.padded, refl),
        (
          w.1.0,
          (h.0.default_fits, refl),
          (
            w.1.1.0,
            (h.0.low_fits, refl),
            (
              w.1.1.1.0,
              (w.1.1.1.0, (h.0.high_fits, refl), is_accepted _ _ bad.BadOperand h.0.range),
              (w.1.1.1.1, (h.0.counted, numbers_stand (2 ^ 32) _ w.1.1.1.1 h.0.offsets_fit), h.1),
            ),
          ),
        ),
      ),
    ))
    (bind_exact (λ pad. bind u4 (λ default. bind u4 (λ low. bind (item u4 (table_high low))
    (λ high. bind (many (table_length low high) u4)
    (λ offsets. whole (TableSwitch pad default low high offsets)))))) default_bytes FromDefault
    (bytes_exact (pad_length at))
    (λ pad. bind_exact (λ default. bind u4 (λ low. bind (item u4 (table_high low))
    (λ high. bind (many (table_length low high) u4)
    (λ offsets. whole (TableSwitch pad default low high offsets))))) low_bytes (FromLow pad) u4_exact
    (λ default. bind_exact (λ low. bind (item u4 (table_high low))
    (λ high. bind (many (table_length low high) u4)
    (λ offsets. whole (TableSwitch pad default low high offsets)))) high_bytes (FromHigh pad default) u4_exact
    (λ low. bind_exact (λ high. bind (many (table_length low high) u4)
    (λ offsets. whole (TableSwitch pad default low high offsets))) (flat_map (to_be_bytes w32))
    (FromOffsets pad default low) (item_exact (table_high low) u4_exact)
    (λ high. map_exact (λ offsets. instruction (TableSwitch pad default low high offsets))
    (many_exact (table_length low high) u4_exact))))))

-- ---- lookupswitch

-- so many pairs, behind a key
abbrev ArePairs : ℕ → Option ℕ → ℕ → List MatchOffset → List MatchOffset → Type 0
ArePairs n previous o raws xs = (length raws ≡ n) × Ascending previous raws × (xs ≡ raws)

abbrev pair_of : ℕ → ℕ → MatchOffset
pair_of key offset = record { key = key; offset = offset }

-- a key, as it is written
abbrev IsKey : Option ℕ → ℕ → ℕ → ℕ → Type 0
IsKey previous at raw key = (x : ℕ) × Below (2 ^ 32) at raw x × (lookup_key previous x ≡ Ok key)

abbrev FromOthers : ℕ → ℕ → ℕ → ℕ → List MatchOffset → List MatchOffset → Type 0
FromOthers n key offset at raws y = (xs : List MatchOffset) × ArePairs n (Some key) at raws xs
    × (y ≡ pair_of key offset ∷ xs)

abbrev FromOffset : ℕ → ℕ → ℕ → ℕ × List MatchOffset → List MatchOffset → Type 0
FromOffset n key = Both (to_be_bytes w32) (Below (2 ^ 32)) (FromOthers n key)

abbrev offset_bytes : ℕ × List MatchOffset → List ℕ
offset_bytes w = to_be_bytes w32 w.0 ++ flat_map match_offset w.1

abbrev PairParts : Type 0
PairParts = ℕ × (ℕ × List MatchOffset)

abbrev pairs_to : PairParts → List MatchOffset
pairs_to w = pair_of w.0 w.1.0 ∷ w.1.1

abbrev pairs_from : List MatchOffset → PairParts
pairs_from [] = (0, (0, []))
pairs_from (pair ∷ pairs) = (pair.key, (pair.offset, pairs))

abbrev PairStands : ℕ → Option ℕ → ℕ → PairParts → List MatchOffset → Type 0
PairStands n previous = Both (to_be_bytes w32) (IsKey previous) (FromOffset n)

pairs_there : (n : ℕ) (previous : Option ℕ) (w : PairParts) (y : List MatchOffset) (x key offset : ℕ)
    (xs : List MatchOffset)
    → w.0 < 2 ^ 32 → x ≡ w.0 → lookup_key previous x ≡ Ok key → w.1.0 < 2 ^ 32 → offset ≡ w.1.0 → length w.1.1 ≡ n
    → Ascending (Some key) w.1.1 → xs ≡ w.1.1 → y ≡ pair_of key offset ∷ xs
    → ArePairs (suc n) previous 0 (pairs_to w) y
pairs_there n previous w y x key offset xs key-fits x-is key-is offset-fits offset-is counted ascending xs-is y-is =
    let k = accepted (ascends previous x) x key bad.BadOperand key-is in
    let k1 : key ≡ w.0 = sym k.1 ∙ x-is in (
      ap suc counted,
      (
        key-fits,
        ap (ascends previous) (sym x-is)
            ∙ k.0,
        offset-fits,
        subst (λ (a : ℕ). Ascending (Some a) w.1.1) k1 ascending,
      ),
      y-is ∙ ap (λ (a : ℕ). pair_of a offset ∷ xs) k1 ∙ ap (λ (a : ℕ). pair_of w.0 a ∷ xs) offset-is
          ∙ ap (λ (a : List MatchOffset). pair_of w.0 w.1.0 ∷ a) xs-is,
    )

pairs_back : (n : ℕ) (previous : Option ℕ) (o : ℕ) (v y : List MatchOffset) → ArePairs (suc n) previous o v y
    → (flat_map match_offset v ≡ to_be_bytes w32 (pairs_from v).0 ++ offset_bytes (pairs_from v).1)
    × PairStands n previous o (pairs_from v) y
pairs_back n previous o [] y h = absurd (omega (arith, h.0))
pairs_back n previous o (pair ∷ pairs) y h = (
  append_assoc (to_be_bytes w32 pair.key) (to_be_bytes w32 pair.offset) (flat_map match_offset pairs),
  (
    pair.key,
    (pair.key, (h.1.0, refl), is_accepted (ascends previous pair.key) pair.key bad.BadOperand h.1.1),
    (pair.offset, (h.1.2, refl), (pairs, (omega (arith, h.0), h.1.3, refl), h.2)),
  ),
)

pairs_exact : (n : ℕ) (previous : Option ℕ)
    → Exact (match_offsets n previous) (Spells (flat_map match_offset) (ArePairs n previous))
unfolding match_offsets
pairs_exact zero previous = as_raw {S = List MatchOffset} (flat_map match_offset) (ArePairs 0 previous) (λ u. [])
    (λ v. tt)
    (λ o u y h. (refl, (refl, tt, h)))
    (λ o v y h. let none : v ≡ [] = nil_from_length v h.0 in (ap (flat_map match_offset) none, h.2 ∙ none))
    (give_exact [])
pairs_exact (suc n) previous = as_raw {S = List MatchOffset} (flat_map match_offset)
    (ArePairs (suc n) previous) pairs_to pairs_from
    (λ o w y h. (
      sym (append_assoc (to_be_bytes w32 w.0) (to_be_bytes w32 w.1.0) (flat_map match_offset w.1.1)),
      pairs_there n previous w y h.1.0 h.0 h.2.0 h.2.2.0 h.1.1.0 h.1.1.1 h.1.2 h.2.1.0 h.2.1.1 h.2.2.1.0 h.2.2.1.1
          h.2.2.1.2 h.2.2.2,
    ))
    (λ o v y h. pairs_back n previous o v y h)
    (bind_exact (λ key. bind u4 (λ offset. bind (match_offsets n (Some key))
    (λ others. give (pair_of key offset ∷ others)))) offset_bytes (FromOffset n)
    (item_exact (lookup_key previous) u4_exact)
    (λ key. bind_exact (λ offset. bind (match_offsets n (Some key)) (λ others. give (pair_of key offset ∷ others)))
    (flat_map match_offset) (FromOthers n key) u4_exact
    (λ offset. map_exact (λ others. pair_of key offset ∷ others) (pairs_exact n (Some key)))))

-- a count, as it is written
abbrev IsCount : ℕ → ℕ → ℕ → Type 0
IsCount at raw n = (x : ℕ) × Below (2 ^ 32) at raw x × (lookup_count x ≡ Ok n)

abbrev FromPairs : List ℕ → ℕ → ℕ → ℕ → List MatchOffset → Read → Type 0
FromPairs pad default n at raws y = (xs : List MatchOffset) × ArePairs n None at raws xs
    × (y ≡ instruction (LookupSwitch pad default xs))

abbrev FromCount : List ℕ → ℕ → ℕ → ℕ × List MatchOffset → Read → Type 0
FromCount pad default = Both (to_be_bytes w32) IsCount (FromPairs pad default)

abbrev FromOther : List ℕ → ℕ → ℕ × (ℕ × List MatchOffset) → Read → Type 0
FromOther pad = Both (to_be_bytes w32) (Below (2 ^ 32)) (FromCount pad)

abbrev count_bytes : ℕ × List MatchOffset → List ℕ
count_bytes w = to_be_bytes w32 w.0 ++ flat_map match_offset w.1

abbrev other_bytes : ℕ × (ℕ × List MatchOffset) → List ℕ
other_bytes w = to_be_bytes w32 w.0 ++ count_bytes w.1

abbrev LookupRead : Type 0
LookupRead = List ℕ × (ℕ × (ℕ × List MatchOffset))

lookup_there : (at : ℕ) (w : LookupRead) (y : Read) (pad : List ℕ) (default x n : ℕ) (xs : List MatchOffset)
    → length w.0 ≡ pad_length at → pad ≡ w.0 → w.1.0 < 2 ^ 32 → default ≡ w.1.0 → x ≡ w.1.1.0 → lookup_count x ≡ Ok n
    → length w.1.1.1 ≡ n → Ascending None w.1.1.1 → xs ≡ w.1.1.1
    → y ≡ instruction (LookupSwitch pad default xs)
    → (w.0 ++ other_bytes w.1 ≡ lookup_bytes (w.0, (w.1.0, w.1.1.1)))
    × (IsLookup at w.0 w.1.0 w.1.1.1 × (y ≡ instruction (LookupSwitch w.0 w.1.0 w.1.1.1)))
lookup_there at w y pad default x n xs padded pad-is default-fits default-is x-is n-is counted ascending xs-is y-is =
    let k = accepted (nat_lt x (2 ^ 31)) x n bad.BadOperand n-is in
    let count : w.1.1.0 ≡ length w.1.1.1 = sym x-is ∙ k.1 ∙ sym counted in
    let small : length w.1.1.1 < 2 ^ 31 = ltb-true _ _
    (ap (λ (a : ℕ). nat_lt a (2 ^ 31)) (sym (x-is ∙ count)) ∙ k.0) in (
      ap (λ (a : ℕ). w.0 ++ (to_be_bytes w32 w.1.0 ++ (to_be_bytes w32 a ++ flat_map match_offset w.1.1.1))) count,
      (record { padded = padded; default_fits = default-fits; count_fits = small; ascending = ascending }, cc),
    )

lookup_exact : (at : ℕ) → Exact (lookup_switch at) (Spells lookup_bytes (IsLookupParts at))
lookup_exact at = as_raw lookup_bytes (IsLookupParts at) (λ w. (w.0, (w.1.0, w.1.1.1)))
    (λ v. (v.0, (v.1.0, (length v.1.1, v.1.1))))
    (λ o w y h. lookup_there at w y h.0 h.2.0 h.2.2.1.0 h.2.2.0 h.2.2.2.0 h.1.0 h.1.1 h.2.1.0 h.2.1.1 h.2.2.1.1.1
    h.2.2.1.2 h.2.2.2.1.0 h.2.2.2.1.1 h.2.2.2.1.2 h.2.2.2.2)
    (λ o v y h. (
      refl,
      (
        v.0,
        (h.0.padded, refl),
        (
          v.1.0,
          (h.0.default_fits, refl),
          (
            length v.1.1,
            (
              length v.1.1,
              (omega (arith, h.0.count_fits), refl),
              is_accepted _ _ bad.BadOperand
                  (lt-ltb _ _ h.0.count_fits),
            ),
            (v.1.1, (refl, h.0.ascending, refl), h.1),
          ),
        ),
      ),
    ))
    (bind_exact (λ pad. bind u4 (λ default. bind (item u4 lookup_count)
    (λ n. bind (match_offsets n None) (λ pairs. whole (LookupSwitch pad default pairs))))) other_bytes FromOther
    (bytes_exact (pad_length at))
    (λ pad. bind_exact (λ default. bind (item u4 lookup_count)
    (λ n. bind (match_offsets n None) (λ pairs. whole (LookupSwitch pad default pairs)))) count_bytes
    (FromCount pad) u4_exact
    (λ default. bind_exact (λ n. bind (match_offsets n None) (λ pairs. whole (LookupSwitch pad default pairs)))
    (flat_map match_offset) (FromPairs pad default) (item_exact lookup_count u4_exact)
    (λ n. map_exact (λ pairs. instruction (LookupSwitch pad default pairs)) (pairs_exact n None)))))

-- ---- invokeinterface and multianewarray

-- an index that leads somewhere
abbrev IsIndex : {A : Type 0} → (ℕ → Option A) → ℕ → ℕ → ℕ → Type 0
IsIndex find at raw index = (x : ℕ) × Below (2 ^ 16) at raw x × (if_meant (find x) x ≡ Ok index)

-- a byte that passes a test
abbrev IsTested : (ℕ → Bool) → ℕ → ℕ → ℕ → Type 0
IsTested passes at raw n = (x : ℕ) × Below 256 at raw x
    × (cond (passes x) (let R : Result ℕ FormatKind = Ok x in R) (Err bad.BadOperand) ≡ Ok n)

abbrev IsZero : ℕ → ℕ → Read → Info → Type 0
IsZero at raw y info = (last : Unit {0}) × ((x : ℕ) × Below 256 at raw x × (test bad.BadOperand (eqb x 0) ≡ Ok last))
    × (y ≡ instruction info)

abbrev FromInterfaceCount : List Entry → ℕ → ℕ → ℕ × ℕ → Read → Type 0
FromInterfaceCount pool index = Both (to_be_bytes w8) (IsTested (is_count (count_at pool index)))
    (λ count o raw y. IsZero o raw y (InvokeInterface index count))

interface_there : (pool : List Entry) (w : ℕ × (ℕ × ℕ)) (y : Read) (x index z count v : ℕ) (last : Unit {0})
    → w.0 < 2 ^ 16 → x ≡ w.0 → if_meant (interface_methodref_at pool x) x ≡ Ok index
    → w.1.0 < 256 → z ≡ w.1.0
    → cond (is_count (count_at pool index) z) (let R : Result ℕ FormatKind = Ok z in R) (Err bad.BadOperand)
    ≡ Ok count → v ≡ w.1.1 → test bad.BadOperand (eqb v 0) ≡ Ok last
    → y ≡ instruction (InvokeInterface index count)
    → (w.1.1 ≡ 0) × IsInterface pool w.0 w.1.0 × (y ≡ instruction (InvokeInterface w.0 w.1.0))
interface_there pool w y x index z count v last index-fits x-is index-is count-fits z-is count-is v-is last-is y-is =
    let m = meant_ok (interface_methodref_at pool x) x index index-is in
    let c = accepted (is_count (count_at pool index) z) z count bad.BadOperand count-is in
    let t = accepted (eqb v 0) tt last bad.BadOperand last-is in
    let m0 = m.0 in
    let m1 = m.1 in
    let c0 = c.0 in
    let c1 = c.1 in (
      sym v-is
          ∙ eqb-true v 0 t.0,
      record { index_fits = index-fits; there = cc; count_fits = count-fits; counted = cc },
      cc,
    )

interface_exact : (pool : List Entry) → Exact (invoke_interface pool) (Operands pool 0 0 OfInterface)
interface_exact pool = as_raw (λ (w : ℕ × ℕ). to_be_bytes w16 w.0 ++ (to_be_bytes w8 w.1 ++ to_be_bytes w8 0)) _
    (λ w. (w.0, w.1.0)) (λ v. (v.0, (v.1, 0)))
    (λ o w y h. let k = interface_there pool w y h.1.0 h.0 h.2.1.0 h.2.0 h.2.2.1.0 h.2.2.0 h.1.1.0 h.1.1.1 h.1.2
    h.2.1.1.0 h.2.1.1.1 h.2.1.2 h.2.2.1.1.1 h.2.2.1.2 h.2.2.2 in
    (ap (λ (a : ℕ). to_be_bytes w16 w.0 ++ (to_be_bytes w8 w.1.0 ++ to_be_bytes w8 a)) k.0, (k.1, k.2)))
    (λ o v y h. (
      refl,
      (
        v.0,
        (v.0, (h.0.index_fits, refl), is_meant _ _ h.0.there),
        (
          v.1,
          (v.1, (h.0.count_fits, refl), is_accepted _ _ bad.BadOperand h.0.counted),
          (tt, (0, (omega arith, refl), refl), h.1),
        ),
      ),
    ))
    (bind_exact (λ index. bind (item u1 (λ n. cond (is_count (count_at pool index) n) (Ok n) (Err bad.BadOperand)))
    (λ count. bind (item u1 (λ n. test bad.BadOperand (eqb n 0))) (λ last. whole (InvokeInterface index count))))
    (λ (w : ℕ × ℕ). to_be_bytes w8 w.0 ++ to_be_bytes w8 w.1) (FromInterfaceCount pool)
    (item_exact (λ index. if_meant (interface_methodref_at pool index) index) u2_exact)
    (λ index. bind_exact (λ count. bind (item u1 (λ n. test bad.BadOperand (eqb n 0)))
    (λ last. whole (InvokeInterface index count))) (to_be_bytes w8)
    (λ count o raw y. IsZero o raw y (InvokeInterface index count))
    (item_exact (λ n. cond (is_count (count_at pool index) n) (Ok n) (Err bad.BadOperand)) u1_exact)
    (λ count. map_exact (λ last. instruction (InvokeInterface index count))
    (item_exact (λ n. test bad.BadOperand (eqb n 0)) u1_exact))))

abbrev FromDimensions : List Entry → ℕ → ℕ → ℕ → Read → Type 0
FromDimensions pool index at raw y = (n : ℕ) × IsTested (are_dimensions (type_at pool index)) at raw n
    × (y ≡ instruction (MultiNewArray index n))

arrays_there : (pool : List Entry) (w : ℕ × ℕ) (y : Read) (x index z n : ℕ) → w.0 < 2 ^ 16 → x ≡ w.0
    → if_meant (type_at pool x) x ≡ Ok index
    → w.1 < 256 → z ≡ w.1 → cond (are_dimensions (type_at pool index) z) (let R : Result ℕ FormatKind = Ok z in R)
    (Err bad.BadOperand) ≡ Ok n
    → y ≡ instruction (MultiNewArray index n) → IsArrays pool w.0 w.1 × (y ≡ instruction (MultiNewArray w.0 w.1))
arrays_there pool w y x index z n index-fits x-is index-is n-fits z-is n-is y-is =
    let m = meant_ok (type_at pool x) x index index-is in
    let c = accepted (are_dimensions (type_at pool index) z) z n bad.BadOperand n-is in
    let m0 = m.0 in
    let m1 = m.1 in
    let c0 = c.0 in
    let c1 = c.1 in
    (record { index_fits = index-fits; there = cc; dimensions_fit = n-fits; made = cc }, cc)

arrays_exact : (pool : List Entry) → Exact (multi_new_array pool) (Operands pool 0 0 OfArrays)
arrays_exact pool = as_raw (λ (w : ℕ × ℕ). to_be_bytes w16 w.0 ++ to_be_bytes w8 w.1) _ (λ w. w) (λ v. v)
    (λ o w y h.
    (refl, arrays_there pool w y h.1.0 h.0 h.2.1.0 h.2.0 h.1.1.0 h.1.1.1 h.1.2 h.2.1.1.0 h.2.1.1.1 h.2.1.2 h.2.2))
    (λ o v y h. (
      refl,
      (
        v.0,
        (v.0, (h.0.index_fits, refl), is_meant _ _ h.0.there),
        (v.1, (v.1, (h.0.dimensions_fit, refl), is_accepted _ _ bad.BadOperand h.0.made), h.1),
      ),
    ))
    (bind_exact (λ index. bind (item u1 (λ n. cond (are_dimensions (type_at pool index) n) (Ok n) (Err bad.BadOperand)))
    (λ dimensions. whole (MultiNewArray index dimensions)))
    (to_be_bytes w8) (FromDimensions pool) (item_exact (λ index. if_meant (type_at pool index) index) u2_exact)
    (λ index. map_exact (λ dimensions. instruction (MultiNewArray index dimensions))
    (item_exact (λ n. cond (are_dimensions (type_at pool index) n) (Ok n) (Err bad.BadOperand)) u1_exact)))

-- ---- all of them

operands_exact : (pool : List Entry) (at c : ℕ) (f : Form) → Leads (begun_by pool at c f) (Operands pool at c f)
unfolding begun_by
operands_exact pool at c Alone = give_exact (instruction (Plain c))
operands_exact pool at c OfByte = map_exact (λ byte. instruction (Bipush byte)) u1_exact
operands_exact pool at c OfShort = map_exact (λ short. instruction (Sipush short)) u2_exact
operands_exact pool at c OfLoad = item_exact
    (λ index. load_read pool 0x12 index (loaded pool index) (Ldc index)) u1_exact
operands_exact pool at c OfWideLoad = item_exact
    (λ index. load_read pool c index (loaded_wide c pool index) (LdcWide c index)) u2_exact
operands_exact pool at c OfLocal = map_exact (λ index. instruction (Local c index)) u1_exact
operands_exact pool at c OfIinc = iinc_exact
operands_exact pool at c OfWide = lead_exact widened (λ t. t) (λ d. WideOperands d (wide_form_of d)) u1_exact
    (λ d. leads_text (widened d) (WideOperands d (wide_form_of d)) (widened_leads d))
operands_exact pool at c OfBranch = map_exact (λ offset. instruction (Branch c offset)) u2_exact
operands_exact pool at c OfWideGoto = map_exact (λ offset. instruction (GotoWide offset)) u4_exact
operands_exact pool at c OfTable = table_exact at
operands_exact pool at c OfLookup = lookup_exact at
operands_exact pool at c OfMember = item_exact
    (λ index. if_meant (member_op c pool index) (instruction (MemberOperand c index))) u2_exact
operands_exact pool at c OfInterface = interface_exact pool
operands_exact pool at c OfClass = item_exact
    (λ index. if_meant (class_op c pool index) (instruction (ClassOperand c index))) u2_exact
operands_exact pool at c OfArray = item_exact array_type_read u1_exact
operands_exact pool at c OfArrays = arrays_exact pool
operands_exact pool at c OfNone = give_exact (left_out c)
operands_exact pool at c NoForm = λ o t y h. h

-- an opcode and its operands
abbrev pub opcode_bytes : ℕ × List ℕ → List ℕ
opcode_bytes w = to_be_bytes w8 w.0 ++ w.1

-- the operands are those of the opcode's form
abbrev pub BehindOpcode : List Entry → ℕ → ℕ → ℕ → List ℕ → Read → Type 0
BehindOpcode pool at c = Operands pool at c (form_of c)

-- an opcode and its operands are read exactly where they are spelled
pub opcode_exact : (pool : List Entry) (at : ℕ)
    → Exact (lead u1 (begun pool at)) (Spells opcode_bytes (Both (to_be_bytes w8) (Below 256) (BehindOpcode pool at)))
opcode_exact pool at = lead_exact (begun pool at) (λ t. t) (BehindOpcode pool at) u1_exact
    (λ c. leads_text (begun pool at c) (BehindOpcode pool at c)
    (subst (λ (r : Result (FormatReader Read) FormatKind). Leads r (BehindOpcode pool at c)) (sym (begun_is pool at c))
    (operands_exact pool at c (form_of c))))
