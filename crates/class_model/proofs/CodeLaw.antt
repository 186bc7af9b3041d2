-- The instructions of a code are read exactly where its bytes stand for them (JVMS 4.7.3, 4.9.1).
use Rattle.std.proofs.Common.{◌≡◌, ℕ, zero, suc, ◌+◌, ◌≤◌, Bool, true, false, cond, eqb, List, [], ◌∷◌, length, map}
use Rattle.std.proofs.Common.{Some, Result, Ok, Err, ℤ, pos, negsuc, refl, sym, ap, subst, ◌∙◌, arith, ne_eqb}
use Rattle.std.specs.Prelude.{slice_get, nat_eq, position}
use Rattle.std.specs.List.{flat_map, position_from}
use Rattle.std.proofs.lemmas.Bool.{eqb-true, eq-eqb}
use Rattle.std.proofs.lemmas.Iterator.Adapters.{position_from-zero}
use Rattle.format_reading.specs.Spelling.{AllStand}
use Rattle.format_reading.specs.declared.fault.FormatFault.{FormatFault}
use Rattle.format_reading.specs.declared.fault.FormatKind.{FormatKind}
use Rattle.format_reading.specs.declared.fault.FormatKind.TheVariants as bad
use Rattle.format_reading.proofs.Exact.{IsBytes}
use Rattle.class_model.specs.declared.pool.Entry.{Entry}
use Rattle.class_model.specs.declared.code.Ins.{Ins}
use Rattle.class_model.specs.declared.op.Op.{Op}
use Rattle.class_model.specs.Lookups.{due}
use Rattle.class_model.specs.LineNumbers.{LineNumber, line_at}
use Rattle.class_model.specs.InstructionStructure.{Info, info_bytes, starts_from, starts_of}
use Rattle.class_model.specs.Instructions.{IsOp, Begins}
use Rattle.class_model.specs.InstructionMeaning.{op_of, aim_at}
use Rattle.class_model.specs.ReadingCode.{CodeRead, instructions, has_left_out, code_read, op_then, ops_from, ops_of}
use Rattle.class_model.specs.ReadingCodeAttribute.{with_lines}
use Rattle.class_model.specs.CodeAttribute.{IsIns}
use Rattle.class_model.proofs.BackSizes.{info_is_there}
use Rattle.class_model.proofs.NameLaw.{HaveUnits, due_is}
use Rattle.class_model.proofs.MeaningLaw.{op_right, op_only, op_found}
use Rattle.class_model.proofs.UntilLaw.{AreRight, IsCodeFrom, read_code_found, read_code_only}

-- ---- one instruction behind the other

then_is : (at : ℕ) (r : Result Op FormatKind) (s : Result (List Op) FormatFault) (ops : List Op)
    → op_then at r s ≡ Ok ops → (o : Op) × (os : List Op) × (r ≡ Ok o) × (s ≡ Ok os) × (ops ≡ o ∷ os)
then_is at (Ok o) (Ok os) ops h = (o, os, refl, refl, let e : o ∷ os ≡ ops = cc in sym e)
then_is at (Ok o) (Err f) ops h = absurd cc
then_is at (Err k) s ops h = absurd cc

module _ (Leads : ℤ → ℕ → Type 0) (aim : ℤ → Result ℕ FormatKind) (pool : List Entry) where
  -- what has a meaning stands for it
  pub ops_found : (from at : ℕ) (infos : List Info) (ops : List Op) → HaveUnits pool
      → ((target : ℤ) (n : ℕ) → aim target ≡ Ok n → Leads target n) → AreRight pool at infos
      → ops_from aim pool from at infos ≡ Ok ops
      → AllStand info_bytes (IsOp Leads pool) at infos ops
  unfolding ops_from
  ops_found from at [] ops fit leads right h =
      (let e : [] ≡ ops = cc in subst (λ (os : List Op). AllStand info_bytes (IsOp Leads pool) at [] os) e tt)
  ops_found from at (info ∷ infos) ops fit leads right h =
      let t = then_is (from + at) (op_of aim pool at info)
      (ops_from aim pool from (at + length (info_bytes info)) infos) ops h in
      subst (λ (os : List Op). AllStand info_bytes (IsOp Leads pool) at (info ∷ infos) os) (sym t.4) (
        op_found Leads aim pool at info t.0 fit leads right.0 t.2,
        ops_found from
            (at + length (info_bytes info)) infos t.1 fit leads right.1 t.3,
      )

  -- what stands for instructions has them as its meaning
  pub ops_only : (from at : ℕ) (infos : List Info) (ops : List Op)
      → ((target : ℤ) (n : ℕ) → Leads target n → aim target ≡ Ok n) → AllStand info_bytes (IsOp Leads pool) at infos ops
      → ops_from aim pool from at infos ≡ Ok ops
  unfolding ops_from
  ops_only from at [] [] aims h = refl
  ops_only from at [] (o ∷ os) aims h = absurd h
  ops_only from at (info ∷ infos) [] aims h = absurd h
  ops_only from at (info ∷ infos) (o ∷ os) aims h =
      let one = op_only Leads aim pool at info o aims h.0 in
      let others = ops_only from (at + length (info_bytes info)) infos os aims h.1 in
      rw (one, others) refl

  -- it is right
  pub ops_right : (at : ℕ) (infos : List Info) (ops : List Op) → AllStand info_bytes (IsOp Leads pool) at infos ops
      → AreRight pool at infos
  ops_right at [] ops h = tt
  ops_right at (info ∷ infos) [] h = absurd h
  ops_right at (info ∷ infos) (o ∷ os) h =
      (op_right Leads pool at info o h.0, ops_right (at + length (info_bytes info)) infos os h.1)

-- ---- targets

-- the place of a number in a list
position_at : (offset : ℕ) (xs : List ℕ) (k n : ℕ) → position_from (nat_eq offset) k xs ≡ Some n
    → (j : ℕ) × (n ≡ k + j) × (slice_get xs j ≡ Some offset)
position_at offset [] k n h = absurd cc
position_at offset (x ∷ xs) k n h = by (eqb offset x) refl h (λ g. position_at offset xs (k + 1) n g)
  where
    by : (b : Bool) → eqb offset x ≡ b → cond b (Some k) (position_from (nat_eq offset) (k + 1) xs) ≡ Some n
        → (position_from (nat_eq offset) (k + 1) xs ≡ Some n
        → (j : ℕ) × (n ≡ (k + 1) + j) × (slice_get xs j ≡ Some offset))
        → (j : ℕ) × (n ≡ k + j) × (slice_get (x ∷ xs) j ≡ Some offset)
    by true e g later = (
      0,
      (let is : k ≡ n = cc in omega (arith, is)),
      ap (λ (m : ℕ). Some m)
          (sym (eqb-true offset x e)),
    )
    by false e g later = let f = later g in (suc f.0, omega (arith, f.1), f.2)

-- a target that is found is where an instruction begins
pub begins_found : (starts : List ℕ) (target : ℤ) (n : ℕ) → aim_at starts target ≡ Ok n → Begins starts target n
begins_found starts (pos offset) n h =
    let p = position_at offset starts 0 n
    (sym (position_from-zero (nat_eq offset) starts)
    ∙ due_is bad.BadTarget (position (nat_eq offset) starts) n h) in
    (offset, refl, ap (slice_get starts) (let e : n ≡ p.0 = omega (arith, p.1) in e) ∙ p.2)
begins_found starts (negsuc k) n h = absurd cc

-- no instruction begins before the first
later : (infos : List Info) (at n offset : ℕ) → slice_get (starts_from at infos) n ≡ Some offset → at ≤ offset
later [] at n offset h = absurd cc
later (info ∷ infos) at zero offset h = let e : at ≡ offset = cc in omega (arith, e)
later (info ∷ infos) at (suc n) offset h = let l = later infos (at + length (info_bytes info)) n offset h in omega
    (arith, l)

number_found : (infos : List Info) (at k n offset : ℕ) → slice_get (starts_from at infos) n ≡ Some offset
    → position_from (nat_eq offset) k (starts_from at infos) ≡ Some (k + n)
number_found [] at k n offset h = absurd cc
number_found (info ∷ infos) at k zero offset h =
    let e : at ≡ offset = cc in
    let same : eqb offset at ≡ true = eq-eqb offset at (sym e) in
    rw same (ap (λ (m : ℕ). Some m) (let z : k ≡ k + 0 = omega arith in z))
number_found (info ∷ infos) at k (suc n) offset h =
    let l = later infos (at + length (info_bytes info)) n offset h in
    let some = info_is_there info in
    let other : eqb offset at ≡ false = ne_eqb offset at (λ e. omega (arith, e, l, some)) in
    rw other (number_found infos (at + length (info_bytes info)) (k + 1) n offset h
    ∙ ap (λ (m : ℕ). Some m) (let z : (k + 1) + n ≡ k + suc n = omega arith in z))

-- where an instruction begins, a target is found
pub begins_only : (infos : List Info) (target : ℤ) (n : ℕ) → Begins (starts_of infos) target n
    → aim_at (starts_of infos) target ≡ Ok n
begins_only infos target n h =
    ap (aim_at (starts_of infos)) h.1
    ∙ ap (due bad.BadTarget) (position_from-zero (nat_eq h.0) (starts_of infos) ∙ number_found infos 0 0 n h.0 h.2
    ∙ ap (λ (m : ℕ). Some m) (let z : 0 + n ≡ n = omega arith in z))

-- ---- the instructions of a code

-- the bytes of a code stand for instructions, whose targets are among them
abbrev pub IsCodeText : List Entry → List ℕ → List Info → List Op → Type 0
IsCodeText pool code infos ops = (code ≡ flat_map info_bytes infos)
    × AllStand info_bytes (IsOp (Begins (starts_of infos)) pool) 0 infos ops

-- instructions that are right, and whose targets are found, are the code's
pub text_found : (pool : List Entry) (code : List ℕ) (from : ℕ) (infos : List Info) (ops : List Op) → HaveUnits pool
    → IsCodeFrom pool 0 code (instructions infos) → ops_of pool from infos ≡ Ok ops → IsCodeText pool code infos ops
text_found pool code from infos ops fit h meant = (
  h.0,
  ops_found (Begins (starts_of infos)) (aim_at (starts_of infos)) pool from 0 infos ops fit
      (begins_found (starts_of infos)) h.1 meant,
)

-- the code's instructions are right, and their targets are found
pub text_only : (pool : List Entry) (code : List ℕ) (from : ℕ) (infos : List Info) (ops : List Op)
    → IsCodeText pool code infos ops → IsCodeFrom pool 0 code (instructions infos) × (ops_of pool from infos ≡ Ok ops)
text_only pool code from infos ops h = (
  (h.0, ops_right (Begins (starts_of infos)) (aim_at (starts_of infos)) pool 0 infos ops h.1),
  ops_only
      (Begins (starts_of infos)) (aim_at (starts_of infos)) pool from 0 infos ops (begins_only infos) h.1,
)

-- what is read of a code, with the targets found, is what its bytes stand for
pub code_found : (pool : List Entry) (code : List ℕ) (from : ℕ) (infos : List Info) (ops : List Op) → IsBytes code
    → HaveUnits pool → code_read pool code ≡ Ok (instructions infos) → ops_of pool from infos ≡ Ok ops
    → IsCodeText pool code infos ops
code_found pool code from infos ops fits fit h meant = text_found pool code from infos ops fit
    (read_code_found pool code (instructions infos) fits h) meant

-- what the bytes of a code stand for is read of it, with the targets found
pub code_only : (pool : List Entry) (code : List ℕ) (from : ℕ) (infos : List Info) (ops : List Op)
    → IsCodeText pool code infos ops
    → (code_read pool code ≡ Ok (instructions infos)) × (ops_of pool from infos ≡ Ok ops)
code_only pool code from infos ops h = let t = text_only pool code from infos ops h in
    (read_code_only pool code (instructions infos) t.0, t.1)

abbrev infos_of : CodeRead → List Info
infos_of (instructions infos) = infos
infos_of (has_left_out offset opcode) = []

same_infos : (x y : List Info) → (let R : Result CodeRead FormatFault = Ok (instructions x) in R) ≡ Ok (instructions y)
    → x ≡ y
same_infos x y h = let e : instructions x ≡ instructions y = cc in ap infos_of e

same_ops : (x y : List Op) → (let R : Result (List Op) FormatFault = Ok x in R) ≡ Ok y → x ≡ y
same_ops x y h = cc

-- so the bytes of a code stand for at most one list of instructions
pub one_code : (pool : List Entry) (code : List ℕ) (infos others : List Info) (ops other_ops : List Op)
    → IsCodeText pool code infos ops → IsCodeText pool code others other_ops → (infos ≡ others) × (ops ≡ other_ops)
one_code pool code infos others ops other_ops a b =
    let x = code_only pool code 0 infos ops a in
    let y = code_only pool code 0 others other_ops b in
    let is = same_infos infos others (sym x.0 ∙ y.0) in
    (is, same_ops ops other_ops (sym x.1 ∙ ap (ops_of pool 0) is ∙ y.1))

-- ---- with lines

pub lines_found : (pool : List Entry) (starts : List ℕ) (rows : List LineNumber) (at : ℕ) (infos : List Info)
    (ops : List Op) → AllStand info_bytes (IsOp (Begins starts) pool) at infos ops
    → AllStand info_bytes (IsIns pool starts rows) at infos (with_lines rows at infos ops)
lines_found pool starts rows at [] [] h = tt
lines_found pool starts rows at [] (o ∷ os) h = absurd h
lines_found pool starts rows at (info ∷ infos) [] h = absurd h
lines_found pool starts rows at (info ∷ infos) (o ∷ os) h =
    ((h.0, refl), lines_found pool starts rows (at + length (info_bytes info)) infos os h.1)

-- the instructions alone
abbrev pub op_in : Ins → Op
op_in ins = ins.op

pub lines_only : (pool : List Entry) (starts : List ℕ) (rows : List LineNumber) (at : ℕ) (infos : List Info)
    (ins : List Ins) → AllStand info_bytes (IsIns pool starts rows) at infos ins
    → AllStand info_bytes (IsOp (Begins starts) pool) at infos (map op_in ins)
    × (ins ≡ with_lines rows at infos (map op_in ins))
lines_only pool starts rows at [] [] h = (tt, refl)
lines_only pool starts rows at [] (i ∷ is) h = absurd h
lines_only pool starts rows at (info ∷ infos) [] h = absurd h
lines_only pool starts rows at (info ∷ infos) (i ∷ is) h =
    let others = lines_only pool starts rows (at + length (info_bytes info)) infos is h.1 in
    let one : i ≡ record { op = i.op; line = line_at rows at } = λ j. record { op = i.op; line = h.0.1 j } in (
      (h.0.0, others.0),
      ap (λ (k : Ins). k ∷ is) one
          ∙ ap (λ (ks : List Ins). (let K : Ins = record { op = i.op; line = line_at rows at } in K) ∷ ks) others.1,
    )
