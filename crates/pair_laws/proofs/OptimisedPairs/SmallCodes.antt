-- A code of a class file has fewer instructions and targets than bytes have room for.
use Rattle.std.proofs.Common.{◌≡◌, ◌<◌, ◌≤◌, ℕ, ◌+◌, ◌-◌, ◌^◌, Bool, true, false, cond, eqb, List, [], ◌∷◌, ◌++◌, length}
use Rattle.std.proofs.Common.{Option, Some, None, map, refl, sym, ap, subst, arith}
use Rattle.std.specs.Prelude.{IfSome}
use Rattle.std.specs.Int.{w32, to_be_bytes}
use Rattle.std.specs.List.{AllByRecursion, flat_map}
use Rattle.std.specs.Option.{option_map}
use Rattle.std.proofs.lemmas.List.{length-append, length-map}
use Rattle.std.proofs.lemmas.Option.{same_Some}
use Rattle.format_reading.specs.Spelling.{AllStand}
use Rattle.jv_base.proofs.Lists.{all_weaker}
use Rattle.tree_io.specs.declared.file_at.FileAt.{FileAt}
use Rattle.class_model.specs.ClassFile.{AreMethods, ClassFile, File}
use Rattle.class_model.specs.CodeAttribute.{IsCode}
use Rattle.class_model.specs.Flags.{is_interface}
use Rattle.class_model.specs.InstructionStructure.{Info, MatchOffset, info_bytes, match_offset, starts_of}
use Rattle.class_model.specs.InstructionStructure.{Plain, Bipush, Sipush, Ldc, LdcWide, Local, WideLocal, Iinc, WideIinc, Branch}
use Rattle.class_model.specs.InstructionStructure.{GotoWide, TableSwitch, LookupSwitch, MemberOperand, InvokeInterface}
use Rattle.class_model.specs.InstructionStructure.{ClassOperand, NewArray, MultiNewArray}
use Rattle.class_model.specs.Instructions.{Begins, IsOp, Makes}
use Rattle.class_model.specs.LineNumbers.{LineNumber}
use Rattle.class_model.specs.CodeAttribute.{IsIns}
use Rattle.class_model.specs.Members.{IsCodeOf}
use Rattle.class_model.specs.Opcodes.{branch_op, cond_of}
use Rattle.class_model.specs.Between.{between}
use Rattle.class_model.specs.Structure.{AttributeInfo, CodeInfo, MemberInfo}
use Rattle.class_model.specs.WellFormed.{IsGoodOp}
use Rattle.class_model.specs.declared.class.Class.{Class}
use Rattle.class_model.specs.declared.class.LeftKind.{LeftKind}
use Rattle.class_model.specs.declared.class.Method.{Method}
use Rattle.class_model.specs.declared.code.Code.{Code}
use Rattle.class_model.specs.declared.code.Ins.{Ins}
use Rattle.class_model.specs.declared.frame.VType.{VType}
use Rattle.class_model.specs.declared.op.Case.{Case}
use Rattle.class_model.specs.declared.op.Cond.{Cond}
use Rattle.class_model.specs.declared.op.Op.{Op}
use Rattle.class_model.specs.declared.op.Op.TheVariants as op
use Rattle.class_model.specs.declared.pool.Entry.{Entry}
use Rattle.class_model.proofs.BackSizes.{info_is_there}
use Rattle.class_model.proofs.ConstantLaw.{AllNameRight}
use Rattle.class_model.proofs.GoodPool.{pool_names, pool_units}
use Rattle.class_model.proofs.NameLaw.{HaveUnits}
use Rattle.class_laws.proofs.FormedOps.{op_formed}
use Rattle.class_laws.proofs.FormedPlaces.{stand_long}
use Rattle.class_laws.proofs.FormedPool.{EntryFits, pool_fits}
use Rattle.class_pool.specs.Faults.{classes_of}
use Rattle.class_pool.specs.declared.fault.NamedClass.{NamedClass}
use Rattle.code_edit.specs.Flow.{targets}
use Rattle.set_read.specs.Accepted.{AreRead}
use Rattle.set_read.proofs.Few.{as_long}

-- ---- targets

-- an instruction of which no target stands in a code without instructions has one at most
few_targets : (o : Op) → IsGoodOp 0 o → length (targets o) ≤ 1
few_targets (op.IfZero c to) h = omega arith
few_targets (op.IfCmp c to) h = omega arith
few_targets (op.IfRef eq to) h = omega arith
few_targets (op.IfNull null to) h = omega arith
few_targets (op.Goto to) h = omega arith
few_targets (op.TableSwitch low other cases) h = absurd (omega (arith, h.other_target))
few_targets (op.LookupSwitch other cases) h = absurd (omega (arith, h.other_target))
few_targets o h = omega arith

abbrev HasOne : (ℕ → Op) → Type 0
HasOne make = (to : ℕ) → length (targets (make to)) ≤ 1

either : (b : Bool) (make : ℕ → Op) (other : Option (ℕ → Op)) → HasOne make → IfSome other HasOne
    → IfSome (cond b (Some make) other) HasOne
either true make other h k = h
either false make other h k = k

branch_by : (a b : Bool) (x y : Option Cond) (other : Option (ℕ → Op)) → IfSome other HasOne
    → IfSome (cond a (option_map (λ (c : Cond) (to : ℕ). op.IfZero c to) x)
    (cond b (option_map (λ (c : Cond) (to : ℕ). op.IfCmp c to) y) other)) HasOne
branch_by true b None y other h = tt
branch_by true b (Some c) y other h = λ to. omega arith
branch_by false true x None other h = tt
branch_by false true x (Some c) other h = λ to. omega arith
branch_by false false x y other h = h

branch_one : (c : ℕ) → IfSome (branch_op c) HasOne
branch_one c =
    let f : Option (ℕ → Op) = cond (eqb c 0xC7) (Some (λ to. op.IfNull false to)) None in
    let e : Option (ℕ → Op) = cond (eqb c 0xC6) (Some (λ to. op.IfNull true to)) f in
    let d : Option (ℕ → Op) = cond (eqb c 0xA7) (Some op.Goto) e in
    let b : Option (ℕ → Op) = cond (eqb c 0xA6) (Some (λ to. op.IfRef false to)) d in
    let a : Option (ℕ → Op) = cond (eqb c 0xA5) (Some (λ to. op.IfRef true to)) b in
    branch_by (between 0x99 0x9E c) (between 0x9F 0xA4 c) (cond_of (c - 0x99)) (cond_of (c - 0x9F)) a
    (either (eqb c 0xA5) (λ to. op.IfRef true to) b (λ to. omega arith)
    (either (eqb c 0xA6) (λ to. op.IfRef false to) d (λ to. omega arith)
    (either (eqb c 0xA7) op.Goto e (λ to. omega arith)
    (either (eqb c 0xC6) (λ to. op.IfNull true to) f (λ to. omega arith)
    (either (eqb c 0xC7) (λ to. op.IfNull false to) None (λ to. omega arith) tt)))))

made_one : (table : Option (ℕ → Op)) (to : ℕ) (o : Op) → IfSome table HasOne → Makes table to o
    → length (targets o) ≤ 1
made_one None to o h m = absurd cc
made_one (Some make) to o h m =
    subst (λ (x : Op). length (targets x) ≤ 1) (same_Some (make to) o m) (h to)

-- elements that have each a byte
one_each : {X : Type 0} (f : X → List ℕ) → ((x : X) → 1 ≤ length (f x)) → (xs : List X)
    → length xs ≤ length (flat_map f xs)
one_each f each [] = omega arith
one_each f each (x ∷ xs) = omega (arith, each x, one_each f each xs, length-append (f x) (flat_map f xs))

module _ (pool : List Entry) (units : HaveUnits pool) (right : AllNameRight pool)
    (fits : AllByRecursion EntryFits pool) where
  -- an instruction that leads nowhere
  nowhere_formed : (at : ℕ) (info : Info) (o : Op) → IsOp (Begins []) pool at info o → length (targets o) ≤ 1
  nowhere_formed at info o h =
      few_targets o (op_formed pool units right fits [] 0 refl at info o h).good

  op_small : (starts : List ℕ) (at : ℕ) (info : Info) (o : Op) → IsOp (Begins starts) pool at info o
      → length (targets o) ≤ 1 + length (info_bytes info)
  op_small starts at (Plain c) o h = let one = nowhere_formed at (Plain c) o h in omega (arith, one)
  op_small starts at (Bipush byte) o h = let one = nowhere_formed at (Bipush byte) o h in omega (arith, one)
  op_small starts at (Sipush short) o h = let one = nowhere_formed at (Sipush short) o h in omega (arith, one)
  op_small starts at (Ldc index) o h = let one = nowhere_formed at (Ldc index) o h in omega (arith, one)
  op_small starts at (LdcWide c index) o h = let one = nowhere_formed at (LdcWide c index) o h in omega (arith, one)
  op_small starts at (Local c index) o h = let one = nowhere_formed at (Local c index) o h in omega (arith, one)
  op_small starts at (WideLocal c index) o h = let one = nowhere_formed at (WideLocal c index) o h in omega (arith, one)
  op_small starts at (Iinc index const) o h = let one = nowhere_formed at (Iinc index const) o h in omega (arith, one)
  op_small starts at (WideIinc index const) o h =
      let one = nowhere_formed at (WideIinc index const) o h in omega (arith, one)
  op_small starts at (Branch c branch) o h =
      let one = made_one (branch_op c) h.1 o (branch_one c) h.3 in omega (arith, one)
  op_small starts at (GotoWide branch) o h =
      subst (λ (x : Op). length (targets x) ≤ 1 + length (info_bytes (GotoWide branch))) (sym h.2) (omega arith)
  op_small starts at (TableSwitch pad default low high offsets) o h =
      let one : (n : ℕ) → 1 ≤ length (to_be_bytes w32 n) = λ n. omega arith in
      let many : length offsets ≤ length (flat_map (to_be_bytes w32) offsets) = one_each (to_be_bytes w32) one offsets in
      let long : length offsets ≡ length h.cases = as_long _ offsets h.cases h.cases_lead in
      let highs : List ℕ = to_be_bytes w32 high ++ flat_map (to_be_bytes w32) offsets in
      let lows : List ℕ = to_be_bytes w32 low ++ highs in
      let defaults : List ℕ = to_be_bytes w32 default ++ lows in
      subst (λ (x : Op). length (targets x) ≤ 1 + length (info_bytes (TableSwitch pad default low high offsets))) (sym h.is)
      (omega (
        arith,
        many,
        long,
        length-append pad defaults,
        length-append (to_be_bytes w32 default) lows,
        length-append (to_be_bytes w32 low) highs,
        length-append (to_be_bytes w32 high) (flat_map (to_be_bytes w32) offsets),
      ))
  op_small starts at (LookupSwitch pad default pairs) o h =
      let one : (p : MatchOffset) → 1 ≤ length (match_offset p) = λ p. omega arith in
      let many : length pairs ≤ length (flat_map match_offset pairs) = one_each match_offset one pairs in
      let long : length pairs ≡ length h.cases = as_long _ pairs h.cases h.cases_lead in
      let counted : List ℕ = to_be_bytes w32 (length pairs) ++ flat_map match_offset pairs in
      let defaults : List ℕ = to_be_bytes w32 default ++ counted in
      subst (λ (x : Op). length (targets x) ≤ 1 + length (info_bytes (LookupSwitch pad default pairs))) (sym h.is)
      (omega (
        arith,
        many,
        long,
        length-map h.cases (λ (c : Case). c.to),
        length-append pad defaults,
        length-append (to_be_bytes w32 default) counted,
        length-append (to_be_bytes w32 (length pairs)) (flat_map match_offset pairs),
      ))
  op_small starts at (MemberOperand c index) o h =
      let one = nowhere_formed at (MemberOperand c index) o h in omega (arith, one)
  op_small starts at (InvokeInterface index count) o h =
      let one = nowhere_formed at (InvokeInterface index count) o h in omega (arith, one)
  op_small starts at (ClassOperand c index) o h =
      let one = nowhere_formed at (ClassOperand c index) o h in omega (arith, one)
  op_small starts at (NewArray atype) o h = let one = nowhere_formed at (NewArray atype) o h in omega (arith, one)
  op_small starts at (MultiNewArray index dimensions) o h =
      let one = nowhere_formed at (MultiNewArray index dimensions) o h in omega (arith, one)

  -- ---- codes

  ins_small : (starts : List ℕ) (lines : List LineNumber) (most : ℕ) (infos : List Info) (ins : List Ins) (at : ℕ)
      → AllStand info_bytes (IsIns pool starts lines) at infos ins → length (flat_map info_bytes infos) ≤ most
      → AllByRecursion (λ (i : Ins). length (targets i.op) ≤ 1 + most) ins
  ins_small starts lines most [] [] at h low = tt
  ins_small starts lines most [] (i ∷ ins) at h low = absurd h
  ins_small starts lines most (info ∷ infos) [] at h low = absurd h
  ins_small starts lines most (info ∷ infos) (i ∷ ins) at h low =
      let both = length-append (info_bytes info) (flat_map info_bytes infos) in
      let one = op_small starts at info i.op h.0.0 in (
        omega (arith, one, both, low),
        ins_small starts lines most infos ins (at + length (info_bytes info)) h.1 (omega (arith, both, low)),
      )

-- a code has fewer than 65,536 instructions, and each has no more targets
pub record IsSmall (code : Code) : Type 0 where
  pub few : length code.ins < 2 ^ 16
  pub targets : AllByRecursion (λ (i : Ins). length (targets i.op) ≤ 2 ^ 16) code.ins

module _ (pool : List Entry) (units : HaveUnits pool) (right : AllNameRight pool)
    (fits : AllByRecursion EntryFits pool) where
  code_small : (first : List VType) (raw : CodeInfo) (code : Code) (left_out : Option LeftKind)
      → IsCode pool first raw code left_out → IsSmall code
  code_small first raw code left_out c =
      let infos_many : length c.infos ≡ length code.ins =
      stand_long (IsIns pool (starts_of c.infos) c.lines) c.infos code.ins 0 c.instructions in
      let size : length raw.code ≡ length (flat_map info_bytes c.infos) = ap length c.is in
      let many = one_each info_bytes (λ info. info_is_there info) c.infos in
      let low : length (flat_map info_bytes c.infos) ≤ 2 ^ 16 - 1 = omega (arith, size, c.sizes.length_to) in
      record {
        few = omega (arith, infos_many, many, low);
        targets = all_weaker (λ (i : Ins). length (targets i.op) ≤ 1 + (2 ^ 16 - 1))
            (λ (i : Ins). length (targets i.op) ≤ 2 ^ 16) (λ i h. omega (arith, h)) code.ins
            (ins_small pool units right fits (starts_of c.infos) c.lines (2 ^ 16 - 1) c.infos code.ins 0 c.instructions
            low);
      }

  body_small : (first : List VType) (flags : ℕ) (b : Bool) (all : List AttributeInfo) (o : Option Code)
      (kind : Option LeftKind) → IsCodeOf pool first flags b all o kind → IfSome o IsSmall
  body_small first flags true (a ∷ []) (Some code) kind h = code_small first h.0 code kind h.2
  body_small first flags true (a ∷ []) None kind h = tt
  body_small first flags true [] o kind h = absurd h
  body_small first flags true (a ∷ b ∷ others) o kind h = absurd h
  body_small first flags false [] o kind h = subst (λ (x : Option Code). IfSome x IsSmall) (sym h.0) tt
  body_small first flags false (a ∷ others) o kind h = absurd h

  methods_small : (in_interface : Bool) (class : List ℕ) (raws : List MemberInfo) (ms : List Method)
      (kinds : List (Option LeftKind)) → AreMethods pool in_interface class raws ms kinds
      → AllByRecursion (λ (m : Method). IfSome m.code IsSmall) ms
  methods_small in_interface class [] [] [] h = tt
  methods_small in_interface class (r ∷ rs) (m ∷ ms) (k ∷ ks) h =
      (body_small _ _ _ _ m.code k h.0.code, methods_small in_interface class rs ms ks h.1)
  methods_small in_interface class [] [] (k ∷ ks) h = absurd h
  methods_small in_interface class [] (m ∷ ms) kinds h = absurd h
  methods_small in_interface class (r ∷ rs) [] kinds h = absurd h
  methods_small in_interface class (r ∷ rs) (m ∷ ms) [] h = absurd h

-- the codes of a class that bytes spell are small
spelled_small : (bytes : List ℕ) (c : Class) → File bytes c → AllByRecursion (λ (m : Method). IfSome m.code IsSmall) c.methods
spelled_small bytes c h =
    let raw : ClassFile = h.0 in
    let pool = h.3.constant_pool in
    methods_small h.2 (pool_units raw.constant_pool_count raw.constant_pool h.2 pool)
    (pool_names raw.constant_pool_count raw.constant_pool h.2 pool)
    (pool_fits raw.constant_pool_count raw.constant_pool h.2 pool) (is_interface raw.access_flags) c.name raw.methods
    c.methods h.3.left_out_kinds h.3.methods

read_small : (files : List FileAt) (named : List NamedClass) → AreRead files named
    → AllByRecursion (λ (c : Class). AllByRecursion (λ (m : Method). IfSome m.code IsSmall) c.methods) (classes_of named)
read_small [] [] h = tt
read_small (f ∷ files) (n ∷ named) h = (spelled_small f.bytes n.class h.0.1, read_small files named h.1)
read_small [] (n ∷ named) h = absurd h
read_small (f ∷ files) [] h = absurd h

-- so are those of a set that is read of files
pub set_small : (files : List FileAt) (named : List NamedClass) (classes : List Class) → AreRead files named
    → classes ≡ classes_of named
    → AllByRecursion (λ (c : Class). AllByRecursion (λ (m : Method). IfSome m.code IsSmall) c.methods) classes
set_small files named classes read are =
    subst (λ (cs : List Class). AllByRecursion (λ (c : Class). AllByRecursion (λ (m : Method). IfSome m.code IsSmall)
    c.methods) cs) (sym are) (read_small files named read)
