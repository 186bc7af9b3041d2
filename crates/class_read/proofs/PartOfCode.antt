-- What is decoded of the code that is a part of a class file is what is read of that part.
use Rattle.std.proofs.Common.{◌∷◌, ◌≡◌, ℕ, ◌+◌, ◌-◌, ◌<◌, ◌≤◌, Bool, true, false, cond, eqb, List, [], ◌++◌, length}
use Rattle.std.proofs.Common.{take, drop, Result, Ok, Err, refl, sym, ap, subst, ◌∙◌, arith}
use Rattle.std.specs.Prelude.{slice_range, nat_lt}
use Rattle.std.proofs.lemmas.Bool.{eq-eqb, ltb-false}
use Rattle.std.proofs.lemmas.List.{length-append, length-take-le, length-drop, take-append-drop, take-take, drop-take}
use Rattle.std.proofs.lemmas.List.{append-nil, nil_from_length}
use Rattle.std.specs.List.{flat_map}
use Rattle.std.specs.Prelude.{IsErrAnd}
use Rattle.jv_base.specs.Outcome.{IsDue}
use Rattle.jv_base.specs.declared.outcome.Or.{Or}
use Rattle.jv_base.specs.declared.outcome.Or.TheVariants.{Fault, OutOfMemory}
use Rattle.jv_base.specs.declared.cursor.End.{End}
use Rattle.jv_base.specs.Place.{Place, start, taken_at, after, cut_off, ended}
use Rattle.jv_base.proofs.Results.{same_fault}
use Rattle.format_reading.specs.Fault.{cut, fault, inside_of_kind}
use Rattle.format_reading.specs.declared.fault.FormatFault.{FormatFault}
use Rattle.format_reading.specs.declared.fault.FormatKind.{FormatKind}
use Rattle.format_reading.specs.declared.fault.FormatKind.TheVariants as bad
use Rattle.format_reading.specs.Reader.{ReadsOr, bind, give, here, of_result, part, closed, after_read}
use Rattle.format_reading.proofs.Exact.{IsBytes, left}
use Rattle.class_model.specs.declared.pool.Entry.{Entry}
use Rattle.class_model.specs.declared.op.Op.{Op}
use Rattle.class_model.specs.InstructionStructure.{Info, info_bytes, starts_from, starts_of}
use Rattle.class_model.specs.InstructionMeaning.{aim_at}
use Rattle.class_model.specs.ReadingCode.{CodeRead, instructions, has_left_out, until_end, without_place, code_read}
use Rattle.class_model.specs.ReadingCode.{ops_of}
use Rattle.class_model.proofs.BackSizes.{info_is_there}
use Rattle.class_model.proofs.UntilLaw.{IsCodeFrom, until_exact, until_found}
use Rattle.code_read.specs.declared.decoding.Decoded.{Decoded}
use Rattle.code_read.specs.declared.fault.CodeFault.{CodeFault}
use Rattle.code_read.specs.declared.fault.CodeFault.TheVariants as code
use Rattle.code_read.specs.declared.fault.Wrong.{Wrong}
use Rattle.code_read.specs.declared.fault.Wrong.TheVariants as wrong
use Rattle.code_read.specs.Fault.{code_fault, wrong_of}
use Rattle.code_read.specs.Decoded.{with_starts, as_decoded, code_decoded}
use Rattle.class_read.specs.declared.instructions.Instructions.{Instructions}
use Rattle.class_read.specs.declared.instructions.Instructions.TheVariants.{All}
use Rattle.class_read.specs.bodies.Instructions.{instructions_of, read_instructions, or_left_out, in_file, offset_told}
use Rattle.class_read.proofs.ShiftedReaders.{behind, read_behind}
use Rattle.class_read.proofs.ShiftedCode.{until_shifts}
use Rattle.class_read.proofs.InstructionFaults.{kind_of, TellsIn, IsWithin, code_tells}
use Rattle.class_read.proofs.TargetFaults.{target_behind, ops_behind, targets_within}

-- ---- the code alone

-- what was read to the end of a code: it is what the bytes are
abbrev IsRead : List Entry → List ℕ → Result (CodeRead × Place) FormatFault → Type 0
IsRead pool bytes (Ok x) = IsCodeFrom pool 0 bytes x.0 × (x.1.at ≡ length bytes)
IsRead pool bytes (Err f) = IsWithin (length bytes) f

alone : (pool : List Entry) (bytes : List ℕ) (r : Result (CodeRead × Place) FormatFault) → IsBytes bytes
    → until_end (length bytes) pool 0 (length bytes) (start bytes) ≡ r → IsRead pool bytes r
alone pool bytes (Ok (x, q)) fits e =
    let o = (until_exact (length bytes) pool 0 (length bytes)).found (start bytes) x q fits e in
    let sum : length bytes ≡ length o.0 + length (left q) = ap length o.2.parts ∙ length-append o.0 (left q) in
    let f = until_found (length bytes) pool 0 (length bytes) 0 o.0 x (omega arith) (omega (arith, sum))
    (omega arith) o.1 in
    let moved : q.at ≡ 0 + length o.0 = ap (λ (z : Place). z.at) o.2.moved in
    let none : left q ≡ [] = nil_from_length (left q) (omega (arith, sum, f.1)) in
    let whole : bytes ≡ o.0 = o.2.parts ∙ ap (λ (t : List ℕ). o.0 ++ t) none ∙ append-nil o.0 in
    (subst (λ (t : List ℕ). IsCodeFrom pool 0 t x) (sym whole) f.0, moved ∙ f.1)
alone pool bytes (Err f) fits e = subst
    (λ (r : Result (CodeRead × Place) FormatFault). TellsIn (IsWithin (length bytes)) r) e
    (code_tells (length bytes) pool bytes (start bytes) fits refl)

-- ---- the same, as a part

-- a value before a place, or the fault
abbrev pub with_place : {A : Type 0} → Place → Result A FormatFault → Result (A × Place) FormatFault
with_place q (Ok x) = Ok (x, q)
with_place q (Err f) = Err f

-- a rule that a code can break is not that the bytes of the attribute end
kept_inside : (attribute o : ℕ) (w : Wrong) → inside_of_kind attribute o (kind_of w) ≡ fault o (kind_of w)
kept_inside attribute o wrong.Opcode = refl
kept_inside attribute o wrong.Operand = refl
kept_inside attribute o wrong.Cut = refl
kept_inside attribute o (wrong.LeftOut opcode) = refl

told_of : (from o : ℕ) (k : FormatKind)
    → or_left_out from (code_fault o (wrong_of k)) ≡ Err (fault (from + o) (kind_of (wrong_of k)))
told_of from o bad.BadOpcode = refl
told_of from o bad.BadOperand = refl
told_of from o _ = refl

-- the instructions, with the fault of a target
targets_told : (from : ℕ) (q : Place) (infos : List Info) (r : Result (List Op) FormatFault)
    → after_read q.at (λ ops. Ok (give (let I : Instructions = All
    (record { ops = ops; starts = starts_of infos }) in I))) (of_result (target_behind from r) q)
    ≡ with_place q (in_file from (with_starts infos r))
unfolding of_result give
targets_told from q infos (Ok ops) = refl
targets_told from q infos (Err f) = refl

-- what was read of the part leads to what is decoded
part_told : (pool : List Entry) (code : List ℕ) (front : List ℕ) (from attribute : ℕ) (end : Place)
    (r : Result (CodeRead × Place) FormatFault) → IsRead pool code r → from ≡ length front
    → end.at ≡ length front + length code
    → after_read from (λ read. Ok (instructions_of pool from read)) (closed attribute end (read_behind front r))
    ≡ with_place end (in_file from (as_decoded pool (without_place r)))
unfolding bind give
part_told pool code front from attribute end (Ok (instructions infos, q)) h is e =
    let at : q.at ≡ length code = h.1 in
    let all : eqb (length front + q.at) end.at ≡ true = eq-eqb _ _ (omega (arith, at, e)) in
    rw all (ap (λ (r : Result (List Op) FormatFault). after_read end.at
    (λ ops. Ok (give (let I : Instructions = All (record { ops = ops; starts = starts_of infos }) in I)))
    (of_result r end)) (ops_behind pool from infos h.0.1)
    ∙ targets_told from end infos (ops_of pool 0 infos))
part_told pool code front from attribute end (Ok (has_left_out offset opcode, q)) h is e =
    let at : q.at ≡ length code = h.1 in
    let all : eqb (length front + q.at) end.at ≡ true = eq-eqb _ _ (omega (arith, at, e)) in
    rw all refl
part_told pool code front from attribute end (Err f) h is e =
    let there : inside_of_kind attribute (length front + f.offset) f.kind
    ≡ fault (length front + f.offset) (kind_of (wrong_of f.kind)) =
    ap (inside_of_kind attribute (length front + f.offset)) h.0
    ∙ kept_inside attribute (length front + f.offset) (wrong_of f.kind) in
    ap (λ (g : FormatFault). let R : Result (Instructions × Place) FormatFault = Err g in R) there
    ∙ ap (λ (k : ℕ). let R : Result (Instructions × Place) FormatFault = Err
    (fault (k + f.offset) (kind_of (wrong_of f.kind))) in R) (sym is)
    ∙ ap (with_place end) (sym (told_of from f.offset f.kind))

-- the part is the code behind what is in front of it
part_is : (n : ℕ) (p : Place) → p.at + n ≤ length p.bytes
    → cut_off n p ≡ behind (take p.at p.bytes) (start (slice_range p.bytes p.at (p.at + n)))
part_is n p le =
    let few : length (take p.at p.bytes) ≡ p.at = length-take-le p.at p.bytes (omega (arith, le)) in
    let size : (p.at + n) - p.at ≡ n = omega arith in
    let parts : take (p.at + n) p.bytes ≡ take p.at p.bytes ++ take ((p.at + n) - p.at) (drop p.at p.bytes) =
    sym (take-append-drop p.at (take (p.at + n) p.bytes))
    ∙ ap (λ (xs : List ℕ). xs ++ drop p.at (take (p.at + n) p.bytes)) (take-take p.at (p.at + n) p.bytes (omega arith))
    ∙ ap (λ (xs : List ℕ). take p.at p.bytes ++ xs)
    (drop-take p.at n p.bytes ∙ ap (λ (k : ℕ). take k (drop p.at p.bytes)) (sym size)) in
    ap (λ (xs : List ℕ). let P : Place = record { bytes = xs; at = p.at } in P) parts
    ∙ ap (λ (k : ℕ). let P : Place = record {
      bytes = take p.at p.bytes ++ take ((p.at + n) - p.at)
          (drop p.at p.bytes);
      at = k;
    } in P) (let e : p.at ≡ length (take p.at p.bytes) + 0 = omega (arith, few) in e)

module _ (pool : List Entry) (attribute n : ℕ) (p : Place) where
  -- its bytes
  abbrev these : List ℕ
  these = slice_range p.bytes p.at (p.at + n)

  these_long : p.at + n ≤ length p.bytes → length these ≡ n
  these_long le = length-take-le ((p.at + n) - p.at) (drop p.at p.bytes) (omega (arith, le, length-drop p.at p.bytes))
      ∙ omega arith

  -- where there are enough bytes
  enough_read : IsBytes these → 0 < n → nat_lt (length p.bytes - p.at) n ≡ false
      → read_instructions pool attribute n p ≡ with_place (after n p) (in_file p.at (code_decoded pool these))
  unfolding read_instructions bind here part code_decoded code_read
  enough_read fits some test =
      let lt : n ≤ length p.bytes - p.at = ltb-false _ _ test in
      let le : p.at + n ≤ length p.bytes = omega (arith, lt, some) in
      let few : length (take p.at p.bytes) ≡ p.at = length-take-le p.at p.bytes (omega (arith, le)) in
      let long = these_long le in
      let shifted : until_end n pool p.at (p.at + n) (cut_off n p)
      ≡ read_behind (take p.at p.bytes) (until_end (length these) pool 0 (length these) (start these)) =
      ap (until_end n pool p.at (p.at + n)) (part_is n p le)
      ∙ until_shifts (take p.at p.bytes) p.at n (p.at + n) (sym few) refl n pool (start these)
      ∙ ap (λ (k : ℕ). read_behind (take p.at p.bytes) (until_end k pool 0 k (start these))) (sym long) in
      rw test (ap (λ (r : Result (CodeRead × Place) FormatFault). after_read p.at
      (λ read. Ok (instructions_of pool p.at read)) (closed attribute (after n p) r)) shifted
      ∙ part_told pool these (take p.at p.bytes) p.at attribute (after n p)
      (until_end (length these) pool 0 (length these) (start these))
      (alone pool these (until_end (length these) pool 0 (length these) (start these)) fits refl) (sym few)
      (omega (arith, few, long)))

-- a test, and what it chooses
enough : (b : Bool) (e : End) (x y : List ℕ × Place)
    → (let R : Result (List ℕ × Place) End = cond b (Err e) (Ok x) in R) ≡ Ok y → (b ≡ false) × (x ≡ y)
enough true e x y h = absurd cc
enough false e x y h = (refl, cc)

too_few : (b : Bool) (e f : End) (x : List ℕ × Place)
    → (let R : Result (List ℕ × Place) End = cond b (Err e) (Ok x) in R) ≡ Err f → (b ≡ true) × (e ≡ f)
too_few true e f x h = (refl, cc)
too_few false e f x h = absurd cc

-- the code that was taken is read as the part of its bytes
pub part_read : (pool : List Entry) (attribute n : ℕ) (p q : Place) (code : List ℕ) → IsBytes code → 0 < n
    → taken_at n p ≡ Ok (code, q)
    → read_instructions pool attribute n p ≡ with_place q (in_file p.at (code_decoded pool code))
part_read pool attribute n p q code fits some h =
    let t = enough (nat_lt (length p.bytes - p.at) n) (ended p) (slice_range p.bytes p.at (p.at + n), after n p)
    (code, q) h in
    let same : these pool attribute n p ≡ code = ap (λ (x : List ℕ × Place). x.0) t.1 in
    enough_read pool attribute n p (subst (λ (b : List ℕ). IsBytes b) (sym same) fits) some t.0
    ∙ ap (λ (x : List ℕ × Place). with_place x.1 (in_file p.at (code_decoded pool x.0))) t.1

-- too few bytes
pub part_ends : (pool : List Entry) (attribute n : ℕ) (p : Place) (e : End) → taken_at n p ≡ Err e
    → read_instructions pool attribute n p ≡ Err (cut e)
unfolding read_instructions bind here part
part_ends pool attribute n p e h =
    let t = too_few (nat_lt (length p.bytes - p.at) n) (ended p) e (slice_range p.bytes p.at (p.at + n), after n p) h in
    rw (t.0) (ap (λ (f : End). let R : Result (Instructions × Place) FormatFault = Err (cut f) in R) t.1)

-- ---- the offsets that are told

told_within : (end o : ℕ) (k : FormatKind) → o ≤ end → offset_told (code_fault o (wrong_of k)) ≤ end
told_within end o bad.BadOpcode le = le
told_within end o bad.BadOperand le = le
told_within end o _ le = le

starts_within : (end : ℕ) (infos : List Info) (r : Result (List Op) FormatFault) (f : CodeFault)
    → TellsIn (λ g. g.offset ≤ end) r → with_starts infos r ≡ Err f → offset_told f ≤ end
starts_within end infos (Ok ops) f h e = absurd cc
starts_within end infos (Err g) f h e = subst (λ (x : CodeFault). offset_told x ≤ end) (same_fault _ f e) h

read_within : (pool : List Entry) (bytes : List ℕ) (r : Result (CodeRead × Place) FormatFault) (f : CodeFault)
    → IsRead pool bytes r → as_decoded pool (without_place r) ≡ Err f → offset_told f ≤ length bytes
read_within pool bytes (Ok (instructions infos, q)) f h e =
    let size = ap length h.0.0 in
    starts_within (length bytes) infos (ops_of pool 0 infos) f
    (targets_within (aim_at (starts_of infos)) pool (length bytes) 0 infos (omega (arith, size))) e
read_within pool bytes (Ok (has_left_out offset opcode, q)) f h e =
    let same : code.LeftOutOpcode offset opcode
    ≡ f = cc in subst (λ (x : CodeFault). offset_told x ≤ length bytes) same
    (let z : 0 ≤ length bytes = omega arith in z)
read_within pool bytes (Err g) f h e =
    let same : code_fault g.offset (wrong_of g.kind)
    ≡ f = cc in subst (λ (x : CodeFault). offset_told x ≤ length bytes) same
    (told_within (length bytes) g.offset g.kind h.1)

-- none is behind the end of the code
pub fault_within : (pool : List Entry) (bytes : List ℕ) (f : CodeFault) → IsBytes bytes
    → code_decoded pool bytes ≡ Err f → offset_told f ≤ length bytes
unfolding code_decoded code_read
fault_within pool bytes f fits h = read_within pool bytes
    (until_end (length bytes) pool 0 (length bytes) (start bytes)) f
    (alone pool bytes (until_end (length bytes) pool 0 (length bytes) (start bytes)) fits refl) h

-- ---- how many instructions there are

starts_few : (at : ℕ) (infos : List Info) → length (starts_from at infos) ≤ length (flat_map info_bytes infos)
starts_few at [] = omega arith
starts_few at (info ∷ infos) =
    let size = length-append (info_bytes info) (flat_map info_bytes infos) in
    let some = info_is_there info in
    let others = starts_few (at + length (info_bytes info)) infos in
    omega (arith, size, some, others)

with_few : (end : ℕ) (infos : List Info) (r : Result (List Op) FormatFault) (d : Decoded)
    → length (starts_of infos) ≤ end → with_starts infos r ≡ Ok d → length d.starts ≤ end
with_few end infos (Ok ops) d h e = let same : starts_of infos
    ≡ d.starts = cc in subst (λ (s : List ℕ). length s ≤ end) same h
with_few end infos (Err g) d h e = absurd cc

read_few : (pool : List Entry) (bytes : List ℕ) (r : Result (CodeRead × Place) FormatFault) (d : Decoded)
    → IsRead pool bytes r → as_decoded pool (without_place r) ≡ Ok d → length d.starts ≤ length bytes
read_few pool bytes (Ok (instructions infos, q)) d h e =
    let size = ap length h.0.0 in
    let few = starts_few 0 infos in
    with_few (length bytes) infos (ops_of pool 0 infos) d (omega (arith, size, few)) e
read_few pool bytes (Ok (has_left_out offset opcode, q)) d h e = absurd cc
read_few pool bytes (Err g) d h e = absurd cc

-- at most one for each byte
pub count_within : (pool : List Entry) (bytes : List ℕ) (d : Decoded) → IsBytes bytes → code_decoded pool bytes ≡ Ok d
    → length d.starts ≤ length bytes
unfolding code_decoded code_read
count_within pool bytes d fits h = read_few pool bytes (until_end (length bytes) pool 0 (length bytes) (start bytes)) d
    (alone pool bytes (until_end (length bytes) pool 0 (length bytes) (start bytes)) fits refl) h

-- ---- what a call answers

-- the place behind bytes that were taken
pub taken_behind : (n : ℕ) (p q : Place) (code : List ℕ) → taken_at n p ≡ Ok (code, q) → q.at ≡ p.at + n
taken_behind n p q code h =
    let t = enough (nat_lt (length p.bytes - p.at) n) (ended p) (slice_range p.bytes p.at (p.at + n), after n p)
    (code, q) h in sym (ap (λ (x : List ℕ × Place). x.1.at) t.1)

-- what is due of a part is read of the whole
pub due_read : {A : Type 0} (result : Result A (Or FormatFault)) (q : Place) (due : Result A FormatFault)
    (d : Result (A × Place) FormatFault) → IsDue result due → d ≡ with_place q due → ReadsOr result q d
due_read (Ok x) q due d h e = e ∙ ap (with_place q) h
due_read (Err (Fault f)) q due d h e = e ∙ ap (with_place q) h
due_read (Err OutOfMemory) q due d h e = tt

-- where the bytes end, too few are left
pub ends_read : {A : Type 0} (result : Result A (Or FormatFault)) (q : Place) (d : Result (A × Place) FormatFault)
    (end : End) → IsErrAnd result (λ o. (x : FormatFault) × (x ≡ cut end) × (o ≡ Fault x)) → d ≡ Err (cut end)
    → ReadsOr result q d
ends_read (Ok x) q d end h e = absurd h
ends_read (Err (Fault f)) q d end h e = let same : f ≡ h.0 = cc in e
    ∙ ap (λ (g : FormatFault). let R : Result (_ × Place) FormatFault = Err g in R) (sym (same ∙ h.1))
ends_read (Err OutOfMemory) q d end h e = tt
