-- A code is read as its instructions, and each means what it was.
use Rattle.std.proofs.Common.{◌≡◌, ℕ, zero, suc, ◌+◌, ◌-◌, ◌≤◌, true, false, leb, List, [], ◌∷◌, ◌++◌, length, map}
use Rattle.std.proofs.Common.{take, Result, Ok, ℤ, refl, sym, ap, ◌∙◌, arith}
use Rattle.std.specs.List.{flat_map}
use Rattle.std.proofs.lemmas.Bool.{le-leb, lt-leb}
use Rattle.std.proofs.lemmas.List.{drop_all, append-nil, length-append}
use Rattle.jv_base.specs.Place.{Place, start, after}
use Rattle.format_reading.specs.Spelling.{AllStand}
use Rattle.format_reading.specs.Reader.{u1, lead, give, here}
use Rattle.format_reading.specs.declared.fault.FormatKind.{FormatKind}
use Rattle.format_reading.proofs.Exact.{Takes, Takes-split, bind_is}
use Rattle.class_model.specs.declared.pool.Entry.{Entry}
use Rattle.class_model.specs.declared.constant.PoolConstant.{PoolConstant}
use Rattle.class_model.specs.declared.code.Ins.{Ins}
use Rattle.class_model.specs.declared.op.Op.{Op}
use Rattle.class_model.specs.InstructionStructure.{Info, info_bytes, starts_of}
use Rattle.class_model.specs.InstructionMeaning.{aim_at}
use Rattle.class_model.specs.ReadingCode.{instruction, begun, at_instruction, read_instruction, instructions, until_end}
use Rattle.class_model.specs.ReadingCode.{without_place, code_read, ops_from, ops_of}
use Rattle.class_model.specs.CanonicalCode.{places, places_from, size_of, code_bytes}
use Rattle.class_model.specs.WritableCode.{IsWritableCode}
use Rattle.class_model.proofs.BackPlain.{IsBack}
use Rattle.class_model.proofs.BackSizes.{info_is_there}
use Rattle.class_model.proofs.BackPlaces.{begins, begins_are}
use Rattle.class_model.proofs.BackCode.{op_in, infos, all_back}

-- ---- one instruction

-- an instruction of a code that begins at an offset of the file is read where its bytes stand
pub instruction_back : (entries : List Entry) (from at : ℕ) (info : Info) (aim : ℤ → Result ℕ FormatKind) (o : Op)
    (p q : Place) → IsBack aim entries at info o → p.at ≡ from + at → Takes p (info_bytes info) q
    → read_instruction entries from p ≡ Ok (instruction info, q)
unfolding read_instruction
instruction_back entries from at info aim o p q b here t =
    let offset : p.at - from ≡ at = omega (arith, here) in
    ap (λ (k : ℕ). at_instruction p.at (lead u1 (begun entries k) p)) offset ∙ ap (at_instruction p.at) (b.read p q t)

-- ---- all of them

-- the place behind a text is that many bytes further on
pub moved_by : (p q : Place) (text : List ℕ) → Takes p text q → q.at ≡ p.at + length text
moved_by p q text t = ap (λ (z : Place). z.at) t.moved

-- behind no byte is the same place
pub moved_none : (p q : Place) → Takes p [] q → p ≡ q
moved_none p q t = (λ i. record { bytes = p.bytes; at = (let e : p.at ≡ p.at + 0 = omega arith in e) i }) ∙ sym t.moved

pub here_is : {X : Type 0} (p : Place) → here {X = X} p ≡ Ok (p.at, p)
unfolding here
here_is p = refl

pub give_is : {A X : Type 0} (x : A) (p : Place) → give {X = X} x p ≡ Ok (x, p)
unfolding give
give_is x p = refl

module _ (aim : ℤ → Result ℕ FormatKind) (entries : List Entry) (from : ℕ) where
  -- instructions up to an end
  until_back : (list : List Info) (ops : List Op) (n at : ℕ) (p q : Place)
      → AllStand info_bytes (IsBack aim entries) at list ops → p.at ≡ from + at → Takes p (flat_map info_bytes list) q
      → length (flat_map info_bytes list) ≤ n → until_end n entries from q.at p ≡ Ok (instructions list, q)
  unfolding until_end
  until_back [] ops zero at p q all here t long = give_is (instructions []) p
      ∙ ap (λ (z : Place). Ok (instructions [], z)) (moved_none p q t)
  until_back [] ops (suc n) at p q all here t long =
      let same = moved_none p q t in
      let ended : leb q.at p.at ≡ true = le-leb _ _ (omega (arith, moved_by p q [] t)) in
      bind_is _ _ p p p.at (here_is p) ∙ rw ended (give_is (instructions []) p)
      ∙ ap (λ (z : Place). Ok (instructions [], z)) same
  until_back (info ∷ list) [] n at p q all here t long = absurd all
  until_back (info ∷ list) (o ∷ ops) zero at p q all here t long =
      absurd (omega (arith, info_is_there info, length-append (info_bytes info) (flat_map info_bytes list)))
  until_back (info ∷ list) (o ∷ ops) (suc n) at p q all here t long =
      let rest = flat_map info_bytes list in
      let parts = Takes-split p q (info_bytes info) rest t in
      let mid : Place = after (length (info_bytes info)) p in
      let some = info_is_there info in
      let two = length-append (info_bytes info) rest in
      let inside : leb q.at p.at
      ≡ false = lt-leb _ _ (omega (arith, moved_by p q (info_bytes info ++ rest) t, some, two)) in
      let one : read_instruction entries from p
      ≡ Ok (instruction info, mid) = instruction_back entries from at info aim o p mid all.0 here parts.0 in
      let others : until_end n entries from q.at mid ≡ Ok (instructions list, q) =
      until_back list ops n (at + length (info_bytes info)) mid q all.1 (omega (arith, here)) parts.1
      (omega (arith, long, some, two)) in
      bind_is _ _ p p p.at (here_is p)
      ∙ rw inside (bind_is _ _ p mid (instruction info) one ∙ bind_is _ _ mid q (instructions list) others
      ∙ give_is _ q)

  -- and what they mean
  ops_back : (list : List Info) (ops : List Op) (at : ℕ) → AllStand info_bytes (IsBack aim entries) at list ops
      → ops_from aim entries from at list ≡ Ok ops
  unfolding ops_from
  ops_back [] [] at all = refl
  ops_back [] (o ∷ ops) at all = absurd all
  ops_back (info ∷ list) [] at all = absurd all
  ops_back (info ∷ list) (o ∷ ops) at all = rw
      (all.0.meant, ops_back list ops (at + length (info_bytes info)) all.1) refl

-- ---- a whole code

-- all bytes are taken up to the end
pub takes_all : (bytes : List ℕ) → Takes (start bytes) bytes (after (length bytes) (start bytes))
takes_all bytes = record {
  parts = sym (append-nil bytes)
      ∙ ap (λ (t : List ℕ). bytes ++ t) (sym (drop_all (0 + length bytes) bytes (omega arith)));
  moved = refl;
}

-- within a file: the instructions of a code that begins at an offset of it
pub read_back : (entries : List Entry) (pool : List PoolConstant) (ins : List Ins) (n : ℕ) (p q : Place)
    → IsWritableCode entries pool ins → Takes p (code_bytes pool (places pool ins) ins) q
    → length (code_bytes pool (places pool ins) ins) ≤ n
    → until_end n entries p.at q.at p ≡ Ok (instructions (infos pool ins), q)
unfolding code_bytes
read_back entries pool ins n p q h t long = until_back (aim_at (starts_of (infos pool ins))) entries p.at
    (infos pool ins) (map op_in ins) n 0 p q (all_back entries pool ins h) (omega arith) t long

-- and their meaning
pub meant_back : (entries : List Entry) (pool : List PoolConstant) (ins : List Ins) (from : ℕ)
    → IsWritableCode entries pool ins → ops_of entries from (infos pool ins) ≡ Ok (map op_in ins)
meant_back entries pool ins from h = ops_back (aim_at (starts_of (infos pool ins))) entries from (infos pool ins)
    (map op_in ins) 0 (all_back entries pool ins h)

-- a code alone is read as its instructions
pub code_back : (entries : List Entry) (pool : List PoolConstant) (ins : List Ins) → IsWritableCode entries pool ins
    → code_read entries (code_bytes pool (places pool ins) ins) ≡ Ok (instructions (infos pool ins))
unfolding code_read
code_back entries pool ins h =
    let bytes = code_bytes pool (places pool ins) ins in
    ap (λ (k : ℕ). without_place (until_end (length bytes) entries 0 k (start bytes)))
    (let e : length bytes ≡ 0 + length bytes = omega arith in e)
    ∙ ap without_place (read_back entries pool ins (length bytes) (start bytes) (after (length bytes) (start bytes)) h
    (takes_all bytes) (omega arith))

-- ---- where they begin

begins_taken : (pool : List PoolConstant) (ins : List Ins) (at : ℕ)
    → begins pool ins at ≡ take (length ins) (places_from pool at ins)
begins_taken pool [] at = refl
begins_taken pool (i ∷ ins) at = ap (λ (t : List ℕ). at ∷ t) (begins_taken pool ins (at + size_of pool at i.op))

-- the starts are all places but the last
pub starts_back : (pool : List PoolConstant) (ins : List Ins)
    → starts_of (infos pool ins) ≡ take (length ins) (places pool ins)
unfolding places
starts_back pool ins = begins_are pool (places pool ins) ins 0 ∙ begins_taken pool ins 0
