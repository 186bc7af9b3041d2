-- Codes with the places of their instructions.
use Rattle.std.proofs.Common.{◌≡◌, ℕ, ◌+◌, ◌^◌, ◌<◌, ◌≤◌, Bool, true, false, List, [], ◌∷◌, ◌++◌, length, take}
use Rattle.std.proofs.Common.{Option, Some, Result, Ok, Err, refl, sym, ap, ◌∙◌, arith}
use Rattle.std.specs.Prelude.{All, nat_lt, slice_index}
use Rattle.std.specs.List.{AllByRecursion}
use Rattle.std.proofs.lemmas.Bool.{ltb-true}
use Rattle.std.proofs.lemmas.List.{length-append}
use Rattle.std.proofs.lemmas.List.Elements.{All-from_recursion}
use Rattle.std.proofs.lemmas.List.Sums.{prefix_len-le-length}
use Rattle.std.specs.List.{position_or_len}
use Rattle.jv_base.specs.declared.outcome.Or.{Or}
use Rattle.jv_base.specs.declared.outcome.Or.TheVariants.{Fault, OutOfMemory}
use Rattle.jv_base.specs.Outcome.{◌>>=◌, FaultIs}
use Rattle.class_model.specs.declared.limit.WriteLimit.{WriteLimit}
use Rattle.class_model.specs.declared.constant.PoolConstant.{PoolConstant}
use Rattle.class_model.specs.declared.constant.PoolConstant.TheVariants.{Integer, Long, Str}
use Rattle.class_model.specs.declared.op.Op.{Op}
use Rattle.class_model.specs.declared.op.Op.TheVariants as op
use Rattle.class_model.specs.declared.code.Code.{Code}
use Rattle.class_model.specs.declared.code.Ins.{Ins}
use Rattle.class_model.specs.InstructionStructure.{info_bytes}
use Rattle.class_model.specs.CanonicalPool.{same, fieldref, methodref, class_constant, type_name}
use Rattle.class_model.specs.CanonicalCode.{op_info, size_of, places_from, places, code_bytes}
use Rattle.class_model.specs.WriteLimits.{branches_fit, code_fits}
use Rattle.class_model.proofs.BackSizes.{size_is}
use Rattle.code_write.specs.declared.encoding.Coded.{Coded}
use Rattle.code_write.specs.Coded.{HasIndex, HasIndices, placed, coded}
use Rattle.code_write.proofs.Ready.{fit}
use Rattle.code_write.proofs.Ends.{bytes_from}
use Rattle.class_write.specs.declared.placing.PlacedCode.{PlacedCode}
use Rattle.class_write.specs.bodies.Placing.{placed_code, code_due}

-- ---- indices

module _ (pool : List PoolConstant) (few : length pool + 1 < 2 ^ 16) where
  -- the index of a constant, or the one behind the last, has two bytes
  pub has_index : (k : PoolConstant) → HasIndex pool k
  has_index k = let within : position_or_len (same k) pool ≤ length pool = prefix_len-le-length _ pool in omega
      (arith, within, few)

  has_indices : (o : Op) → HasIndices pool o
  has_indices (op.PushInt n) = λ wide. has_index (Integer n)
  has_indices (op.PushLong n) = λ wide. has_index (Long n)
  has_indices (op.PushText units) = has_index (Str units)
  has_indices (op.GetStatic reference) = has_index (fieldref reference)
  has_indices (op.PutStatic reference) = has_index (fieldref reference)
  has_indices (op.GetField reference) = has_index (fieldref reference)
  has_indices (op.PutField reference) = has_index (fieldref reference)
  has_indices (op.InvokeVirtual reference) = has_index (methodref reference)
  has_indices (op.InvokeSpecial reference) = has_index (methodref reference)
  has_indices (op.InvokeStatic reference) = has_index (methodref reference)
  has_indices (op.InvokeInterface reference) = has_index (methodref reference)
  has_indices (op.New name) = has_index (class_constant name)
  has_indices (op.ANewArray ty) = has_index (class_constant (type_name ty))
  has_indices (op.CheckCast ty) = has_index (class_constant (type_name ty))
  has_indices (op.InstanceOf ty) = has_index (class_constant (type_name ty))
  has_indices (op.MultiNewArray ty dimensions) = has_index (class_constant (type_name ty))
  has_indices _ = tt

  all_have : (ins : List Ins) → AllByRecursion (λ (i : Ins). HasIndices pool i.op) ins
  all_have [] = tt
  all_have (i ∷ ins) = (has_indices i.op, all_have ins)

  -- so has that of each constant that an instruction names
  pub all_have_indices : (ins : List Ins) → All (λ (i : Ins). HasIndices pool i.op) ins
  all_have_indices ins = All-from_recursion (λ (i : Ins). HasIndices pool i.op) ins (all_have ins)

-- ---- places

module _ (pool : List PoolConstant) where
  bytes_behind : (all : List ℕ) (at : ℕ) (i : Ins) (ins : List Ins)
      → at + length (bytes_from pool all at (i ∷ ins))
      ≡ at + size_of pool at i.op + length (bytes_from pool all (at + size_of pool at i.op) ins)
  bytes_behind all at i ins =
      let info = op_info pool (slice_index all) at i.op in
      omega (
        arith,
        size_is pool (slice_index all) at i.op,
        length-append (info_bytes info)
            (bytes_from pool all (at + size_of pool at i.op) ins),
      )

  last_is : (all : List ℕ) (at : ℕ) (ins : List Ins)
      → take (length ins) (places_from pool at ins) ++ (at + length (bytes_from pool all at ins)) ∷ []
      ≡ places_from pool at ins
  last_is all at [] = ap (λ k. k ∷ []) (let e : at + 0 ≡ at = omega arith in e)
  last_is all at (i ∷ ins) =
      let next = at + size_of pool at i.op in
      ap (λ k. at ∷ (take (length ins) (places_from pool next ins) ++ k ∷ [])) (bytes_behind all at i ins)
      ∙ ap (λ (ps : List ℕ). at ∷ ps) (last_is all next ins)

  -- behind the places of the instructions is the length of the code
  pub places_end : (all : List ℕ) (ins : List Ins)
      → take (length ins) (places pool ins) ++ length (code_bytes pool all ins) ∷ [] ≡ places pool ins
  unfolding places code_bytes
  places_end all ins = ap (λ k. take (length ins) (places_from pool 0 ins) ++ k ∷ [])
      (let e : length (bytes_from pool all 0 ins) ≡ 0
      + length (bytes_from pool all 0 ins) = omega arith in e) ∙ last_is all 0 ins

  all_short : (all : List ℕ) (n at : ℕ) (ins : List Ins) → at + length (bytes_from pool all at ins) < n
      → AllByRecursion (λ place. place < n) (places_from pool at ins)
  all_short all n at [] lt = (omega arith, tt)
  all_short all n at (i ∷ ins) lt =
      let next = at + size_of pool at i.op in
      (omega arith, all_short all n next ins (omega (arith, lt, bytes_behind all at i ins)))

  -- no place lies behind the length of the code
  pub places_short : (n : ℕ) (all : List ℕ) (ins : List Ins) → length (code_bytes pool all ins) < n
      → All (λ place. place < n) (places pool ins)
  unfolding places code_bytes
  places_short n all ins lt = All-from_recursion (λ place. place < n) (places_from pool 0 ins)
      (all_short all n 0 ins (omega (arith, lt)))

-- ---- the code

abbrev coded_as : Bool → ℕ → List ℕ → (List ℕ → Result (Unit {0}) WriteLimit) → (List ℕ → Coded)
    → Result Coded WriteLimit
coded_as b n all near made = (fit b n >>= (λ short. Ok all)) >>=
    (λ places. near places >>= (λ is_near. Ok (made places)))

abbrev fits_as : Bool → ℕ → Result (Unit {0}) WriteLimit → Result (Unit {0}) WriteLimit
fits_as b n near = fit b n >>= (λ short. near)

near_ok : (near : Result (Unit {0}) WriteLimit) (made r : Coded)
    → (near >>= (λ is_near. let R : Result Coded WriteLimit = Ok made in R)) ≡ Ok r → (near ≡ Ok tt) × (r ≡ made)
near_ok (Ok tt) made r h = (refl, let e : made ≡ r = cc in sym e)
near_ok (Err e) made r h = absurd cc

as_ok : (b : Bool) (n : ℕ) (all : List ℕ) (near : List ℕ → Result (Unit {0}) WriteLimit) (made : List ℕ → Coded)
    (r : Coded)
    → coded_as b n all near made ≡ Ok r → (b ≡ true) × (fits_as b n (near all) ≡ Ok tt) × (r ≡ made all)
as_ok true n all near made r h = let p = near_ok (near all) (made all) r h in (refl, p.0, p.1)
as_ok false n all near made r h = absurd cc

near_err : (near : Result (Unit {0}) WriteLimit) (made : Coded) (e : WriteLimit)
    → (near >>= (λ is_near. let R : Result Coded WriteLimit = Ok made in R)) ≡ Err e → near ≡ Err e
near_err (Ok done) made e h = absurd cc
near_err (Err limit) made e h = cc

as_err : (b : Bool) (n : ℕ) (all : List ℕ) (near : List ℕ → Result (Unit {0}) WriteLimit) (made : List ℕ → Coded)
    (e : WriteLimit)
    → coded_as b n all near made ≡ Err e → fits_as b n (near all) ≡ Err e
as_err true n all near made e h = near_err (near all) (made all) e h
as_err false n all near made e h = cc

module _ (pool : List PoolConstant) (code : Code) where
  abbrev code_length : ℕ
  code_length = length (code_bytes pool (places pool code.ins) code.ins)

  abbrev made : List ℕ → Coded
  made all = record { bytes = code_bytes pool all code.ins; starts = take (length code.ins) all }

  -- what is encoded fits
  pub coded_is : (r : Coded) → coded pool code.ins ≡ Ok r
      → (code_length < 2 ^ 16) × (code_fits pool (let O : Option Code = Some code in O) ≡ Ok tt)
      × (r ≡ made (places pool code.ins))
  unfolding coded placed
  coded_is r h =
      let p = as_ok (nat_lt code_length (2 ^ 16)) code_length (places pool code.ins)
      (λ all. branches_fit all 0 code.ins) made r h in
      (ltb-true _ _ p.0, p.1, p.2)

  -- what isn't encoded passes the same limit
  pub coded_fault : (e : WriteLimit) → coded pool code.ins ≡ Err e
      → code_fits pool (let O : Option Code = Some code in O) ≡ Err e
  unfolding coded placed
  coded_fault e h = as_err (nat_lt code_length (2 ^ 16)) code_length (places pool code.ins)
      (λ all. branches_fit all 0 code.ins) made e h

  -- so what came is due
  pub placed_is : (r : Coded) (end : ℕ) (all : List ℕ) → coded pool code.ins ≡ Ok r → end ≡ length r.bytes
      → all ≡ r.starts ++ end ∷ []
      → code_due pool code ≡ Ok (record { bytes = r.bytes; places = all })
  placed_is r end all h e is =
      let due = coded_is r h in
      let bytes : code_bytes pool (places pool code.ins) code.ins ≡ r.bytes = sym (ap (λ (c : Coded). c.bytes) due.2) in
      let starts : take (length code.ins) (places pool code.ins)
      ≡ r.starts = sym (ap (λ (c : Coded). c.starts) due.2) in
      let length_is : code_length ≡ end = ap length bytes ∙ sym e in
      let places_are : places pool code.ins ≡ all = sym (places_end pool (places pool code.ins) code.ins)
      ∙ (ap (λ k. take (length code.ins) (places pool code.ins) ++ k ∷ []) length_is
      ∙ (ap (λ (ss : List ℕ). ss ++ end ∷ []) starts ∙ sym is)) in
      ap (λ (f : Result (Unit {0}) WriteLimit). f >>=
      (λ fits. let R : Result PlacedCode WriteLimit = Ok (placed_code pool code) in R)) due.1
      ∙ (λ i. let R : Result PlacedCode WriteLimit = Ok (record { bytes = bytes i; places = places_are i }) in R)

  -- and so is a fault
  pub fault_due : (e : Or WriteLimit) → FaultIs e (coded pool code.ins) → FaultIs e (code_due pool code)
  fault_due (Fault limit) h =
      ap (λ (f : Result (Unit {0}) WriteLimit). f >>=
      (λ fits. let R : Result PlacedCode WriteLimit = Ok (placed_code pool code) in R)) (coded_fault limit h)
  fault_due OutOfMemory h = tt
