-- Instructions on fields and methods are read back.
use Rattle.std.proofs.Common.{◌≡◌, ℕ, ◌+◌, ◌^◌, ◌<◌, ◌≤◌, Bool, true, false, cond, List, Option, Some, None, Result, Ok}
use Rattle.std.proofs.Common.{ℤ, refl, sym, ap, subst, arith}
use Rattle.std.specs.Prelude.{option_map}
use Rattle.std.specs.Option.{unwrap_or}
use Rattle.std.specs.List.{AllByRecursion}
use Rattle.std.proofs.lemmas.Bool.{eq-eqb}
use Rattle.jv_base.specs.Types.{argument_words}
use Rattle.jv_base.specs.Utf16.{units_of}
use Rattle.jv_base.specs.declared.types.MethodType.{MethodType}
use Rattle.jv_base.proofs.MethodLaw.{read_method-only}
use Rattle.format_reading.specs.declared.fault.FormatKind.{FormatKind}
use Rattle.format_reading.specs.declared.fault.FormatKind.TheVariants as bad
use Rattle.class_model.specs.declared.pool.Entry.{Entry}
use Rattle.class_model.specs.declared.pool.Entry.TheVariants as entry
use Rattle.class_model.specs.declared.constant.PoolConstant.{PoolConstant}
use Rattle.class_model.specs.declared.constant.PoolConstant.TheVariants.{Methodref, InterfaceMethodref}
use Rattle.class_model.specs.declared.op.MemberRef.{MemberRef}
use Rattle.class_model.specs.declared.op.Op.{Op}
use Rattle.class_model.specs.declared.op.Op.TheVariants as op
use Rattle.class_model.specs.Lookups.{due, value_of, method_type_of, fieldref_at, methodref_at, interface_methodref_at}
use Rattle.class_model.specs.ConstantPool.{fieldref_in, methodref_in, interface_methodref_in}
use Rattle.class_model.specs.Opcodes.{field_op, method_op, takes_interface_method}
use Rattle.class_model.specs.InstructionStructure.{MemberOperand, InvokeInterface}
use Rattle.class_model.specs.InstructionMeaning.{op_of, method_named, member_op, count_of}
use Rattle.class_model.specs.ReadingCode.{begun, member, count_at, is_count}
use Rattle.class_model.specs.CanonicalPool.{type_name, fieldref, methodref, index_of}
use Rattle.class_model.specs.CanonicalCode.{field_constants, method_constants}
use Rattle.class_model.specs.WellFormed.{IsFieldReference, IsMethodReference, HasFewWords}
use Rattle.class_model.specs.Says.{Says, IsSaid}
use Rattle.class_model.specs.OpValues.{IsReferenceValue}
use Rattle.class_model.proofs.BackInfos.{read_member, read_invoke_interface}
use Rattle.class_model.proofs.BackEntries.{reference_back}
use Rattle.class_model.proofs.BackPlain.{IsBack}

-- ---- references at an index

field_back : (entries : List Entry) (index : ℕ) (r : MemberRef) → Says entries index (fieldref r) → IsFieldReference r
    → IsReferenceValue r → fieldref_at entries index ≡ Some r
unfolding fieldref_at
field_back entries index r says is value = reference_back entries fieldref_in (λ a b. entry.Field a b) false
    (λ a b. refl) index r says is.0.class value is.1

-- the constant of a method, by whether it is one of an interface
abbrev pub constant_by : Bool → MemberRef → PoolConstant
constant_by b r = cond b (InterfaceMethodref (units_of (type_name r.class)) (units_of r.name) (units_of r.ty))
    (Methodref (units_of (type_name r.class)) (units_of r.name) (units_of r.ty))

interface_back : (entries : List Entry) (index : ℕ) (r : MemberRef) → Says entries index (constant_by true r)
    → IsMethodReference r → IsReferenceValue r → r.of_interface ≡ true
    → (methodref_at entries index ≡ None) × (interface_methodref_at entries index ≡ Some r)
unfolding methodref_at interface_methodref_at
interface_back entries index r says is value h = (
  rw says.2 refl,
  reference_back entries interface_methodref_in (λ a b. entry.InterfaceMethod a b) true
      (λ a b. refl) index r says is.class value h,
)

class_method_back : (entries : List Entry) (index : ℕ) (r : MemberRef) → Says entries index (constant_by false r)
    → IsMethodReference r → IsReferenceValue r → r.of_interface ≡ false → methodref_at entries index ≡ Some r
unfolding methodref_at
class_method_back entries index r says is value h = reference_back entries methodref_in (λ a b. entry.Method a b) false
    (λ a b. refl) index r says is.class value h

method_by : (b : Bool) (opcode : ℕ) (entries : List Entry) (index : ℕ) (r : MemberRef) → r.of_interface ≡ b
    → (b ≡ true → takes_interface_method opcode ≡ true)
    → Says entries index (constant_by b r) → IsMethodReference r → IsReferenceValue r
    → method_named opcode entries index ≡ Some r
method_by true opcode entries index r h takes says is value =
    let f = interface_back entries index r says is value h in
    let t = takes refl in
    rw (f.0, t) f.1
method_by false opcode entries index r h takes says is value = rw
    (class_method_back entries index r says is value h) refl

-- the method that an opcode may name
method_back : (opcode : ℕ) (entries : List Entry) (index : ℕ) (r : MemberRef)
    → (r.of_interface ≡ true → takes_interface_method opcode ≡ true)
    → Says entries index (methodref r) → IsMethodReference r → IsReferenceValue r
    → method_named opcode entries index ≡ Some r
method_back opcode entries index r takes says is value =
    method_by r.of_interface opcode entries index r refl takes says is value

-- ---- instructions

module _ (aim : ℤ → Result ℕ FormatKind) (entries : List Entry) (at : ℕ) (pool : List PoolConstant) where
  -- an index that has a meaning
  operand_back : (opcode index : ℕ) (o : Op) → opcode < 256 → begun entries at opcode ≡ Ok (member entries opcode)
      → index < 2 ^ 16 → member_op opcode entries index ≡ Some o → IsBack aim entries at (MemberOperand opcode index) o
  unfolding op_of
  operand_back opcode index o lt e fits h =
      record { read = read_member entries at opcode index o lt e fits h; meant = ap (due bad.BadOperand) h }

  -- the constant of the field, behind its parts
  said_field : (r : MemberRef) → AllByRecursion (IsSaid entries pool) (field_constants r)
      → IsSaid entries pool (fieldref r)
  said_field r h = h.1.1.1.1.1.0

  said_method : (r : MemberRef) → AllByRecursion (IsSaid entries pool) (method_constants r)
      → IsSaid entries pool (methodref r)
  said_method r h = h.1.1.1.1.1.0

  -- instructions on a field
  pub on_field : (opcode : ℕ) (make : MemberRef → Op) (r : MemberRef) → opcode < 256
      → begun entries at opcode ≡ Ok (member entries opcode) → field_op opcode ≡ Some make
      → AllByRecursion (IsSaid entries pool) (field_constants r) → IsFieldReference r → IsReferenceValue r
      → IsBack aim entries at (MemberOperand opcode (index_of pool (fieldref r))) (make r)
  on_field opcode make r lt e h said is value =
      let s = said_field r said in
      operand_back opcode (index_of pool (fieldref r)) (make r) lt e s.0
      (rw h (ap (option_map make) (field_back entries (index_of pool (fieldref r)) r s.1 is value)))

  -- instructions on a method
  pub on_method : (opcode : ℕ) (make : MemberRef → Op) (r : MemberRef) → opcode < 256
      → begun entries at opcode ≡ Ok (member entries opcode) → field_op opcode ≡ None → method_op opcode ≡ Some make
      → (r.of_interface ≡ true → takes_interface_method opcode ≡ true)
      → AllByRecursion (IsSaid entries pool) (method_constants r) → IsMethodReference r → IsReferenceValue r
      → IsBack aim entries at (MemberOperand opcode (index_of pool (methodref r))) (make r)
  on_method opcode make r lt e none h takes said is value =
      let s = said_method r said in
      operand_back opcode (index_of pool (methodref r)) (make r) lt e s.0
      (rw (none, h) (ap (option_map make) (method_back opcode entries
      (index_of pool (methodref r)) r takes s.1 is value)))

  -- invokeinterface
  pub on_interface : (r : MemberRef) → AllByRecursion (IsSaid entries pool) (method_constants r) → IsMethodReference r
      → r.of_interface ≡ true → HasFewWords (op.InvokeInterface r) → IsReferenceValue r
      → IsBack aim entries at (InvokeInterface (index_of pool (methodref r)) (unwrap_or (count_of r) 0))
      (op.InvokeInterface r)
  unfolding op_of
  on_interface r said is h few value =
      let s = said_method r said in
      let index = index_of pool (methodref r) in
      let ty = is.descriptor.0 in
      let words : argument_words ty.args ≤ 254 = few ty is.descriptor.1 is.descriptor.2 in
      let typed : method_type_of r.ty
      ≡ Some ty = ap value_of (read_method-only r.ty ty (is.descriptor.1, sym is.descriptor.2)) in
      let count : count_of r ≡ Some (argument_words ty.args + 1) = ap
      (option_map (λ (t : MethodType). argument_words t.args + 1)) typed in
      let found : interface_methodref_at entries index
      ≡ Some r = (interface_back entries index r (subst (λ (b : Bool). Says entries index
      (constant_by b r)) h s.1) is value h).1 in
      let same : is_count (count_at entries index) (argument_words ty.args + 1)
      ≡ true = rw (found, count) (eq-eqb _ _ refl) in
      rw count (record {
        read = read_invoke_interface entries at index (argument_words ty.args + 1) r s.0 found
            (omega (arith, words)) same;
        meant = ap (λ (o : Option MemberRef). due bad.BadOperand
            (option_map (λ reference. op.InvokeInterface reference) o)) found;
      })
