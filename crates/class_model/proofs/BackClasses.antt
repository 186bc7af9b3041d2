-- Instructions that name a class or an array type are read back.
use Rattle.std.proofs.Common.{◌≡◌, inl, ℕ, ◌^◌, ◌<◌, ◌≤◌, Bool, true, false, cond, eqb, List, Option, Some, None}
use Rattle.std.proofs.Common.{Result, Ok, ℤ, refl, ap, subst, arith}
use Rattle.std.specs.Prelude.{option_map, IfSome}
use Rattle.std.specs.List.{AllByRecursion}
use Rattle.std.proofs.lemmas.Bool.{lt-ltb, le-leb}
use Rattle.jv_base.specs.Types.{IsFieldType}
use Rattle.jv_base.specs.declared.types.FieldType.{FieldType}
use Rattle.jv_base.specs.declared.types.Base.{Base}
use Rattle.jv_base.specs.declared.types.Base.TheVariants as base
use Rattle.format_reading.specs.declared.fault.FormatKind.{FormatKind}
use Rattle.format_reading.specs.declared.fault.FormatKind.TheVariants as bad
use Rattle.class_model.specs.declared.pool.Entry.{Entry}
use Rattle.class_model.specs.declared.constant.PoolConstant.{PoolConstant}
use Rattle.class_model.specs.declared.op.Op.{Op}
use Rattle.class_model.specs.declared.op.Op.TheVariants as op
use Rattle.class_model.specs.Lookups.{due, value_of, type_at}
use Rattle.class_model.specs.Opcodes.{type_op, array_type_of, is_left_out_array_type}
use Rattle.class_model.specs.InstructionStructure.{ClassOperand, NewArray, MultiNewArray}
use Rattle.class_model.specs.InstructionMeaning.{op_of, class_op, of_type, can_be_operand}
use Rattle.class_model.specs.ReadingCode.{begun, class_operand, are_dimensions}
use Rattle.class_model.specs.CanonicalPool.{type_name, class_constant, class_constants, index_of}
use Rattle.class_model.specs.CanonicalCode.{array_type_code}
use Rattle.class_model.specs.WellFormed.{IsClassName, IsClassOrArray}
use Rattle.class_model.specs.Says.{IsSaid}
use Rattle.class_model.specs.OpValues.{IsBaseValue}
use Rattle.class_model.proofs.BackInfos.{read_class, read_new_array, read_multi}
use Rattle.class_model.proofs.BackEntries.{class_back, type_back}
use Rattle.class_model.proofs.BackPlain.{IsBack}

-- ---- newarray

-- a type of elements that newarray has
abbrev IsElement : Base → Type 0
IsElement b = (array_type_code b < 256) × (is_left_out_array_type (array_type_code b) ≡ false)
    × (array_type_of (array_type_code b) ≡ Some b)

-- either choice
either : (b : Bool) (x : Base) (o : Option Base) → IsElement x → IfSome o IsElement
    → IfSome (cond b (Some x) o) IsElement
either true x o h k = h
either false x o h k = k

-- each number of the table is that of such a type
elements : (atype : ℕ) → IfSome (array_type_of atype) IsElement
elements atype =
    either (eqb atype 4) base.Boolean _ (omega arith, refl, refl)
    (either (eqb atype 5) base.Char _ (omega arith, refl, refl)
    (either (eqb atype 8) base.Byte _ (omega arith, refl, refl)
    (either (eqb atype 9) base.Short _ (omega arith, refl, refl)
    (either (eqb atype 10) base.Int _ (omega arith, refl, refl)
    (either (eqb atype 11) base.Long None (omega arith, refl, refl) tt)))))

module _ (aim : ℤ → Result ℕ FormatKind) (entries : List Entry) (at : ℕ) where
  pub new_array_back : (b : Base) (atype : ℕ) → array_type_of atype ≡ Some b
      → IsBack aim entries at (NewArray (array_type_code b)) (op.NewArray b)
  unfolding op_of
  new_array_back b atype h =
      let e : IsElement b = subst (λ (o : Option Base). IfSome o IsElement) h (elements atype) in
      record {
        read = read_new_array entries at (array_type_code b) b e.0 e.1 e.2;
        meant = ap (λ (o : Option Base). due bad.BadOperand (option_map (λ ty. op.NewArray ty) o)) e.2;
      }

-- ---- instructions with an index of a class

module _ (aim : ℤ → Result ℕ FormatKind) (entries : List Entry) (at : ℕ) (pool : List PoolConstant) where
  -- an index that has a meaning
  operand_back : (opcode index : ℕ) (o : Op) → opcode < 256
      → begun entries at opcode ≡ Ok (class_operand entries opcode) → index < 2 ^ 16
      → class_op opcode entries index ≡ Some o → IsBack aim entries at (ClassOperand opcode index) o
  unfolding op_of
  operand_back opcode index o lt e fits h = record {
    read = read_class entries at opcode index o lt e fits h;
    meant = ap
        (due bad.BadOperand) h;
  }

  pub new_back : (name : List ℕ) → AllByRecursion (IsSaid entries pool) (class_constants name) → IsClassName name
      → IsBack aim entries at (ClassOperand 0xBB (index_of pool (class_constant name))) (op.New name)
  new_back name said is =
      let s = said.1.0 in
      let index = index_of pool (class_constant name) in
      operand_back 0xBB index (op.New name) (omega arith) refl s.0
      (ap (λ (r : Result (List ℕ) FormatKind). option_map (λ n. op.New n) (value_of r))
      (class_back entries index name s.1 is))

  -- anewarray, checkcast, instanceof
  pub of_type_back : (opcode : ℕ) (make : FieldType → Op) (ty : FieldType) → opcode < 256
      → begun entries at opcode ≡ Ok (class_operand entries opcode) → eqb opcode 0xBB ≡ false
      → type_op opcode ≡ Some make
      → can_be_operand opcode ty ≡ true → AllByRecursion (IsSaid entries pool) (class_constants (type_name ty))
      → IsClassOrArray ty → IsBaseValue ty.base
      → IsBack aim entries at (ClassOperand opcode (index_of pool (class_constant (type_name ty)))) (make ty)
  of_type_back opcode make ty lt e other h can said is value =
      let s = said.1.0 in
      let index = index_of pool (class_constant (type_name ty)) in
      let found : type_at entries index ≡ Some ty = type_back entries index ty s.1 is value in
      let one : of_type opcode ty ≡ Some (make ty) = rw (can, h) refl in
      operand_back opcode index (make ty) lt e s.0 (rw (other, found) one)

  pub multi_back : (ty : FieldType) (dimensions : ℕ)
      → AllByRecursion (IsSaid entries pool) (class_constants (type_name ty)) → IsFieldType ty → 0 < dimensions
      → dimensions ≤ ty.dims → IsBaseValue ty.base
      → IsBack aim entries at (MultiNewArray (index_of pool (class_constant (type_name ty))) dimensions)
      (op.MultiNewArray ty dimensions)
  unfolding op_of
  multi_back ty dimensions said is least most value =
      let s = said.1.0 in
      let index = index_of pool (class_constant (type_name ty)) in
      let found : type_at entries index ≡ Some ty = type_back entries index ty s.1 (is, inl (omega arith)) value in
      let few : ty.dims ≤ 255 = is.dimensions in
      let within : are_dimensions (Some ty) dimensions
      ≡ true = rw (lt-ltb 0 dimensions least, le-leb dimensions ty.dims most) refl in
      record {
        read = read_multi entries at index dimensions ty s.0 found (omega arith) within;
        meant = ap (λ (o : Option FieldType). due bad.BadOperand
            (option_map (λ t. op.MultiNewArray t dimensions) o)) found;
      }
