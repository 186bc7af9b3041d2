-- Pushes of constants are read back.
use Rattle.std.proofs.Common.{◌≡◌, ℕ, zero, suc, ◌+◌, ◌^◌, ◌<◌, ◌≤◌, Bool, true, false, cond, leb, List, [], ◌∷◌, Some}
use Rattle.std.proofs.Common.{Result, Ok, ℤ, pos, negsuc, ◌+ℤ◌, refl, ap, subst, arith}
use Rattle.std.specs.Prelude.{slice_get}
use Rattle.std.specs.Int.{w8, w16, cast_unsigned}
use Rattle.std.specs.List.{AllByRecursion}
use Rattle.std.proofs.lemmas.Bool.{and_parts, leb-true}
use Rattle.std.proofs.lemmas.Int.{to_z-of_z}
use Rattle.format_reading.specs.declared.fault.FormatKind.{FormatKind}
use Rattle.format_reading.specs.declared.fault.FormatKind.TheVariants as bad
use Rattle.class_model.specs.declared.pool.Entry.{Entry}
use Rattle.class_model.specs.declared.pool.Entry.TheVariants as entry
use Rattle.class_model.specs.declared.constant.PoolConstant.{PoolConstant}
use Rattle.class_model.specs.declared.constant.PoolConstant.TheVariants.{Integer, Long, Str}
use Rattle.class_model.specs.declared.op.Op.{Op}
use Rattle.class_model.specs.declared.op.Op.TheVariants as op
use Rattle.class_model.specs.Between.{int_between}
use Rattle.class_model.specs.Lookups.{due}
use Rattle.class_model.specs.Pool.{units_at}
use Rattle.class_model.specs.InstructionMeaning.{op_of, loaded, loaded_wide}
use Rattle.class_model.specs.ReadingCode.{is_left_out_at}
use Rattle.class_model.specs.CanonicalPool.{index_of, long_constants}
use Rattle.class_model.specs.CanonicalCode.{load_constant, push_int, is_short, is_lconst, push_long, op_constants}
use Rattle.class_model.specs.Says.{SaysString, IsSaid}
use Rattle.class_model.proofs.BackNumbers.{byte_fits, byte_below, short_fits, short_below}
use Rattle.class_model.proofs.BackInfos.{read_bipush, read_sipush, read_ldc, read_ldc_wide}
use Rattle.class_model.proofs.BackEntries.{units_back}
use Rattle.class_model.proofs.BackPlain.{IsBack, IsPlain, plain_back}

-- iconst_<i>
is_numeral : (n : ℤ) → int_between (negsuc 0) (pos 5) n ≡ true → IsPlain (cast_unsigned w8 (n +ℤ pos 3)) (op.PushInt n)
is_numeral (pos zero) h = (omega arith, refl)
is_numeral (pos (suc zero)) h = (omega arith, refl)
is_numeral (pos (suc (suc zero))) h = (omega arith, refl)
is_numeral (pos (suc (suc (suc zero)))) h = (omega arith, refl)
is_numeral (pos (suc (suc (suc (suc zero))))) h = (omega arith, refl)
is_numeral (pos (suc (suc (suc (suc (suc zero)))))) h = (omega arith, refl)
is_numeral (pos (suc (suc (suc (suc (suc (suc n))))))) h = let g = leb-true _ _ h in absurd (omega arith)
is_numeral (negsuc zero) h = (omega arith, refl)
is_numeral (negsuc (suc n)) h = let t = and_parts
    (leb (suc n) 0) true h in let g : suc n ≤ 0 = leb-true _ _ t.0 in absurd (omega arith)

-- lconst_<l>
is_long_numeral : (n : ℤ) → is_lconst n ≡ true → IsPlain (0x09 + cast_unsigned w8 n) (op.PushLong n)
is_long_numeral (pos zero) h = (omega arith, refl)
is_long_numeral (pos (suc zero)) h = (omega arith, refl)
is_long_numeral (pos (suc (suc n))) h =
    let t = and_parts (leb 0 (suc (suc n))) (leb (suc (suc n)) 1) h in
    let g : suc (suc n) ≤ 1 = leb-true _ _ t.1 in
    absurd (omega arith)
is_long_numeral (negsuc n) h = absurd cc

-- what ldc loads: an int
loads_int : (entries : List Entry) (index : ℕ) (n : ℤ) → slice_get entries index ≡ Some (entry.Integer n)
    → (is_left_out_at (slice_get entries index) ≡ false) × (loaded entries index ≡ Some (op.PushInt n))
loads_int entries index n h = (rw h refl, rw h refl)

-- what ldc2_w loads
loads_long : (entries : List Entry) (index : ℕ) (n : ℤ) → slice_get entries index ≡ Some (entry.Long n)
    → (is_left_out_at (slice_get entries index) ≡ false) × (loaded_wide 0x14 entries index ≡ Some (op.PushLong n))
loads_long entries index n h = (rw h refl, rw h refl)

-- or a string
loads_text : (entries : List Entry) (index : ℕ) (units : List ℕ) → SaysString entries index units
    → (is_left_out_at (slice_get entries index) ≡ false) × (loaded entries index ≡ Some (op.PushText units))
loads_text entries index units h =
    let text : units_at entries h.0 ≡ Some units = units_back entries h.0 units h.2 in
    (rw h.1 refl, rw (h.1, text) refl)

module _ (aim : ℤ → Result ℕ FormatKind) (entries : List Entry) (at : ℕ) (pool : List PoolConstant) where
  load_by : (b : Bool) (k : PoolConstant) (o : Op) → leb (index_of pool k) 255 ≡ b → index_of pool k < 2 ^ 16
      → (is_left_out_at (slice_get entries (index_of pool k)) ≡ false) × (loaded entries (index_of pool k) ≡ Some o)
      → IsBack aim entries at (load_constant pool k) o
  unfolding op_of
  load_by true k o e fits h = rw e (record {
    read = read_ldc entries at (index_of pool k) o
        (let g : index_of pool k ≤ 255 = leb-true _ _ e in omega arith) h.0 h.1;
    meant = ap (due bad.BadOperand) h.1;
  })
  load_by false k o e fits h = rw e (record {
    read = read_ldc_wide entries at 0x13 (index_of pool k) o (omega arith) refl fits h.0 h.1;
    meant = ap (due bad.BadOperand) h.1;
  })

  -- ints
  push_int_by : (a b c : Bool) (n : ℤ) → int_between (negsuc 0) (pos 5) n ≡ a → int_between (negsuc 127) (pos 127) n ≡ b
      → is_short n ≡ c
      → (c ≡ false → IsSaid entries pool (Integer n)) → IsBack aim entries at (push_int pool n) (op.PushInt n)
  unfolding op_of
  push_int_by true b c n p q r says = rw p (plain_back aim entries at _ (op.PushInt n) (is_numeral n p))
  push_int_by false true c n p q r says = rw (p, q) (record {
    read = read_bipush entries at (cast_unsigned w8 n) (byte_below n (byte_fits n q));
    meant = ap (λ (z : ℤ). Ok (op.PushInt z)) (to_z-of_z w8 n (byte_fits n q));
  })
  push_int_by false false true n p q r says = rw (p, q, r) (record {
    read = read_sipush entries at (cast_unsigned w16 n) (short_below n (short_fits n r));
    meant = ap (λ (z : ℤ). Ok (op.PushInt z)) (to_z-of_z w16 n (short_fits n r));
  })
  push_int_by false false false n p q r says =
      let said = says refl in
      rw (p, q, r) (load_by (leb (index_of pool (Integer n)) 255) (Integer n) (op.PushInt n) refl said.0
      (loads_int entries (index_of pool (Integer n)) n said.1))

  said_int : (n : ℤ) (b : Bool) → is_short n ≡ b → AllByRecursion (IsSaid entries pool) (op_constants (op.PushInt n))
      → b ≡ false → IsSaid entries pool (Integer n)
  said_int n true e says h = absurd cc
  said_int n false e says h =
      (subst (λ (b : Bool). AllByRecursion (IsSaid entries pool) (cond b [] (Integer n ∷ []))) e says).0

  pub push_int_back : (n : ℤ) → AllByRecursion (IsSaid entries pool) (op_constants (op.PushInt n))
      → IsBack aim entries at (push_int pool n) (op.PushInt n)
  push_int_back n says = push_int_by _ _ (is_short n) n refl refl refl (said_int n (is_short n) refl says)

  -- longs
  push_long_by : (b : Bool) (n : ℤ) → is_lconst n ≡ b
      → AllByRecursion (IsSaid entries pool) (op_constants (op.PushLong n))
      → IsBack aim entries at (push_long pool n) (op.PushLong n)
  unfolding op_of
  push_long_by true n e says = rw e (plain_back aim entries at _ (op.PushLong n) (is_long_numeral n e))
  push_long_by false n e says =
      let said : IsSaid entries pool (Long n) =
      (subst (λ (b : Bool). AllByRecursion (IsSaid entries pool) (cond b [] (long_constants n))) e says).0 in
      let index = index_of pool (Long n) in
      let loads : (is_left_out_at (slice_get entries index) ≡ false)
      × (loaded_wide 0x14 entries index ≡ Some (op.PushLong n)) = loads_long entries index n said.1 in
      rw e (record {
        read = read_ldc_wide entries at 0x14 index (op.PushLong n) (omega arith) refl said.0 loads.0 loads.1;
        meant = ap (due bad.BadOperand) loads.1;
      })

  pub push_long_back : (n : ℤ) → AllByRecursion (IsSaid entries pool) (op_constants (op.PushLong n))
      → IsBack aim entries at (push_long pool n) (op.PushLong n)
  push_long_back n says = push_long_by (is_lconst n) n refl says

  pub push_text_back : (units : List ℕ) → AllByRecursion (IsSaid entries pool) (op_constants (op.PushText units))
      → IsBack aim entries at (load_constant pool (Str units)) (op.PushText units)
  push_text_back units says =
      let said = says.1.0 in
      load_by (leb (index_of pool (Str units)) 255) (Str units) (op.PushText units) refl said.0
      (loads_text entries (index_of pool (Str units)) units said.1)
