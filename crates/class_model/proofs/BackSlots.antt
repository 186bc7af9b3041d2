-- Instructions on slots of local variables are read back.
use Rattle.std.proofs.Common.{◌≡◌, ℕ, zero, suc, ◌+◌, ◌*◌, ◌^◌, ◌<◌, Bool, true, false, ltb, List, Result, Ok, ℤ, pos}
use Rattle.std.proofs.Common.{negsuc, refl, ap, arith, SFits}
use Rattle.std.specs.Int.{w8, w16, cast_unsigned}
use Rattle.std.proofs.lemmas.Bool.{ltb-true}
use Rattle.std.proofs.lemmas.Int.{to_z-of_z}
use Rattle.format_reading.specs.declared.fault.FormatKind.{FormatKind}
use Rattle.class_model.specs.declared.pool.Entry.{Entry}
use Rattle.class_model.specs.declared.op.Op.TheVariants as op
use Rattle.class_model.specs.declared.op.Kind.{Kind}
use Rattle.class_model.specs.declared.op.Kind.TheVariants as kind
use Rattle.class_model.specs.Between.{int_between}
use Rattle.class_model.specs.InstructionStructure.{Local, WideLocal, WideIinc}
use Rattle.class_model.specs.InstructionMeaning.{op_of}
use Rattle.class_model.specs.CanonicalCode.{kind_number, slot_info, inc_info}
use Rattle.class_model.proofs.BackNumbers.{byte_fits, byte_below, short_below}
use Rattle.class_model.proofs.BackInfos.{read_byte, read_wide_local, read_iinc, read_wide_iinc}
use Rattle.class_model.proofs.BackPlain.{IsBack, IsPlain, plain_back}

-- <type>load_<n>
load_numeral : (k : Kind) (slot : ℕ) → slot < 4 → IsPlain (0x1A + (4 * kind_number k + slot)) (op.Load k slot)
load_numeral kind.Int zero lt = (omega arith, refl)
load_numeral kind.Int (suc zero) lt = (omega arith, refl)
load_numeral kind.Int (suc (suc zero)) lt = (omega arith, refl)
load_numeral kind.Int (suc (suc (suc zero))) lt = (omega arith, refl)
load_numeral kind.Long zero lt = (omega arith, refl)
load_numeral kind.Long (suc zero) lt = (omega arith, refl)
load_numeral kind.Long (suc (suc zero)) lt = (omega arith, refl)
load_numeral kind.Long (suc (suc (suc zero))) lt = (omega arith, refl)
load_numeral kind.Ref zero lt = (omega arith, refl)
load_numeral kind.Ref (suc zero) lt = (omega arith, refl)
load_numeral kind.Ref (suc (suc zero)) lt = (omega arith, refl)
load_numeral kind.Ref (suc (suc (suc zero))) lt = (omega arith, refl)
load_numeral k (suc (suc (suc (suc slot)))) lt = absurd (omega arith)

-- <type>store_<n>
store_numeral : (k : Kind) (slot : ℕ) → slot < 4 → IsPlain (0x3B + (4 * kind_number k + slot)) (op.Store k slot)
store_numeral kind.Int zero lt = (omega arith, refl)
store_numeral kind.Int (suc zero) lt = (omega arith, refl)
store_numeral kind.Int (suc (suc zero)) lt = (omega arith, refl)
store_numeral kind.Int (suc (suc (suc zero))) lt = (omega arith, refl)
store_numeral kind.Long zero lt = (omega arith, refl)
store_numeral kind.Long (suc zero) lt = (omega arith, refl)
store_numeral kind.Long (suc (suc zero)) lt = (omega arith, refl)
store_numeral kind.Long (suc (suc (suc zero))) lt = (omega arith, refl)
store_numeral kind.Ref zero lt = (omega arith, refl)
store_numeral kind.Ref (suc zero) lt = (omega arith, refl)
store_numeral kind.Ref (suc (suc zero)) lt = (omega arith, refl)
store_numeral kind.Ref (suc (suc (suc zero))) lt = (omega arith, refl)
store_numeral k (suc (suc (suc (suc slot)))) lt = absurd (omega arith)

module _ (aim : ℤ → Result ℕ FormatKind) (entries : List Entry) (at : ℕ) where
  -- a slot that fits a byte
  load_byte : (k : Kind) (slot : ℕ) → slot < 256
      → IsBack aim entries at (Local (0x15 + kind_number k) slot) (op.Load k slot)
  unfolding op_of
  load_byte kind.Int slot lt = record {
    read = read_byte entries at (λ n. Local 0x15 n) 0x15 slot
        (omega arith) refl lt;
    meant = refl;
  }
  load_byte kind.Long slot lt = record {
    read = read_byte entries at (λ n. Local 0x16 n) 0x16 slot
        (omega arith) refl lt;
    meant = refl;
  }
  load_byte kind.Ref slot lt = record {
    read = read_byte entries at (λ n. Local 0x19 n) 0x19 slot
        (omega arith) refl lt;
    meant = refl;
  }

  -- any other
  load_wide : (k : Kind) (slot : ℕ) → slot < 2 ^ 16
      → IsBack aim entries at (WideLocal (0x15 + kind_number k) slot) (op.Load k slot)
  unfolding op_of
  load_wide kind.Int slot lt = record {
    read = read_wide_local entries at 0x15 slot
        (omega arith) refl lt;
    meant = refl;
  }
  load_wide kind.Long slot lt = record {
    read = read_wide_local entries at 0x16 slot
        (omega arith) refl lt;
    meant = refl;
  }
  load_wide kind.Ref slot lt = record {
    read = read_wide_local entries at 0x19 slot
        (omega arith) refl lt;
    meant = refl;
  }

  -- the same of stores
  store_byte : (k : Kind) (slot : ℕ) → slot < 256
      → IsBack aim entries at (Local (0x36 + kind_number k) slot) (op.Store k slot)
  unfolding op_of
  store_byte kind.Int slot lt = record {
    read = read_byte entries at (λ n. Local 0x36 n) 0x36 slot
        (omega arith) refl lt;
    meant = refl;
  }
  store_byte kind.Long slot lt = record {
    read = read_byte entries at (λ n. Local 0x37 n) 0x37 slot
        (omega arith) refl lt;
    meant = refl;
  }
  store_byte kind.Ref slot lt = record {
    read = read_byte entries at (λ n. Local 0x3A n) 0x3A slot
        (omega arith) refl lt;
    meant = refl;
  }

  store_wide : (k : Kind) (slot : ℕ) → slot < 2 ^ 16
      → IsBack aim entries at (WideLocal (0x36 + kind_number k) slot) (op.Store k slot)
  unfolding op_of
  store_wide kind.Int slot lt = record {
    read = read_wide_local entries at 0x36 slot
        (omega arith) refl lt;
    meant = refl;
  }
  store_wide kind.Long slot lt = record {
    read = read_wide_local entries at 0x37 slot
        (omega arith) refl lt;
    meant = refl;
  }
  store_wide kind.Ref slot lt = record {
    read = read_wide_local entries at 0x3A slot
        (omega arith) refl lt;
    meant = refl;
  }

  load_by : (a b : Bool) (k : Kind) (slot : ℕ) → ltb slot 4 ≡ a → ltb slot 256 ≡ b → slot < 2 ^ 16
      → IsBack aim entries at (slot_info 0x15 0x1A k slot) (op.Load k slot)
  load_by true b k slot p q fits = rw p
      (plain_back aim entries at _ (op.Load k slot) (load_numeral k slot (ltb-true slot 4 p)))
  load_by false true k slot p q fits = rw (p, q) (load_byte k slot (ltb-true slot 256 q))
  load_by false false k slot p q fits = rw (p, q) (load_wide k slot fits)

  pub load_back : (k : Kind) (slot : ℕ) → slot < 2 ^ 16
      → IsBack aim entries at (slot_info 0x15 0x1A k slot) (op.Load k slot)
  load_back k slot fits = load_by (ltb slot 4) (ltb slot 256) k slot refl refl fits

  store_by : (a b : Bool) (k : Kind) (slot : ℕ) → ltb slot 4 ≡ a → ltb slot 256 ≡ b → slot < 2 ^ 16
      → IsBack aim entries at (slot_info 0x36 0x3B k slot) (op.Store k slot)
  store_by true b k slot p q fits = rw p
      (plain_back aim entries at _ (op.Store k slot) (store_numeral k slot (ltb-true slot 4 p)))
  store_by false true k slot p q fits = rw (p, q) (store_byte k slot (ltb-true slot 256 q))
  store_by false false k slot p q fits = rw (p, q) (store_wide k slot fits)

  pub store_back : (k : Kind) (slot : ℕ) → slot < 2 ^ 16
      → IsBack aim entries at (slot_info 0x36 0x3B k slot) (op.Store k slot)
  store_back k slot fits = store_by (ltb slot 4) (ltb slot 256) k slot refl refl fits

  -- ---- increments

  inc_wide : (slot : ℕ) (delta : ℤ) → slot < 2 ^ 16 → SFits w16 delta
      → IsBack aim entries at (WideIinc slot (cast_unsigned w16 delta)) (op.Inc slot delta)
  unfolding op_of
  inc_wide slot delta fits short = record {
    read = read_wide_iinc entries at slot (cast_unsigned w16 delta) fits (short_below delta short);
    meant = ap (λ (z : ℤ). Ok (op.Inc slot z)) (to_z-of_z w16 delta short);
  }

  inc_by : (a b : Bool) (slot : ℕ) (delta : ℤ) → ltb slot 256 ≡ a → int_between (negsuc 127) (pos 127) delta ≡ b
      → slot < 2 ^ 16 → SFits w16 delta → IsBack aim entries at (inc_info slot delta) (op.Inc slot delta)
  unfolding op_of
  inc_by true true slot delta p q fits short = rw (p, q) (record {
    read = read_iinc entries at slot (cast_unsigned w8 delta) (ltb-true slot 256 p)
        (byte_below delta (byte_fits delta q));
    meant = ap (λ (z : ℤ). Ok (op.Inc slot z)) (to_z-of_z w8 delta (byte_fits delta q));
  })
  inc_by true false slot delta p q fits short = rw (p, q) (inc_wide slot delta fits short)
  inc_by false b slot delta p q fits short = rw p (inc_wide slot delta fits short)

  pub inc_back : (slot : ℕ) (delta : ℤ) → slot < 2 ^ 16 → SFits w16 delta
      → IsBack aim entries at (inc_info slot delta) (op.Inc slot delta)
  inc_back slot delta fits short = inc_by (ltb slot 256)
      (int_between (negsuc 127) (pos 127) delta) slot delta refl refl fits short
