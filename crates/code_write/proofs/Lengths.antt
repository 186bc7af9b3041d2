-- How many bytes instructions take, wherever their targets are.
use Rattle.std.proofs.Common.{◌≡◌, ℕ, ◌+◌, ◌*◌, ◌^◌, ◌<◌, List, [], ◌∷◌, ◌++◌, length, map, refl, arith}
use Rattle.std.specs.Prelude.{ℤ, pos, ◌+ℤ◌, ◌-ℤ◌}
use Rattle.std.specs.Int.{w32, to_be_bytes, cast_unsigned}
use Rattle.std.specs.List.{flat_map}
use Rattle.std.proofs.lemmas.List.{length-append, length-map, length-replicate}
use Rattle.class_model.specs.declared.constant.PoolConstant.{PoolConstant}
use Rattle.class_model.specs.declared.op.Case.{Case}
use Rattle.class_model.specs.declared.op.Op.{Op}
use Rattle.class_model.specs.declared.op.Op.TheVariants as op
use Rattle.class_model.specs.InstructionStructure.{MatchOffset, match_offset, TableSwitch, LookupSwitch, info_bytes}
use Rattle.class_model.specs.InstructionStructure.{pad_length}
use Rattle.class_model.specs.CanonicalCode.{far, padding, op_info, size_of}

pub offsets_length : (offsets : List ℕ) → length (flat_map (to_be_bytes w32) offsets) ≡ 4 * length offsets
offsets_length [] = refl
offsets_length (x ∷ offsets) = omega (arith, offsets_length offsets)

pub pairs_length : (pairs : List MatchOffset) → length (flat_map match_offset pairs) ≡ 8 * length pairs
pairs_length [] = refl
pairs_length (x ∷ pairs) = omega (arith, pairs_length pairs)

-- tableswitch
pub table_length : (pad : List ℕ) (default low high : ℕ) (offsets : List ℕ)
    → length (info_bytes (TableSwitch pad default low high offsets)) ≡ 13 + length pad + 4 * length offsets
table_length pad default low high offsets =
    omega (
      arith,
      length-append pad
          (to_be_bytes w32 default ++
          (to_be_bytes w32 low ++ (to_be_bytes w32 high ++ flat_map (to_be_bytes w32) offsets))),
      offsets_length offsets,
    )

-- lookupswitch
pub lookup_length : (pad : List ℕ) (default : ℕ) (pairs : List MatchOffset)
    → length (info_bytes (LookupSwitch pad default pairs)) ≡ 9 + length pad + 8 * length pairs
lookup_length pad default pairs =
    omega (
      arith,
      length-append pad
          (to_be_bytes w32 default ++
          (to_be_bytes w32 (length pairs) ++ flat_map match_offset pairs)),
      pairs_length pairs,
    )

table_sizes : (pad : List ℕ) (d e low high : ℕ) (f g : ℕ → ℕ) (cases : List ℕ)
    → length (info_bytes (TableSwitch pad d low high (map f cases)))
    ≡ length (info_bytes (TableSwitch pad e low high (map g cases)))
table_sizes pad d e low high f g cases =
    omega (
      arith,
      table_length pad d low high (map f cases),
      table_length pad e low high
          (map g cases),
      length-map cases f,
      length-map cases g,
    )

lookup_sizes : (pad : List ℕ) (d e : ℕ) (f g : Case → MatchOffset) (cases : List Case)
    → length (info_bytes (LookupSwitch pad d (map f cases))) ≡ length (info_bytes (LookupSwitch pad e (map g cases)))
lookup_sizes pad d e f g cases =
    omega (
      arith,
      lookup_length pad d (map f cases),
      lookup_length pad e
          (map g cases),
      length-map cases f,
      length-map cases g,
    )

-- a case as it is written
abbrev case_written : List PoolConstant → (ℕ → ℕ) → ℕ → Case → MatchOffset
case_written pool place at c = record { key = cast_unsigned w32 c.key; offset = far pool place at c.to }

-- an instruction takes as many bytes wherever its targets are
pub same_size : (pool : List PoolConstant) (place other : ℕ → ℕ) (at : ℕ) (o : Op)
    → length (info_bytes (op_info pool place at o)) ≡ length (info_bytes (op_info pool other at o))
same_size pool place other at (op.TableSwitch low default cases) =
    table_sizes (padding pool place at) (far pool place at default) (far pool other at default) (cast_unsigned w32 low)
    (cast_unsigned w32 (low +ℤ pos (length cases) -ℤ pos 1)) (far pool place at) (far pool other at) cases
same_size pool place other at (op.LookupSwitch default cases) =
    lookup_sizes (padding pool place at) (far pool place at default) (far pool other at default)
    (case_written pool place at) (case_written pool other at) cases
same_size pool place other at _ = refl

-- the sizes of switches
pub table_size : (pool : List PoolConstant) (at : ℕ) (low : ℤ) (other : ℕ) (cases : List ℕ)
    → size_of pool at (op.TableSwitch low other cases) ≡ 13 + pad_length at + 4 * length cases
table_size pool at low other cases =
    omega (
      arith,
      table_length (padding pool (λ to. 0) at) (far pool (λ to. 0) at other) (cast_unsigned w32 low)
          (cast_unsigned w32 (low +ℤ pos (length cases) -ℤ pos 1)) (map (far pool (λ to. 0) at) cases),
      length-map cases (far pool (λ to. 0) at),
      length-replicate {A = ℕ} (pad_length at) 0,
    )

pub lookup_size : (pool : List PoolConstant) (at : ℕ) (other : ℕ) (cases : List Case)
    → size_of pool at (op.LookupSwitch other cases) ≡ 9 + pad_length at + 8 * length cases
lookup_size pool at other cases =
    omega (
      arith,
      lookup_length (padding pool (λ to. 0) at) (far pool (λ to. 0) at other)
          (map (case_written pool (λ to. 0) at) cases),
      length-map cases (case_written pool (λ to. 0) at),
      length-replicate {A = ℕ} (pad_length at) 0,
    )

-- the cases of a lookupswitch that isn't too long are few
pub few_cases : (pool : List PoolConstant) (place : ℕ → ℕ) (at other : ℕ) (cases : List Case)
    → length (info_bytes (op_info pool place at (op.LookupSwitch other cases))) < 2 ^ 16 → length cases < 2 ^ 32
few_cases pool place at other cases short =
    omega (
      arith,
      short,
      lookup_length (padding pool place at) (far pool place at other)
          (map (case_written pool place at) cases),
      length-map cases (case_written pool place at),
    )
