-- How many bytes instructions take.
use Rattle.std.proofs.Common.{◌≡◌, ℕ, suc, ◌^◌, ◌<◌, ◌≤◌, List, [], ◌∷◌, ◌++◌, length, map, pos, ◌+ℤ◌, ◌-ℤ◌, refl, sym}
use Rattle.std.proofs.Common.{ap, ◌∙◌, arith}
use Rattle.std.specs.Int.{w32, to_be_bytes, cast_unsigned}
use Rattle.std.specs.List.{flat_map}
use Rattle.std.proofs.lemmas.List.{length-append, length-map}
use Rattle.std.proofs.lemmas.List.Concat.{flat_map-cons}
use Rattle.class_model.specs.declared.constant.PoolConstant.{PoolConstant}
use Rattle.class_model.specs.declared.op.Case.{Case}
use Rattle.class_model.specs.declared.op.Op.{Op}
use Rattle.class_model.specs.declared.op.Op.TheVariants as op
use Rattle.class_model.specs.InstructionStructure.{MatchOffset, match_offset, Info, Plain, Bipush, Sipush, Ldc, LdcWide}
use Rattle.class_model.specs.InstructionStructure.{Local, WideLocal, Iinc, WideIinc, Branch, GotoWide, TableSwitch}
use Rattle.class_model.specs.InstructionStructure.{LookupSwitch, MemberOperand, InvokeInterface, ClassOperand, NewArray}
use Rattle.class_model.specs.InstructionStructure.{MultiNewArray, info_bytes}
use Rattle.class_model.specs.CanonicalCode.{padding, far, op_info, size_of}
use Rattle.class_model.proofs.BackOps.{HasFewCases}

-- an instruction takes a byte at least
pub info_is_there : (info : Info) → 0 < length (info_bytes info)
info_is_there (Plain opcode) = omega arith
info_is_there (Bipush byte) = omega arith
info_is_there (Sipush short) = omega arith
info_is_there (Ldc index) = omega arith
info_is_there (LdcWide opcode index) = omega arith
info_is_there (Local opcode index) = omega arith
info_is_there (WideLocal opcode index) = omega arith
info_is_there (Iinc index const) = omega arith
info_is_there (WideIinc index const) = omega arith
info_is_there (Branch opcode branch) = omega arith
info_is_there (GotoWide branch) = omega arith
info_is_there (TableSwitch pad default low high offsets) = omega arith
info_is_there (LookupSwitch pad default pairs) = omega arith
info_is_there (MemberOperand opcode index) = omega arith
info_is_there (InvokeInterface index count) = omega arith
info_is_there (ClassOperand opcode index) = omega arith
info_is_there (NewArray atype) = omega arith
info_is_there (MultiNewArray index dimensions) = omega arith

-- two texts behind each other
behind : (s t u w : List ℕ) → length s ≡ length u → length t ≡ length w → length (s ++ t) ≡ length (u ++ w)
behind s t u w h k = omega (arith, length-append s t, length-append u w, h, k)

offsets_alike : (f g : ℕ → ℕ) (cases : List ℕ)
    → length (flat_map (to_be_bytes w32) (map f cases)) ≡ length (flat_map (to_be_bytes w32) (map g cases))
offsets_alike f g [] = refl
offsets_alike f g (to ∷ cases) =
    let s = to_be_bytes w32 (f to) in
    let u = to_be_bytes w32 (g to) in
    ap length (flat_map-cons (to_be_bytes w32) (f to) (map f cases))
    ∙ behind s (flat_map (to_be_bytes w32) (map f cases)) u (flat_map (to_be_bytes w32) (map g cases)) refl
    (offsets_alike f g cases)
    ∙ sym (ap length (flat_map-cons (to_be_bytes w32) (g to) (map g cases)))

pairs_alike : (f g : Case → MatchOffset) (cases : List Case)
    → length (flat_map match_offset (map f cases)) ≡ length (flat_map match_offset (map g cases))
pairs_alike f g [] = refl
pairs_alike f g (c ∷ cases) =
    ap length (flat_map-cons match_offset (f c) (map f cases))
    ∙ behind (match_offset (f c)) (flat_map match_offset (map f cases)) (match_offset (g c))
    (flat_map match_offset (map g cases)) refl (pairs_alike f g cases)
    ∙ sym (ap length (flat_map-cons match_offset (g c) (map g cases)))

pairs_long : (pairs : List MatchOffset) → length pairs ≤ length (flat_map match_offset pairs)
pairs_long [] = omega arith
pairs_long (pair ∷ pairs) =
    omega (
      arith,
      ap length (flat_map-cons match_offset pair pairs),
      length-append (match_offset pair)
          (flat_map match_offset pairs),
      pairs_long pairs,
    )

-- targets don't change how many bytes an instruction takes
pub size_is : (pool : List PoolConstant) (place : ℕ → ℕ) (at : ℕ) (o : Op)
    → length (info_bytes (op_info pool place at o)) ≡ size_of pool at o
size_is pool place at (op.TableSwitch low other cases) =
    let pad = padding pool place at in
    let none : ℕ → ℕ = λ to. 0 in
    let one = to_be_bytes w32 (cast_unsigned w32 low) in
    let two = to_be_bytes w32 (cast_unsigned w32 (low +ℤ pos (length cases) -ℤ pos 1)) in
    let here : List ℕ = flat_map (to_be_bytes w32) (map (far pool place at) cases) in
    let there : List ℕ = flat_map (to_be_bytes w32) (map (far pool none at) cases) in
    let s = to_be_bytes w32 (far pool place at other) in
    let u = to_be_bytes w32 (far pool none at other) in
    ap suc (behind pad (s ++ (one ++ (two ++ here))) pad (u ++ (one ++ (two ++ there))) refl
    (behind s (one ++ (two ++ here)) u (one ++ (two ++ there)) refl
    (behind one (two ++ here) one (two ++ there) refl
    (behind two here two there refl (offsets_alike (far pool place at) (far pool none at) cases)))))
size_is pool place at (op.LookupSwitch other cases) =
    let pad = padding pool place at in
    let none : ℕ → ℕ = λ to. 0 in
    let f : Case → MatchOffset = λ c. record { key = cast_unsigned w32 c.key; offset = far pool place at c.to } in
    let g : Case → MatchOffset = λ c. record { key = cast_unsigned w32 c.key; offset = far pool none at c.to } in
    let s = to_be_bytes w32 (far pool place at other) in
    let u = to_be_bytes w32 (far pool none at other) in
    let one = to_be_bytes w32 (length (map f cases)) in
    let two = to_be_bytes w32 (length (map g cases)) in
    let here : List ℕ = flat_map match_offset (map f cases) in
    let there : List ℕ = flat_map match_offset (map g cases) in
    ap suc (behind pad (s ++ (one ++ here)) pad (u ++ (two ++ there)) refl (behind s (one ++ here) u (two ++ there) refl
    (behind one here two there refl (pairs_alike f g cases))))
size_is pool place at _ = refl

-- a short lookupswitch has few cases
pub few_is : (pool : List PoolConstant) (place : ℕ → ℕ) (at : ℕ) (o : Op)
    → length (info_bytes (op_info pool place at o)) < 2 ^ 16 → HasFewCases o
few_is pool place at (op.LookupSwitch other cases) h =
    let pairs = map
    (λ (c : Case). let m : MatchOffset = record { key = cast_unsigned w32 c.key; offset = far pool place at c.to } in
    m) cases in
    let long = pairs_long pairs in
    let count = to_be_bytes w32 (length pairs) in
    let rest = flat_map match_offset pairs in
    let default = to_be_bytes w32 (far pool place at other) in
    let pad = padding pool place at in
    let same : length pairs ≡ length cases = length-map cases _ in
    omega (
      arith,
      h,
      long,
      same,
      length-append count rest,
      length-append default (count ++ rest),
      length-append pad
          (default ++ (count ++ rest)),
    )
few_is pool place at _ h = tt
