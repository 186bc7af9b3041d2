-- The count of invokeinterface fits a byte where the method has few words.
use Rattle.std.proofs.Common.{◌≡◌, ℕ, ◌+◌, ◌<◌, Some, Result, Ok, Err, refl, sym, arith}
use Rattle.std.specs.Prelude.{option_map}
use Rattle.jv_base.specs.Types.{argument_words}
use Rattle.jv_base.specs.Descriptors.{read_method}
use Rattle.jv_base.specs.declared.descriptors.BadDescriptor.{BadDescriptor}
use Rattle.jv_base.specs.declared.types.MethodType.{MethodType}
use Rattle.jv_base.proofs.MethodLaw.{read_method-found}
use Rattle.class_model.specs.declared.op.MemberRef.{MemberRef}
use Rattle.class_model.specs.declared.op.Op.TheVariants as op
use Rattle.class_model.specs.InstructionMeaning.{count_of}
use Rattle.class_model.specs.Lookups.{value_of}
use Rattle.class_model.specs.WellFormed.{HasFewWords}

count_by : (reference : MemberRef) (count : ℕ) (read : Result MethodType BadDescriptor)
    → HasFewWords (op.InvokeInterface reference) → read_method reference.ty ≡ read
    → option_map (λ (ty : MethodType). argument_words ty.args + 1) (value_of read) ≡ Some count → count < 256
count_by reference count (Ok ty) few is some =
    let found = read_method-found reference.ty ty is in
    let e : argument_words ty.args + 1 ≡ count = cc in
    omega (arith, few ty found.0 (sym found.1), e)
count_by reference count (Err e) few is some = absurd cc

pub count_fits : (reference : MemberRef) (count : ℕ) → HasFewWords (op.InvokeInterface reference)
    → count_of reference ≡ Some count → count < 256
count_fits reference count few some = count_by reference count (read_method reference.ty) few refl some
