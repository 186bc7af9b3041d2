-- Answers of `put_push_int`: what its calls ask for, and what it promises.
use Rattle.std.proofs.Common.{◌≡◌, ◌<◌, ◌^◌, false, sym, subst, ◌∙◌, of_z, to_z}
use Rattle.std.specs.Int.{w32}
use Rattle.std.proofs.lemmas.Int.{to_z-of_z}
use Rattle.class_model.specs.declared.constant.PoolConstant.TheVariants.{Integer}
use Rattle.class_model.specs.CanonicalPool.{index_of}
use Rattle.class_model.specs.CanonicalCode.{is_short}
use Rattle.code_write.proofs.writing.put_push_int.Goals as goal

pub put_load-requires : goal.put_load-requires
put_load-requires c =
    let n = c.args.number in
    let e : to_z w32 (of_z w32 n) ≡ n = to_z-of_z w32 n c.ranges.number in
    let h : is_short n ≡ false = subst (λ z. is_short z ≡ false) e
    (sym c.is_short.ensures.value ∙ c.if-is_short.false) in
    let r : index_of c.args.table.now (Integer n) < 2 ^ 16 = c.requires h in
    rw c.int_index.ensures (subst (λ z. index_of c.args.table.now (Integer z) < 2 ^ 16) (sym e) r)
