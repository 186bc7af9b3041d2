-- Answers of `put_push_long`: what its calls ask for, and what it promises.
use Rattle.std.proofs.Common.{◌≡◌, ◌<◌, ◌^◌, false, sym, subst, ◌∙◌, of_z, to_z}
use Rattle.std.specs.Int.{w64}
use Rattle.std.proofs.lemmas.Int.{to_z-of_z}
use Rattle.class_model.specs.declared.constant.PoolConstant.TheVariants.{Long}
use Rattle.class_model.specs.CanonicalPool.{index_of}
use Rattle.class_model.specs.CanonicalCode.{is_lconst}
use Rattle.code_write.proofs.writing.put_push_long.Goals as goal

pub put_index-requires : goal.put_index-requires
put_index-requires c =
    let n = c.args.number in
    let e : to_z w64 (of_z w64 n) ≡ n = to_z-of_z w64 n c.ranges.number in
    let h : is_lconst n ≡ false = subst (λ z. is_lconst z ≡ false) e
    (sym c.is_lconst.ensures.value ∙ c.if-is_lconst.false) in
    let r : index_of c.args.table.now (Long n) < 2 ^ 16 = c.requires h in
    rw c.long_index.ensures (subst (λ z. index_of c.args.table.now (Long z) < 2 ^ 16) (sym e) r)
