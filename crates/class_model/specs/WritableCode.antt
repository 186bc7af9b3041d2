-- Which instructions are read back from their canonical bytes, by the entries of a pool.
use Rattle.std.specs.Prelude.{◌≡◌, ◌^◌, ◌<◌, List, length, Ok}
use Rattle.std.specs.List.{AllByRecursion}
use Rattle.class_model.specs.declared.pool.Entry.{Entry}
use Rattle.class_model.specs.declared.constant.PoolConstant.{PoolConstant}
use Rattle.class_model.specs.declared.code.Ins.{Ins}
use Rattle.class_model.specs.WellFormed.{IsGoodOp, HasFewWords}
use Rattle.class_model.specs.OpValues.{IsOpValue}
use Rattle.class_model.specs.CanonicalCode.{places, code_bytes}
use Rattle.class_model.specs.Says.{AreSaid}
use Rattle.class_model.specs.WriteLimits.{branches_fit}

-- those of a well-formed code that keeps the limits of a code (JVMS 4.9.1, 4.11); the entries say each constant at its
-- index in the pool, and may say others beside
pub record IsWritableCode (entries : List Entry) (pool : List PoolConstant) (ins : List Ins) : Type 0 where
  pub good : AllByRecursion (λ (i : Ins). IsGoodOp (length ins) i.op) ins
  pub few_words : AllByRecursion (λ (i : Ins). HasFewWords i.op) ins
  pub values : AllByRecursion (λ (i : Ins). IsOpValue i.op) ins
  pub said : AreSaid entries pool ins
  pub short : length (code_bytes pool (places pool ins) ins) < 2 ^ 16
  pub near : branches_fit (places pool ins) 0 ins ≡ Ok tt
