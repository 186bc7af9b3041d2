-- A pool that the grammar has is good for all that it leads to (JVMS 4.4).
use Rattle.std.proofs.Common.{ℕ, List}
use Rattle.std.proofs.Common.{sym, ap, subst, ◌∙◌}
use Rattle.std.specs.Prelude.{slice_get}
use Rattle.jv_base.proofs.Lists.{all_at}
use Rattle.class_model.specs.declared.pool.Entry.{Entry}
use Rattle.class_model.specs.ConstantPool.{CpInfo, IsPool, numbered, NamesRight}
use Rattle.class_model.proofs.NameLaw.{HaveUnits}
use Rattle.class_model.proofs.PoolLaw.{have_units, all_units, at_places}
use Rattle.class_model.proofs.ConstantLaw.{AllNameRight}

-- a pool is good for all that it leads to
pub pool_units : (count : ℕ) (constants : List CpInfo) (pool : List Entry) → IsPool count constants pool
    → HaveUnits pool
pool_units count constants pool h = subst (λ (p : List Entry). HaveUnits p) (sym h.numbers)
    (have_units h.entries (all_units constants h.entries h.stand))

pub pool_names : (count : ℕ) (constants : List CpInfo) (pool : List Entry) → IsPool count constants pool
    → AllNameRight pool
pool_names count constants pool h index e there =
    all_at (NamesRight pool) (numbered h.entries) index e (tt, at_places (NamesRight pool) tt h.entries h.names)
    (ap (λ (p : List Entry). slice_get p index) (sym h.numbers) ∙ there)
