-- The names of what makes files no set (the project's own: what the command says).
use Rattle.std.specs.Prelude.{ℕ, List, codes}
use Rattle.class_pool.specs.declared.fault.PoolKind.{PoolKind}
use Rattle.class_pool.specs.declared.fault.PoolKind.TheVariants.{NameMismatch, LibraryName, SuperMissing, SuperKind}
use Rattle.class_pool.specs.declared.fault.PoolKind.TheVariants.{Cycle}

-- the word for a kind of fault
abbrev pub pool_name : PoolKind → List ℕ
pool_name NameMismatch = codes "NameMismatch"
pool_name LibraryName = codes "LibraryName"
pool_name SuperMissing = codes "SuperMissing"
pool_name SuperKind = codes "SuperKind"
pool_name Cycle = codes "Cycle"
