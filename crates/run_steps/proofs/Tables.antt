-- Targets of a table by the distance of a key (JVMS 6.5.tableswitch).
use Rattle.std.proofs.Common.{◌≡◌, ℕ, ℤ, pos, negsuc, List, refl}
use Rattle.std.specs.Option.{unwrap_or}
use Rattle.std.specs.Prelude.{slice_get}
use Rattle.jvm_model.specs.Instructions.{table_target}

-- that of a key of the table
pub target_at : (targets : List ℕ) (z : ℤ) (n other : ℕ) → z ≡ pos n
    → unwrap_or (table_target targets z) other ≡ unwrap_or (slice_get targets n) other
target_at targets z n other e = rw e refl

-- that of a key before it
pub target_before : (targets : List ℕ) (z : ℤ) (n other : ℕ) → z ≡ negsuc n
    → unwrap_or (table_target targets z) other ≡ other
target_before targets z n other e = rw e refl
