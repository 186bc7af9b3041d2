-- Cases of a tableswitch by the distance of a key (JVMS 6.5.tableswitch).
use Rattle.std.proofs.Common.{◌≡◌, ℕ, ℤ, pos, negsuc, List, refl}
use Rattle.std.specs.Option.{unwrap_or}
use Rattle.code_edit.specs.Deciding.{table_case}

-- that of a key of the table
pub case_at : (cases : List ℕ) (z : ℤ) (n other : ℕ) → z ≡ pos n
    → unwrap_or (table_case cases z) other ≡ unwrap_or (table_case cases (pos n)) other
case_at cases z n other e = rw e refl

-- that of a key before it
pub case_before : (cases : List ℕ) (z : ℤ) (n other : ℕ) → z ≡ negsuc n
    → unwrap_or (table_case cases z) other ≡ other
case_before cases z n other e = rw e refl
