-- Ints that are taken one by one.
use Rattle.std.proofs.Common.{◌≡◌, ℕ, zero, suc, ◌+◌, ◌<◌, ℤ, List, ◌∷◌, Some, None, arith, refl, add-one}
use Rattle.jvm_model.specs.Stack.{counts_above, top}
use Rattle.jvm_model.specs.Value.{Value, as_int}

-- where there is none, not so many are there
pub counts_none : (n : ℕ) (zs : List ℤ) (s : List Value) → 0 < n → top as_int s ≡ None → counts_above n zs s ≡ None
counts_none zero zs s h e = grind arith
counts_none (suc n) zs s h e = rw e refl

-- the next one
pub counts_next : (n m : ℕ) (zs : List ℤ) (s rest : List Value) (z : ℤ) → n ≡ m + 1 → top as_int s ≡ Some (z, rest)
    → counts_above m (z ∷ zs) rest ≡ counts_above n zs s
counts_next n m zs s rest z h e = rw (h, add-one m, e) refl
