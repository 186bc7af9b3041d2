-- Array types, by their numbers of dimensions (JLS 4.10.3).
use Rattle.std.proofs.Common.{◌≡◌, ◌<◌, ℕ, zero, suc, Bool, false, List, refl, arith}
use Rattle.jv_base.specs.declared.types.Base.{Base}
use Rattle.jvm_model.specs.Types.{is_above_arrays, is_array_below, is_base_below}

-- an array is left
pub more_dims : (is_sub : List ℕ → List ℕ → Bool) (m n : ℕ) (a b : Base) → n < m
    → is_array_below is_sub m a n b ≡ is_above_arrays b
more_dims is_sub zero n a b h = grind arith
more_dims is_sub (suc m) zero a b h = refl
more_dims is_sub (suc m) (suc n) a b h = more_dims is_sub m n a b (grind arith)

-- both have as many
pub same_dims : (is_sub : List ℕ → List ℕ → Bool) (m n : ℕ) (a b : Base) → n ≡ m
    → is_array_below is_sub m a n b ≡ is_base_below is_sub a b
same_dims is_sub zero zero a b h = refl
same_dims is_sub zero (suc n) a b h = grind arith
same_dims is_sub (suc m) zero a b h = grind arith
same_dims is_sub (suc m) (suc n) a b h = same_dims is_sub m n a b (grind arith)

-- an array is wanted
pub fewer_dims : (is_sub : List ℕ → List ℕ → Bool) (m n : ℕ) (a b : Base) → m < n
    → is_array_below is_sub m a n b ≡ false
fewer_dims is_sub m zero a b h = grind arith
fewer_dims is_sub zero (suc n) a b h = refl
fewer_dims is_sub (suc m) (suc n) a b h = fewer_dims is_sub m n a b (grind arith)

-- however many are left
pub ruleset dims_below = (more_dims, same_dims, fewer_dims)
