-- What the entries of a pool say, one behind the other.
use Rattle.std.proofs.Common.{◌≡◌, ℕ, zero, suc, ◌+◌, ◌-◌, ◌≤◌, List, [], ◌∷◌, ◌++◌, ap, ◌∙◌, arith}
use Rattle.class_model.specs.declared.pool.Entry.{Entry}
use Rattle.class_model.specs.declared.constant.PoolConstant.{PoolConstant}
use Rattle.code_write.specs.Constants.{said_at, first_constants}

-- with what one more entry says
pub constants_next : (pool : List Entry) (index : ℕ) (front new : List PoolConstant) → 1 ≤ index
    → front ≡ first_constants pool (index - 1) → new ≡ front ++ said_at pool index ∷ []
    → new ≡ first_constants pool (index + 1 - 1)
unfolding first_constants
constants_next pool zero front new le so_far is = absurd (omega (arith, le))
constants_next pool (suc n) front new le so_far is =
    let e : suc n + 1 - 1 ≡ suc n = omega arith in
    let f : suc n - 1 ≡ n = omega arith in
    rw e (is ∙ ap (λ (ks : List PoolConstant). ks ++ said_at pool (suc n) ∷ []) (so_far ∙ ap (first_constants pool) f))
