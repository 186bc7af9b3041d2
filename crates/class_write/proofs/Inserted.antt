-- Constants that go into a pool part by part.
use Rattle.std.proofs.Common.{◌≡◌, List, [], ◌∷◌, ◌++◌, refl, ◌∙◌}
use Rattle.indexmap.specs.IndexSet.{insert_key, insert_all}
use Rattle.class_model.specs.declared.constant.PoolConstant.{PoolConstant}
use Rattle.class_model.specs.CanonicalPool.{same}

-- one part behind another
pub inserted : (ks xs ys : List PoolConstant)
    → insert_all same (insert_all same ks xs) ys ≡ insert_all same ks (xs ++ ys)
inserted ks [] ys = refl
inserted ks (x ∷ xs) ys = inserted (insert_key same ks x) xs ys

-- four of them
pub four_inserted : (ks ws xs ys zs : List PoolConstant)
    → insert_all same (insert_all same (insert_all same (insert_all same ks ws) xs) ys) zs
    ≡ insert_all same ks (ws ++ (xs ++ (ys ++ zs)))
four_inserted ks ws xs ys zs =
    inserted (insert_all same (insert_all same ks ws) xs) ys zs
    ∙ (inserted (insert_all same ks ws) xs (ys ++ zs) ∙ inserted ks ws (xs ++ (ys ++ zs)))
