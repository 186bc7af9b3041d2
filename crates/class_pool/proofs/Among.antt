-- Classes and members that are one, and lists that have them.
use Rattle.std.proofs.Common.{◌≡◌, eqb, ◌∙◌, ◌&&◌, ◌||◌, Bool, true, false, cond, List, [], ◌∷◌, refl, sym, ap}
use Rattle.std.specs.List.{list_any}
use Rattle.std.proofs.lemmas.Bool.{eq-eqb, eqb-true, and_parts}
use Rattle.class_pool.specs.declared.id.ClassId.{ClassId}
use Rattle.class_pool.specs.declared.id.MemberAt.{MemberAt}
use Rattle.class_pool.specs.Found.{same_member}
use Rattle.class_pool.specs.Walk.{each_once, same_class}
use Rattle.class_pool.proofs.EachOnce.{same_is, same_itself}
use Rattle.std.proofs.Math.Bool.{or-true, or-false}

pub member_is : (m n : MemberAt) → same_member m n ≡ true → m ≡ n
member_is m n h =
    let parts = and_parts (same_class m.class n.class) _ h in
    let c : m.class ≡ n.class = same_is m.class n.class parts.0 in
    let k : m.index ≡ n.index = eqb-true m.index n.index parts.1 in
    λ j. record { class = c j; index = k j }

pub member_itself : (m : MemberAt) → same_member m m ≡ true
member_itself m = ap (λ b. b && eqb m.index m.index) (same_itself m.class) ∙ eq-eqb m.index m.index refl

-- a class stands in a list where it stood in it more than once
pub among_once : (c : ClassId) (seen xs : List ClassId) → list_any (same_class c) xs ≡ true
    → list_any (same_class c) seen ≡ false → list_any (same_class c) (each_once seen xs) ≡ true
unfolding each_once
among_once c seen [] e new = absurd cc
among_once c seen (x ∷ xs) e new =
    by (same_class c x) refl (list_any (same_class x) seen) refl e (λ t k l. among_once c t xs k l)
  where
    by : (b : Bool) → same_class c x ≡ b → (met : Bool) → list_any (same_class x) seen ≡ met
        → (b || list_any (same_class c) xs) ≡ true
        → ((t : List ClassId) → list_any (same_class c) xs ≡ true → list_any (same_class c) t ≡ false
        → list_any (same_class c) (each_once t xs) ≡ true)
        → list_any (same_class c) (cond met (each_once seen xs) (x ∷ each_once (x ∷ seen) xs)) ≡ true
    by true b true met e r = absurd
        (let same : c ≡ x = same_is c x b in
        let q : true ≡ false = sym met ∙ ap (λ (y : ClassId). list_any (same_class y) seen) (sym same) ∙ new in
        cc)
    by true b false met e r = ap (λ (u : Bool). u || list_any (same_class c) (each_once (x ∷ seen) xs)) b
    by false b true met e r = r seen e new
    by false b false met e r =
        ap (λ (u : Bool). same_class c x || u)
        (r (x ∷ seen) e (ap (λ (u : Bool). u || list_any (same_class c) seen) b ∙ new))
        ∙ or-true (same_class c x)

any_met : (c : ClassId) (seen xs : List ClassId)
    → (list_any (same_class c) (each_once seen xs) || list_any (same_class c) seen)
    ≡ (list_any (same_class c) xs || list_any (same_class c) seen)
unfolding each_once
any_met c seen [] = refl
any_met c seen (x ∷ xs) =
    by (list_any (same_class x) seen) refl (same_class c x) refl (any_met c seen xs) (any_met c (x ∷ seen) xs)
  where
    by : (met : Bool) → list_any (same_class x) seen ≡ met → (b : Bool) → same_class c x ≡ b
        → (list_any (same_class c) (each_once seen xs) || list_any (same_class c) seen)
        ≡ (list_any (same_class c) xs || list_any (same_class c) seen)
        → (list_any (same_class c) (each_once (x ∷ seen) xs) || (same_class c x || list_any (same_class c) seen))
        ≡ (list_any (same_class c) xs || (same_class c x || list_any (same_class c) seen))
        → (list_any (same_class c) (cond met (each_once seen xs) (x ∷ each_once (x ∷ seen) xs))
        || list_any (same_class c) seen)
        ≡ ((b || list_any (same_class c) xs) || list_any (same_class c) seen)
    by true met true b r s =
        let there : list_any (same_class c) seen ≡ true =
        ap (λ (y : ClassId). list_any (same_class y) seen) (same_is c x b) ∙ met in
        ap (λ (t : Bool). list_any (same_class c) (each_once seen xs) || t) there
        ∙ or-true (list_any (same_class c) (each_once seen xs))
    by true met false b r s = r
    by false met true b r s =
        ap (λ (t : Bool). (t || list_any (same_class c) (each_once (x ∷ seen) xs))
        || list_any (same_class c) seen) b
    by false met false b r s =
        ap (λ (t : Bool). (t || list_any (same_class c) (each_once (x ∷ seen) xs))
        || list_any (same_class c) seen) b
        ∙ ap (λ (t : Bool). list_any (same_class c) (each_once (x ∷ seen) xs)
        || (t || list_any (same_class c) seen))
        (sym b)
        ∙ s
        ∙ ap (λ (t : Bool). list_any (same_class c) xs || (t || list_any (same_class c) seen)) b

-- a list in which each class stands once has the same classes
pub any_once : (c : ClassId) (xs : List ClassId)
    → list_any (same_class c) (each_once [] xs) ≡ list_any (same_class c) xs
any_once c xs =
    sym (or-false (list_any (same_class c) (each_once [] xs))) ∙ any_met c [] xs ∙ or-false (list_any (same_class c) xs)
