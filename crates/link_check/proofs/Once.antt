-- A list of classes in which each stands once has the kinds of the whole one.
use Rattle.std.proofs.Common.{◌≡◌, ◌||◌, Bool, true, false, cond, eqb, List, [], ◌∷◌, refl, sym, ap, ◌∙◌}
use Rattle.std.specs.List.{flat_map, list_any}
use Rattle.std.proofs.lemmas.List.Folds.{list_any-append}
use Rattle.class_pool.specs.declared.id.ClassId.{ClassId}
use Rattle.class_pool.specs.Walk.{each_once, same_class}
use Rattle.link_check.specs.declared.fault.ProfileKind.{ProfileKind}
use Rattle.link_check.specs.Profile.{least, rank_of}
use Rattle.link_check.proofs.Least.{least_stands, stands}
use Rattle.std.proofs.lemmas.Bool.{or_right}
use Rattle.std.proofs.Math.Bool.{or-false}
use Rattle.class_pool.proofs.EachOnce.{same_is}

absorbed : (x y z : Bool) → (x ≡ true → z ≡ true) → (y || z) ≡ ((x || y) || z)
absorbed true true z h = refl
absorbed true false z h = h refl
absorbed false y z h = refl

regrouped : (x y z : Bool) → ((x || y) || z) ≡ (y || (x || z))
regrouped true true z = refl
regrouped true false z = refl
regrouped false true z = refl
regrouped false false z = refl

on_first : (x y : Bool) → x ≡ true → (x || y) ≡ true
on_first x y h = ap (λ (t : Bool). t || y) h

seen_first : (test : ClassId → Bool) (c d : ClassId) (ds : List ClassId) (t : Bool) → same_class c d ≡ t → test c ≡ true
    → (list_any (same_class c) ds ≡ true → list_any test ds ≡ true) → (t || list_any (same_class c) ds) ≡ true
    → (test d || list_any test ds) ≡ true
seen_first test c d ds true same at later h = on_first (test d) (list_any test ds)
    (ap test (sym (same_is c d same)) ∙ at)
seen_first test c d ds false same at later h = or_right (test d) (list_any test ds) (later h)

seen_in : (test : ClassId → Bool) (c : ClassId) (seen : List ClassId) → test c ≡ true
    → list_any (same_class c) seen ≡ true → list_any test seen ≡ true
seen_in test c [] at h = absurd cc
seen_in test c (d ∷ ds) at h = seen_first test c d ds (same_class c d) refl at (seen_in test c ds at) h

once_cases : (test : ClassId → Bool) (c : ClassId) (rest more seen cs : List ClassId) (t : Bool)
    → (t ≡ true → test c ≡ true → list_any test seen ≡ true)
    → (list_any test rest || list_any test seen) ≡ (list_any test cs || list_any test seen)
    → (list_any test more || (test c || list_any test seen)) ≡ (list_any test cs || (test c || list_any test seen))
    → (list_any test (cond t rest (c ∷ more)) || list_any test seen)
    ≡ ((test c || list_any test cs) || list_any test seen)
once_cases test c rest more seen cs true known same again = same
    ∙ absorbed (test c) (list_any test cs) (list_any test seen) (known refl)
once_cases test c rest more seen cs false known same again =
    regrouped (test c) (list_any test more) (list_any test seen) ∙ again
    ∙ sym (regrouped (test c) (list_any test cs) (list_any test seen))

any_once : (test : ClassId → Bool) (seen cs : List ClassId)
    → (list_any test (each_once seen cs) || list_any test seen) ≡ (list_any test cs || list_any test seen)
unfolding each_once
any_once test seen [] = refl
any_once test seen (c ∷ cs) =
    once_cases test c (each_once seen cs) (each_once (c ∷ seen) cs) seen cs (list_any (same_class c) seen)
    (λ h at. seen_in test c seen at h) (any_once test seen cs)
    (any_once test (c ∷ seen) cs)

stands_flat : (f : ClassId → List ProfileKind) (k : ProfileKind) (cs : List ClassId)
    → stands (flat_map f cs) k ≡ list_any (λ c. stands (f c) k) cs
stands_flat f k [] = refl
stands_flat f k (c ∷ cs) =
    list_any-append (λ (other : ProfileKind). eqb (rank_of k) (rank_of other)) (f c) (flat_map f cs)
    ∙ ap (λ (t : Bool). stands (f c) k || t) (stands_flat f k cs)

pub least_once : (f : ClassId → List ProfileKind) (cs : List ClassId)
    → least (flat_map f (each_once [] cs)) ≡ least (flat_map f cs)
least_once f cs = least_stands (flat_map f (each_once [] cs)) (flat_map f cs) (λ k.
    stands_flat f k (each_once [] cs) ∙ sym (or-false (list_any (λ (c : ClassId). stands (f c) k) (each_once [] cs)))
    ∙ any_once (λ (c : ClassId). stands (f c) k) [] cs ∙ or-false (list_any (λ (c : ClassId). stands (f c) k) cs)
    ∙ sym (stands_flat f k cs))
