-- Supertypes whose names are matched, over the list of supertypes and in a walk.
use Rattle.std.proofs.Common.{◌≡◌, ℕ, Bool, true, false, not, ◌&&◌, ◌||◌, cond, List, [], ◌∷◌, ◌++◌, refl, sym, ap, ◌∙◌}
use Rattle.std.proofs.Common.{◌≤◌, length, drop}
use Rattle.std.proofs.lemmas.Bool.{and_right}
use Rattle.std.proofs.lemmas.List.{at_drop_all}
use Rattle.std.proofs.Math.Bool.{or-false}
use Rattle.std.specs.List.{flat_map, list_any}
use Rattle.std.proofs.lemmas.List.Folds.{list_any-append}
use Rattle.jv_base.proofs.Tests.{or_pairs}
use Rattle.class_model.specs.declared.class.Class.{Class}
use Rattle.class_pool.specs.declared.id.ClassId.{ClassId}
use Rattle.class_pool.specs.declared.id.ClassId.TheVariants.{Prog}
use Rattle.class_pool.specs.Walk.{each_once, own_superinterfaces, same_class, superclasses_from, superinterfaces}
use Rattle.class_pool.specs.Walk.{supers}
use Rattle.class_pool.specs.Found.{name_of}
use Rattle.class_pool.proofs.EachOnce.{same_is}
use Rattle.keep_match.specs.bodies.Above.{is_met_at, is_other_met}
use Rattle.keep_match.specs.Matches.{matches_class_name}

-- ---- lists in which each stands once

absorbed : (p q x y : Bool) → x ≡ (p || y) → (p ≡ false → y ≡ q) → x ≡ (p || q)
absorbed true q x y e h = e
absorbed false q x y e h = e ∙ h refl

pub any_same : {A : Type 0} (p q : A → Bool) (xs : List A) → ((x : A) → p x ≡ q x) → list_any p xs ≡ list_any q xs
any_same p q [] h = refl
any_same p q (x ∷ xs) h = λ i. h x i || any_same p q xs h i

-- the test, for classes that aren't among those seen
abbrev unseen : List ClassId → (ClassId → Bool) → ClassId → Bool
unseen seen test c = not (list_any (same_class c) seen) && test c

-- where the test fails at a class, it doesn't matter whether this one was seen
one_more : (test : ClassId → Bool) (c : ClassId) (seen : List ClassId) → test c ≡ false → (d : ClassId)
    → unseen (c ∷ seen) test d ≡ unseen seen test d
one_more test c seen fails d = by (same_class d c) refl
  where
    by : (b : Bool) → same_class d c ≡ b → unseen (c ∷ seen) test d ≡ unseen seen test d
    by true e =
        ap (λ (t : Bool). not (t || list_any (same_class d) seen) && test d) e
        ∙ sym (and_right (not (list_any (same_class d) seen)) (test d) (ap test (same_is d c e) ∙ fails))
    by false e = ap (λ (t : Bool). not (t || list_any (same_class d) seen) && test d) e

once_cases : (test : ClassId → Bool) (c : ClassId) (seen cs : List ClassId) (b : Bool)
    → list_any test (each_once seen cs) ≡ list_any (unseen seen test) cs
    → list_any test (each_once (c ∷ seen) cs) ≡ list_any (unseen (c ∷ seen) test) cs
    → list_any test (cond b (each_once seen cs) (c ∷ each_once (c ∷ seen) cs))
    ≡ ((not b && test c) || list_any (unseen seen test) cs)
once_cases test c seen cs true h k = h
once_cases test c seen cs false h k =
    absorbed (test c) (list_any (unseen seen test) cs) (test c || list_any test (each_once (c ∷ seen) cs))
    (list_any (unseen (c ∷ seen) test) cs) (ap (λ (t : Bool). test c || t) k)
    (λ fails. any_same (unseen (c ∷ seen) test) (unseen seen test) cs (one_more test c seen fails))

pub any_once : (test : ClassId → Bool) (seen cs : List ClassId)
    → list_any test (each_once seen cs) ≡ list_any (unseen seen test) cs
unfolding each_once
any_once test seen [] = refl
any_once test seen (c ∷ cs) =
    once_cases test c seen cs (list_any (same_class c) seen) (any_once test seen cs) (any_once test (c ∷ seen) cs)

-- ---- superclasses, each with its own superinterfaces

any_flat : {A : Type 0} (test : A → Bool) (f : A → List A) (xs : List A)
    → list_any test (flat_map f xs) ≡ list_any (λ x. list_any test (f x)) xs
any_flat test f [] = refl
any_flat test f (x ∷ xs) =
    list_any-append test (f x) (flat_map f xs) ∙ ap (λ (t : Bool). list_any test (f x) || t) (any_flat test f xs)

any_both : {A : Type 0} (p q : A → Bool) (xs : List A)
    → (list_any p xs || list_any q xs) ≡ list_any (λ x. p x || q x) xs
any_both p q [] = refl
any_both p q (x ∷ xs) =
    or_pairs (p x) (list_any p xs) (q x) (list_any q xs) ∙ ap (λ (t : Bool). (p x || q x) || t) (any_both p q xs)

module _ (pattern : List ℕ) (classes : List Class) (n : ℕ) where
  -- the test over all supertypes is that over what is met, the class itself aside
  pub supers_is : list_any (λ id. matches_class_name pattern (name_of classes id)) (supers classes (Prog n))
      ≡ list_any (is_other_met pattern classes n)
      (superclasses_from classes (Prog n) ++ superinterfaces classes (Prog n))
  supers_is =
      any_once (λ id. matches_class_name pattern (name_of classes id)) (Prog n ∷ [])
      (superclasses_from classes (Prog n) ++ superinterfaces classes (Prog n))
      ∙ any_same (unseen (Prog n ∷ []) (λ id. matches_class_name pattern (name_of classes id)))
      (is_other_met pattern classes n) (superclasses_from classes (Prog n) ++ superinterfaces classes (Prog n))
      (λ c. ap (λ (t : Bool). not t && matches_class_name pattern (name_of classes c))
      (or-false (same_class c (Prog n))))

  -- the test over what is met from a class upwards is that over its superclasses, each with its own superinterfaces
  pub met_is : (c : ClassId)
      → list_any (is_other_met pattern classes n) (superclasses_from classes c ++ superinterfaces classes c)
      ≡ list_any (is_met_at pattern classes n) (superclasses_from classes c)
  met_is c =
      list_any-append (is_other_met pattern classes n) (superclasses_from classes c) (superinterfaces classes c)
      ∙ ap (λ (t : Bool). list_any (is_other_met pattern classes n) (superclasses_from classes c) || t)
      (any_flat (is_other_met pattern classes n) (own_superinterfaces classes) (superclasses_from classes c))
      ∙ any_both (is_other_met pattern classes n)
      (λ d. list_any (is_other_met pattern classes n) (own_superinterfaces classes d)) (superclasses_from classes c)

  -- the test over all supertypes is that over the superclasses, each with its own superinterfaces
  pub above_is : list_any (λ id. matches_class_name pattern (name_of classes id)) (supers classes (Prog n))
      ≡ list_any (is_met_at pattern classes n) (superclasses_from classes (Prog n))
  above_is = supers_is ∙ met_is (Prog n)

  -- own superinterfaces, each once
  pub own_once : (ids : List ClassId)
      → list_any (is_other_met pattern classes n) (each_once [] ids) ≡ list_any (is_other_met pattern classes n) ids
  own_once ids = any_once (is_other_met pattern classes n) [] ids

pub any_fails : (test : ClassId → Bool) (xs : List ClassId) (i : ℕ) → length xs ≤ i
    → list_any test (drop i xs) ≡ list_any test xs → false ≡ list_any test xs
any_fails test xs i le h = sym (at_drop_all (list_any test) xs i le) ∙ h
