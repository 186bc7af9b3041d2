-- Lists of classes: what stands in them, and what stays where each class is listed once.
use Rattle.std.proofs.Common.{◌≡◌, ◌≢◌, ⊎_elim, ℕ, zero, suc, ◌<◌, ◌||◌, Bool, true, false, cond, List, [], ◌∷◌, ◌++◌}
use Rattle.std.proofs.Common.{length, get_or, refl, sym, ap, subst, ◌∙◌, arith}
use Rattle.std.specs.List.{All, AllPairs, Contains, flat_map, list_any}
use Rattle.std.specs.Option.{option_map_or}
use Rattle.std.proofs.lemmas.Bool.{both_ways, or_cases, or_left, or_right, or_parts}
use Rattle.std.proofs.lemmas.List.Elements.{All-cons, All-head, All-nil, All-tail, All-weaker}
use Rattle.std.proofs.lemmas.List.Elements.{Contains-append_left, Contains-append_right, Contains-push}
use Rattle.std.proofs.lemmas.List.Folds.{list_any-append}
use Rattle.std.proofs.lemmas.List.Kept.{AllPairs-cons}
use Rattle.class_model.specs.declared.class.Class.{Class}
use Rattle.class_pool.specs.declared.id.ClassId.{ClassId}
use Rattle.class_pool.specs.Hierarchy.{superclass}
use Rattle.class_pool.specs.Walk.{each_once, own_superinterfaces, same_class, superclasses_from, supers, upwards}
use Rattle.class_pool.proofs.EachOnce.{bool_cases, once_append, once_twice, same_is, same_itself}
use Rattle.class_pool.proofs.Walking.{up_unfolded}

-- a class is one of a list
abbrev pub In : ClassId → List ClassId → Type 0
In x xs = list_any (same_class x) xs ≡ true

pub in_first : (x : ClassId) (xs : List ClassId) → In x (x ∷ xs)
in_first x xs = ap (λ (b : Bool). b || list_any (same_class x) xs) (same_itself x)

pub in_next : (x y : ClassId) (xs : List ClassId) → In x xs → In x (y ∷ xs)
in_next x y xs h = or_right (same_class x y) (list_any (same_class x) xs) h

pub in_left : (x : ClassId) (xs ys : List ClassId) → In x xs → In x (xs ++ ys)
in_left x xs ys h = list_any-append (same_class x) xs ys
    ∙ or_left (list_any (same_class x) xs) (list_any (same_class x) ys) h

pub in_right : (x : ClassId) (xs ys : List ClassId) → In x ys → In x (xs ++ ys)
in_right x xs ys h = list_any-append (same_class x) xs ys
    ∙ or_right (list_any (same_class x) xs) (list_any (same_class x) ys) h

pub in_flat : (f : ClassId → List ClassId) (is : List ClassId) (k : ℕ) (d x : ClassId) → k < length is
    → In x (f (get_or is k d)) → In x (flat_map f is)
in_flat f [] k d x within h = absurd (omega (arith, within))
in_flat f (i ∷ is) zero d x within h = in_left x (f i) (flat_map f is) h
in_flat f (i ∷ is) (suc k) d x within h = in_right x (f i) (flat_map f is)
    (in_flat f is k d x (omega (arith, within)) h)

-- what holds of all holds of one
pub of_one : (P : ClassId → Type 0) (x : ClassId) (xs : List ClassId) → All P xs → In x xs → P x
of_one P x [] h is = absurd cc
of_one P x (y ∷ ys) h is =
    ⊎_elim
    (λ same. subst P (sym (same_is x y same)) (All-head P y ys h))
    (λ other. of_one P x ys (All-tail P y ys h) other)
    (or_cases (same_class x y) (list_any (same_class x) ys) is)

pub in_contains : (x : ClassId) (xs : List ClassId) → In x xs → Contains xs x
in_contains x [] is = absurd cc
in_contains x (y ∷ ys) is =
    ⊎_elim
    (λ same. subst (λ (z : ClassId). Contains (z ∷ ys) x) (same_is x y same) (Contains_first x ys))
    (λ other. Contains-append_right (y ∷ []) ys x (in_contains x ys other))
    (or_cases (same_class x y) (list_any (same_class x) ys) is)
  where
    Contains_first : (x : ClassId) (ys : List ClassId) → Contains (x ∷ ys) x
    Contains_first x ys = Contains-append_left (x ∷ []) ys x (Contains-push [] x)

-- ---- each once

-- what each_once keeps is none of those seen
pub once_new : (P : ClassId → Type 0) (xs s : List ClassId) → All P xs
    → All (λ x. P x × (list_any (same_class x) s ≡ false)) (each_once s xs)
unfolding each_once
once_new P [] s h = All-nil (λ x. P x × (list_any (same_class x) s ≡ false))
once_new P (x ∷ xs) s h =
    ⊎_elim
    (λ seen.
    subst (λ (b : Bool). All (λ y. P y × (list_any (same_class y) s ≡ false))
    (cond b (each_once s xs) (x ∷ each_once (x ∷ s) xs))) (sym seen)
    (once_new P xs s (All-tail P x xs h)))
    (λ new.
    subst (λ (b : Bool). All (λ y. P y × (list_any (same_class y) s ≡ false))
    (cond b (each_once s xs) (x ∷ each_once (x ∷ s) xs))) (sym new)
    (All-cons (λ y. P y × (list_any (same_class y) s ≡ false)) x (each_once (x ∷ s) xs) (All-head P x xs h, new)
    (All-weaker (λ y. P y × (list_any (same_class y) (x ∷ s) ≡ false)) (λ y. P y × (list_any (same_class y) s ≡ false))
    (λ y both. (both.0, (or_parts (same_class y x) (list_any (same_class y) s) both.1).1)) (each_once (x ∷ s) xs)
    (once_new P xs (x ∷ s) (All-tail P x xs h)))))
    (bool_cases (list_any (same_class x) s))

pub once_differ : (xs s : List ClassId) → AllPairs (λ x y. x ≢ y) (each_once s xs)
unfolding each_once
once_differ [] s = λ i j d less within. absurd (omega (arith, within))
once_differ (x ∷ xs) s =
    elim (list_any (same_class x) s) as
    (λ b. AllPairs (λ y z. y ≢ z) (cond b (each_once s xs) (x ∷ each_once (x ∷ s) xs))) [
      | true ↦ once_differ xs s
      | false ↦
          AllPairs-cons (λ y z. y ≢ z) x (each_once (x ∷ s) xs)
          (All-weaker (λ y. (Unit {0}) × (list_any (same_class y) (x ∷ s) ≡ false)) (λ y. x ≢ y)
          (λ y both same. both_ways (same_class y x) (or_parts (same_class y x) (list_any (same_class y) s) both.1).0
          (ap (λ (z : ClassId). same_class y z) same ∙ same_itself y))
          (each_once (x ∷ s) xs) (once_new (λ _. Unit {0}) xs (x ∷ s) (λ k d within. tt)))
          (once_differ xs (x ∷ s))
    ]

-- one of the list that wasn't seen is kept
pub once_in : (y : ClassId) (xs s : List ClassId) → In y xs → list_any (same_class y) s ≡ false → In y (each_once s xs)
unfolding each_once
once_in y [] s is new = absurd cc
once_in y (x ∷ xs) s is new =
    ⊎_elim
    (λ seen.
    ap (λ (b : Bool). list_any (same_class y) (cond b (each_once s xs) (x ∷ each_once (x ∷ s) xs))) seen
    ∙ once_in y xs s
    (⊎_elim
    (λ same. absurd (both_ways (list_any (same_class y) s) new
    (ap (λ (z : ClassId). list_any (same_class z) s) (same_is y x same) ∙ seen)))
    (λ other. other)
    (or_cases (same_class y x) (list_any (same_class y) xs) is))
    new)
    (λ unseen.
    ap (λ (b : Bool). list_any (same_class y) (cond b (each_once s xs) (x ∷ each_once (x ∷ s) xs))) unseen
    ∙ ⊎_elim
    (λ same. or_left (same_class y x) (list_any (same_class y) (each_once (x ∷ s) xs)) same)
    (λ other.
    or_right (same_class y x) (list_any (same_class y) (each_once (x ∷ s) xs))
    (once_in y xs (x ∷ s)
    (⊎_elim (λ same. absurd (both_ways (same_class y x) other same)) (λ rest. rest)
    (or_cases (same_class y x) (list_any (same_class y) xs) is))
    (ap (λ (b : Bool). b || list_any (same_class y) s) other ∙ new)))
    (bool_cases (same_class y x)))
    (bool_cases (list_any (same_class x) s))

-- each list has its classes once, and so have the lists behind each other
once_flat : (f g : ClassId → List ClassId) (is s : List ClassId) → All (λ i. f i ≡ each_once [] (g i)) is
    → each_once s (flat_map f is) ≡ each_once s (flat_map g is)
once_flat f g [] s h = refl
once_flat f g (i ∷ is) s h =
    let first : each_once s (f i)
    ≡ each_once s (g i) = ap (each_once s) (All-head (λ j. f j ≡ each_once [] (g j)) i is h) ∙ once_twice s (g i) in
    once_append (f i) (flat_map f is) s
    ∙ ap (λ (t : List ClassId). t ++ each_once (s ++ t) (flat_map f is)) first
    ∙ ap (λ (t : List ClassId). each_once s (g i) ++ t)
    (once_flat f g is (s ++ each_once s (g i)) (All-tail (λ j. f j ≡ each_once [] (g j)) i is h))
    ∙ sym (once_append (g i) (flat_map g is) s)

once_head : (c : ClassId) (xs : List ClassId) → each_once [] (c ∷ xs) ≡ c ∷ each_once (c ∷ []) (c ∷ xs)
unfolding each_once
once_head c xs = sym (ap (λ (b : Bool). c ∷ cond (b || false) (each_once (c ∷ []) xs) (c ∷ each_once (c ∷ c ∷ []) xs))
    (same_itself c))

pub up_first : (classes : List Class) (c : ClassId)
    → superclasses_from classes c ≡ c ∷ option_map_or (upwards 8589934591 classes) (superclass classes c) []
up_first classes c = up_unfolded 8589934591 classes c

-- the superclasses and then the lists of each of these, each class once, are the class and its supertypes
pub supers_are : (classes : List Class) (f : ClassId → List ClassId) (c : ClassId)
    → All (λ i. f i ≡ each_once [] (own_superinterfaces classes i)) (superclasses_from classes c)
    → each_once [] (superclasses_from classes c ++ flat_map f (superclasses_from classes c)) ≡ c ∷ supers classes c
supers_are classes f c h =
    let up : List ClassId = superclasses_from classes c in
    let own : List ClassId = flat_map (own_superinterfaces classes) up in
    once_append up (flat_map f up) []
    ∙ ap (λ (t : List ClassId). each_once [] up ++ t) (once_flat f (own_superinterfaces classes) up (each_once [] up) h)
    ∙ sym (once_append up own [])
    ∙ ap (λ (t : List ClassId). each_once [] (t ++ own)) (up_first classes c)
    ∙ once_head c (option_map_or (upwards 8589934591 classes) (superclass classes c) [] ++ own)
    ∙ ap (λ (t : List ClassId). c ∷ each_once (c ∷ []) (t ++ own)) (sym (up_first classes c))
