-- Lists with each class once.
use Rattle.std.proofs.Common.{append_assoc, ◌≡◌, ⊎_elim, ℕ, ◌+◌, ◌<◌, ◌⊎◌, inl, inr, ◌||◌, Bool, true, false, cond}
use Rattle.std.proofs.Common.{List, [], ◌∷◌, ◌++◌, length, take, get_or, refl, sym, ap, ◌∙◌}
use Rattle.std.specs.List.{All, list_any}
use Rattle.std.proofs.lemmas.Bool.{eqb-true, eq-eqb}
use Rattle.std.proofs.lemmas.List.{append-nil, take_more}
use Rattle.std.proofs.lemmas.List.Elements.{All-head, All-tail, All-weaker}
use Rattle.jv_base.proofs.Tests.{or_swap, or_more}
use Rattle.class_pool.specs.declared.id.ClassId.{ClassId}
use Rattle.class_pool.specs.declared.id.ClassId.TheVariants.{Prog, Lib}
use Rattle.class_pool.specs.Walk.{each_once, same_class}

pub bool_cases : (b : Bool) → (b ≡ true) ⊎ (b ≡ false)
bool_cases true = inl refl
bool_cases false = inr refl

pub same_is : (a b : ClassId) → same_class a b ≡ true → a ≡ b
same_is (Prog m) (Prog n) h = ap Prog (eqb-true m n h)
same_is (Lib m) (Lib n) h = ap Lib (eqb-true m n h)
same_is (Prog m) (Lib n) h = absurd cc
same_is (Lib m) (Prog n) h = absurd cc

pub same_itself : (a : ClassId) → same_class a a ≡ true
same_itself (Prog m) = eq-eqb m m refl
same_itself (Lib m) = eq-eqb m m refl

cond_same : (p q : Bool) (a b c d : List ClassId) → p ≡ q → a ≡ c → b ≡ d → cond p a b ≡ cond q c d
cond_same p q a b c d h i j = cc

any_middle : (c x : ClassId) (s t : List ClassId)
    → list_any (same_class c) ((x ∷ s) ++ t) ≡ list_any (same_class c) (s ++ x ∷ t)
any_middle c x [] t = refl
any_middle c x (y ∷ s) t = or_swap (same_class c x) (same_class c y) (list_any (same_class c) (s ++ t))
    ∙ ap (λ (b : Bool). same_class c y || b) (any_middle c x s t)

-- what is left out depends on which classes of the list were seen
once_alike : (xs s t : List ClassId) → All (λ c. list_any (same_class c) s ≡ list_any (same_class c) t) xs
    → each_once s xs ≡ each_once t xs
unfolding each_once
once_alike [] s t h = refl
once_alike (x ∷ xs) s t h =
    let rest = All-tail (λ c. list_any (same_class c) s ≡ list_any (same_class c) t) x xs h in
    cond_same (list_any (same_class x) s) (list_any (same_class x) t) (each_once s xs) (x ∷ each_once (x ∷ s) xs)
    (each_once t xs) (x ∷ each_once (x ∷ t) xs)
    (All-head (λ c. list_any (same_class c) s ≡ list_any (same_class c) t) x xs h) (once_alike xs s t rest)
    (ap (λ (ys : List ClassId). x ∷ ys)
    (once_alike xs (x ∷ s) (x ∷ t)
    (All-weaker (λ c. list_any (same_class c) s ≡ list_any (same_class c) t)
    (λ c. list_any (same_class c) (x ∷ s) ≡ list_any (same_class c) (x ∷ t))
    (λ c is. ap (λ (b : Bool). same_class c x || b) is) xs rest)))

-- and not on their order
pub once_same : (xs s t : List ClassId) → ((c : ClassId) → list_any (same_class c) s ≡ list_any (same_class c) t)
    → each_once s xs ≡ each_once t xs
once_same xs s t h = once_alike xs s t (λ k d within. h (get_or xs k d))

pub once_append : (xs ys s : List ClassId)
    → each_once s (xs ++ ys) ≡ each_once s xs ++ each_once (s ++ each_once s xs) ys
unfolding each_once
once_append [] ys s = once_same ys s (s ++ []) (λ c. ap (list_any (same_class c)) (sym (append-nil s)))
once_append (x ∷ xs) ys s =
    elim (list_any (same_class x) s) as (λ b. cond b (each_once s (xs ++ ys)) (x ∷ each_once (x ∷ s) (xs ++ ys))
    ≡ cond b (each_once s xs) (x ∷ each_once (x ∷ s) xs) ++ each_once
    (s ++ cond b (each_once s xs) (x ∷ each_once (x ∷ s) xs)) ys) [
      | true ↦ once_append xs ys s
      | false ↦
          ap (λ (t : List ClassId). x ∷ t)
          (once_append xs ys (x ∷ s)
          ∙ ap (λ (t : List ClassId). each_once (x ∷ s) xs ++ t)
          (once_same ys ((x ∷ s) ++ each_once (x ∷ s) xs) (s ++ x ∷ each_once (x ∷ s) xs)
          (λ c. any_middle c x s (each_once (x ∷ s) xs))))
    ]

within_more : (c x : ClassId) (s t : List ClassId) → list_any (same_class x) s ≡ true
    → (list_any (same_class c) t ≡ true → list_any (same_class c) s ≡ true)
    → (same_class c x || list_any (same_class c) t) ≡ true → list_any (same_class c) s ≡ true
within_more c x s t seen h is =
    ⊎_elim
    (λ same. ap (λ (y : ClassId). list_any (same_class y) s) (same_is c x same) ∙ seen)
    (λ other. h (sym (ap (λ (b : Bool). b || list_any (same_class c) t) other) ∙ is))
    (bool_cases (same_class c x))

-- leaving out what was seen, in two steps
pub once_drop : (xs s t : List ClassId)
    → ((c : ClassId) → list_any (same_class c) t ≡ true → list_any (same_class c) s ≡ true)
    → each_once s (each_once t xs) ≡ each_once s xs
unfolding each_once
once_drop [] s t h = refl
once_drop (x ∷ xs) s t h =
    ⊎_elim
    (λ seen.
    ap (λ (b : Bool). each_once s (cond b (each_once t xs) (x ∷ each_once (x ∷ t) xs))) seen
    ∙ once_drop xs s t h
    ∙ sym (ap (λ (b : Bool). cond b (each_once s xs) (x ∷ each_once (x ∷ s) xs)) (h x seen)))
    (λ new.
    ap (λ (b : Bool). each_once s (cond b (each_once t xs) (x ∷ each_once (x ∷ t) xs))) new
    ∙ ⊎_elim
    (λ seen.
    ap (λ (b : Bool). cond b (each_once s (each_once (x ∷ t) xs)) (x ∷ each_once (x ∷ s) (each_once (x ∷ t) xs))) seen
    ∙ once_drop xs s (x ∷ t) (λ c is. within_more c x s t seen (h c) is)
    ∙ sym (ap (λ (b : Bool). cond b (each_once s xs) (x ∷ each_once (x ∷ s) xs)) seen))
    (λ unseen.
    ap (λ (b : Bool). cond b (each_once s (each_once (x ∷ t) xs)) (x ∷ each_once (x ∷ s) (each_once (x ∷ t) xs))) unseen
    ∙ ap (λ (ys : List ClassId). x ∷ ys)
    (once_drop xs (x ∷ s) (x ∷ t)
    (λ c is. or_more (same_class c x) (list_any (same_class c) t) (list_any (same_class c) s) (h c) is))
    ∙ sym (ap (λ (b : Bool). cond b (each_once s xs) (x ∷ each_once (x ∷ s) xs)) unseen))
    (bool_cases (list_any (same_class x) s)))
    (bool_cases (list_any (same_class x) t))

pub once_twice : (s xs : List ClassId) → each_once s (each_once [] xs) ≡ each_once s xs
once_twice s xs = once_drop xs s [] (λ c is. absurd cc)

-- a class that isn't in a list, before it
pub once_before : (x : ClassId) (xs : List ClassId) → All (λ c. same_class c x ≡ false) xs
    → each_once [] (x ∷ each_once [] xs) ≡ x ∷ each_once [] xs
unfolding each_once
once_before x xs h =
    ap (λ (t : List ClassId). x ∷ t)
    (once_twice (x ∷ []) xs
    ∙ once_alike xs (x ∷ []) []
    (All-weaker (λ c. same_class c x ≡ false) (λ c. list_any (same_class c) (x ∷ []) ≡ false)
    (λ c is. ap (λ (b : Bool). b || false) is) xs h))

pub once_one : (s : List ClassId) (x : ClassId) → each_once s (x ∷ []) ≡ cond (list_any (same_class x) s) [] (x ∷ [])
unfolding each_once
once_one s x = refl

pub once_none : (s : List ClassId) → each_once s [] ≡ []
unfolding each_once
once_none s = refl

-- one more of a list whose first ones were met
pub once_more : (s xs : List ClassId) (i : ℕ) (d : ClassId) (ids : List ClassId) → i < length xs
    → ids ≡ s ++ each_once s (take i xs)
    → ids ++ each_once ids (get_or xs i d ∷ []) ≡ s ++ each_once s (take (i + 1) xs)
once_more s xs i d ids within before = cc (
  append_assoc s (each_once s (take i xs))
      (each_once (s ++ each_once s (take i xs)) (get_or xs i d ∷ [])),
  once_append (take i xs)
      (get_or xs i d ∷ []) s,
  take_more xs i d within,
)
