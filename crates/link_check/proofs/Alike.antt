-- Lists in which each test finds the same first element, and what they have in common. A list is so like that of the
-- elements that stand there for the first time.
use Rattle.std.proofs.Common.{◌≡◌, ◌∙◌, ◌&&◌, ◌||◌, not, Bool, true, false, cond, List, [], ◌∷◌, Option, Some, None}
use Rattle.std.proofs.Common.{is_some, refl, sym, ap}
use Rattle.std.specs.List.{cons_option, filter, filter_map, find, flat_map, list_all, list_any}
use Rattle.std.specs.Option.{option_and_then, option_map_or, option_or}
use Rattle.std.proofs.lemmas.Bool.{or_parts}
use Rattle.std.proofs.lemmas.List.Folds.{find-append}
use Rattle.class_pool.specs.declared.id.ClassId.{ClassId}
use Rattle.class_pool.specs.Resolution.{first}
use Rattle.class_pool.specs.Walk.{each_once, same_class}
use Rattle.class_pool.proofs.EachOnce.{same_is}

-- each test finds the same
abbrev pub Alike : {X : Type 0} → List X → List X → Type 0
Alike {X} xs ys = (p : X → Bool) → find p xs ≡ find p ys

-- ---- what a find tells

pub first_is : {X : Type 0} (xs : List X) → first xs ≡ find (λ x. true) xs
first_is [] = refl
first_is (x ∷ xs) = refl

found_any : {X : Type 0} (b c : Bool) (x : X) (o : Option X) → c ≡ is_some o → (b || c) ≡ is_some (cond b (Some x) o)
found_any true c x o h = refl
found_any false c x o h = h

pub any_is : {X : Type 0} (p : X → Bool) (xs : List X) → list_any p xs ≡ is_some (find p xs)
any_is p [] = refl
any_is p (x ∷ xs) = found_any (p x) (list_any p xs) x (find p xs) (any_is p xs)

found_all : {X : Type 0} (b c : Bool) (x : X) (o : Option X) → c ≡ not (is_some o)
    → (b && c) ≡ not (is_some (cond (not b) (Some x) o))
found_all true c x o h = h
found_all false c x o h = refl

pub all_is : {X : Type 0} (p : X → Bool) (xs : List X) → list_all p xs ≡ not (is_some (find (λ x. not (p x)) xs))
all_is p [] = refl
all_is p (x ∷ xs) = found_all (p x) (list_all p xs) x (find (λ y. not (p y)) xs) (all_is p xs)

-- ---- what lists that are alike have in common

pub alike_first : {X : Type 0} (xs ys : List X) → Alike xs ys → first xs ≡ first ys
alike_first xs ys h = first_is xs ∙ h (λ x. true) ∙ sym (first_is ys)

pub alike_any : {X : Type 0} (p : X → Bool) (xs ys : List X) → Alike xs ys → list_any p xs ≡ list_any p ys
alike_any p xs ys h = any_is p xs ∙ ap is_some (h p) ∙ sym (any_is p ys)

pub alike_all : {X : Type 0} (p : X → Bool) (xs ys : List X) → Alike xs ys → list_all p xs ≡ list_all p ys
alike_all p xs ys h = all_is p xs ∙ ap (λ o. not (is_some o)) (h (λ x. not (p x))) ∙ sym (all_is p ys)

filter_step : {X : Type 0} (p : X → Bool) (b : Bool) (x : X) (ys : List X) (o : Option X) → find p ys ≡ o
    → find p (cond b (x ∷ ys) ys) ≡ cond (b && p x) (Some x) o
filter_step p true x ys o h = ap (λ rest. cond (p x) (Some x) rest) h
filter_step p false x ys o h = h

find_filter : {X : Type 0} (p q : X → Bool) (xs : List X) → find p (filter q xs) ≡ find (λ x. q x && p x) xs
find_filter p q [] = refl
find_filter p q (x ∷ xs) = filter_step p (q x) x (filter q xs) (find (λ y. q y && p y) xs) (find_filter p q xs)

pub alike_filter : {X : Type 0} (q : X → Bool) (xs ys : List X) → Alike xs ys → Alike (filter q xs) (filter q ys)
alike_filter q xs ys h p = find_filter p q xs ∙ h (λ x. q x && p x) ∙ sym (find_filter p q ys)

given_step : {X Y : Type 0} (h : X → Option Y) (b : Bool) (x : X) (y : Y) (rest : Option Y) (o : Option X)
    → h x ≡ Some y → rest ≡ option_and_then h o
    → cond b (Some y) rest ≡ option_and_then h (cond b (Some x) o)
given_step h true x y rest o is others = sym is
given_step h false x y rest o is others = others

filter_map_step : {X Y : Type 0} (p : Y → Bool) (h : X → Option Y) (x : X) (ys : List Y) (o : Option X)
    (made : Option Y) → h x ≡ made → find p ys ≡ option_and_then h o
    → find p (cons_option made ys) ≡ option_and_then h (cond (option_map_or p made false) (Some x) o)
filter_map_step p h x ys o (Some y) is others = given_step h (p y) x y (find p ys) o is others
filter_map_step p h x ys o None is others = others

find_filter_map : {X Y : Type 0} (p : Y → Bool) (h : X → Option Y) (xs : List X)
    → find p (filter_map h xs) ≡ option_and_then h (find (λ x. option_map_or p (h x) false) xs)
find_filter_map p h [] = refl
find_filter_map p h (x ∷ xs) =
    filter_map_step p h x (filter_map h xs) (find (λ y. option_map_or p (h y) false) xs) (h x) refl
    (find_filter_map p h xs)

pub alike_filter_map : {X Y : Type 0} (h : X → Option Y) (xs ys : List X) → Alike xs ys
    → Alike (filter_map h xs) (filter_map h ys)
alike_filter_map h xs ys same p =
    find_filter_map p h xs ∙ ap (option_and_then h) (same (λ x. option_map_or p (h x) false))
    ∙ sym (find_filter_map p h ys)

pub alike_flat_map : {X Y : Type 0} (f g : X → List Y) (xs : List X) → ((x : X) → Alike (f x) (g x))
    → Alike (flat_map f xs) (flat_map g xs)
alike_flat_map f g [] h p = refl
alike_flat_map f g (x ∷ xs) h p =
    find-append p (f x) (flat_map f xs) ∙ ap (λ o. option_or o (find p (flat_map f xs))) (h x p)
    ∙ ap (option_or (find p (g x))) (alike_flat_map f g xs h p) ∙ sym (find-append p (g x) (flat_map g xs))

-- ---- classes, each once

seen_step : (p : ClassId → Bool) (c d : ClassId) (ds : List ClassId) (same : Bool) → same_class c d ≡ same
    → (same || list_any (same_class c) ds) ≡ true
    → (p d ≡ false) × (list_any p ds ≡ false)
    → (list_any (same_class c) ds ≡ true → list_any p ds ≡ false → p c ≡ false) → p c ≡ false
seen_step p c d ds true same there none others = ap p (same_is c d same) ∙ none.0
seen_step p c d ds false same there none others = others there none.1

-- none of those seen passes, so that one of them doesn't
seen_fails : (p : ClassId → Bool) (c : ClassId) (seen : List ClassId) → list_any (same_class c) seen ≡ true
    → list_any p seen ≡ false → p c ≡ false
seen_fails p c [] there none = absurd cc
seen_fails p c (d ∷ ds) there none =
    seen_step p c d ds (same_class c d) refl there (or_parts (p d) (list_any p ds) none) (seen_fails p c ds)

skipped : {X : Type 0} (b : Bool) (x : X) (o : Option X) → b ≡ false → cond b (Some x) o ≡ o
skipped b x o h = ap (λ t. cond t (Some x) o) h

taken : (b t : Bool) (c : ClassId) (rest more : Option ClassId) → b ≡ t → (b ≡ false → rest ≡ more)
    → cond b (Some c) rest ≡ cond b (Some c) more
taken b true c rest more is others = ap (λ x. cond x (Some c) rest) is ∙ ap (λ x. cond x (Some c) more) (sym is)
taken b false c rest more is others = ap (cond b (Some c)) (others is)

once_step : (p : ClassId → Bool) (c : ClassId) (seen rest others cs : List ClassId) (t : Bool)
    → (t ≡ true → p c ≡ false) → find p rest ≡ find p cs → (p c ≡ false → find p others ≡ find p cs)
    → find p (cond t rest (c ∷ others)) ≡ cond (p c) (Some c) (find p cs)
once_step p c seen rest others cs true fails same again = same ∙ sym (skipped (p c) c (find p cs) (fails refl))
once_step p c seen rest others cs false fails same again = taken (p c) (p c) c (find p others) (find p cs) refl again

find_once : (p : ClassId → Bool) (seen cs : List ClassId) → list_any p seen ≡ false
    → find p (each_once seen cs) ≡ find p cs
unfolding each_once
find_once p seen [] none = refl
find_once p seen (c ∷ cs) none =
    once_step p c seen (each_once seen cs) (each_once (c ∷ seen) cs) cs (list_any (same_class c) seen)
    (λ there. seen_fails p c seen there none) (find_once p seen cs none)
    (λ fails. find_once p (c ∷ seen) cs (ap (λ b. b || list_any p seen) fails ∙ none))

pub alike_once : (cs : List ClassId) → Alike (each_once [] cs) cs
alike_once cs p = find_once p [] cs refl
