-- Steps of loops.
use Rattle.std.proofs.Common.{◌≡◌, ℕ, zero, suc, ◌+◌, ◌<◌, List, [], ◌∷◌, ◌++◌, length}
use Rattle.std.proofs.Common.{get_or, map, take}
use Rattle.std.proofs.Common.{slice_get, Option, Some, None, refl, sym, ap, ◌∙◌, arith, append_assoc, append-nil}
use Rattle.std.specs.List.{cons_option, enumerate_from, filter_map, flat_map, range_with_len}
use Rattle.std.proofs.lemmas.List.{map_push, take_more, length-take}
use Rattle.std.proofs.lemmas.List.Concat.{flat_map-append}
use Rattle.std.proofs.lemmas.List.Elements.{filter_map-append}
use Rattle.std.proofs.lemmas.Option.{slice_get_within}
use Rattle.jv_base.proofs.Lists.{take_got, enumerate_from-append}

one_of : {Y : Type 0} (y : Y) (r : Option Y) → r ≡ Some y → cons_option r [] ≡ y ∷ []
one_of y None e = absurd cc
one_of y (Some z) e = let same : z ≡ y = cc in ap (λ w. w ∷ []) same

none_of : {Y : Type 0} (r : Option Y) → r ≡ None → cons_option r [] ≡ []
none_of None e = refl
none_of (Some z) e = absurd cc

pub more_of : {X : Type 0} (xs : List X) (i : ℕ) (x : X) → i < length xs → x ≡ get_or xs i x
    → take (i + 1) xs ≡ take i xs ++ x ∷ []
more_of xs i x lt at = take_more xs i x lt ∙ ap (λ w. take i xs ++ w ∷ []) (sym at)

-- an element that gives one
pub given : {X Y : Type 0} (h : X → Option Y) (xs : List X) (i : ℕ) (x : X) (old ys zs : List Y) (y : Y) → i < length xs
    → x ≡ get_or xs i x → ys ≡ old ++ filter_map h (take i xs)
    → h x ≡ Some y → zs ≡ ys ++ y ∷ [] → zs ≡ old ++ filter_map h (take (i + 1) xs)
given h xs i x old ys zs y lt at is found grown =
    grown ∙ ap (λ t. t ++ y ∷ []) is ∙ append_assoc old (filter_map h (take i xs)) (y ∷ [])
    ∙ ap (λ t. old ++ (filter_map h (take i xs) ++ t)) (sym (one_of y (h x) found))
    ∙ ap (λ t. old ++ t) (sym (filter_map-append h (take i xs) (x ∷ [])))
    ∙ ap (λ t. old ++ filter_map h t) (sym (more_of xs i x lt at))

-- an element that gives none
pub not_given : {X Y : Type 0} (h : X → Option Y) (xs : List X) (i : ℕ) (x : X) (old ys zs : List Y) → i < length xs
    → x ≡ get_or xs i x → ys ≡ old ++ filter_map h (take i xs)
    → h x ≡ None → zs ≡ ys → zs ≡ old ++ filter_map h (take (i + 1) xs)
not_given h xs i x old ys zs lt at is found same =
    same ∙ is ∙ ap (λ t. old ++ t) (sym (append-nil (filter_map h (take i xs))))
    ∙ ap (λ t. old ++ (filter_map h (take i xs) ++ t)) (sym (none_of (h x) found))
    ∙ ap (λ t. old ++ t) (sym (filter_map-append h (take i xs) (x ∷ [])))
    ∙ ap (λ t. old ++ filter_map h t) (sym (more_of xs i x lt at))

-- what one more element is mapped to
pub mapped : {X Y : Type 0} (f : X → Y) (xs : List X) (i : ℕ) (x : X) (y : Y) (old ys zs : List Y) → i < length xs
    → x ≡ get_or xs i x → ys ≡ old ++ map f (take i xs)
    → y ≡ f x → zs ≡ ys ++ y ∷ [] → zs ≡ old ++ map f (take (i + 1) xs)
mapped f xs i x y old ys zs lt at is same grown =
    grown ∙ ap (λ t. t ++ y ∷ []) is ∙ append_assoc old (map f (take i xs)) (y ∷ [])
    ∙ ap (λ w. old ++ (map f (take i xs) ++ w ∷ [])) same
    ∙ ap (λ t. old ++ t) (sym (map_push f (take i xs) x))
    ∙ ap (λ t. old ++ map f t) (sym (more_of xs i x lt at))

numbered_more : {X : Type 0} (xs : List X) (i : ℕ) (x : X) → slice_get xs i ≡ Some x
    → enumerate_from 0 (take (i + 1) xs) ≡ enumerate_from 0 (take i xs) ++ (i, x) ∷ []
numbered_more xs i x is =
    let within = slice_get_within xs i x is in
    let so_far : 0 + length (take i xs) ≡ i = omega (arith, length-take i xs, within) in
    ap (enumerate_from 0) (take_got xs i x is) ∙ enumerate_from-append 0 (take i xs) (x ∷ [])
    ∙ ap (λ k. enumerate_from 0 (take i xs) ++ (k, x) ∷ []) so_far

-- a numbered list with one more element
pub enumerated_more : {X : Type 0} (s : ℕ) (xs : List X) (i : ℕ) (x : X) → slice_get xs i ≡ Some x
    → enumerate_from s (take (i + 1) xs) ≡ enumerate_from s (take i xs) ++ (s + i, x) ∷ []
enumerated_more s xs i x is =
    let within = slice_get_within xs i x is in
    let so_far : s + length (take i xs) ≡ s + i = omega (arith, length-take i xs, within) in
    ap (enumerate_from s) (take_got xs i x is) ∙ enumerate_from-append s (take i xs) (x ∷ [])
    ∙ ap (λ k. enumerate_from s (take i xs) ++ (k, x) ∷ []) so_far

pub numbered_given : {X Y : Type 0} (f : ℕ × X → List Y) (xs : List X) (i : ℕ) (x : X) (ys zs : List Y)
    → slice_get xs i ≡ Some x → ys ≡ flat_map f (enumerate_from 0 (take i xs))
    → zs ≡ ys ++ f (i, x) → zs ≡ flat_map f (enumerate_from 0 (take (i + 1) xs))
numbered_given f xs i x ys zs at is grown =
    grown ∙ ap (λ t. t ++ f (i, x)) is
    ∙ ap (λ t. flat_map f (enumerate_from 0 (take i xs)) ++ t) (sym (append-nil (f (i, x))))
    ∙ sym (flat_map-append f (enumerate_from 0 (take i xs)) ((i, x) ∷ []))
    ∙ ap (flat_map f) (sym (numbered_more xs i x at))

-- one more piece
pub piece_given : {X Y : Type 0} (f : X → List Y) (xs : List X) (i : ℕ) (x : X) (ys zs : List Y)
    → slice_get xs i ≡ Some x → ys ≡ flat_map f (take i xs)
    → zs ≡ ys ++ f x → zs ≡ flat_map f (take (i + 1) xs)
piece_given f xs i x ys zs at is grown =
    grown ∙ ap (λ t. t ++ f x) is
    ∙ ap (λ t. flat_map f (take i xs) ++ t) (sym (append-nil (f x)))
    ∙ sym (flat_map-append f (take i xs) (x ∷ []))
    ∙ ap (flat_map f) (sym (take_got xs i x at))

-- one more that may give nothing
pub optional_given : {X Y : Type 0} (h : X → Option Y) (xs : List X) (i : ℕ) (x : X) (ys zs : List Y) → i < length xs
    → x ≡ get_or xs i x → ys ≡ filter_map h (take i xs) → zs ≡ ys ++ cons_option (h x) []
    → zs ≡ filter_map h (take (i + 1) xs)
optional_given h xs i x ys zs lt at is grown =
    grown ∙ ap (λ t. t ++ cons_option (h x) []) is
    ∙ sym (filter_map-append h (take i xs) (x ∷ []))
    ∙ ap (filter_map h) (sym (more_of xs i x lt at))

-- one more number
pub range_more : (a n : ℕ) → range_with_len a (n + 1) ≡ range_with_len a n ++ (a + n) ∷ []
range_more a zero = let e : a ≡ a + zero = omega arith in ap (λ (k : ℕ). k ∷ []) e
range_more a (suc n) =
    let e : a + 1 + n ≡ a + suc n = omega arith in
    let next : suc n + 1 ≡ suc (n + 1) = omega arith in
    ap (range_with_len a) next ∙ ap (λ (t : List ℕ). a ∷ t) (range_more (a + 1) n)
    ∙ ap (λ (k : ℕ). a ∷ (range_with_len (a + 1) n ++ k ∷ [])) e

-- what isn't there gives the default
pub none_there : {X : Type 0} (xs : List X) (i : ℕ) (d : X) → None ≡ slice_get xs i → d ≡ get_or xs i d
none_there [] i d e = refl
none_there (x ∷ xs) zero d e = absurd cc
none_there (x ∷ xs) (suc i) d e = none_there xs i d e
