-- Numbered lists, and lists made of pieces.
use Rattle.std.proofs.Common.{◌≡◌, ℕ, zero, suc, ◌+◌, ◌<◌, List, [], ◌∷◌, ◌++◌, length, take}
use Rattle.std.proofs.Common.{Some, slice_get, refl, sym, ap, ◌∙◌, arith, append_assoc, append-nil}
use Rattle.std.specs.List.{enumerate_from, flat_map}
use Rattle.std.proofs.lemmas.List.Concat.{flat_map-append}
use Rattle.jv_base.proofs.Lists.{take_got}

-- an element with its number
pub numbered_at : {X : Type 0} (s : ℕ) (xs : List X) (i : ℕ) (x : X) → slice_get xs i ≡ Some x
    → slice_get (enumerate_from s xs) i ≡ Some (s + i, x)
numbered_at s [] i x is = absurd cc
numbered_at s (y ∷ xs) zero x is =
    let same : y ≡ x = cc in
    let start : s ≡ s + zero = omega arith in
    ap (λ (z : _). Some (s, z)) same ∙ ap (λ (k : ℕ). Some (k, x)) start
numbered_at s (y ∷ xs) (suc i) x is =
    let next : s + 1 + i ≡ s + suc i = omega arith in
    numbered_at (s + 1) xs i x is ∙ ap (λ (k : ℕ). Some (k, x)) next

-- one more piece behind others
pub piece_more : {X Y : Type 0} (f : X → List Y) (xs : List X) (i : ℕ) (x : X) (old ys zs : List Y)
    → slice_get xs i ≡ Some x → ys ≡ old ++ flat_map f (take i xs) → zs ≡ ys ++ f x
    → zs ≡ old ++ flat_map f (take (i + 1) xs)
piece_more f xs i x old ys zs at is grown =
    grown ∙ ap (λ t. t ++ f x) is ∙ append_assoc old (flat_map f (take i xs)) (f x)
    ∙ ap (λ t. old ++ (flat_map f (take i xs) ++ t)) (sym (append-nil (f x)))
    ∙ ap (λ t. old ++ t) (sym (flat_map-append f (take i xs) (x ∷ [])))
    ∙ ap (λ t. old ++ flat_map f t) (sym (take_got xs i x at))

-- the same where the pieces of numbered elements are made
pub numbered_more : {X Y : Type 0} (f : ℕ × X → List Y) (s : ℕ) (xs : List X) (i : ℕ) (x : X) (old ys zs : List Y)
    → slice_get xs i ≡ Some x → ys ≡ old ++ flat_map f (take i (enumerate_from s xs)) → zs ≡ ys ++ f (s + i, x)
    → zs ≡ old ++ flat_map f (take (i + 1) (enumerate_from s xs))
numbered_more f s xs i x old ys zs at is grown =
    piece_more f (enumerate_from s xs) i (s + i, x) old ys zs (numbered_at s xs i x at) is grown

-- pieces that are equal at each number
pub pieces_same : {X Y : Type 0} (f g : ℕ × X → List Y) (s : ℕ) (xs : List X)
    → ((i : ℕ) (x : X) → i < length xs → f (s + i, x) ≡ g (s + i, x))
    → flat_map f (enumerate_from s xs) ≡ flat_map g (enumerate_from s xs)
pieces_same f g s [] each = refl
pieces_same f g s (x ∷ xs) each =
    let start : s + 0 ≡ s = omega arith in
    let here = ap (λ (k : ℕ). f (k, x)) (sym start) ∙ each 0 x (omega arith) ∙ ap (λ (k : ℕ). g (k, x)) start in
    ap (λ t. t ++ flat_map f (enumerate_from (s + 1) xs)) here
    ∙ ap (λ t. g (s, x) ++ t) (pieces_same f g (s + 1) xs
    (λ i y lt.
    let next : s + suc i ≡ s + 1 + i = omega arith in
    ap (λ (k : ℕ). f (k, y)) (sym next) ∙ each (suc i) y (omega arith) ∙ ap (λ (k : ℕ). g (k, y)) next))
