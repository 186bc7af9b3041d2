-- Texts whose beginnings and ends are one.
use Rattle.std.proofs.Common.{◌≡◌, ℕ, zero, suc, ◌+◌, ◌-◌, ◌≤◌, List, [], ◌∷◌, ◌++◌, drop, length, take, refl, sym, ap}
use Rattle.std.proofs.Common.{◌∙◌, arith}
use Rattle.std.proofs.lemmas.List.{take-append-drop}

none_left : (n : ℕ) (xs : List ℕ) → xs ≡ [] → xs ≡ drop n xs
none_left zero xs e = refl
none_left (suc n) xs e = e ∙ ap (drop (suc n)) (sym e)

drop_more : (i j : ℕ) (xs : List ℕ) → drop (i + j) xs ≡ drop j (drop i xs)
drop_more zero j xs = let e : zero + j ≡ j = omega arith in ap (λ (k : ℕ). drop k xs) e
drop_more (suc i) j [] =
    let e : suc i + j ≡ suc (i + j) = omega arith in ap (λ (k : ℕ). drop k []) e ∙ none_left j [] refl
drop_more (suc i) j (x ∷ xs) =
    let e : suc i + j ≡ suc (i + j) = omega arith in ap (λ (k : ℕ). drop k (x ∷ xs)) e ∙ drop_more i j xs

-- lists of one length that begin and end alike, where no place is between
pub ends_meet : (n : ℕ) (xs ys : List ℕ) → length xs ≡ length ys → n ≤ length xs → length xs ≤ n + n
    → take n xs ≡ take n ys → drop (length xs - n) xs ≡ drop (length ys - n) ys → xs ≡ ys
ends_meet n xs ys long least most front end =
    sym (take-append-drop n xs) ∙ (λ i. front i ++ rest i) ∙ take-append-drop n ys
  where
    rest : drop n xs ≡ drop n ys
    rest =
        let m : ℕ = length xs - n in
        let e : m + (n - m) ≡ n = omega (arith, least, most) in
        ap (λ (k : ℕ). drop k xs) (sym e) ∙ drop_more m (n - m) xs
        ∙ ap (drop (n - m)) (end ∙ ap (λ (k : ℕ). drop (k - n) ys) (sym long))
        ∙ sym (drop_more m (n - m) ys) ∙ ap (λ (k : ℕ). drop k ys) e
