-- The front of a class name, by its last `/`.
use Rattle.std.proofs.Common.{◌≡◌, ℕ, ◌+◌, ◌-◌, ◌<◌, ◌≤◌, ◌==◌, Bool, true, false, not, List, [], ◌∷◌, ◌++◌, length}
use Rattle.std.proofs.Common.{get_or, take}
use Rattle.std.proofs.Common.{drop, Option, Some, None, MatchOption, Bor, codes, refl, sym, ap, ◌∙◌, arith, length-drop}
use Rattle.std.proofs.Common.{get_or-drop}
use Rattle.std.proofs.lemmas.List.{drop_more, take-append-drop}
use Rattle.std.proofs.Common.{◌⊎◌, inl, inr, zero, suc, ◌/◌, ◌%◌, ◌&&◌, cond}
use Rattle.std.specs.Prelude.{nat_lt, reverse}
use Rattle.std.proofs.lemmas.List.Folds.{list_all-append}
use Rattle.std.specs.List.{list_all, suffix_len}
use Rattle.std.specs.Str.Pattern.{RFindsChar}
use Rattle.std.proofs.lemmas.Bool.{eqb-true}
use Rattle.std.proofs.Math.Seq.{take-append_seam}
use Rattle.std.proofs.lemmas.List.{get_or-append_right, get_or-reverse, get_or-take, get_or_append_left, length-append}
use Rattle.std.proofs.lemmas.List.{length-reverse, length-take-le, take_more}
use Rattle.std.proofs.lemmas.List.Sums.{AllPass-from_list_all, prefix_len_stops, suffix_len_is}
use Rattle.std.proofs.lemmas.Str.{len_utf8_ascii}
use Rattle.std.proofs.lemmas.Str.Pattern.{NoCharPasses-char}
use Rattle.fresh_names.specs.Fresh.{fresh, letter, name_at, spelled}
use Rattle.fresh_names.specs.Given.{front_of}

-- no `/`
abbrev pub is_within : ℕ → Bool
is_within b = not (b == 47)

passes : (b : ℕ) → (b ≡ 47 → ⊥) → is_within b ≡ true
passes b other = on (b == 47) refl
  where
    on : (e : Bool) → (b == 47) ≡ e → not e ≡ true
    on false e = refl
    on true e = absurd (other (eqb-true b 47 e))

front_none : (text : List ℕ) → ((k : ℕ) → k < length text → get_or text k 0 ≡ 47 → ⊥) → [] ≡ front_of text
front_none text none =
    let behind =
    suffix_len_is is_within text 0 0 (omega arith) (λ k above below. passes (get_or text k 0) (none k below))
    (λ some. absurd (omega (arith, some))) in
    let e : 0 ≡ length text - suffix_len is_within text = omega (arith, behind) in
    ap (λ (n : ℕ). take n text) e

front_some : (text before : List ℕ) (i : ℕ) → before ≡ take i text → i < length text → get_or text i 0 ≡ 47
    → ((k : ℕ) → i < k → k < length text → get_or text k 0 ≡ 47 → ⊥) → before ++ codes "/" ≡ front_of text
front_some text before i is below here later =
    let last : i + 1 - 1 ≡ i = omega arith in
    let behind = suffix_len_is is_within text (i + 1) 0 (omega (arith, below))
    (λ k above under. passes (get_or text k 0) (later k (omega (arith, above)) under))
    (λ some. ap (λ (n : ℕ). is_within (get_or text n 0)) last ∙ ap is_within here) in
    let e : i + 1 ≡ length text - suffix_len is_within text = omega (arith, behind, below) in
    ap (λ (l : List ℕ). l ++ codes "/") is
    ∙ ap (λ (b : ℕ). take i text ++ b ∷ []) (sym here)
    ∙ sym (take_more text i 0 below)
    ∙ ap (λ (n : ℕ). take n text) e

-- what stands before the last `/`, if there is one
pub front_split : (text : List ℕ) (r : Option (Bor (List ℕ) × Bor (List ℕ)))
    → MatchOption r (RFindsChar 47 text None)
    (λ x. (i : ℕ) × (j : ℕ) × RFindsChar 47 text (Some (i, j)) × (x.0.now ≡ take i text)
    × (x.1.now ≡ drop j text) × (i ≤ j) × (length x.0.now ≡ i) × (length x.1.now + j ≡ length text))
    → MatchOption r ([] ≡ front_of text) (λ x. x.0.now ++ codes "/" ≡ front_of text)
front_split text None h = front_none text (λ k below e. NoCharPasses-char 47 text k h (omega arith) below e)
front_split text (Some x) h =
    let i = h.0 in
    let j = h.1 in
    let next : j ≡ i + 1 = omega (arith, h.2.1.ends, len_utf8_ascii 47 (omega arith)) in
    front_some text x.0.now i h.3 (omega (arith, h.7, next)) (h.2.1.byte (omega arith))
    (λ k a l e.
    let back : j + (k - j) ≡ k = omega (arith, next, a) in
    NoCharPasses-char 47 (drop j text) (k - j) h.2.0 (omega arith) (omega (arith, next, a, l, length-drop j text))
    (get_or-drop j text (k - j) 0 ∙ ap (λ n. get_or text n 0) back ∙ e))

-- ---- a name behind a front

-- letters are no `/`
one_within : (n : ℕ) → is_within (letter n) ≡ true
one_within n = passes (letter n) (λ e. omega (arith, e))

spelled_within : (letters n : ℕ) → list_all is_within (spelled letters n) ≡ true
unfolding spelled
spelled_within zero n = refl
spelled_within (suc letters) n = on (nat_lt n 26) (spelled_within letters (n / 26 - 1))
  where
    on : (b : Bool) → list_all is_within (spelled letters (n / 26 - 1)) ≡ true
        → list_all is_within (cond b (letter n ∷ []) (spelled letters (n / 26 - 1) ++ letter (n % 26) ∷ [])) ≡ true
    on true before = ap (λ (b : Bool). b && true) (one_within n)
    on false before =
        list_all-append is_within (spelled letters (n / 26 - 1)) (letter (n % 26) ∷ [])
        ∙ (λ i. before i && (one_within (n % 26) i && true))

-- a front that isn't empty ends in `/`
front_ends : (text : List ℕ) → 0 < length text - suffix_len is_within text
    → is_within (get_or text (length text - suffix_len is_within text - 1) 0) ≡ false
front_ends text some =
    let long = length-reverse text in
    let stops = prefix_len_stops is_within (reverse text) 0 (omega (arith, long, some)) in
    let at = get_or-reverse text (suffix_len is_within text) 0 (omega (arith, some)) in
    let same : length text - 1 - suffix_len is_within text ≡ length text - suffix_len is_within text - 1 =
    omega arith in
    ap is_within (sym (at ∙ ap (λ (n : ℕ). get_or text n 0) same)) ∙ stops

-- the front of what stands behind a front without `/`
behind_front : (text rest : List ℕ) → list_all is_within rest ≡ true → front_of (front_of text ++ rest) ≡ front_of text
behind_front text rest all =
    let n = length text - suffix_len is_within text in
    let front = take n text in
    let long : length front ≡ n = length-take-le n text (omega arith) in
    let sum = length-append front rest in
    let behind = suffix_len_is is_within (front ++ rest) n 0 (omega (arith, sum, long))
    (λ k above below. ap is_within (get_or-append_right front rest n k 0 long above)
    ∙ AllPass-from_list_all is_within rest all (k - n) 0 (omega (arith, above, below, sum, long)))
    (λ some. ap is_within (get_or_append_left front rest 0 (n - 1) (omega (arith, long, some))
    ∙ get_or-take n text (n - 1) 0 (omega (arith, some))) ∙ front_ends text some) in
    let e : length (front ++ rest) - suffix_len is_within (front ++ rest) ≡ length front =
    omega (arith, behind, sum, long) in
    ap (λ (k : ℕ). take k (front ++ rest)) e ∙ take-append_seam front rest

pub fresh_front : (text : List ℕ) (n : ℕ) → front_of (fresh (front_of text) n) ≡ front_of text
fresh_front text n = behind_front text (name_at n) (spelled_within (suc n) n)

-- a front is nothing, or it ends in the `/` behind which the rest stands
pub front_cases : (text : List ℕ) → (front_of text ≡ [])
    ⊎ ((xs : List ℕ) × (ys : List ℕ) × (front_of text ≡ xs ++ 47 ∷ []) × (text ≡ xs ++ 47 ∷ ys))
front_cases text = on (length text - suffix_len is_within text) refl
  where
    slash : (b : ℕ) → not (b == 47) ≡ false → b ≡ 47
    slash b h = other (b == 47) refl h
      where
        other : (e : Bool) → (b == 47) ≡ e → not e ≡ false → b ≡ 47
        other true e h = eqb-true b 47 e
        other false e h = absurd cc

    on : (n : ℕ) → length text - suffix_len is_within text ≡ n
        → (take n text ≡ []) ⊎ ((xs : List ℕ) × (ys : List ℕ) × (take n text ≡ xs ++ 47 ∷ []) × (text ≡ xs ++ 47 ∷ ys))
    on zero e = inl refl
    on (suc m) e =
        let some : 0 < length text - suffix_len is_within text = omega (arith, e) in
        let within : m < length text = omega (arith, e) in
        let at : length text - suffix_len is_within text - 1 ≡ m = omega (arith, e) in
        let last : get_or text m 0 ≡ 47 =
        slash (get_or text m 0) (ap (λ (k : ℕ). is_within (get_or text k 0)) (sym at) ∙ front_ends text some) in
        let next : suc m ≡ m + 1 = omega arith in
        inr (
          take m text,
          drop (m + 1) text,
          ap (λ (k : ℕ). take k text) next ∙ take_more text m 0 within ∙ ap (λ (b : ℕ). take m text ++ b ∷ []) last,
          sym (take-append-drop m text) ∙ ap (λ (l : List ℕ). take m text ++ l) (drop_more text m 0 within)
              ∙ ap (λ (b : ℕ). take m text ++ b ∷ drop (m + 1) text) last,
        )
