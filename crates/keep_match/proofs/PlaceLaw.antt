-- The places of marks.
use Rattle.std.proofs.Common.{◌≡◌, ℕ, ◌+◌, ◌<◌, ◌≤◌, zero, suc, Bool, true, false, cond, List, [], ◌∷◌, ◌++◌, length}
use Rattle.std.proofs.Common.{take, drop, get_or, slice_get, Some, refl, sym, ap, ◌∙◌, arith, subst, append_assoc}
use Rattle.std.proofs.Common.{length-append, Result, Ok, Err}
use Rattle.std.specs.Prelude.{IfOk}
use Rattle.std.specs.List.{All, enumerate_from, flat_map}
use Rattle.std.proofs.lemmas.List.{append-nil, at_drop_more}
use Rattle.std.proofs.lemmas.List.Elements.{All-cons, All-nil}
use Rattle.std.proofs.lemmas.List.Sums.{sum_by-cons}
use Rattle.class_model.specs.declared.class.Class.{Class}
use Rattle.class_pool.specs.Count.{item_count, items_of}
use Rattle.keep_rules.specs.declared.rules.Keep.{Keep}
use Rattle.keep_match.specs.bodies.Marks.{HasRows, row_at}
use Rattle.keep_match.specs.Seeds.{are_kept, places_of_true}
use Rattle.keep_match.proofs.RowLaw.{kept_width}

places_at : (b : Bool) (n : ℕ) (bs : List Bool)
    → places_of_true n (b ∷ bs) ≡ cond b (n ∷ []) [] ++ places_of_true (n + 1) bs
places_at true n bs = refl
places_at false n bs = refl

pub places_append : (n : ℕ) (xs ys : List Bool)
    → places_of_true n (xs ++ ys) ≡ places_of_true n xs ++ places_of_true (n + length xs) ys
places_append n [] ys = let e : n ≡ n + 0 = omega arith in ap (λ (k : ℕ). places_of_true k ys) e
places_append n (x ∷ xs) ys =
    let e : n + 1 + length xs ≡ n + suc (length xs) = omega arith in
    places_at x n (xs ++ ys)
    ∙ ap (λ (t : List ℕ). cond x (n ∷ []) [] ++ t)
    (places_append (n + 1) xs ys ∙ ap (λ (k : ℕ). places_of_true (n + 1) xs ++ places_of_true k ys) e)
    ∙ sym (append_assoc (cond x (n ∷ []) []) (places_of_true (n + 1) xs) (places_of_true (n + suc (length xs)) ys))
    ∙ ap (λ (t : List ℕ). t ++ places_of_true (n + suc (length xs)) ys) (sym (places_at x n xs))

below_one : (b : Bool) (n m : ℕ) (rest : List Bool) → n < m → All (λ x. x < m) (places_of_true (n + 1) rest)
    → All (λ x. x < m) (places_of_true n (b ∷ rest))
below_one true n m rest lt h = All-cons (λ x. x < m) n (places_of_true (n + 1) rest) lt h
below_one false n m rest lt h = h

places_below : (n : ℕ) (bs : List Bool) → All (λ x. x < n + length bs) (places_of_true n bs)
places_below n [] = All-nil (λ x. x < n + 0)
places_below n (b ∷ bs) =
    let e : n + 1 + length bs ≡ n + suc (length bs) = omega arith in
    below_one b n (n + suc (length bs)) bs (omega arith)
    (subst (λ (k : ℕ). All (λ x. x < k) (places_of_true (n + 1) bs)) e (places_below (n + 1) bs))

-- ---- one place after the other

pub place_first : (b : Bool) (row : List Bool) (i next : ℕ) → i < length row → get_or row i b ≡ b
    → places_of_true (next + i) (drop i row) ≡ cond b ((next + i) ∷ []) []
    ++ places_of_true (next + (i + 1)) (drop (i + 1) row)
place_first b row i next lt is =
    let e : next + i + 1 ≡ next + (i + 1) = omega arith in
    at_drop_more (places_of_true (next + i)) row i b lt
    ∙ ap (λ (c : Bool). places_of_true (next + i) (c ∷ drop (i + 1) row)) is
    ∙ places_at b (next + i) (drop (i + 1) row)
    ∙ ap (λ (k : ℕ). cond b ((next + i) ∷ []) [] ++ places_of_true k (drop (i + 1) row)) e

-- ---- all rows

pub flat_more : (rows : List (List Bool)) (i : ℕ) (row : List Bool) → i < length rows → get_or rows i row ≡ row
    → flat_map (λ (r : List Bool). r) (take (i + 1) rows) ≡ flat_map (λ (r : List Bool). r) (take i rows) ++ row
flat_more [] i row lt is = absurd (omega arith)
flat_more (r ∷ rows) zero row lt is = append-nil r ∙ is
flat_more (r ∷ rows) (suc i) row lt is =
    let e : suc i + 1 ≡ suc (i + 1) = omega arith in
    ap (λ (k : ℕ). flat_map (λ (s : List Bool). s) (take k (r ∷ rows))) e
    ∙ ap (λ (t : List Bool). r ++ t) (flat_more rows i row (omega arith) is)
    ∙ sym (append_assoc r (flat_map (λ (s : List Bool). s) (take i rows)) row)

flat_front : (rows : List (List Bool)) (i : ℕ)
    → length (flat_map (λ (r : List Bool). r) (take i rows)) ≤ length (flat_map (λ (r : List Bool). r) rows)
flat_front [] zero = omega arith
flat_front [] (suc i) = omega arith
flat_front (r ∷ rows) zero = omega arith
flat_front (r ∷ rows) (suc i) =
    let h = flat_front rows i in
    let a = length-append r (flat_map (λ (s : List Bool). s) (take i rows)) in
    let b = length-append r (flat_map (λ (s : List Bool). s) rows) in
    omega (arith, h, a, b)

pub row_fits : (rows : List (List Bool)) (i : ℕ) (row : List Bool) → i < length rows → get_or rows i row ≡ row
    → length (flat_map (λ (r : List Bool). r) (take i rows)) + length row
    ≤ length (flat_map (λ (r : List Bool). r) rows)
row_fits rows i row lt is =
    let a = ap length (flat_more rows i row lt is) in
    let b = length-append (flat_map (λ (r : List Bool). r) (take i rows)) row in
    let h = flat_front rows (i + 1) in
    omega (arith, a, b, h)

flat_is : (f : ℕ × Class → List Bool) (k : ℕ) (classes : List Class) (rows : List (List Bool))
    → length rows ≡ length classes
    → ((n : ℕ) (c : Class) → slice_get classes n ≡ Some c → row_at rows n ≡ f (k + n, c))
    → flat_map (λ (r : List Bool). r) rows ≡ flat_map f (enumerate_from k classes)
flat_is f k [] [] e h = refl
flat_is f k [] (r ∷ rows) e h = absurd (omega arith)
flat_is f k (c ∷ classes) [] e h = absurd (omega arith)
flat_is f k (c ∷ classes) (r ∷ rows) e h =
    let z : k + 0 ≡ k = omega arith in
    let here : r ≡ f (k, c) = h 0 c refl ∙ ap (λ (m : ℕ). f (m, c)) z in
    let rest = flat_is f (k + 1) classes rows (omega arith) (λ n d is.
    let s : k + suc n ≡ k + 1 + n = omega arith in h (suc n) d is ∙ ap (λ (m : ℕ). f (m, d)) s) in
    λ i. here i ++ rest i

flat_width : (ks : List Keep) (all : List Class) (k : ℕ) (classes : List Class)
    → length (flat_map (are_kept ks all) (enumerate_from k classes)) ≡ item_count classes
flat_width ks all k [] = refl
flat_width ks all k (c ∷ classes) =
    let a = length-append (are_kept ks all (k, c)) (flat_map (are_kept ks all) (enumerate_from (k + 1) classes)) in
    let w = kept_width ks all k c in
    let h = flat_width ks all (k + 1) classes in
    let s = sum_by-cons items_of c classes in
    omega (arith, a, w, h, s)

pub rows_are : (classes : List Class) (ks : List Keep) (rows : List (List Bool)) → HasRows classes ks rows
    → flat_map (λ (r : List Bool). r) rows ≡ flat_map (are_kept ks classes) (enumerate_from 0 classes)
rows_are classes ks rows h =
    flat_is (are_kept ks classes) 0 classes rows h.count (λ n c is.
    let e : n ≡ 0 + n = omega arith in h.each n c is ∙ ap (λ (m : ℕ). are_kept ks classes (m, c)) e)

pub rows_fit : (classes : List Class) (ks : List Keep) (rows : List (List Bool)) → HasRows classes ks rows
    → length (flat_map (λ (r : List Bool). r) rows) ≡ item_count classes
rows_fit classes ks rows h = ap length (rows_are classes ks rows h) ∙ flat_width ks classes 0 classes

-- ---- the seeds

pub seeds_are : (classes : List Class) (ks : List Keep) (rows : List (List Bool)) (items : List ℕ)
    → HasRows classes ks rows → items ≡ places_of_true 0 (flat_map (λ (r : List Bool). r) rows)
    → items ≡ places_of_true 0 (flat_map (are_kept ks classes) (enumerate_from 0 classes))
seeds_are classes ks rows items h e = e ∙ ap (places_of_true 0) (rows_are classes ks rows h)

pub seeds_below : (classes : List Class) (ks : List Keep) (rows : List (List Bool)) (items : List ℕ)
    → HasRows classes ks rows → items ≡ places_of_true 0 (flat_map (λ (r : List Bool). r) rows)
    → All (λ x. x < item_count classes) items
seeds_below classes ks rows items h e =
    let f = rows_fit classes ks rows h in
    let w : 0 + length (flat_map (λ (r : List Bool). r) rows) ≡ item_count classes = omega (arith, f) in
    subst (λ (xs : List ℕ). All (λ x. x < item_count classes) xs) (sym e)
    (subst (λ (k : ℕ). All (λ x. x < k) (places_of_true 0 (flat_map (λ (r : List Bool). r) rows))) w
    (places_below 0 (flat_map (λ (r : List Bool). r) rows)))

-- ---- one row after the other

pub places_more : (rows : List (List Bool)) (i : ℕ) (row put : List Bool) (items now : List ℕ) (next : ℕ)
    → items ≡ places_of_true 0 (flat_map (λ (r : List Bool). r) (take i rows))
    → next ≡ length (flat_map (λ (r : List Bool). r) (take i rows)) → i < length rows → row ≡ get_or rows i row
    → put ≡ row → now ≡ items ++ places_of_true next put
    → now ≡ places_of_true 0 (flat_map (λ (r : List Bool). r) (take (i + 1) rows))
places_more rows i row put items now next h count lt at same e =
    let z : next ≡ 0 + length (flat_map (λ (r : List Bool). r) (take i rows)) = omega (arith, count) in
    e ∙ (λ j. h j ++ places_of_true (z j) (same j))
    ∙ sym (places_append 0 (flat_map (λ (r : List Bool). r) (take i rows)) row)
    ∙ ap (places_of_true 0) (sym (flat_more rows i row lt (sym at)))

pub next_more : (rows : List (List Bool)) (i : ℕ) (row : List Bool) (next : ℕ)
    → next ≡ length (flat_map (λ (r : List Bool). r) (take i rows)) → i < length rows → row ≡ get_or rows i row
    → next + length row ≡ length (flat_map (λ (r : List Bool). r) (take (i + 1) rows))
next_more rows i row next count lt at =
    let a = ap length (flat_more rows i row lt (sym at)) in
    let b = length-append (flat_map (λ (r : List Bool). r) (take i rows)) row in
    omega (arith, a, b, count)

pub ok_further : {A E : Type 0} (r : Result A E) (P Q : A → Type 0) → IfOk r P → ((a : A) → P a → Q a) → IfOk r Q
ok_further (Ok a) P Q h f = f a h
ok_further (Err e) P Q h f = tt
