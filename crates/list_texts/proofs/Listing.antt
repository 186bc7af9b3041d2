-- The items of classes in a list of texts.
use Rattle.std.proofs.Common.{◌≡◌, ◌≤◌, ℕ, zero, suc, ◌+◌, ◌<◌, List, [], ◌∷◌, ◌++◌, length, map, take, Some}
use Rattle.std.proofs.Common.{◌⊎◌, inl, inr, slice_get, get_or, refl, sym, ap, ◌∙◌, arith, append-nil, length-append}
use Rattle.std.specs.List.{enumerate_from, flat_map}
use Rattle.std.specs.Option.{option_map}
use Rattle.std.proofs.lemmas.Bool.{cases_lt}
use Rattle.std.proofs.lemmas.List.{length-map, length-take-le, take_all}
use Rattle.std.proofs.lemmas.List.Concat.{flat_map-append}
use Rattle.std.proofs.lemmas.List.Sums.{sum_by-cons}
use Rattle.std.proofs.lemmas.Option.{slice_get-map, slice_get-get_or, slice_get_within}
use Rattle.jv_base.proofs.Lists.{got_left, got_right, take_got, enumerate_from-append}
use Rattle.class_model.specs.declared.class.Class.{Class}
use Rattle.class_pool.specs.Count.{item_count, items_of}
use Rattle.class_pool.specs.Items.{class_item}
use Rattle.report_text.specs.Spelled.{field_text, member_texts, method_text}
use Rattle.list_texts.specs.ItemTexts.{item_texts, item_texts_of, member_text_of}

-- ---- numbers

-- there is an item for each class before
pub class_item-ge : (classes : List Class) (n : ℕ) → n ≤ length classes → n ≤ class_item classes n
class_item-ge classes zero low = omega arith
class_item-ge [] (suc n) low = absurd (omega (arith, low))
class_item-ge (c ∷ cs) (suc n) low =
    let sum = sum_by-cons items_of c (take n cs) in
    let rest = class_item-ge cs n (omega (arith, low)) in
    omega (arith, sum, rest)

-- a class is there where items stand behind those before it
pub class_there : (classes : List Class) (n : ℕ) → class_item classes n < item_count classes → n < length classes
class_there classes n low = by (cases_lt n (length classes))
  where
    by : (n < length classes) ⊎ (length classes ≤ n) → n < length classes
    by (inl before) = before
    by (inr behind) = absurd
        (let all : class_item classes n ≡ item_count classes = ap item_count (take_all n classes behind) in
        omega (arith, low, all))

pub members_counted : (c : Class) → length (member_texts c) ≡ length c.fields + length c.methods
members_counted c =
    let fields = length-map c.fields field_text in
    let methods = length-map c.methods method_text in
    let both = length-append (map field_text c.fields) (map method_text c.methods) in
    omega (arith, fields, methods, both)

pub items_counted : (c : Class) → length (item_texts_of c) ≡ items_of c
items_counted c =
    let members = length-map (member_texts c) (member_text_of c) in
    omega (arith, members, members_counted c)

pub all_counted : (classes : List Class) → length (item_texts classes) ≡ item_count classes
all_counted [] = refl
all_counted (c ∷ cs) =
    let here = items_counted c in
    let rest = all_counted cs in
    let both = length-append (item_texts_of c) (item_texts cs) in
    let all = sum_by-cons items_of c cs in
    omega (arith, here, rest, both, all)

-- ---- texts

pub member_there : (c : Class) (k : ℕ) → k < length c.fields + length c.methods
    → slice_get (member_texts c) k ≡ Some (get_or (member_texts c) k [])
member_there c k lt = slice_get-get_or (member_texts c) k [] (omega (arith, lt, members_counted c))

pub item_there : (c : Class) (k : ℕ) → k < length c.fields + length c.methods
    → slice_get (map (member_text_of c) (member_texts c)) k ≡ Some (member_text_of c (get_or (member_texts c) k []))
item_there c k lt = slice_get-map (member_text_of c) (member_texts c) k
    ∙ ap (option_map (member_text_of c)) (member_there c k lt)

-- an item of a class in the list of all
pub text_there : (classes : List Class) (n : ℕ) (c : Class) (k : ℕ) → slice_get classes n ≡ Some c → k < items_of c
    → slice_get (item_texts classes) (class_item classes n + k) ≡ slice_get (item_texts_of c) k
text_there [] n c k is low = absurd cc
text_there (d ∷ cs) zero c k is low =
    let same : d ≡ c = cc in
    let start : class_item (d ∷ cs) zero + k ≡ k = omega arith in
    let here : k < length (item_texts_of d) = omega (arith, low, items_counted d, ap items_of same) in
    ap (slice_get (item_texts_of d ++ item_texts cs)) start ∙ got_left (item_texts_of d) (item_texts cs) k here
    ∙ ap (λ (x : Class). slice_get (item_texts_of x) k) same
text_there (d ∷ cs) (suc n) c k is low =
    let long = items_counted d in
    let sum = sum_by-cons items_of d (take n cs) in
    let place : class_item (d ∷ cs) (suc n) + k
    ≡ length (item_texts_of d) + (class_item cs n + k) = omega (arith, long, sum) in
    ap (slice_get (item_texts_of d ++ item_texts cs)) place
    ∙ got_right (item_texts_of d) (item_texts cs) (class_item cs n + k)
    ∙ text_there cs n c k is low

-- one more class
pub class_more : {Y : Type 0} (f : ℕ × List ℕ → List Y) (classes : List Class) (n : ℕ) (c : Class) (ys zs : List Y)
    → slice_get classes n ≡ Some c → ys ≡ flat_map f (enumerate_from 0 (item_texts (take n classes)))
    → zs ≡ ys ++ flat_map f (enumerate_from (class_item classes n) (item_texts_of c))
    → zs ≡ flat_map f (enumerate_from 0 (item_texts (take (n + 1) classes)))
class_more f classes n c ys zs at is grown =
    let front = item_texts (take n classes) in
    let count : class_item classes n ≡ 0 + length front = omega (arith, all_counted (take n classes)) in
    grown ∙ ap (λ t. t ++ flat_map f (enumerate_from (class_item classes n) (item_texts_of c))) is
    ∙ ap (λ (k : ℕ). flat_map f (enumerate_from 0 front) ++ flat_map f (enumerate_from k (item_texts_of c))) count
    ∙ sym (flat_map-append f (enumerate_from 0 front) (enumerate_from (0 + length front) (item_texts_of c)))
    ∙ ap (flat_map f) (sym (enumerate_from-append 0 front (item_texts_of c)))
    ∙ ap (λ (t : List (List ℕ)). flat_map f (enumerate_from 0 (front ++ t))) (sym (append-nil (item_texts_of c)))
    ∙ ap (λ (t : List (List ℕ)). flat_map f (enumerate_from 0 t))
    (sym (flat_map-append item_texts_of (take n classes) (c ∷ [])))
    ∙ ap (λ (t : List Class). flat_map f (enumerate_from 0 (item_texts t))) (sym (take_got classes n c at))

-- one more numbered class
pub numbered_class_more : {Y : Type 0} (f : ℕ × Class → List Y) (classes : List Class) (n : ℕ) (c : Class)
    (ys zs : List Y) → slice_get classes n ≡ Some c → ys ≡ flat_map f (enumerate_from 0 (take n classes))
    → zs ≡ ys ++ f (n, c) → zs ≡ flat_map f (enumerate_from 0 (take (n + 1) classes))
numbered_class_more f classes n c ys zs at is grown =
    let long : length (take n classes) ≡ n =
    length-take-le n classes (omega (arith, slice_get_within classes n c at)) in
    let place : 0 + length (take n classes) ≡ n = omega (arith, long) in
    grown ∙ ap (λ t. t ++ f (n, c)) is
    ∙ ap (λ t. flat_map f (enumerate_from 0 (take n classes)) ++ t) (sym (append-nil (f (n, c))))
    ∙ ap (λ (k : ℕ). flat_map f (enumerate_from 0 (take n classes)) ++ flat_map f ((k, c) ∷ [])) (sym place)
    ∙ sym (flat_map-append f (enumerate_from 0 (take n classes))
    (enumerate_from (0 + length (take n classes)) (c ∷ [])))
    ∙ ap (flat_map f) (sym (enumerate_from-append 0 (take n classes) (c ∷ [])))
    ∙ ap (λ (t : List Class). flat_map f (enumerate_from 0 t)) (sym (take_got classes n c at))
