-- Lists that have a limit.
use Rattle.std.proofs.Common.{◌≡◌, ◌≤◌, ◌<◌, ℕ, zero, suc, ◌+◌, Bool, cond, List, [], ◌∷◌, ◌++◌, length, take, Result}
use Rattle.std.proofs.Common.{Ok, Err, refl, sym, ap, ◌∙◌, arith, length-append}
use Rattle.std.specs.List.{enumerate_from, flat_map}
use Rattle.std.proofs.lemmas.List.Concat.{flat_map-append}
use Rattle.std.proofs.lemmas.Bool.{le-leb, lt-leb}
use Rattle.jv_base.specs.Outcome.{FaultIs}
use Rattle.jv_base.specs.declared.outcome.Or.{Or}
use Rattle.jv_base.specs.declared.outcome.Or.TheVariants.{Fault, OutOfMemory}
use Rattle.jv_base.proofs.Lists.{front_shorter, enumerate_from-append}
use Rattle.class_model.specs.declared.class.Class.{Class}
use Rattle.list_texts.specs.ItemTexts.{item_texts, item_texts_of, up_to}
use Rattle.list_texts.specs.bodies.Appends.{Appends, IsShort}
use Rattle.list_texts.specs.declared.limit.TooLong.{TooLong}

abbrev text_if : ℕ → List ℕ → Bool → Result (List ℕ) TooLong
text_if limit text short = cond short (Ok text) (Err (record { limit = limit }))

pub too_long : (limit : ℕ) (text : List ℕ) → limit < length text → up_to limit text ≡ Err (record { limit = limit })
too_long limit text long = ap (text_if limit text) (lt-leb (length text) limit long)

pub short_enough : (limit : ℕ) (text : List ℕ) → length text ≤ limit → up_to limit text ≡ Ok text
short_enough limit text short = ap (text_if limit text) (le-leb (length text) limit short)

-- the same where the elements are numbered
pub numbered_shorter : {X : Type 0} (f : ℕ × X → List ℕ) (k : ℕ) (xs : List X) (n : ℕ)
    → length (flat_map f (enumerate_from k (take n xs))) ≤ length (flat_map f (enumerate_from k xs))
numbered_shorter f k xs zero = omega arith
numbered_shorter f k [] (suc n) = omega arith
numbered_shorter f k (x ∷ xs) (suc n) =
    let front = length-append (f (k, x)) (flat_map f (enumerate_from (k + 1) (take n xs))) in
    let all = length-append (f (k, x)) (flat_map f (enumerate_from (k + 1) xs)) in
    let rest = numbered_shorter f (k + 1) xs n in
    omega (arith, front, all, rest)

-- and where they are the items of classes
pub items_shorter : (f : ℕ × List ℕ → List ℕ) (k : ℕ) (classes : List Class) (n : ℕ)
    → length (flat_map f (enumerate_from k (item_texts (take n classes))))
    ≤ length (flat_map f (enumerate_from k (item_texts classes)))
items_shorter f k classes zero = omega arith
items_shorter f k [] (suc n) = omega arith
items_shorter f k (c ∷ cs) (suc n) =
    let here : List (List ℕ) = item_texts_of c in
    let front = ap length (both here (item_texts (take n cs))) in
    let all = ap length (both here (item_texts cs)) in
    let one = length-append (made here) (flat_map f (enumerate_from (k + length here) (item_texts (take n cs)))) in
    let two = length-append (made here) (flat_map f (enumerate_from (k + length here) (item_texts cs))) in
    let rest = items_shorter f (k + length here) cs n in
    omega (arith, front, all, one, two, rest)
  where
    made : List (List ℕ) → List ℕ
    made texts = flat_map f (enumerate_from k texts)

    both : (xs ys : List (List ℕ)) → flat_map f (enumerate_from k (xs ++ ys))
        ≡ flat_map f (enumerate_from k xs) ++ flat_map f (enumerate_from (k + length xs) ys)
    both xs ys = ap (flat_map f) (enumerate_from-append k xs ys)
        ∙ flat_map-append f (enumerate_from k xs) (enumerate_from (k + length xs) ys)

-- the same behind others
pub front_within : {X : Type 0} (f : X → List ℕ) (xs : List X) (i : ℕ) (old front : List ℕ)
    → front ≡ old ++ flat_map f (take i xs) → length front ≤ length (old ++ flat_map f xs)
front_within f xs i old front is =
    let one = ap length is in
    let made = length-append old (flat_map f (take i xs)) in
    let all = length-append old (flat_map f xs) in
    let shorter = front_shorter f xs i in
    omega (arith, one, made, all, shorter)

-- where a front of a text is too long, the text is
pub stops : (e : Or TooLong) (limit : ℕ) (front old lines new : List ℕ) → length front ≤ length (old ++ lines)
    → IsShort (Err e) limit front → Appends (Err e) limit old lines new
stops (Fault fault) limit front old lines new shorter h = (h.0, omega (arith, h.1, shorter))
stops OutOfMemory limit front old lines new shorter h = tt

-- the same where lines were to be appended to the front
pub stops_within : (e : Or TooLong) (limit : ℕ) (front more middle old lines new : List ℕ)
    → length (front ++ more) ≤ length (old ++ lines)
    → Appends (Err e) limit front more middle → Appends (Err e) limit old lines new
stops_within (Fault fault) limit front more middle old lines new shorter h = (h.0, omega (arith, h.1, shorter))
stops_within OutOfMemory limit front more middle old lines new shorter h = tt

-- a whole text is too long where a front of it is
pub not_made : (e : Or TooLong) (limit : ℕ) (front text : List ℕ) → length front ≤ length text
    → IsShort (Err e) limit front → FaultIs e (up_to limit text)
not_made (Fault fault) limit front text shorter h =
    too_long limit text (omega (arith, h.1, shorter)) ∙ ap (λ (f : TooLong). Err f) (sym h.0)
not_made OutOfMemory limit front text shorter h = tt

pub not_made_within : (e : Or TooLong) (limit : ℕ) (front more middle text : List ℕ)
    → length (front ++ more) ≤ length text
    → Appends (Err e) limit front more middle → FaultIs e (up_to limit text)
not_made_within (Fault fault) limit front more middle text shorter h =
    too_long limit text (omega (arith, h.1, shorter)) ∙ ap (λ (f : TooLong). Err f) (sym h.0)
not_made_within OutOfMemory limit front more middle text shorter h = tt
