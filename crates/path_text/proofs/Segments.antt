-- Texts with slashes.
use Rattle.std.proofs.Common.{◌≡◌, ◌≢◌, ℕ, ◌+◌, ◌≤◌, ◌<◌, Bool, true, false, cond, not, List, [], ◌∷◌, ◌++◌}
use Rattle.std.proofs.Common.{length, take, drop, Option, Some, None, refl, sym, ap, ◌∙◌, arith, eqb}
use Rattle.std.specs.Prelude.{position, IfSome, IfNone}
use Rattle.std.specs.List.{list_all, slice_split, onto_first, position_or_len}
use Rattle.std.proofs.lemmas.Bool.{eqb-true, ltb-true, ltb-false}
use Rattle.std.proofs.lemmas.List.Splits.{slice_split_first}
use Rattle.std.proofs.Math.Bool.{and-true}
use Rattle.std.proofs.lemmas.Option.{cond_some}
use Rattle.jv_base.proofs.Options.{none_by}
use Rattle.path_text.specs.Path.{is_slash, is_segment, EndsFirst, are_segments, without_slash}

pub without_slash-append : (x : List ℕ) → without_slash (x ++ 47 ∷ []) ≡ x
unfolding without_slash
without_slash-append [] = refl
without_slash-append (b ∷ []) = refl
without_slash-append (b ∷ c ∷ x) = ap (λ (t : List ℕ). b ∷ t) (without_slash-append (c ∷ x))

last_by : (b : ℕ) (t : Bool) → eqb b 47 ≡ t → ((front : List ℕ) → b ∷ [] ≢ front ++ 47 ∷ [])
    → cond t [] (b ∷ []) ≡ b ∷ []
last_by b true e h = absurd (h [] (ap (λ n. n ∷ []) (eqb-true b 47 e)))
last_by b false e h = refl

pub without_slash_same : (x : List ℕ) → ((front : List ℕ) → x ≢ front ++ 47 ∷ []) → without_slash x ≡ x
unfolding without_slash
without_slash_same [] h = refl
without_slash_same (b ∷ []) h = last_by b (eqb b 47) refl h
without_slash_same (b ∷ c ∷ x) h = ap (λ (t : List ℕ). b ∷ t)
    (without_slash_same (c ∷ x) (λ front e. h (b ∷ front) (ap (λ (t : List ℕ). b ∷ t) e)))

-- ---- segments

-- the first segment ends at the first `/`
pub first_segment : (text : List ℕ) (at : ℕ) → position is_slash text ≡ Some at → (at < length text) × EndsFirst text at
unfolding are_segments
first_segment text at h =
    let s = cond_some _ _ at h in
    let lt : position_or_len is_slash text < length text = ltb-true _ _ s.0 in
    let parts : slice_split is_slash text
    ≡ take at text ∷ slice_split is_slash (drop (at + 1) text) = slice_split_first is_slash text 0 lt
    ∙ ap (λ (n : ℕ). take n text ∷ slice_split is_slash (drop (n + 1) text)) s.1 in
    (omega (arith, lt, s.1), ap (list_all is_segment) parts)

part_by : (x : ℕ) (xs : List ℕ) (b : Bool) → is_slash x ≡ b
    → length (x ∷ xs) ≤ cond (not b) (1 + position_or_len is_slash xs) 0
    → (length xs ≤ position_or_len is_slash xs → slice_split is_slash xs ≡ xs ∷ [])
    → cond b ([] ∷ slice_split is_slash xs) (onto_first x (slice_split is_slash xs)) ≡ (x ∷ xs) ∷ []
part_by x xs true e le ih = absurd (omega (arith, le))
part_by x xs false e le ih = ap (onto_first x) (ih (omega (arith, le)))

one_part : (text : List ℕ) → length text ≤ position_or_len is_slash text → slice_split is_slash text ≡ text ∷ []
one_part [] le = refl
one_part (x ∷ xs) le = part_by x xs (is_slash x) refl le (one_part xs)

pub inside_or_none : (text : List ℕ) (r : Option ℕ) → r ≡ position is_slash text → IfSome r (λ at. at < length text)
inside_or_none text None h = tt
inside_or_none text (Some at) h = (first_segment text at (sym h)).0

pub first_or_none : (text : List ℕ) (r : Option ℕ) → r ≡ position is_slash text → IfSome r (λ at. EndsFirst text at)
first_or_none text None h = tt
first_or_none text (Some at) h = (first_segment text at (sym h)).1

-- without a `/` the text is one segment
pub one_segment : (text : List ℕ) → position is_slash text ≡ None → are_segments text ≡ is_segment text
unfolding are_segments
one_segment text h = ap (list_all is_segment) (one_part text (ltb-false _ _ (none_by _ _ h)))
    ∙ and-true (is_segment text)

pub only_or_some : (text : List ℕ) (r : Option ℕ) → r ≡ position is_slash text
    → IfNone r (are_segments text ≡ is_segment text)
only_or_some text None h = one_segment text (sym h)
only_or_some text (Some at) h = tt
