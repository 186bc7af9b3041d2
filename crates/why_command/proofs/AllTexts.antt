-- The texts of all items of a set.
use Rattle.std.proofs.Common.{◌≡◌, ℕ, ◌+◌, ◌<◌, List, [], ◌∷◌, ◌++◌, length, map, take, get_or, Some, slice_get, ap}
use Rattle.std.proofs.Common.{◌∙◌, append-nil, append_assoc, arith}
use Rattle.std.proofs.lemmas.List.{get_or_default}
use Rattle.std.proofs.lemmas.List.Concat.{flat_map-append}
use Rattle.jv_base.proofs.Lists.{mapped_more, take_got}
use Rattle.class_model.specs.declared.class.Class.{Class}
use Rattle.report_text.specs.Spelled.{member_texts}
use Rattle.list_texts.specs.ItemTexts.{item_texts, item_texts_of, member_text_of}
use Rattle.list_texts.proofs.Listing.{members_counted}

-- those of one more class
pub texts_more : (classes : List Class) (n : ℕ) (c : Class) → slice_get classes n ≡ Some c
    → item_texts (take (n + 1) classes) ≡ item_texts (take n classes) ++ item_texts_of c
texts_more classes n c at =
    ap item_texts (take_got classes n c at) ∙ flat_map-append item_texts_of (take n classes) (c ∷ [])
    ∙ ap (λ t. item_texts (take n classes) ++ t) (append-nil (item_texts_of c))

-- that of one more member
pub members_more : (c : Class) (i : ℕ) (front old new : List (List ℕ)) (text : List ℕ)
    → i < length c.fields + length c.methods → old ≡ front ++ map (member_text_of c) (take i (member_texts c))
    → text ≡ member_text_of c (get_or (member_texts c) i []) → new ≡ old ++ text ∷ []
    → new ≡ front ++ map (member_text_of c) (take (i + 1) (member_texts c))
members_more c i front old new text lt is told grown =
    let all : List (List ℕ) = member_texts c in
    let low : i < length all = omega (arith, lt, members_counted c) in
    let x : List ℕ = get_or all i [] in
    grown ∙ ap (λ (t : List (List ℕ)). t ++ text ∷ []) is
    ∙ append_assoc front (map (member_text_of c) (take i all)) (text ∷ [])
    ∙ ap (λ (y : List ℕ). front ++ (map (member_text_of c) (take i all) ++ y ∷ [])) told
    ∙ ap (λ (t : List (List ℕ)). front ++ t)
    (mapped_more (member_text_of c) all i x low (get_or_default all i [] x low))
