-- Patterns of parameters, each at its place.
use Rattle.std.proofs.Common.{◌≡◌, ℕ, ◌+◌, ◌<◌, ◌≤◌, Bool, true, false, ◌&&◌, List, [], ◌∷◌, length, get_or, drop, refl}
use Rattle.std.proofs.Common.{sym, ap, ◌∙◌, arith, suc}
use Rattle.std.proofs.lemmas.Bool.{and_right}
use Rattle.std.proofs.lemmas.List.{at_drop_all, at_drop_more}
use Rattle.jv_base.specs.declared.types.FieldType.{FieldType}
use Rattle.keep_match.specs.TypePatterns.{match_each, matches_type}

pub lengths_differ : (ps : List (List ℕ)) (tys : List FieldType) → (length ps ≡ length tys → ⊥)
    → match_each ps tys ≡ false
unfolding match_each
lengths_differ [] [] h = absurd (h refl)
lengths_differ [] (ty ∷ tys) h = refl
lengths_differ (p ∷ ps) [] h = refl
lengths_differ (p ∷ ps) (ty ∷ tys) h =
    and_right (matches_type p ty) (match_each ps tys) (lengths_differ ps tys (λ e. h (ap suc e)))

each_first : (p : List ℕ) (ps : List (List ℕ)) (ty : FieldType) (tys : List FieldType)
    → match_each (p ∷ ps) (ty ∷ tys) ≡ (matches_type p ty && match_each ps tys)
unfolding match_each
each_first p ps ty tys = refl

each_step : (ps : List (List ℕ)) (tys : List FieldType) (i : ℕ) (p : List ℕ) (ty : FieldType) → i < length ps
    → length ps ≡ length tys → p ≡ get_or ps i p → ty ≡ get_or tys i ty
    → match_each (drop i ps) (drop i tys) ≡ (matches_type p ty && match_each (drop (i + 1) ps) (drop (i + 1) tys))
each_step ps tys i p ty lt same at_p at_ty =
    at_drop_more (λ (qs : List (List ℕ)). match_each qs (drop i tys)) ps i p lt
    ∙ at_drop_more (λ (us : List FieldType). match_each (get_or ps i p ∷ drop (i + 1) ps) us) tys i ty (omega arith)
    ∙ each_first (get_or ps i p) (drop (i + 1) ps) (get_or tys i ty) (drop (i + 1) tys)
    ∙ (λ j. matches_type (sym at_p j) (sym at_ty j) && match_each (drop (i + 1) ps) (drop (i + 1) tys))

module _ (ps : List (List ℕ)) (tys : List FieldType) (i : ℕ) (p q : List ℕ) (ty : FieldType) (lt : i < length ps)
    (same : length ps ≡ length tys) (at_p : p ≡ get_or ps i p) (at_ty : ty ≡ get_or tys i ty) (is : q ≡ p) where
  at_place : (b : Bool) → b ≡ matches_type q ty
      → match_each (drop i ps) (drop i tys) ≡ (b && match_each (drop (i + 1) ps) (drop (i + 1) tys))
  at_place b e =
      each_step ps tys i p ty lt same at_p at_ty
      ∙ ap (λ (t : Bool). t && match_each (drop (i + 1) ps) (drop (i + 1) tys))
      (sym (e ∙ ap (λ (t : List ℕ). matches_type t ty) is))

  pub each_fails : false ≡ matches_type q ty → match_each (drop i ps) (drop i tys) ≡ false
  each_fails e = at_place false e

  pub each_on : true ≡ matches_type q ty
      → match_each (drop i ps) (drop i tys) ≡ match_each (drop (i + 1) ps) (drop (i + 1) tys)
  each_on e = at_place true e

each_none : match_each [] [] ≡ true
unfolding match_each
each_none = refl

pub each_end : (ps : List (List ℕ)) (tys : List FieldType) (i : ℕ) → length ps ≤ i → length ps ≡ length tys
    → match_each (drop i ps) (drop i tys) ≡ true
each_end ps tys i le same =
    at_drop_all (λ (qs : List (List ℕ)). match_each qs (drop i tys)) ps i le
    ∙ at_drop_all (λ (us : List FieldType). match_each [] us) tys i (omega arith)
    ∙ each_none
