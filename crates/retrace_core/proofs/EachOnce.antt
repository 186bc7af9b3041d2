-- Old names of methods, each once.
use Rattle.std.proofs.Common.{◌≡◌, ◌<◌, ◌+◌, ℕ, Bool, true, false, cond, List, [], ◌∷◌, ◌++◌, length, take, map}
use Rattle.std.proofs.Common.{get_or, not, refl, sym, ap, ◌∙◌}
use Rattle.std.specs.List.{list_any}
use Rattle.std.proofs.lemmas.List.{map-append, take_more}
use Rattle.std.proofs.lemmas.List.Sums.{fold-append}
use Rattle.std.specs.Borrow.{Bor}
use Rattle.indexmap.specs.IndexSet.{insert_key}
use Rattle.jv_base.specs.Names.{is_text}
use Rattle.mapping_file.specs.declared.mapping.MapMethod.{MapMethod}
use Rattle.retrace_core.specs.OldNames.{once}

abbrev old_of : Bor MapMethod → List ℕ
old_of m = m.now.old

-- one name more
pub once_more : (ms : List (Bor MapMethod)) (i : ℕ) (m : Bor MapMethod) → i < length ms → get_or ms i m ≡ m
    → once (map old_of (take (i + 1) ms)) ≡ insert_key is_text (once (map old_of (take i ms))) m.now.old
once_more ms i m low is =
    ap (λ (ys : List (Bor MapMethod)). once (map old_of ys))
    (take_more ms i m low ∙ ap (λ (y : Bor MapMethod). take i ms ++ y ∷ []) is)
    ∙ ap once (map-append old_of (take i ms) (m ∷ []))
    ∙ fold-append (insert_key is_text) [] (map old_of (take i ms)) (m.now.old ∷ [])

not_not : (b : Bool) → not (not b) ≡ b
not_not true = refl
not_not false = refl

-- a key that wasn't there is put last
pub key_put : (names : List (List ℕ)) (x : List ℕ) → true ≡ not (list_any (is_text x) names)
    → insert_key is_text names x ≡ names ++ x ∷ []
key_put names x is =
    ap (λ (b : Bool). cond b names (names ++ x ∷ [])) (sym (not_not (list_any (is_text x) names)) ∙ ap not (sym is))

-- one that was there is left
pub key_there : (names : List (List ℕ)) (x : List ℕ) → false ≡ not (list_any (is_text x) names)
    → insert_key is_text names x ≡ names
key_there names x is =
    ap (λ (b : Bool). cond b names (names ++ x ∷ [])) (sym (not_not (list_any (is_text x) names)) ∙ ap not (sym is))
