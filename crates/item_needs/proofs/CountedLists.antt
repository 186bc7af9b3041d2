-- Lists that are counted while they grow.
use Rattle.std.proofs.Common.{◌≡◌, ℕ, ◌+◌, List, [], ◌∷◌, ◌++◌, map, take, slice_get}
use Rattle.std.proofs.Common.{Some, Result, Ok, Err, sym, ap, subst, ◌∙◌, append_assoc, append-nil}
use Rattle.std.specs.Prelude.{OnOk}
use Rattle.std.specs.List.{enumerate_from}
use Rattle.std.proofs.lemmas.List.{map_push}
use Rattle.item_needs.specs.bodies.Counting.{AddsNeeds, HasNeeds}
use Rattle.item_needs.specs.declared.needs.Needs.{Needs}
use Rattle.require_sys.proofs.Steps.{enumerated_more}

-- ---- one step after the other

pub none_added : (old : Needs) → AddsNeeds old [] old
none_added old due h = subst (λ (t : List (List ℕ)). HasNeeds t old) (sym (append-nil due)) h

pub both_added : (old now new : Needs) (a b : List (List ℕ)) → AddsNeeds old a now → AddsNeeds now b new
    → AddsNeeds old (a ++ b) new
both_added old now new a b first second due h =
    subst (λ (t : List (List ℕ)). HasNeeds t new) (append_assoc due a b) (second (due ++ a) (first due h))

pub added_then : {E : Type 0} (r : Result (Unit {0}) E) (old now new : Needs) (a b : List (List ℕ))
    → AddsNeeds old a now → OnOk r (AddsNeeds now b new) → OnOk r (AddsNeeds old (a ++ b) new)
added_then (Ok x) old now new a b first second = both_added old now new a b first second
added_then (Err e) old now new a b first second = tt

-- one more member's needs
pub member_added : {X : Type 0} (f : ℕ × X → List ℕ) (s : ℕ) (xs : List X) (i : ℕ) (x : X) (old now new : Needs)
    (one : List ℕ) → slice_get xs i ≡ Some x → one ≡ f (s + i, x)
    → AddsNeeds old (map f (enumerate_from s (take i xs))) now
    → AddsNeeds now (one ∷ []) new → AddsNeeds old (map f (enumerate_from s (take (i + 1) xs))) new
member_added f s xs i x old now new one at is so_far more =
    let grown : map f (enumerate_from s (take i xs)) ++ one ∷ [] ≡ map f (enumerate_from s (take (i + 1) xs)) =
    ap (λ (y : List ℕ). map f (enumerate_from s (take i xs)) ++ y ∷ []) is
    ∙ sym (map_push f (enumerate_from s (take i xs)) (s + i, x))
    ∙ ap (map f) (sym (enumerated_more s xs i x at)) in
    subst (λ (t : List (List ℕ)). AddsNeeds old t new) grown
    (both_added old now new (map f (enumerate_from s (take i xs))) (one ∷ []) so_far more)
