-- What rules on members alone ask for, by the rows of the rules that stand for them.
use Rattle.std.proofs.Common.{◌≡◌, ℕ, ◌+◌, zero, suc, Bool, true, false, ◌&&◌, ◌||◌, cond, List, [], ◌∷◌, ◌++◌}
use Rattle.std.proofs.Common.{length, map}
use Rattle.std.proofs.Common.{drop, slice_get, Some, Result, Ok, Err, refl, sym, ap, ◌∙◌, arith}
use Rattle.std.specs.Prelude.{IfOk}
use Rattle.std.specs.List.{enumerate_from, filter, list_any}
use Rattle.class_model.specs.declared.class.Class.{Class}
use Rattle.class_model.specs.declared.class.Field.{Field}
use Rattle.class_model.specs.declared.class.Method.{Method}
use Rattle.keep_rules.specs.declared.rules.Keep.{Keep}
use Rattle.keep_match.specs.Asked.{are_asked, asks_class, asks_field, asks_members, asks_method}
use Rattle.keep_match.specs.bodies.Marks.{HasRows, row_at}
use Rattle.keep_match.specs.Matches.{matches_class, matches_field, matches_method}
use Rattle.keep_match.specs.Seeds.{are_kept, keeps_class, keeps_field, keeps_method, places_of_true}
use Rattle.keep_match.specs.bodies.AsKeeps.{as_keep, as_keeps}

pub any_of : (t q : Keep → Bool) (f : Keep → Keep) (ks : List Keep)
    → list_any q (map f (filter t ks)) ≡ list_any (λ k. t k && q (f k)) ks
any_of t q f [] = refl
any_of t q f (k ∷ ks) = by (t k) ∙ ap (λ (b : Bool). (t k && q (f k)) || b) (any_of t q f ks)
  where
    by : (b : Bool) → list_any q (map f (cond b (k ∷ filter t ks) (filter t ks)))
        ≡ ((b && q (f k)) || list_any q (map f (filter t ks)))
    by true = refl
    by false = refl

same_answer : (b m l : Bool) → (b && (((true && m) && true) && l)) ≡ ((b && m) && l)
same_answer true true l = refl
same_answer true false l = refl
same_answer false m l = refl

field_same : (classes : List Class) (n : ℕ) (c : Class) (f : Field) (k : Keep)
    → (asks_members k && keeps_field classes n c f (as_keep k)) ≡ asks_field classes n c f k
unfolding keeps_class asks_class
field_same classes n c f k = same_answer (asks_members k) (matches_class k.spec classes n c)
    (list_any (λ spec. matches_field spec f) k.spec.members)

method_same : (classes : List Class) (n : ℕ) (c : Class) (m : Method) (k : Keep)
    → (asks_members k && keeps_method classes n c m (as_keep k)) ≡ asks_method classes n c m k
unfolding keeps_class asks_class
method_same classes n c m k = same_answer (asks_members k) (matches_class k.spec classes n c)
    (list_any (λ spec. matches_method spec m) k.spec.members)

field_asked : (classes : List Class) (n : ℕ) (c : Class) (keeps : List Keep) (f : Field)
    → list_any (keeps_field classes n c f) (as_keeps keeps) ≡ list_any (asks_field classes n c f) keeps
field_asked classes n c keeps f =
    any_of asks_members (keeps_field classes n c f) as_keep keeps
    ∙ (λ i. list_any (λ k. field_same classes n c f k i) keeps)

method_asked : (classes : List Class) (n : ℕ) (c : Class) (keeps : List Keep) (m : Method)
    → list_any (keeps_method classes n c m) (as_keeps keeps) ≡ list_any (asks_method classes n c m) keeps
method_asked classes n c keeps m =
    any_of asks_members (keeps_method classes n c m) as_keep keeps
    ∙ (λ i. list_any (λ k. method_same classes n c m k i) keeps)

asked_row : (classes : List Class) (n : ℕ) (c : Class) (keeps : List Keep)
    → drop 1 (are_kept (as_keeps keeps) classes (n, c)) ≡ are_asked keeps classes (n, c)
asked_row classes n c keeps =
    λ i. map (λ f. field_asked classes n c keeps f i) c.fields ++ map
    (λ m. method_asked classes n c keeps m i) c.methods

pub map_is : {Y : Type 0} (g : List Bool → Y) (f : ℕ × Class → Y) (k : ℕ) (classes : List Class)
    (rows : List (List Bool))
    → length rows ≡ length classes
    → ((n : ℕ) (c : Class) → slice_get classes n ≡ Some c → g (row_at rows n) ≡ f (k + n, c))
    → map g rows ≡ map f (enumerate_from k classes)
map_is g f k [] [] e h = refl
map_is g f k [] (r ∷ rows) e h = absurd (omega (arith, e))
map_is g f k (c ∷ classes) [] e h = absurd (omega (arith, e))
map_is g f k (c ∷ classes) (r ∷ rows) e h =
    let z : k + 0 ≡ k = omega arith in
    let here : g r ≡ f (k, c) = h 0 c refl ∙ ap (λ (m : ℕ). f (m, c)) z in
    let rest = map_is g f (k + 1) classes rows (omega (arith, e)) (λ n d is.
    let s : k + suc n ≡ k + 1 + n = omega arith in h (suc n) d is ∙ ap (λ (m : ℕ). f (m, d)) s) in
    λ i. here i ∷ rest i

pub asked_are : (classes : List Class) (keeps : List Keep) (rows : List (List Bool))
    → HasRows classes (as_keeps keeps) rows
    → map (λ row. places_of_true 0 (drop 1 row)) rows
    ≡ map (λ p. places_of_true 0 (are_asked keeps classes p)) (enumerate_from 0 classes)
asked_are classes keeps rows h =
    map_is (λ row. places_of_true 0 (drop 1 row)) (λ p. places_of_true 0 (are_asked keeps classes p)) 0 classes rows
    h.count (λ n c is.
    let e : n ≡ 0 + n = omega arith in
    ap (λ (row : List Bool). places_of_true 0 (drop 1 row)) (h.each n c is)
    ∙ ap (places_of_true 0) (asked_row classes n c keeps)
    ∙ ap (λ (m : ℕ). places_of_true 0 (are_asked keeps classes (m, c))) e)

pub asked_further : {E : Type 0} (r : Result (List (List ℕ)) E) (classes : List Class) (keeps : List Keep)
    (rows given : List (List Bool)) → given ≡ rows → HasRows classes (as_keeps keeps) rows
    → IfOk r (λ members. members ≡ map (λ row. places_of_true 0 (drop 1 row)) given)
    → IfOk r (λ members. members ≡ map (λ p. places_of_true 0 (are_asked keeps classes p)) (enumerate_from 0 classes))
asked_further (Ok members) classes keeps rows given same has is =
    is ∙ ap (λ (xs : List (List Bool)). map (λ row. places_of_true 0 (drop 1 row)) xs) same
    ∙ asked_are classes keeps rows has
asked_further (Err e) classes keeps rows given same has is = tt
