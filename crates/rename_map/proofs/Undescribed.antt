-- Where no rule has includedescriptorclasses, no class stays by a descriptor.
use Rattle.std.proofs.Common.{◌≡◌, ℕ, zero, suc, ◌+◌, Bool, true, false, cond, not, ◌&&◌, ◌||◌, List, [], ◌∷◌, ◌++◌}
use Rattle.std.proofs.Common.{map, filter, flat_map, length, refl, ap, ◌∙◌}
use Rattle.std.specs.Prelude.{slice_index_or}
use Rattle.std.specs.List.{enumerate_from, list_all, list_any}
use Rattle.std.proofs.lemmas.Bool.{and_parts}
use Rattle.class_model.specs.declared.class.Class.{Class}
use Rattle.keep_rules.specs.declared.rules.Keep.{Keep}
use Rattle.keep_rules.specs.declared.rules.Rules.{Rules}
use Rattle.keep_match.specs.Fixed.{are_fixed, fixed_rows, fixes_class}
use Rattle.keep_match.specs.Matches.{matches_class, matches_field, matches_method}
use Rattle.keep_match.specs.Seeds.{are_members_met}
use Rattle.keep_match.specs.declared.fixed.Fixes.TheVariants as fixes
use Rattle.member_shrink.specs.Shrunk.{chosen, is_marked}
use Rattle.rename_map.specs.Fixed.{field_tells, marked, method_tells, of_each}
use Rattle.rename_map.specs.bodies.Kinds.{is_undescribed}
use Rattle.rename_map.specs.declared.gathering.Chosen.TheVariants as choose
use Rattle.rename_map.specs.declared.telling.Told.TheVariants as told

-- ---- no row has a mark

fixes_none : (classes : List Class) (n : ℕ) (c : Class) (k : Keep) → is_undescribed k ≡ true
    → fixes_class fixes.DescriptorClasses classes n c k ≡ false
unfolding fixes_class
fixes_none classes n c k is =
    by k.allow_obfuscation k.descriptor_classes (matches_class k.spec classes n c)
    (are_members_met k.kind k.spec.members c) is
  where
    by : (a d m r : Bool) → not d ≡ true → (((not a && d) && m) && r) ≡ false
    by true d m r is = refl
    by false false m r is = refl
    by false true m r is = absurd cc

none_any : (f : Keep → Bool) → ((k : Keep) → is_undescribed k ≡ true → f k ≡ false) → (ks : List Keep)
    → list_all is_undescribed ks ≡ true → list_any f ks ≡ false
none_any f never [] all = refl
none_any f never (k ∷ ks) all =
    let parts = and_parts (is_undescribed k) (list_all is_undescribed ks) all in
    (λ i. never k parts.0 i || none_any f never ks parts.1 i)

-- no item is marked
abbrev IsClear : List Bool → Type 0
IsClear row = (item : ℕ) → is_marked row item ≡ false

nothing_clear : IsClear []
nothing_clear zero = refl
nothing_clear (suc item) = refl

one_clear : (b : Bool) (row : List Bool) → b ≡ false → IsClear row → IsClear (b ∷ row)
one_clear b row is rest zero = is
one_clear b row is rest (suc item) = rest item

each_clear : {A : Type 0} (f : A → Bool) (xs : List A) (row : List Bool) → ((x : A) → f x ≡ false) → IsClear row
    → IsClear (map f xs ++ row)
each_clear f [] row is rest = rest
each_clear f (x ∷ xs) row is rest = one_clear (f x) (map f xs ++ row) (is x) (each_clear f xs row is rest)

all_clear : {A : Type 0} (f : A → Bool) (xs : List A) → ((x : A) → f x ≡ false) → IsClear (map f xs)
all_clear f [] is = nothing_clear
all_clear f (x ∷ xs) is = one_clear (f x) (map f xs) (is x) (all_clear f xs is)

row_clear : (ks : List Keep) (classes : List Class) (n : ℕ) (c : Class) → list_all is_undescribed ks ≡ true
    → IsClear (are_fixed fixes.DescriptorClasses ks classes (n, c))
row_clear ks classes n c all =
    one_clear _ _ (none_any (fixes_class fixes.DescriptorClasses classes n c) (fixes_none classes n c) ks all)
    (each_clear _ c.fields _ (λ f. none_any _ (λ k is.
    ap (λ (b : Bool). b && list_any (λ spec. matches_field spec f) k.spec.members) (fixes_none classes n c k is)) ks all)
    (all_clear _ c.methods (λ m. none_any _ (λ k is.
    ap (λ (b : Bool). b && list_any (λ spec. matches_method spec m) k.spec.members) (fixes_none classes n c k is)) ks all)))

clear_at : (f : ℕ × Class → List Bool) → ((e : ℕ × Class) → IsClear (f e)) → (es : List (ℕ × Class)) (n : ℕ)
    → IsClear (slice_index_or (map f es) n [])
clear_at f all [] zero = nothing_clear
clear_at f all [] (suc n) = nothing_clear
clear_at f all (e ∷ es) zero = all e
clear_at f all (e ∷ es) (suc n) = clear_at f all es n

-- ---- nothing is chosen by a row without a mark

none_chosen : {A : Type 0} (row : List Bool) → IsClear row → (k : ℕ) (xs : List A) → chosen row k xs ≡ []
none_chosen row clear k [] = refl
none_chosen {A = A} row clear k (x ∷ xs) =
    ap (λ (b : Bool). map (λ (e : ℕ × A). e.1) (cond b ((k, x) ∷ filter (λ e. is_marked row e.0) (enumerate_from (k + 1) xs))
    (filter (λ e. is_marked row e.0) (enumerate_from (k + 1) xs)))) (clear k)
    ∙ none_chosen row clear (k + 1) xs

none_described : (row : List Bool) → IsClear row → (c : Class) → marked choose.Described row c ≡ []
none_described row clear c = λ i.
    flat_map (field_tells told.Classes) (none_chosen row clear 1 c.fields i)
    ++ flat_map (method_tells told.Classes) (none_chosen row clear (1 + length c.fields) c.methods i)

nothing_each : (g : ℕ × Class → List (List ℕ)) → ((e : ℕ × Class) → g e ≡ []) → (es : List (ℕ × Class))
    → flat_map g es ≡ []
nothing_each g is [] = refl
nothing_each g is (e ∷ es) = λ i. is e i ++ nothing_each g is es i

pub nothing_described : (rules : Rules) (classes : List Class) → list_all is_undescribed rules.keeps ≡ true
    → of_each choose.Described (fixed_rows fixes.DescriptorClasses rules classes) classes ≡ []
nothing_described rules classes all =
    nothing_each (λ e. marked choose.Described
    (slice_index_or (fixed_rows fixes.DescriptorClasses rules classes) e.0 []) e.1)
    (λ e. none_described _ (clear_at (are_fixed fixes.DescriptorClasses rules.keeps classes)
    (λ d. row_clear rules.keeps classes d.0 d.1 all) (enumerate_from 0 classes) e.0) e.1)
    (enumerate_from 0 classes)
