-- Names that are added to others.
use Rattle.std.proofs.Common.{◌≡◌, ℕ, zero, suc, ◌+◌, Bool, true, false, cond, ◌&&◌, ◌||◌, List, [], ◌∷◌, ◌++◌, map, filter}
use Rattle.std.proofs.Common.{flat_map, ◌<◌, get_or, take, slice_get, Some, length, refl, sym, ap, ◌∙◌, append_assoc}
use Rattle.std.proofs.Common.{arith, subst}
use Rattle.std.specs.Cmp.{IsEquivalence}
use Rattle.std.specs.Cmp.Lexicographic.{nat_list_eq_equiv}
use Rattle.std.specs.List.{enumerate_from, list_any}
use Rattle.std.proofs.lemmas.Bool.{and_parts}
use Rattle.std.proofs.lemmas.List.{append-nil}
use Rattle.std.proofs.lemmas.List.Folds.{list_any-append}
use Rattle.std.proofs.lemmas.Option.{same_Some}
use Rattle.jv_base.specs.Names.{is_text}
use Rattle.jv_base.proofs.Equality.{same_text, text_itself, text_sym}
use Rattle.jv_base.proofs.Lists.{flat_more}
use Rattle.member_shrink.specs.Shrunk.{chosen, is_marked}
use Rattle.class_rename.specs.Names.{MethodName, is_same_method}
use Rattle.fresh_names.specs.Fresh.{is_taken}
use Rattle.fresh_names.specs.Given.{of_type, stays_for}
use Rattle.fresh_names.specs.Reserved.{reserved}
use Rattle.fresh_names.specs.declared.taken.Named.TheVariants as named
use Rattle.fresh_names.proofs.Groups.{pair_taken}
use Rattle.fresh_names.proofs.Reserved.{taken_parts}
use Rattle.rename_map.specs.Names.{AreSame}
use Rattle.rename_map.specs.bodies.Adding.{Adds}

nothing_more : (b : Bool) → b ≡ (b || false)
nothing_more true = refl
nothing_more false = refl

regroup_back : (a b c : Bool) → ((a || b) || c) ≡ (a || (b || c))
regroup_back true b c = refl
regroup_back false b c = refl

module _ {A : Type 0} {same : A → A → Bool} where
  -- nothing is added
  pub adds_none : (old : List A) → Adds same old [] old
  adds_none old = record { each = λ a. nothing_more (list_any (same a) old) }

  -- these are added, and then others
  pub adds_both : (old mid new xs ys : List A) → Adds same old xs mid → Adds same mid ys new → Adds same old (xs ++ ys) new
  adds_both old mid new xs ys one other = record {
    each = λ a. other.each a ∙ ap (λ (b : Bool). b || list_any (same a) ys) (one.each a)
        ∙ regroup_back (list_any (same a) old) (list_any (same a) xs) (list_any (same a) ys)
        ∙ ap (λ (b : Bool). list_any (same a) old || b) (sym (list_any-append (same a) xs ys));
  }

-- one is added, or was there
module _ {A : Type 0} (same : A → A → Bool) (laws : IsEquivalence same) where
  any_same : (a x : A) → same a x ≡ true → (l : List A) → list_any (same a) l ≡ list_any (same x) l
  any_same a x is [] = refl
  any_same a x is (z ∷ l) = (λ i. laws.congr a x z is i || any_same a x is l i)

  was_there : (old : List A) (x : A) → list_any (same x) old ≡ true → (a : A) (c : Bool) → same a x ≡ c → (d : Bool)
      → list_any (same a) old ≡ d → d ≡ (d || (c || false))
  was_there old x there a true e true f = refl
  was_there old x there a false e true f = refl
  was_there old x there a false e false f = refl
  was_there old x there a true e false f = absurd (
      let w : true ≡ false = sym there ∙ sym (any_same a x e old) ∙ f in
      cc)

  one_added : (old new : List A) (x : A) (b : Bool) → list_any (same x) old ≡ b → new ≡ cond b old (old ++ x ∷ [])
      → Adds same old (x ∷ []) new
  one_added old new x true there is = record {
    each = λ a. ap (list_any (same a)) is ∙ was_there old x there a (same a x) refl (list_any (same a) old) refl;
  }
  one_added old new x false there is = record {
    each = λ a. ap (list_any (same a)) is ∙ list_any-append (same a) old (x ∷ []);
  }

-- one name is added, or was there
pub adds_one : (old new : List (List ℕ)) (x : List ℕ) (b : Bool) → is_taken old x ≡ b → new ≡ cond b old (old ++ x ∷ [])
    → Adds is_text old (x ∷ []) new
adds_one = one_added is_text nat_list_eq_equiv

-- one method is added, or was there
pub adds_one_method : (old new : List MethodName) (x : MethodName) (b : Bool) → list_any (is_same_method x) old ≡ b
    → new ≡ cond b old (old ++ x ∷ []) → Adds is_same_method old (x ∷ []) new
adds_one_method = one_added is_same_method (record {
  refl = λ x. (λ i. text_itself x.0 i && text_itself x.1 i);
  symm = λ x y. (λ i. text_sym x.0 y.0 i && text_sym x.1 y.1 i);
  congr = λ x y z same.
      let parts = and_parts (is_text x.0 y.0) (is_text x.1 y.1) same in
      (λ i. is_text (same_text x.0 y.0 parts.0 i) z.0 && is_text (same_text x.1 y.1 parts.1 i) z.1);
})

-- ---- lists

-- what one more element tells
numbered_more : {A B : Type 0} (tells : ℕ × A → List B) (k : ℕ) (xs : List A) (i : ℕ) (x : A) → i < length xs
    → x ≡ get_or xs i x
    → flat_map tells (enumerate_from k (take i xs)) ++ tells (k + i, x)
    ≡ flat_map tells (enumerate_from k (take (i + 1) xs))
numbered_more tells k [] i x below is = absurd (omega (arith, below))
numbered_more tells k (y ∷ xs) zero x below is =
    let z : k + 0 ≡ k = omega arith in
    (λ j. tells (z j, is j)) ∙ sym (append-nil (tells (k, y)))
numbered_more {B = B} tells k (y ∷ xs) (suc i) x below is =
    let e : suc (i + 1) ≡ suc i + 1 = omega arith in
    let s : k + suc i ≡ k + 1 + i = omega arith in
    append_assoc (tells (k, y)) (flat_map tells (enumerate_from (k + 1) (take i xs))) (tells (k + suc i, x))
    ∙ ap (λ (l : List B). tells (k, y) ++ l)
    (ap (λ (n : ℕ). flat_map tells (enumerate_from (k + 1) (take i xs)) ++ tells (n, x)) s
    ∙ numbered_more tells (k + 1) xs i x (omega (arith, below)) is)
    ∙ ap (λ (n : ℕ). flat_map tells (enumerate_from k (take n (y ∷ xs)))) e

-- marked elements, as elements of which each tells by its mark
pub chosen_tell : {A B : Type 0} (tells : A → List B) (row : List Bool) (k : ℕ) (xs : List A)
    → flat_map tells (chosen row k xs)
    ≡ flat_map (λ (e : ℕ × A). cond (is_marked row e.0) (tells e.1) []) (enumerate_from k xs)
chosen_tell tells row k [] = refl
chosen_tell {A = A} {B = B} tells row k (x ∷ xs) = on (is_marked row k) (chosen_tell tells row (k + 1) xs)
  where
    on : (b : Bool) → flat_map tells (chosen row (k + 1) xs)
        ≡ flat_map (λ (e : ℕ × A). cond (is_marked row e.0) (tells e.1) []) (enumerate_from (k + 1) xs)
        → flat_map tells (map (λ e. e.1) (cond b ((k, x) ∷ filter (λ e. is_marked row e.0) (enumerate_from (k + 1) xs))
        (filter (λ e. is_marked row e.0) (enumerate_from (k + 1) xs))))
        ≡ cond b (tells x) []
        ++ flat_map (λ (e : ℕ × A). cond (is_marked row e.0) (tells e.1) []) (enumerate_from (k + 1) xs)
    on true rest = ap (λ (l : List B). tells x ++ l) rest
    on false rest = rest

-- what each tells alone, as a list
pub each_tells : {A B : Type 0} (name : A → B) (xs : List A) → flat_map (λ x. name x ∷ []) xs ≡ map name xs
each_tells name [] = refl
each_tells {B = B} name (x ∷ xs) = ap (λ (l : List B). name x ∷ l) (each_tells name xs)

-- one member more
pub chosen_adds : {A B : Type 0} {same : B → B → Bool} (tells : A → List B) (row : List Bool) (k : ℕ) (xs : List A) (i : ℕ) (x : A)
    (old mid new : List B) (b : Bool) → i < length xs → x ≡ get_or xs i x → b ≡ is_marked row (k + i)
    → Adds same old (flat_map tells (chosen row k (take i xs))) mid
    → Adds same mid (cond b (tells x) []) new
    → Adds same old (flat_map tells (chosen row k (take (i + 1) xs))) new
chosen_adds {B = B} {same = same} tells row k xs i x old mid new b below is marked before one =
    subst (λ (l : List B). Adds same old l new)
    ((λ j. chosen_tell tells row k (take i xs) j ++ cond (marked j) (tells x) [])
    ∙ numbered_more (λ e. cond (is_marked row e.0) (tells e.1) []) k xs i x below is
    ∙ sym (chosen_tell tells row k (take (i + 1) xs)))
    (adds_both old mid new (flat_map tells (chosen row k (take i xs))) (cond b (tells x) []) before one)

-- one element more of a plain list
pub more_adds : {A B : Type 0} {same : B → B → Bool} (tells : A → List B) (xs : List A) (i : ℕ) (x : A)
    (old mid new : List B) → i < length xs → x ≡ get_or xs i x → Adds same old (flat_map tells (take i xs)) mid
    → Adds same mid (tells x) new → Adds same old (flat_map tells (take (i + 1) xs)) new
more_adds {B = B} {same = same} tells xs i x old mid new below is before one =
    subst (λ (l : List B). Adds same old l new) (flat_more tells xs i x below is)
    (adds_both old mid new (flat_map tells (take i xs)) (tells x) before one)

element_at : {A : Type 0} (xs : List A) (i : ℕ) (x : A) → slice_get xs i ≡ Some x
    → (i < length xs) × (x ≡ get_or xs i x)
element_at [] i x at = absurd cc
element_at (y ∷ xs) zero x at = (omega arith, sym (same_Some y x at))
element_at (y ∷ xs) (suc i) x at = let h = element_at xs i x at in (omega (arith, h.0), h.1)

-- one class more, by its number
pub numbered_adds : {A B : Type 0} {same : B → B → Bool} (tells : ℕ × A → List B) (xs : List A) (i : ℕ) (x : A)
    (old mid new more : List B) → slice_get xs i ≡ Some x → more ≡ tells (i, x)
    → Adds same old (flat_map tells (enumerate_from 0 (take i xs))) mid → Adds same mid more new
    → Adds same old (flat_map tells (enumerate_from 0 (take (i + 1) xs))) new
numbered_adds {B = B} {same = same} tells xs i x old mid new more at is before one =
    let h = element_at xs i x at in
    let z : i ≡ 0 + i = omega arith in
    subst (λ (l : List B). Adds same old l new)
    ((λ j. flat_map tells (enumerate_from 0 (take i xs)) ++ is j)
    ∙ (λ j. flat_map tells (enumerate_from 0 (take i xs)) ++ tells (z j, x))
    ∙ numbered_more tells 0 xs i x h.0 h.1)
    (adds_both old mid new (flat_map tells (enumerate_from 0 (take i xs))) more before one)

-- ---- all together

-- reserved names behind those that were added
pub one_stay : (names xs reserved : List (List ℕ)) → Adds is_text [] xs names → AreSame (names ++ reserved) (xs ++ reserved)
one_stay names xs reserved adds = λ a.
    taken_parts names reserved a ∙ ap (λ (b : Bool). b || is_taken reserved a) (adds.each a)
    ∙ sym (taken_parts xs reserved a)

pub both_stay : (mid names xs ys reserved : List (List ℕ)) → Adds is_text [] xs mid → Adds is_text mid ys names
    → AreSame (names ++ reserved) (xs ++ (ys ++ reserved))
both_stay mid names xs ys reserved one other =
    subst (λ (l : List (List ℕ)). AreSame (names ++ reserved) l) (append_assoc xs ys reserved)
    (one_stay names (xs ++ ys) reserved (adds_both [] mid names xs ys one other))

pub methods_stay : (methods xs : List MethodName) → Adds is_same_method [] xs methods → (d : List ℕ)
    → AreSame (stays_for methods d) (stays_for xs d)
methods_stay methods xs adds d = λ a.
    taken_parts (of_type d methods) (reserved named.Method) a
    ∙ ap (λ (b : Bool). b || is_taken (reserved named.Method) a)
    (sym (pair_taken methods a d) ∙ adds.each (a, d) ∙ pair_taken xs a d)
    ∙ sym (taken_parts (of_type d xs) (reserved named.Method) a)
