-- Of several kinds the first one in their order.
use Rattle.std.proofs.Common.{◌≡◌, ℕ, suc, ◌+◌, ◌<◌, ◌≤◌, ◌||◌, ◌&&◌, Bool, true, false, cond, eqb, ltb, leb, List, []}
use Rattle.std.proofs.Common.{◌∷◌, ◌++◌, length, get_or, take, Option, Some, None, refl, sym, ap, ◌∙◌, arith}
use Rattle.std.specs.List.{find, flat_map, list_any}
use Rattle.std.proofs.lemmas.Bool.{and_parts, cond-true, cond-false, cond_both, le-ltb, leb-true, lt-ltb}
use Rattle.std.proofs.lemmas.List.{take_more, append-nil}
use Rattle.std.proofs.lemmas.List.Concat.{flat_map-append}
use Rattle.std.proofs.lemmas.List.Folds.{list_any-append}
use Rattle.link_check.specs.declared.fault.ProfileKind.{ProfileKind}
use Rattle.link_check.specs.declared.fault.ProfileKind.TheVariants.{LeftOutFlag, LeftOutConstant, LeftOutOpcode}
use Rattle.link_check.specs.declared.fault.ProfileKind.TheVariants.{LeftOutType, Unresolved, Inaccessible, WrongKind}
use Rattle.link_check.specs.declared.fault.ProfileKind.TheVariants.{LeftOutMember}
use Rattle.link_check.specs.Profile.{all_kinds, least, rank_of, unless}

-- a kind stands in the list
abbrev pub stands : List ProfileKind → ProfileKind → Bool
stands kinds k = list_any (λ (other : ProfileKind). eqb (rank_of k) (rank_of other)) kinds

-- of two kinds, where there are two, the one that counts
abbrev pub lesser : Option ProfileKind → Option ProfileKind → Option ProfileKind
lesser None other = other
lesser (Some one) None = Some one
lesser (Some one) (Some other) = cond (ltb (rank_of other) (rank_of one)) (Some other) (Some one)

-- the ranks ascend from n on
abbrev ascend : ℕ → List ProfileKind → Bool
ascend n [] = true
ascend n (k ∷ ks) = leb n (rank_of k) && ascend (suc (rank_of k)) ks

abbrev From : ℕ → Option ProfileKind → Type 0
From n None = Unit {0}
From n (Some k) = n ≤ rank_of k

from_cond : (t : Bool) (n : ℕ) (k : ProfileKind) (o : Option ProfileKind) → n ≤ rank_of k → From n o
    → From n (cond t (Some k) o)
from_cond true n k o here later = here
from_cond false n k o here later = later

found_from : (test : ProfileKind → Bool) (m n : ℕ) (ks : List ProfileKind) → m ≤ n → ascend n ks ≡ true
    → From m (find test ks)
found_from test m n [] low up = tt
found_from test m n (k ∷ ks) low up =
    let parts = and_parts (leb n (rank_of k)) (ascend (suc (rank_of k)) ks) up in
    let here : n ≤ rank_of k = leb-true n (rank_of k) parts.0 in
    from_cond (test k) m k (find test ks) (omega arith) (found_from test m (suc (rank_of k)) ks (omega arith) parts.1)

same_two : (k : ProfileKind) → Some k ≡ lesser (Some k) (Some k)
same_two k = cond_both (ltb (rank_of k) (rank_of k)) (Some k) (Some k) (λ (o : Option ProfileKind). Some k ≡ o)
    (λ _. refl) (λ _. refl)

first_lesser : (k : ProfileKind) (o : Option ProfileKind) → From (suc (rank_of k)) o → Some k ≡ lesser (Some k) o
first_lesser k None above = refl
first_lesser k (Some j) above = sym
    (cond-false (ltb (rank_of j) (rank_of k)) (Some j) (Some k) (le-ltb (rank_of j) (rank_of k) (omega arith)))

second_lesser : (k : ProfileKind) (o : Option ProfileKind) → From (suc (rank_of k)) o → Some k ≡ lesser o (Some k)
second_lesser k None above = refl
second_lesser k (Some j) above = sym
    (cond-true (ltb (rank_of k) (rank_of j)) (Some k) (Some j) (lt-ltb (rank_of k) (rank_of j) (omega arith)))

one_more : (k : ProfileKind) (x y : Bool) (a b c : Option ProfileKind) → From (suc (rank_of k)) a
    → From (suc (rank_of k)) b → c ≡ lesser a b
    → cond (x || y) (Some k) c ≡ lesser (cond x (Some k) a) (cond y (Some k) b)
one_more k true true a b c above-a above-b is = same_two k
one_more k true false a b c above-a above-b is = first_lesser k b above-b
one_more k false true a b c above-a above-b is = second_lesser k a above-a
one_more k false false a b c above-a above-b is = is

found_or : (p q : ProfileKind → Bool) (n : ℕ) (ks : List ProfileKind) → ascend n ks ≡ true
    → find (λ k. p k || q k) ks ≡ lesser (find p ks) (find q ks)
found_or p q n [] up = refl
found_or p q n (k ∷ ks) up =
    let parts = and_parts (leb n (rank_of k)) (ascend (suc (rank_of k)) ks) up in
    one_more k (p k) (q k) (find p ks) (find q ks) (find (λ (j : ProfileKind). p j || q j) ks)
    (found_from p (suc (rank_of k)) (suc (rank_of k)) ks (omega arith) parts.1)
    (found_from q (suc (rank_of k)) (suc (rank_of k)) ks (omega arith) parts.1)
    (found_or p q (suc (rank_of k)) ks parts.1)

-- which kinds stand in a list decides
pub least_stands : (xs ys : List ProfileKind) → ((k : ProfileKind) → stands xs k ≡ stands ys k) → least xs ≡ least ys
unfolding least
least_stands xs ys same = λ i. find (λ k. same k i) all_kinds

-- of two lists it is the lesser one of theirs
pub least_append : (xs ys : List ProfileKind) → least (xs ++ ys) ≡ lesser (least xs) (least ys)
unfolding least
least_append xs ys =
    (λ i. find (λ k. list_any-append (λ (other : ProfileKind). eqb (rank_of k) (rank_of other)) xs ys i) all_kinds)
    ∙ found_or (stands xs) (stands ys) 0 all_kinds refl

pub least_none : least [] ≡ None
unfolding least
least_none = refl

pub least_one : (k : ProfileKind) → least (k ∷ []) ≡ Some k
unfolding least
least_one LeftOutFlag = refl
least_one LeftOutConstant = refl
least_one LeftOutOpcode = refl
least_one LeftOutType = refl
least_one Unresolved = refl
least_one Inaccessible = refl
least_one WrongKind = refl
least_one LeftOutMember = refl

-- what the kinds of one more element add
pub least_more : {X : Type 0} (f : X → List ProfileKind) (xs : List X) (i : ℕ) (x : X)
    (kind one new : Option ProfileKind) → i < length xs → x ≡ get_or xs i x
    → kind ≡ least (flat_map f (take i xs)) → one ≡ least (f x)
    → ((a b : List ProfileKind) → kind ≡ least a → one ≡ least b → new ≡ least (a ++ b))
    → new ≡ least (flat_map f (take (i + 1) xs))
least_more {X} f xs i x kind one new within is so_far here joined =
    joined (flat_map f (take i xs)) (f x) so_far here
    ∙ ap least (sym (
    ap (flat_map f) (take_more xs i x within ∙ ap (λ (y : X). take i xs ++ y ∷ []) (sym is))
    ∙ flat_map-append f (take i xs) (x ∷ [])
    ∙ ap (λ (ks : List ProfileKind). flat_map f (take i xs) ++ ks) (append-nil (f x))
    ))

either_twice : (p t d s n m : Bool) → ((p || ((t || d) || s)) || (n || m)) ≡ ((p || ((t || d) || s)) || ((t || n) || m))
either_twice true t d s n m = refl
either_twice false true d s n m = refl
either_twice false false d s n m = refl

-- kinds that stand in the lists before add nothing
pub least_again : (p t d s n m : List ProfileKind)
    → least ((p ++ ((t ++ d) ++ s)) ++ (n ++ m)) ≡ least ((p ++ ((t ++ d) ++ s)) ++ ((t ++ n) ++ m))
least_again p t d s n m = least_stands _ _ (λ k.
    let any : List ProfileKind → Bool = λ kinds. stands kinds k in
    let joined : (a b : List ProfileKind) → stands (a ++ b) k ≡ (stands a k || stands b k)
    = λ a b. list_any-append (λ (other : ProfileKind). eqb (rank_of k) (rank_of other)) a b in
    simp joined (either_twice (any p) (any t) (any d) (any s) (any n) (any m)))

pub is_none : None ≡ least []
is_none = sym least_none

pub is_one : (k : ProfileKind) → Some k ≡ least (k ∷ [])
is_one k = sym (least_one k)

pub unless_holds : (holds : Bool) (k : ProfileKind) → holds ≡ true → None ≡ least (unless holds k)
unless_holds holds k h = is_none ∙ ap (λ (t : Bool). least (unless t k)) (sym h)

pub unless_fails : (holds : Bool) (k : ProfileKind) → holds ≡ false → Some k ≡ least (unless holds k)
unless_fails holds k h = is_one k ∙ ap (λ (t : Bool). least (unless t k)) (sym h)

-- where there is no kind in the first list
pub lesser_none : (a b : List ProfileKind) (other : Option ProfileKind) → None ≡ least a → other ≡ least b
    → other ≡ least (a ++ b)
lesser_none a b other p q = q ∙ ap (λ (o : Option ProfileKind). lesser o (least b)) p ∙ sym (least_append a b)

pub lesser_other : (a b : List ProfileKind) (one : ProfileKind) → Some one ≡ least a → None ≡ least b
    → Some one ≡ least (a ++ b)
lesser_other a b one p q =
    ap (λ (o : Option ProfileKind). lesser o None) p ∙ ap (λ (o : Option ProfileKind). lesser (least a) o) q
    ∙ sym (least_append a b)

both_kinds : (a b : List ProfileKind) (one other : ProfileKind) → Some one ≡ least a → Some other ≡ least b
    → lesser (Some one) (Some other) ≡ least (a ++ b)
both_kinds a b one other p q =
    ap (λ (o : Option ProfileKind). lesser o (Some other)) p ∙ ap (λ (o : Option ProfileKind). lesser (least a) o) q
    ∙ sym (least_append a b)

pub lesser_second : (a b : List ProfileKind) (one other : ProfileKind) → rank_of other < rank_of one
    → Some one ≡ least a → Some other ≡ least b → Some other ≡ least (a ++ b)
lesser_second a b one other below p q =
    sym (cond-true (ltb (rank_of other) (rank_of one)) (Some other) (Some one)
    (lt-ltb (rank_of other) (rank_of one) below)) ∙ both_kinds a b one other p q

pub lesser_first : (a b : List ProfileKind) (one other : ProfileKind) → rank_of one ≤ rank_of other → Some one ≡ least a
    → Some other ≡ least b → Some one ≡ least (a ++ b)
lesser_first a b one other below p q =
    sym (cond-false (ltb (rank_of other) (rank_of one)) (Some other) (Some one)
    (le-ltb (rank_of other) (rank_of one) below)) ∙ both_kinds a b one other p q

-- ---- where there is no kind

not_found : {A : Type 0} (test : A → Bool) (x : A) (xs : List A) → find test (x ∷ xs) ≡ None
    → (test x ≡ false) × (find test xs ≡ None)
not_found test x xs none = by (test x) refl none where
  by : (t : Bool) → test x ≡ t → cond t (Some x) (find test xs) ≡ None → (test x ≡ false) × (find test xs ≡ None)
  by true is none = absurd cc
  by false is none = (is, none)

-- the kinds from a place of the order on
abbrev kinds_8 : List ProfileKind
kinds_8 = []

abbrev kinds_7 : List ProfileKind
kinds_7 = LeftOutMember ∷ kinds_8

abbrev kinds_6 : List ProfileKind
kinds_6 = WrongKind ∷ kinds_7

abbrev kinds_5 : List ProfileKind
kinds_5 = Inaccessible ∷ kinds_6

abbrev kinds_4 : List ProfileKind
kinds_4 = Unresolved ∷ kinds_5

abbrev kinds_3 : List ProfileKind
kinds_3 = LeftOutType ∷ kinds_4

abbrev kinds_2 : List ProfileKind
kinds_2 = LeftOutOpcode ∷ kinds_3

abbrev kinds_1 : List ProfileKind
kinds_1 = LeftOutConstant ∷ kinds_2

none_0 : (test : ProfileKind → Bool) → find test all_kinds ≡ None
    → (test LeftOutFlag ≡ false) × (find test kinds_1 ≡ None)
none_0 test none = not_found test LeftOutFlag kinds_1 none

none_1 : (test : ProfileKind → Bool) → find test all_kinds ≡ None
    → (test LeftOutConstant ≡ false) × (find test kinds_2 ≡ None)
none_1 test none = not_found test LeftOutConstant kinds_2 (none_0 test none).1

none_2 : (test : ProfileKind → Bool) → find test all_kinds ≡ None
    → (test LeftOutOpcode ≡ false) × (find test kinds_3 ≡ None)
none_2 test none = not_found test LeftOutOpcode kinds_3 (none_1 test none).1

none_3 : (test : ProfileKind → Bool) → find test all_kinds ≡ None
    → (test LeftOutType ≡ false) × (find test kinds_4 ≡ None)
none_3 test none = not_found test LeftOutType kinds_4 (none_2 test none).1

none_4 : (test : ProfileKind → Bool) → find test all_kinds ≡ None
    → (test Unresolved ≡ false) × (find test kinds_5 ≡ None)
none_4 test none = not_found test Unresolved kinds_5 (none_3 test none).1

none_5 : (test : ProfileKind → Bool) → find test all_kinds ≡ None
    → (test Inaccessible ≡ false) × (find test kinds_6 ≡ None)
none_5 test none = not_found test Inaccessible kinds_6 (none_4 test none).1

none_6 : (test : ProfileKind → Bool) → find test all_kinds ≡ None
    → (test WrongKind ≡ false) × (find test kinds_7 ≡ None)
none_6 test none = not_found test WrongKind kinds_7 (none_5 test none).1

none_7 : (test : ProfileKind → Bool) → find test all_kinds ≡ None
    → (test LeftOutMember ≡ false) × (find test kinds_8 ≡ None)
none_7 test none = not_found test LeftOutMember kinds_8 (none_6 test none).1

none_stands : (test : ProfileKind → Bool) (k : ProfileKind) → find test all_kinds ≡ None → test k ≡ false
none_stands test LeftOutFlag none = (none_0 test none).0
none_stands test LeftOutConstant none = (none_1 test none).0
none_stands test LeftOutOpcode none = (none_2 test none).0
none_stands test LeftOutType none = (none_3 test none).0
none_stands test Unresolved none = (none_4 test none).0
none_stands test Inaccessible none = (none_5 test none).0
none_stands test WrongKind none = (none_6 test none).0
none_stands test LeftOutMember none = (none_7 test none).0

itself_stands : (k : ProfileKind) (ks : List ProfileKind) → stands (k ∷ ks) k ≡ true
itself_stands LeftOutFlag ks = refl
itself_stands LeftOutConstant ks = refl
itself_stands LeftOutOpcode ks = refl
itself_stands LeftOutType ks = refl
itself_stands Unresolved ks = refl
itself_stands Inaccessible ks = refl
itself_stands WrongKind ks = refl
itself_stands LeftOutMember ks = refl

-- where no kind counts, the list has none
pub least_empty : (kinds : List ProfileKind) → least kinds ≡ None → kinds ≡ []
unfolding least
least_empty [] none = refl
least_empty (k ∷ ks) none = absurd (let h = none_stands (stands (k ∷ ks)) k none in let e = itself_stands k ks in cc)
