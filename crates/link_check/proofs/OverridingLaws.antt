-- What the definition of overriding says of a list of methods of one name and descriptor, the lowest class's first.
use Rattle.std.proofs.Common.{◌≡◌, ℕ, ◌&&◌, ◌||◌, Bool, true, false, not, List, [], ◌∷◌, Option, Some, None, ◌-◌, lit<}
use Rattle.std.proofs.Common.{◌⊎◌, ⊎_elim, inl, inr, refl, sym, ap, ◌∙◌}
use Rattle.std.specs.Prelude.{if◌then◌else◌}
use Rattle.std.specs.Bool.{Decides}
use Rattle.std.specs.Cmp.{unsigned_Decides}
use Rattle.std.specs.List.{cons_option, filter_map, find, list_any}
use Rattle.std.specs.Option.{option_map, option_map_or}
use Rattle.jv_base.proofs.Equality.{and_Decides, text_Decides}
use Rattle.jv_base.proofs.Tests.{or_more}
use Rattle.class_model.specs.declared.class.Class.{Class}
use Rattle.class_pool.specs.declared.id.ClassId.{ClassId}
use Rattle.class_pool.specs.declared.id.ClassId.TheVariants.{Prog, Lib}
use Rattle.class_pool.specs.declared.id.MemberAt.{MemberAt}
use Rattle.class_pool.specs.Found.{NameAndType, declared_by, declared_in, is_instance_method, is_private_member}
use Rattle.class_pool.specs.Found.{is_protected_member, is_public_member, name_of, named_at, package_of, same_member}
use Rattle.class_pool.specs.Found.{same_package}
use Rattle.class_pool.specs.Hierarchy.{superclass}
use Rattle.class_pool.specs.Members.{declared_at}
use Rattle.class_pool.specs.Resolution.{first, is_class_below, is_interface_in}
use Rattle.class_pool.specs.Selection.{may_be_overridden, may_override, overrides, overriding, with_nearest}
use Rattle.class_pool.specs.Walk.{highest, same_class, superclasses_from, upwards}
use Rattle.link_check.specs.bodies.Overriding.{alike_from, has_open_override, is_among, overrides_openly}
use Rattle.link_check.specs.bodies.Overriding.{overrides_where}
use Rattle.class_pool.proofs.Declaring.{declared_named}
use Rattle.class_pool.proofs.Climbing.{upwards_step}
use Rattle.std.proofs.lemmas.Option.{same_Some}
use Rattle.std.proofs.lemmas.Bool.{or_parts, or_right}

-- ---- tests

either : {P : Type 0} (a b : Bool) → (a || b) ≡ true → (a ≡ true → P) → (b ≡ true → P) → P
either true b is first second = first refl
either false b is first second = second is

-- ---- members

pub class_Decides : (a b : ClassId) → Decides (same_class a b) (a ≡ b)
class_Decides (Prog m) (Prog n) = let d = unsigned_Decides m n in (λ e. ap Prog (d.0 e), λ e. d.1 (cc))
class_Decides (Lib m) (Lib n) = let d = unsigned_Decides m n in (λ e. ap Lib (d.0 e), λ e. d.1 (cc))
class_Decides (Prog m) (Lib n) = (λ e. absurd cc, λ e. absurd cc)
class_Decides (Lib m) (Prog n) = (λ e. absurd cc, λ e. absurd cc)

pub member_Decides : (a b : MemberAt) → Decides (same_member a b) (a ≡ b)
member_Decides a b = and_Decides _ _ (class_Decides a.class b.class) (unsigned_Decides a.index b.index)
    (λ p q i. record { class = p i; index = q i }) (λ e. ap (λ (m : MemberAt). m.class) e)
    (λ e. ap (λ (m : MemberAt). m.index) e)

pub one_package : (classes : List Class) (a b c : ClassId) → same_package classes a b ≡ true
    → same_package classes b c ≡ true → same_package classes a c ≡ true
one_package classes a b c ab bc =
    let p : ClassId → List ℕ = λ d. package_of (name_of classes d) in
    (text_Decides (p a) (p c)).1 ((text_Decides (p a) (p b)).0 ab ∙ (text_Decides (p b) (p c)).0 bc)

-- ---- by flags

-- all of a public or protected one that may override another may override it
open_for : (i n f p q s : Bool) → ((i && not n) && not f) ≡ true → (p || q) ≡ true
    → (i && ((p || q) || (not n && s))) ≡ true
open_for false n f p q s may is = absurd cc
open_for true n f true q s may is = refl
open_for true n f false true s may is = refl
open_for true n f false false s may is = absurd cc

open_all : (m i p q r s : Bool) → ((m && (i && ((p || q) || r))) && (p || q)) ≡ true → (i && ((p || q) || s)) ≡ true
open_all false i p q r s is = absurd cc
open_all true false p q r s is = absurd cc
open_all true true true q r s is = refl
open_all true true false true r s is = refl
open_all true true false false true s is = absurd cc
open_all true true false false false s is = absurd cc

-- what overrides a method of its own package that overrides one there overrides that too
same_for : (i n p q s : Bool) (ia na pa qa t u : Bool) → (ia && ((pa || qa) || (not na && t))) ≡ true
    → (i && ((p || q) || (not n && s))) ≡ true → (p || q) ≡ false
    → (s ≡ true → t ≡ true → u ≡ true) → (ia && ((pa || qa) || (not na && u))) ≡ true
same_for i n p q s false na pa qa t u up down closed same = absurd cc
same_for i n p q s true na true qa t u up down closed same = refl
same_for i n p q s true na false true t u up down closed same = refl
same_for i n p q s true true false false t u up down closed same = absurd cc
same_for false n p q s true false false false t u up down closed same = absurd cc
same_for true n true q s true false false false t u up down closed same = absurd cc
same_for true n false true s true false false false t u up down closed same = absurd cc
same_for true true false false s true false false false t u up down closed same = absurd cc
same_for true false false false s true false false false t u up down closed same = same down up

-- ---- who is overridden through a list

any_if : {A : Type 0} (p : A → Bool) (b : Bool) (x : A) (xs : List A)
    → list_any p (if b then x ∷ xs else xs) ≡ (if b then p x || list_any p xs else list_any p xs)
any_if p true x xs = refl
any_if p false x xs = refl

first_if : {A : Type 0} (b : Bool) (x : A) (xs : List A)
    → first (if b then x ∷ xs else xs) ≡ (if b then Some x else first xs)
first_if true x xs = refl
first_if false x xs = refl

may_be_at : (cm ca on op om : Bool) → cm ≡ ca → (om ≡ true → ca ≡ true)
    → (cm || ((on && ca) || op)) ≡ (ca || ((om && on) || op))
may_be_at true true on op om same all = refl
may_be_at true false on op om same all = absurd cc
may_be_at false true on op om same all = absurd cc
may_be_at false false on op true same all = absurd (let h = all refl in cc)
may_be_at false false true op false same all = refl
may_be_at false false false op false same all = refl

may_be_below : (mo on op cx ca xa pp : Bool) → (mo ≡ true → pp ≡ true → cx ≡ true)
    → (mo ≡ true → xa ≡ true → cx ≡ true → pp ≡ false → ca ≡ true)
    → (if mo && ((on && xa) || op) then cx || ((on && ca) || op) else ((on && ca) || op))
    ≡ ((on && ca) || ((((mo && xa) && pp) && on) || op))
may_be_below false on op cx ca xa pp for same = refl
may_be_below true false false cx ca false pp for same = refl
may_be_below true false false cx ca true false for same = refl
may_be_below true false false cx ca true true for same = refl
may_be_below true false true true ca false pp for same = refl
may_be_below true false true true ca true false for same = refl
may_be_below true false true true ca true true for same = refl
may_be_below true false true false ca false pp for same = refl
may_be_below true false true false ca true false for same = refl
may_be_below true false true false ca true true for same = refl
may_be_below true true true true true false pp for same = refl
may_be_below true true true true true true pp for same = refl
may_be_below true true true true false false pp for same = refl
may_be_below true true true true false true true for same = refl
may_be_below true true true true false true false for same = refl
may_be_below true true true false true false pp for same = refl
may_be_below true true true false true true pp for same = refl
may_be_below true true true false false false pp for same = refl
may_be_below true true true false false true true for same = refl
may_be_below true true true false false true false for same = refl
may_be_below true true false cx true false pp for same = refl
may_be_below true true false cx false false pp for same = refl
may_be_below true true false true true true pp for same = refl
may_be_below true true false false true true pp for same = refl
may_be_below true true false true false true true for same = refl
may_be_below true true false true false true false for same = absurd (let h = same refl refl refl refl in cc)
may_be_below true true false false false true true for same = absurd (let h = for refl refl in cc)
may_be_below true true false false false true false for same = refl

module _ (classes : List Class) (above : MemberAt) where
  -- by the nearest method of a list and those behind it
  may_be_step : (c : ClassId) (m : MemberAt) (ms : List MemberAt) (b : Bool) → same_member m above ≡ b
      → ((d : ClassId) → list_any (may_be_overridden classes d) (overriding classes above ms)
      ≡ ((is_among above ms && may_be_overridden classes d above) || has_open_override classes above ms))
      → list_any (may_be_overridden classes c) (overriding classes above (m ∷ ms))
      ≡ ((is_among above (m ∷ ms) && may_be_overridden classes c above) || has_open_override classes above (m ∷ ms))
  may_be_step c m ms true is behind =
      let at : m ≡ above = (member_Decides m above).0 is in
      ap (λ b. list_any (may_be_overridden classes c)
      (if b || (may_override classes m && list_any (may_be_overridden classes m.class)
      (overriding classes above ms))
      then m ∷ overriding classes above ms else overriding classes above ms)) is
      ∙ ap (λ b. may_be_overridden classes c m || b) (behind c)
      ∙ may_be_at _ (may_be_overridden classes c above) (is_among above ms) (has_open_override classes above ms)
      (overrides_openly classes above m) (ap (may_be_overridden classes c) at)
      (λ openly. open_all (may_override classes above) (is_instance_method classes above)
      (is_public_member classes above) (is_protected_member classes above)
      (not (is_private_member classes above) && same_package classes above.class above.class)
      (not (is_private_member classes above) && same_package classes c above.class)
      (sym (ap (overrides_openly classes above) at) ∙ openly))
      ∙ ap (λ b. ((b || is_among above ms) && may_be_overridden classes c above)
      || has_open_override classes above (m ∷ ms)) (sym is)
  may_be_step c m ms false is behind =
      ap (λ b. list_any (may_be_overridden classes c)
      (if b || (may_override classes m && list_any (may_be_overridden classes m.class)
      (overriding classes above ms))
      then m ∷ overriding classes above ms else overriding classes above ms)) is
      ∙ any_if (may_be_overridden classes c) _ m (overriding classes above ms)
      ∙ ap (λ b. if may_override classes m && b then may_be_overridden classes c m
      || list_any (may_be_overridden classes c) (overriding classes above ms)
      else list_any (may_be_overridden classes c) (overriding classes above ms)) (behind m.class)
      ∙ ap (λ b. if may_override classes m
      && ((is_among above ms && may_be_overridden classes m.class above) || has_open_override classes above ms)
      then may_be_overridden classes c m || b else b) (behind c)
      ∙ may_be_below (may_override classes m) (is_among above ms) (has_open_override classes above ms)
      (may_be_overridden classes c m) (may_be_overridden classes c above)
      (may_be_overridden classes m.class above) (is_public_member classes m || is_protected_member classes m)
      (λ may all. open_for (is_instance_method classes m) (is_private_member classes m)
      (is_interface_in classes m.class) (is_public_member classes m) (is_protected_member classes m)
      (same_package classes c m.class) may all)
      (λ may down up closed. same_for (is_instance_method classes m) (is_private_member classes m)
      (is_public_member classes m) (is_protected_member classes m) (same_package classes c m.class)
      (is_instance_method classes above) (is_private_member classes above) (is_public_member classes above)
      (is_protected_member classes above) (same_package classes m.class above.class)
      (same_package classes c above.class) down up closed (one_package classes c m.class above.class))
      ∙ ap (λ b. ((b || is_among above ms) && may_be_overridden classes c above)
      || has_open_override classes above (m ∷ ms)) (sym is)

  -- a method of the list is one that a method of a class may override: the one above, or one that overrides it openly
  pub may_be_any : (ms : List MemberAt) (c : ClassId)
      → list_any (may_be_overridden classes c) (overriding classes above ms)
      ≡ ((is_among above ms && may_be_overridden classes c above) || has_open_override classes above ms)
  may_be_any [] c = refl
  may_be_any (m ∷ ms) c = may_be_step c m ms (same_member m above) refl (may_be_any ms)

-- ---- the first one that overrides

none_where : {A : Type 0} (b : Bool) (x : A) → (if b && false then x ∷ [] else []) ≡ []
none_where true x = refl
none_where false x = refl

first_closed : {A : Type 0} (f : Bool → Option A) (x : A) (op : Bool)
    → (if op then Some x else f op) ≡ (if op || false then Some x else f op)
first_closed f x true = refl
first_closed f x false = refl

first_at : {A : Type 0} (find_where : Bool → Option A) (x : A) (mo on op xa pp : Bool) → (on ≡ false → op ≡ false)
    → (if mo && ((on && xa) || op) then Some x else (if on then find_where op else None))
    ≡ (if on then (if mo && (((((mo && xa) && pp) && on) || op) || xa) then Some x else find_where
    ((((mo && xa) && pp) && on) || op)) else None)
first_at f x false on op xa pp none = refl
first_at f x true false true xa pp none = absurd (let h = none refl in cc)
first_at f x true false false xa pp none = refl
first_at f x true true op false pp none = first_closed f x op
first_at f x true true true true true none = refl
first_at f x true true true true false none = refl
first_at f x true true false true true none = refl
first_at f x true true false true false none = refl

module _ (classes : List Class) (above : MemberAt) where
  without_step : (m : MemberAt) (ms : List MemberAt) → same_member m above ≡ false → overriding classes above ms ≡ []
      → overriding classes above (m ∷ ms) ≡ []
  without_step m ms other behind =
      ap (with_nearest classes above m) behind
      ∙ ap (λ b. if b || (may_override classes m && false) then m ∷ [] else []) other
      ∙ none_where (may_override classes m) m

  -- where the one above isn't among the methods, none overrides it
  pub without : (ms : List MemberAt) → is_among above ms ≡ false → overriding classes above ms ≡ []
  without [] none = refl
  without (m ∷ ms) none = let h = or_parts (same_member m above) (is_among above ms) none in without_step m ms h.0
      (without ms h.1)

  closed_step : (a b o : Bool) → b ≡ false → o ≡ false → ((a && b) || o) ≡ false
  closed_step true b o first second = cc
  closed_step false b o first second = second

  pub closed_without : (ms : List MemberAt) → is_among above ms ≡ false → has_open_override classes above ms ≡ false
  closed_without [] none = refl
  closed_without (m ∷ ms) none =
      let h = or_parts (same_member m above) (is_among above ms) none in closed_step
      (overrides_openly classes above m) _ _ h.1 (closed_without ms h.1)

  first_step : (m : MemberAt) (ms : List MemberAt) (b : Bool) → same_member m above ≡ b
      → first (overriding classes above ms)
      ≡ (if is_among above ms then find
      (overrides_where classes above (has_open_override classes above ms)) ms else None)
      → first (overriding classes above (m ∷ ms))
      ≡ (if is_among above (m ∷ ms) then find
      (overrides_where classes above (has_open_override classes above (m ∷ ms))) (m ∷ ms) else None)
  first_step m ms true is behind =
      ap (λ b. first (if b || (may_override classes m && list_any (may_be_overridden classes m.class)
      (overriding classes above ms)) then m ∷ overriding classes above ms else overriding classes above ms)) is
      ∙ ap (λ b. if b || is_among above ms
      then (if b || (may_override classes m && (has_open_override classes above (m ∷ ms)
      || may_be_overridden classes m.class above)) then Some m
      else find (overrides_where classes above (has_open_override classes above (m ∷ ms))) ms) else None) (sym is)
  first_step m ms false is behind =
      ap (λ b. first (if b || (may_override classes m && list_any (may_be_overridden classes m.class)
      (overriding classes above ms)) then m ∷ overriding classes above ms else overriding classes above ms)) is
      ∙ first_if _ m (overriding classes above ms)
      ∙ ap (λ b. if may_override classes m && b then Some m else first (overriding classes above ms))
      (may_be_any classes above ms m.class)
      ∙ ap (λ o. if may_override classes m
      && ((is_among above ms && may_be_overridden classes m.class above)
      || has_open_override classes above ms) then Some m else o) behind
      ∙ first_at (λ b. find (overrides_where classes above b) ms) m (may_override classes m) (is_among above ms)
      (has_open_override classes above ms)
      (may_be_overridden classes m.class above) (is_public_member classes m || is_protected_member classes m)
      (closed_without ms)
      ∙ ap (λ b. if b || is_among above ms
      then (if b || (may_override classes m && (has_open_override classes above (m ∷ ms)
      || may_be_overridden classes m.class above)) then Some m
      else find (overrides_where classes above (has_open_override classes above (m ∷ ms))) ms) else None) (sym is)

  -- the first of those that override it: where one does so openly, the first that may override, else the first that
  -- overrides it by itself
  pub first_where : (ms : List MemberAt)
      → first (overriding classes above ms)
      ≡ (if is_among above ms then find
      (overrides_where classes above (has_open_override classes above ms)) ms else None)
  first_where [] = refl
  first_where (m ∷ ms) = first_step m ms (same_member m above) refl (first_where ms)

-- ---- one method and another

through_more : (s mo a b : Bool) → (s || (mo && a)) ≡ true → (s || (mo && (b || a))) ≡ true
through_more true mo a b is = refl
through_more false true a true is = refl
through_more false true a false is = is
through_more false false a b is = absurd cc

own_at : (s mo on op xa pp : Bool) → (s || on) ≡ true
    → (s || (mo && ((on && xa) || op))) ≡ (s || (mo && (xa || ((((mo && xa) && pp) && on) || op))))
own_at true mo on op xa pp there = refl
own_at false mo false op xa pp there = absurd cc
own_at false false true op xa pp there = refl
own_at false true true op true pp there = refl
own_at false true true op false pp there = refl

module _ (classes : List Class) (above : MemberAt) where
  -- a method overrides the one above or is it, where these are the methods of the superclasses
  abbrev pub is_through : MemberAt → List MemberAt → Bool
  is_through m ms = same_member m above
      || (may_override classes m && list_any (may_be_overridden classes m.class) (overriding classes above ms))

  grows : (m x : MemberAt) (xs : List MemberAt) (b : Bool) → is_through m xs ≡ true
      → (same_member m above || (may_override classes m && list_any (may_be_overridden classes m.class)
      (if b then x ∷ overriding classes above xs else overriding classes above xs))) ≡ true
  grows m x xs true is = through_more (same_member m above) (may_override classes m) _
      (may_be_overridden classes m.class x) is
  grows m x xs false is = is

  found_step : (m x : MemberAt) (xs : List MemberAt) (b s : Bool) → is_through x xs ≡ b → same_member m x ≡ s
      → (list_any (same_member m) (overriding classes above xs) ≡ true → is_through m xs ≡ true)
      → (if b then s || list_any (same_member m) (overriding classes above xs) else list_any (same_member m)
      (overriding classes above xs)) ≡ true → is_through m xs ≡ true
  found_step m x xs true true is same behind found = ap (λ y. is_through y xs) ((member_Decides m x).0 same) ∙ is
  found_step m x xs true false is same behind found = behind found
  found_step m x xs false s is same behind found = behind found

  -- what is found among those that override it does so
  found_through : (m : MemberAt) (xs : List MemberAt) → list_any (same_member m) (overriding classes above xs) ≡ true
      → is_through m xs ≡ true
  found_through m [] found = absurd cc
  found_through m (x ∷ xs) found =
      grows m x xs (is_through x xs)
      (found_step m x xs (is_through x xs) (same_member m x) refl refl (found_through m xs)
      (sym (any_if (same_member m) (is_through x xs) x (overriding classes above xs)) ∙ found))

  own_step : (m : MemberAt) (ms : List MemberAt) (b found : Bool) → is_through m ms ≡ b
      → list_any (same_member m) (overriding classes above ms) ≡ found
      → list_any (same_member m) (if b then m ∷ overriding classes above ms else overriding classes above ms) ≡ b
  own_step m ms true found is there = ap (λ b. b || list_any (same_member m) (overriding classes above ms))
      ((member_Decides m m).1 refl)
  own_step m ms false true is there = absurd (let h = found_through m ms there in cc)
  own_step m ms false false is there = there

  -- whether the nearest method of a list overrides the one above, which is among them
  pub own_overrides : (m : MemberAt) (ms : List MemberAt) → is_among above (m ∷ ms) ≡ true
      → list_any (same_member m) (overriding classes above (m ∷ ms))
      ≡ (same_member m above || (may_override classes m && (may_be_overridden classes m.class above
      || has_open_override classes above (m ∷ ms))))
  own_overrides m ms there =
      own_step m ms (is_through m ms) _ refl refl
      ∙ ap (λ b. same_member m above || (may_override classes m && b)) (may_be_any classes above ms m.class)
      ∙ own_at (same_member m above) (may_override classes m) (is_among above ms) (has_open_override classes above ms)
      (may_be_overridden classes m.class above)
      (is_public_member classes m || is_protected_member classes m) there

  among_if : (p : MemberAt → Bool) (b : Bool) (m : MemberAt) (xs ms : List MemberAt)
      → (list_any p xs ≡ true → list_any p ms ≡ true) → list_any p (if b then m ∷ xs else xs) ≡ true
      → list_any p (m ∷ ms) ≡ true
  among_if p true m xs ms behind found = or_more (p m) _ _ behind found
  among_if p false m xs ms behind found = or_right (p m) _ (behind found)

  -- those that override are among the methods
  pub only_among : (p : MemberAt → Bool) (ms : List MemberAt) → list_any p (overriding classes above ms) ≡ true
      → list_any p ms ≡ true
  only_among p [] found = found
  only_among p (m ∷ ms) found = among_if p (is_through m ms) m (overriding classes above ms) ms (only_among p ms) found

-- ---- which class declares a method

module _ (declared : ClassId → Option MemberAt)
    (own : (c : ClassId) (x : MemberAt) → declared c ≡ Some x → x.class ≡ c) where
  declared_step : (p : MemberAt → Bool) (a : MemberAt) (c : ClassId) (cs : List ClassId) (o : Option MemberAt)
      → declared c ≡ o → ((x : MemberAt) → p x ≡ true → x ≡ a)
      → (list_any p (filter_map declared cs) ≡ true → declared a.class ≡ Some a)
      → list_any p (cons_option o (filter_map declared cs)) ≡ true → declared a.class ≡ Some a
  declared_step p a c cs None is only behind found = behind found
  declared_step p a c cs (Some x) is only behind found =
      either (p x) (list_any p (filter_map declared cs)) found
      (λ this. let same : x ≡ a = only x this in
      ap declared (sym (ap (λ (y : MemberAt). y.class) same) ∙ own c x is) ∙ is ∙ ap Some same)
      behind

  -- a method that is among those that the classes declare is the one that its class declares
  pub declared_own : (p : MemberAt → Bool) (a : MemberAt) (cs : List ClassId) → ((x : MemberAt) → p x ≡ true → x ≡ a)
      → list_any p (filter_map declared cs) ≡ true → declared a.class ≡ Some a
  declared_own p a [] only found = absurd cc
  declared_own p a (c ∷ cs) only found = declared_step p a c cs (declared c) refl only (declared_own p a cs only) found

  other_step : (a x : MemberAt) (c : ClassId) (b : Bool) → same_member x a ≡ b → declared c ≡ Some x
      → same_class a.class c ≡ false → same_member x a ≡ false
  other_step a x c true same is other =
      let at : a.class ≡ c = sym (ap (λ (y : MemberAt). y.class) ((member_Decides x a).0 same)) ∙ own c x is in
      let e : same_class a.class c ≡ true = (class_Decides a.class c).1 at in absurd cc
  other_step a x c false same is other = same

  among_other : (a : MemberAt) (c : ClassId) (cs : List ClassId) (o : Option MemberAt) → declared c ≡ o
      → same_class a.class c ≡ false
      → is_among a (cons_option o (filter_map declared cs)) ≡ is_among a (filter_map declared cs)
  among_other a c cs None is other = refl
  among_other a c cs (Some x) is other = ap (λ b. b || is_among a (filter_map declared cs))
      (other_step a x c _ refl is other)

  among_step : (a : MemberAt) (c : ClassId) (cs : List ClassId) (b : Bool) → declared a.class ≡ Some a
      → same_class a.class c ≡ b
      → is_among a (filter_map declared cs) ≡ list_any (same_class a.class) cs
      → is_among a (filter_map declared (c ∷ cs)) ≡ (b || list_any (same_class a.class) cs)
  among_step a c cs true first is behind =
      ap (λ o. is_among a (cons_option o (filter_map declared cs)))
      (ap declared (sym ((class_Decides a.class c).0 is)) ∙ first)
      ∙ ap (λ b. b || is_among a (filter_map declared cs)) ((member_Decides a a).1 refl)
  among_step a c cs false first is behind = among_other a c cs (declared c) refl is ∙ behind

  -- a method that its class declares is among those of the classes where its class is
  pub among_declared : (a : MemberAt) (cs : List ClassId) → declared a.class ≡ Some a
      → is_among a (filter_map declared cs) ≡ list_any (same_class a.class) cs
  among_declared a [] first = refl
  among_declared a (c ∷ cs) first = among_step a c cs (same_class a.class c) first refl (among_declared a cs first)

-- ---- what the calls answer

pub false_true : (b : Bool) → b ≡ false → b ≡ true → ⊥
false_true true is other = absurd cc
false_true false is other = absurd cc

false_unless : (b : Bool) → (b ≡ true → ⊥) → false ≡ b
false_unless true none = absurd (none refl)
false_unless false none = refl

in_class : (c : ClassId) (o : Option ℕ) (x : MemberAt) → option_map (λ n. record { class = c; index = n }) o ≡ Some x
    → x.class ≡ c
in_class c (Some n) x is = sym (ap (λ (m : MemberAt). m.class) (same_Some _ _ is))
in_class c None x is = absurd cc

pub declared_class : (classes : List Class) (named : NameAndType) (c : ClassId) (x : MemberAt)
    → declared_in classes named c ≡ Some x → x.class ≡ c
declared_class classes named c x is = in_class c (declared_at classes c named.0 named.1) x is

module _ (classes : List Class) (above : MemberAt) where
  -- the one above is among the methods of a class and its superclasses where it is the one that its class declares, and
  -- that is one of these
  pub alike_above : (c : ClassId) → declared_in classes (named_at classes above) above.class ≡ Some above
      → is_among above (alike_from classes above c) ≡ is_class_below classes c above.class
  alike_above c first = among_declared (declared_in classes (named_at classes above))
      (declared_class classes (named_at classes above)) above (superclasses_from classes c) first

  pub alike_first : (c : ClassId) → is_among above (alike_from classes above c) ≡ true
      → declared_in classes (named_at classes above) above.class ≡ Some above
  alike_first c there =
      declared_own (declared_in classes (named_at classes above)) (declared_class classes (named_at classes above))
      (λ x. same_member x above) above (superclasses_from classes c)
      (λ x is. (member_Decides x above).0 is) there

  pub overridden_first : (m : MemberAt) → overrides classes m above ≡ true
      → declared_in classes (named_at classes above) m.class ≡ Some m
  overridden_first m is =
      declared_own (declared_in classes (named_at classes above)) (declared_class classes (named_at classes above))
      (same_member m) m (superclasses_from classes m.class)
      (λ x same. sym ((member_Decides m x).0 same))
      (only_among classes above (same_member m) (alike_from classes above m.class) is)

  pub overridden_among : (m : MemberAt) → is_among above (alike_from classes above m.class) ≡ false
      → overrides classes m above ≡ false
  overridden_among m none = ap (list_any (same_member m))
      (without classes above (alike_from classes above m.class) none)

  pub overridden_alike : (m : MemberAt) → declared_in classes (named_at classes above) m.class ≡ Some m
      → is_among above (alike_from classes above m.class) ≡ true
      → overrides classes m above
      ≡ (same_member m above || (may_override classes m && (may_be_overridden classes m.class above
      || has_open_override classes above (alike_from classes above m.class))))
  overridden_alike m first there =
      let rest : List MemberAt = declared_by classes (named_at classes above)
      (option_map_or (upwards (highest - 1) classes) (superclass classes m.class) []) in
      let e : alike_from classes above m.class ≡ m ∷ rest =
      ap (declared_by classes (named_at classes above)) (upwards_step highest classes m.class (lit< tt))
      ∙ ap (λ o. cons_option o rest) first in
      ap (λ ms. list_any (same_member m) (overriding classes above ms)) e
      ∙ own_overrides classes above m rest (sym (ap (is_among above) e) ∙ there)
      ∙ ap (λ ms. same_member m above
      || (may_override classes m
      && (may_be_overridden classes m.class above || has_open_override classes above ms))) (sym e)

  pub alike_none : (c : ClassId) → (declared_in classes (named_at classes above) above.class ≡ Some above → ⊥)
      → false ≡ is_among above (alike_from classes above c)
  alike_none c none = false_unless (is_among above (alike_from classes above c)) (λ there. none (alike_first c there))

  pub overridden_none : (m : MemberAt) → (declared_in classes (named_at classes above) m.class ≡ Some m → ⊥)
      → false ≡ overrides classes m above
  overridden_none m none = false_unless (overrides classes m above) (λ is. none (overridden_first m is))

  -- where its class is below that of the one above, which is alike
  pub overridden_below : (m : MemberAt) → declared_in classes (named_at classes m) m.class ≡ Some m
      → declared_in classes (named_at classes m) above.class ≡ Some above
      → is_class_below classes m.class above.class ≡ true
      → overrides classes m above
      ≡ (same_member m above || (may_override classes m && (may_be_overridden classes m.class above
      || has_open_override classes above (alike_from classes above m.class))))
  overridden_below m own alike below =
      let e : named_at classes above
      ≡ named_at classes m = declared_named classes (named_at classes m) above.class above alike in
      overridden_alike m (ap (λ n. declared_in classes n m.class) e ∙ own)
      (alike_above m.class (ap (λ n. declared_in classes n above.class) e ∙ alike) ∙ below)

-- what a method found for the one above is to it
module _ (classes : List Class) (above m : MemberAt)
    (first : declared_in classes (named_at classes above) m.class ≡ Some m) where
  named_alike : named_at classes m ≡ named_at classes above
  named_alike = declared_named classes (named_at classes above) m.class m first

  pub own_first : declared_in classes (named_at classes m) m.class ≡ Some m
  own_first = ap (λ n. declared_in classes n m.class) named_alike ∙ first

  pub above_first : is_among above (alike_from classes above m.class) ≡ true
      → declared_in classes (named_at classes m) above.class ≡ Some above
  above_first there = ap (λ n. declared_in classes n above.class) named_alike ∙ alike_first classes above m.class there

  pub class_below : is_among above (alike_from classes above m.class) ≡ true
      → is_class_below classes m.class above.class ≡ true
  class_below there = sym (alike_above classes above m.class (alike_first classes above m.class there)) ∙ there

-- ---- the first one, by calls

static_step : (mo p q a o : Bool) → o ≡ false → (((mo && false) && (p || q)) && a || o) ≡ false
static_step true p q a o is = is
static_step false p q a o is = is

-- one that is no instance method is overridden by none
static_closed : (classes : List Class) (above : MemberAt) (ms : List MemberAt)
    → is_instance_method classes above ≡ false → has_open_override classes above ms ≡ false
static_closed classes above [] static = refl
static_closed classes above (m ∷ ms) static =
    ap (λ b. ((may_override classes m
    && (b && ((is_public_member classes above || is_protected_member classes above)
    || (not (is_private_member classes above) && same_package classes m.class above.class))))
    && (is_public_member classes m || is_protected_member classes m)) && is_among above ms
    || has_open_override classes above ms) static
    ∙ static_step (may_override classes m) (is_public_member classes m) (is_protected_member classes m)
    (is_among above ms) (has_open_override classes above ms) (static_closed classes above ms static)

where_step : (s mo i p q r b : Bool) → (p || q) ≡ true → (i ≡ false → b ≡ false)
    → (s || (mo && (false || (i && ((p || q) || r))))) ≡ (s || (mo && (b || (i && ((p || q) || r)))))
where_step true mo i p q r b wide static = refl
where_step false false i p q r b wide static = refl
where_step false true false p q r true wide static = absurd (let h = static refl in cc)
where_step false true false p q r false wide static = refl
where_step false true true true q r true wide static = refl
where_step false true true true q r false wide static = refl
where_step false true true false true r true wide static = refl
where_step false true true false true r false wide static = refl
where_step false true true false false r b wide static = absurd cc

narrow : (p q h : Bool) → ((p || q) ≡ false × (((not p && not q) && h) ≡ h))
    ⊎ ((p || q) ≡ true × (((not p && not q) && h) ≡ false))
narrow true q h = inr (refl, refl)
narrow false true h = inr (refl, refl)
narrow false false h = inl (refl, refl)

module _ (classes : List Class) (above : MemberAt) where
  wide : (ms : List MemberAt) → (is_public_member classes above || is_protected_member classes above) ≡ true
      → find (overrides_where classes above false) ms
      ≡ find (overrides_where classes above (has_open_override classes above ms)) ms
  wide ms all =
      let same : overrides_where classes above false
      ≡ overrides_where classes above (has_open_override classes above ms) =
      λ i m. where_step (same_member m above) (may_override classes m) (is_instance_method classes above)
      (is_public_member classes above) (is_protected_member classes above)
      (not (is_private_member classes above) && same_package classes m.class above.class)
      (has_open_override classes above ms) all (static_closed classes above ms) i in
      ap (λ p. find p ms) same

  -- of a public or protected one no method needs to be looked for that overrides it openly
  pub first_found : (ms : List MemberAt) (opened : Bool) → is_among above ms ≡ true
      → opened ≡ ((not (is_public_member classes above) && not (is_protected_member classes above))
      && has_open_override classes above ms)
      → find (overrides_where classes above opened) ms ≡ first (overriding classes above ms)
  first_found ms opened there is =
      ap (λ b. find (overrides_where classes above b) ms) is
      ∙ ⊎_elim (λ p. ap (λ b. find (overrides_where classes above b) ms) p.1)
      (λ p. ap (λ b. find (overrides_where classes above b) ms) p.1 ∙ wide ms p.0)
      (narrow (is_public_member classes above) (is_protected_member classes above) (has_open_override classes above ms))
      ∙ sym (first_where classes above ms
      ∙ ap (λ b. if b then find
      (overrides_where classes above (has_open_override classes above ms)) ms else None) there)

  pub first_none : (ms : List MemberAt) → is_among above ms ≡ false → None ≡ first (overriding classes above ms)
  first_none ms none = sym (ap first (without classes above ms none))
