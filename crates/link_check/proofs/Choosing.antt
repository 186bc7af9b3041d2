-- Which one of the methods of superinterfaces is chosen.
use Rattle.std.proofs.Common.{◌≡◌, ◌∙◌, ◌&&◌, not, Bool, true, false, cond, List, [], ◌∷◌, Option, Some, None}
use Rattle.std.proofs.Common.{IfSome, refl, sym, ap}
use Rattle.std.specs.Iterator.{YieldsFirst}
use Rattle.std.specs.List.{All, filter, list_all, list_any}
use Rattle.std.specs.Option.{option_and_then}
use Rattle.std.proofs.lemmas.List.Elements.{All-filter, All-head, All-same}
use Rattle.class_model.specs.declared.class.Class.{Class}
use Rattle.class_pool.specs.declared.id.ClassId.{ClassId}
use Rattle.class_pool.specs.declared.id.MemberAt.{MemberAt}
use Rattle.class_pool.specs.Found.{IsMember, NameAndType, declared_by, is_abstract_member, same_member}
use Rattle.class_pool.specs.Resolution.{first, is_maximally_specific, is_open, is_subinterface, maximally_specific}
use Rattle.class_pool.specs.Resolution.{only_one, superinterface_methods}
use Rattle.class_pool.specs.Walk.{own_superinterfaces, same_class, superclasses_from, superinterfaces}
use Rattle.link_check.specs.bodies.Walks.{candidates, each_superinterface, is_candidate, methods_met}
use Rattle.link_check.specs.bodies.Walks.{superinterfaces_met}
use Rattle.link_check.proofs.Alike.{Alike, alike_any, alike_all, alike_filter, alike_filter_map, alike_first}
use Rattle.link_check.proofs.Alike.{alike_flat_map, alike_once}
use Rattle.class_pool.proofs.Declaring.{all_declared}
use Rattle.link_check.proofs.Interfaces.{superinterfaces_there}
use Rattle.class_pool.proofs.Among.{member_itself}

-- ---- the lists of what is met

pub interfaces_alike : (classes : List Class) (c : ClassId)
    → Alike (superinterfaces_met classes c) (superinterfaces classes c)
interfaces_alike classes c =
    alike_flat_map (each_superinterface classes) (own_superinterfaces classes) (superclasses_from classes c)
    (λ d. alike_once (own_superinterfaces classes d))

pub methods_alike : (classes : List Class) (c : ClassId) (named : NameAndType)
    → Alike (methods_met classes c named) (superinterface_methods classes c named)
methods_alike classes c named =
    alike_filter (is_open classes) (declared_by classes named (superinterfaces_met classes c))
    (declared_by classes named (superinterfaces classes c))
    (alike_filter_map _ (superinterfaces_met classes c) (superinterfaces classes c) (interfaces_alike classes c))

pub subinterface_met : (classes : List Class) (a b : ClassId)
    → list_any (same_class b) (superinterfaces_met classes a) ≡ is_subinterface classes a b
subinterface_met classes a b = alike_any (same_class b) (superinterfaces_met classes a) (superinterfaces classes a)
    (interfaces_alike classes a)

-- ---- the only one

one_by_first : (classes : List Class) (xs : List MemberAt)
    → only_one classes xs ≡ option_and_then (λ m. cond (list_all (same_member m) xs) (Some m) None) (first xs)
one_by_first classes [] = refl
one_by_first classes (m ∷ ms) = ap (λ b. cond (b && list_all (same_member m) ms) (Some m) None) (sym (member_itself m))

both_step : {X : Type 0} (p : X → Bool) (b : Bool) (x : X) (xs ys : List X) → filter p xs ≡ ys
    → filter p (cond b (x ∷ xs) xs) ≡ cond (p x && b) (x ∷ ys) ys
both_step p true x xs ys h = passed (p x) x (filter p xs) ys h where
  passed : {X : Type 0} (b : Bool) (x : X) (xs ys : List X) → xs ≡ ys
      → cond b (x ∷ xs) xs ≡ cond (b && true) (x ∷ ys) ys
  passed true x xs ys h = ap (λ rest. x ∷ rest) h
  passed false x xs ys h = h
both_step p false x xs ys h = failed (p x) x (filter p xs) ys h where
  failed : {X : Type 0} (b : Bool) (x : X) (xs ys : List X) → xs ≡ ys → xs ≡ cond (b && false) (x ∷ ys) ys
  failed true x xs ys h = h
  failed false x xs ys h = h

both_tests : {X : Type 0} (p q : X → Bool) (xs : List X) → filter p (filter q xs) ≡ filter (λ x. p x && q x) xs
both_tests p q [] = refl
both_tests p q (x ∷ xs) = both_step p (q x) x (filter q xs) (filter (λ y. p y && q y) xs) (both_tests p q xs)

pub specific_is : (classes : List Class) (ms : List MemberAt) → maximally_specific classes ms
    ≡ option_and_then (λ m. cond (list_all (same_member m) (candidates classes ms)) (Some m) None)
    (first (candidates classes ms))
specific_is classes ms =
    ap (only_one classes) (both_tests (λ m. not (is_abstract_member classes m)) (is_maximally_specific classes ms) ms)
    ∙ one_by_first classes (candidates classes ms)

-- the candidates among those that are met
pub candidates_alike : (classes : List Class) (c : ClassId) (named : NameAndType)
    → Alike (filter (is_candidate classes (superinterface_methods classes c named)) (methods_met classes c named))
    (candidates classes (superinterface_methods classes c named))
candidates_alike classes c named =
    alike_filter (is_candidate classes (superinterface_methods classes c named)) (methods_met classes c named)
    (superinterface_methods classes c named)
    (methods_alike classes c named)

pub first_candidate : (classes : List Class) (c : ClassId) (named : NameAndType)
    → first (filter (is_candidate classes (superinterface_methods classes c named)) (methods_met classes c named))
    ≡ first (candidates classes (superinterface_methods classes c named))
first_candidate classes c named =
    alike_first (filter (is_candidate classes (superinterface_methods classes c named)) (methods_met classes c named))
    (candidates classes (superinterface_methods classes c named)) (candidates_alike classes c named)

pub all_candidates : (classes : List Class) (c : ClassId) (named : NameAndType) (p : MemberAt → Bool)
    → list_all p (filter (is_candidate classes (superinterface_methods classes c named)) (methods_met classes c named))
    ≡ list_all p (candidates classes (superinterface_methods classes c named))
all_candidates classes c named p =
    alike_all p (filter (is_candidate classes (superinterface_methods classes c named)) (methods_met classes c named))
    (candidates classes (superinterface_methods classes c named)) (candidates_alike classes c named)

pub maximal_met : (classes : List Class) (c : ClassId) (named : NameAndType) (m : MemberAt)
    → not (list_any (λ other. is_subinterface classes other.class m.class) (methods_met classes c named))
    ≡ is_maximally_specific classes (superinterface_methods classes c named) m
maximal_met classes c named m =
    ap not (alike_any (λ other. is_subinterface classes other.class m.class) (methods_met classes c named)
    (superinterface_methods classes c named) (methods_alike classes c named))

-- the first one that comes
pub next_first : {X : Type 0} (xs ys : List X) (r : Option X) → YieldsFirst (λ (s : List X). s) xs r ys → r ≡ first xs
next_first xs ys (Some x) h = sym (ap first h)
next_first xs ys None h = sym (ap first h.0)

pub first_there : {X : Type 0} (P : X → Type 0) (xs ys : List X) (r : Option X)
    → YieldsFirst (λ (s : List X). s) xs r ys → All P xs → IfSome r P
first_there P xs ys (Some x) h all = All-head P x ys (All-same P (x ∷ ys) xs (sym h) all)
first_there P xs ys None h all = tt

pub first_met : (classes : List Class) (c : ClassId) (named : NameAndType)
    → first (methods_met classes c named) ≡ first (superinterface_methods classes c named)
first_met classes c named = alike_first (methods_met classes c named) (superinterface_methods classes c named)
    (methods_alike classes c named)

-- all those that are met are there
pub methods_there : (classes : List Class) (c : ClassId) (named : NameAndType)
    → All (IsMember classes) (methods_met classes c named)
methods_there classes c named =
    All-filter (is_open classes) (IsMember classes) (declared_by classes named (superinterfaces_met classes c))
    (all_declared classes named (superinterfaces_met classes c)
    (superinterfaces_there classes (superclasses_from classes c)))

pub none_specific : (classes : List Class) (ms : List MemberAt) (o : Option MemberAt)
    → o ≡ first (candidates classes ms) → o ≡ None → None ≡ maximally_specific classes ms
none_specific classes ms o is none =
    sym (specific_is classes ms
    ∙ ap (option_and_then (λ m. cond (list_all (same_member m) (candidates classes ms)) (Some m) None))
    (sym is ∙ none))

pub some_specific : (classes : List Class) (ms : List MemberAt) (o : Option MemberAt) (m : MemberAt) (b : Bool)
    → o ≡ first (candidates classes ms) → o ≡ Some m
    → b ≡ list_all (same_member m) (candidates classes ms) → cond b (Some m) None ≡ maximally_specific classes ms
some_specific classes ms o m b is some only =
    sym (specific_is classes ms
    ∙ ap (option_and_then (λ x. cond (list_all (same_member x) (candidates classes ms)) (Some x) None))
    (sym is ∙ some)
    ∙ ap (λ t. cond t (Some m) None) (sym only))
