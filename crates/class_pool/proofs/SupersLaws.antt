-- The list of supertypes has just the proper supertypes.
use Rattle.std.proofs.Common.{◌≡◌, ⊎_elim, ℕ, zero, suc, ◌+◌, ◌<◌, ◌≤◌, ◌⊎◌, inl, inr, Bool}
use Rattle.std.proofs.Common.{false, ◌||◌, ◌↔◌, IsTrue, nat_lt, List, [], ◌∷◌, ◌++◌, length, get_or, take, Option, Some}
use Rattle.std.proofs.Common.{None, refl, sym, ap, subst, ◌∙◌, arith}
use Rattle.std.specs.Prelude.{IfSome}
use Rattle.std.specs.List.{All, Contains, cons_option, flat_map, list_any, remove}
use Rattle.std.specs.Option.{option_map_or}
use Rattle.std.proofs.lemmas.Bool.{both_ways, ltb-true, lt-ltb, or_cases, or_parts}
use Rattle.std.proofs.lemmas.List.{flat_map_more, take_more}
use Rattle.std.proofs.lemmas.List.Folds.{list_any-append}
use Rattle.std.proofs.lemmas.List.Elements.{All-append, All-cons, All-nil, All-weaker}
use Rattle.jv_base.proofs.Lists.{all_flat}
use Rattle.jv_base.proofs.Tests.{or_pairs}
use Rattle.class_model.specs.declared.class.Class.{Class}
use Rattle.lib_table.specs.Library.{library}
use Rattle.lib_table.proofs.Computed.{count}
use Rattle.class_pool.specs.declared.id.ClassId.{ClassId}
use Rattle.class_pool.specs.Hierarchy.{IsClass, interfaces, superclass}
use Rattle.class_pool.specs.bodies.Lists.{AreOwn, list_at}
use Rattle.class_pool.specs.Ranks.{HasObject, HasRanks}
use Rattle.class_pool.specs.Supers.{IsSupers, is_below}
use Rattle.class_pool.specs.bodies.Supers.{is_self_or_own}
use Rattle.class_pool.specs.Supertypes.{IsProperSub, Sub, direct}
use Rattle.class_pool.specs.Walk.{each_once, highest, own_superinterfaces, same_class, superclasses_from}
use Rattle.class_pool.specs.Walk.{superinterfaces, supers, upwards, walked}
use Rattle.class_pool.specs.bodies.Marked.{IsBelow}
use Rattle.class_pool.proofs.Among.{any_once}
use Rattle.class_pool.proofs.EachOnce.{bool_cases, same_is, same_itself}
use Rattle.class_pool.proofs.FillingLaws.{below_all, once_then, walked_all}
use Rattle.class_pool.proofs.Directs.{class_cases, direct_valid, none_above, proper_direct, proper_on}
use Rattle.class_pool.proofs.Walking.{Falls, first_of, interfaces_fall, interfaces_valid, no_rank, rest_of}
use Rattle.class_pool.proofs.Within.{In, in_contains, in_first, in_flat, in_left, in_next, in_right}
use Rattle.class_pool.proofs.Within.{of_one, once_differ, once_in, once_new, supers_are}

-- ---- each is a supertype

-- a class, or a proper supertype of it
abbrev AtOrAbove : List Class → ClassId → ClassId → Type 0
AtOrAbove classes a x = IsClass classes x × ((x ≡ a) ⊎ IsProperSub classes a x)

abbrev Proper : List Class → ClassId → ClassId → Type 0
Proper classes a x = IsClass classes x × IsProperSub classes a x

direct_proper : (classes : List Class) (a c : ClassId) → AtOrAbove classes a c
    → All (Proper classes a) (direct classes c)
direct_proper classes a c h k d within = (
  direct_valid classes c k d within,
  ⊎_elim
      (λ same. subst (λ (z : ClassId). All (IsProperSub classes a) (direct classes z)) (sym same)
      (proper_direct classes a) k d within)
      (λ proper. proper_on classes a c proper k d within)
      h.1,
)

opt_all : (P Q : ClassId → Type 0) (f : ClassId → List ClassId) (o : Option ClassId) → IfSome o Q
    → ((d : ClassId) → Q d → All P (f d)) → All P (option_map_or f o [])
opt_all P Q f None q h = All-nil P
opt_all P Q f (Some d) q h = h d q

up_all : (classes : List Class) (n : ℕ) (a c : ClassId) → AtOrAbove classes a c
    → All (AtOrAbove classes a) (upwards n classes c)
unfolding upwards
up_all classes zero a c h = All-nil (AtOrAbove classes a)
up_all classes (suc n) a c h =
    All-cons (AtOrAbove classes a) c (option_map_or (upwards n classes) (superclass classes c) []) h
    (opt_all (AtOrAbove classes a) (Proper classes a) (upwards n classes) (superclass classes c)
    (first_of (Proper classes a) (superclass classes c) (interfaces classes c) (direct_proper classes a c h))
    (λ d p. up_all classes n a d (p.0, inr p.1)))

interfaces_proper : (classes : List Class) (a c : ClassId) → AtOrAbove classes a c
    → All (Proper classes a) (interfaces classes c)
interfaces_proper classes a c h = rest_of (Proper classes a) (superclass classes c) (interfaces classes c)
    (direct_proper classes a c h)

own_proper : (classes : List Class) (a c : ClassId) → AtOrAbove classes a c
    → All (Proper classes a) (own_superinterfaces classes c)
own_proper classes a c h =
    walked_all (Proper classes a) classes (λ x p. interfaces_proper classes a x (p.0, inr p.1)) highest
    (interfaces classes c) (interfaces_proper classes a c h)

-- a class, its superclasses and all superinterfaces, as often as each is met
abbrev met_above : List Class → ClassId → List ClassId
met_above classes a = superclasses_from classes a ++ superinterfaces classes a

chain : (classes : List Class) (a : ClassId) → IsClass classes a
    → All (AtOrAbove classes a) (superclasses_from classes a)
chain classes a a-in = up_all classes highest a a (a-in, inl refl)

pub chain_valid : (classes : List Class) (a : ClassId) → IsClass classes a
    → All (IsClass classes) (superclasses_from classes a)
chain_valid classes a a-in = All-weaker (AtOrAbove classes a) (IsClass classes) (λ x h. h.0)
    (superclasses_from classes a) (chain classes a a-in)

met_all : (classes : List Class) (a : ClassId) → IsClass classes a → All (AtOrAbove classes a) (met_above classes a)
met_all classes a a-in =
    All-append (AtOrAbove classes a) (superclasses_from classes a) (superinterfaces classes a) (chain classes a a-in)
    (all_flat (AtOrAbove classes a) (own_superinterfaces classes) (superclasses_from classes a)
    (λ k d within.
    let c = get_or (superclasses_from classes a) k d in
    All-weaker (Proper classes a) (AtOrAbove classes a) (λ x p. (p.0, inr p.1)) (own_superinterfaces classes c)
    (own_proper classes a c (chain classes a a-in k d within))))

each_proper : (classes : List Class) (a : ClassId) → IsClass classes a → All (Proper classes a) (supers classes a)
each_proper classes a a-in =
    All-weaker (λ x. AtOrAbove classes a x × (list_any (same_class x) (a ∷ []) ≡ false)) (Proper classes a)
    (λ x h. (
      h.0.0,
      ⊎_elim
          (λ same. absurd (both_ways (same_class x a) (or_parts (same_class x a) false h.1).0
          (ap (λ (z : ClassId). same_class x z) (sym same) ∙ same_itself x)))
          (λ p. p)
          h.0.1,
    ))
    (supers classes a) (once_new (AtOrAbove classes a) (met_above classes a) (a ∷ []) (met_all classes a a-in))

-- ---- all supertypes are there

if_weaker : (P Q : ClassId → Type 0) (o : Option ClassId) → ((d : ClassId) → P d → Q d) → IfSome o P → IfSome o Q
if_weaker P Q None h p = tt
if_weaker P Q (Some d) h p = h d p

cons_all : (P : ClassId → Type 0) (o : Option ClassId) (xs : List ClassId) → IfSome o P → All P xs
    → All P (cons_option o xs)
cons_all P None xs p h = h
cons_all P (Some d) xs p h = All-cons P d xs p h

super_low : (classes : List Class) (rank : ClassId → ℕ) (c : ClassId) → Falls classes rank → IsClass classes c
    → IfSome (superclass classes c) (λ d. IsClass classes d × (rank d < rank c))
super_low classes rank c falls c-in =
    first_of (λ d. IsClass classes d × (rank d < rank c)) (superclass classes c) (interfaces classes c)
    (λ k d within. (direct_valid classes c k d within, falls c c-in k d within))

up_itself : (classes : List Class) (n : ℕ) (c : ClassId) → 0 < n → In c (upwards n classes c)
unfolding upwards
up_itself classes zero c some = absurd (omega (arith, some))
up_itself classes (suc n) c some = in_first c (option_map_or (upwards n classes) (superclass classes c) [])

head_step : (Q : ClassId → Type 0) (f : ClassId → List ClassId) (c : ClassId) (o : Option ClassId) → IfSome o Q
    → ((d : ClassId) → Q d → In d (f d)) → IfSome o (λ d. In d (c ∷ option_map_or f o []))
head_step Q f c None q h = tt
head_step Q f c (Some d) q h = in_next d c (f d) (h d q)

tail_step : (Q : ClassId → Type 0) (s : ClassId → Option ClassId) (f : ClassId → List ClassId) (c : ClassId)
    (o : Option ClassId) → IfSome o Q
    → ((d : ClassId) → Q d → All (λ x. IfSome (s x) (λ e. In e (f d))) (f d))
    → All (λ x. IfSome (s x) (λ e. In e (c ∷ option_map_or f o []))) (option_map_or f o [])
tail_step Q s f c None q h = All-nil (λ x. IfSome (s x) (λ e. In e (c ∷ [])))
tail_step Q s f c (Some d) q h =
    All-weaker (λ x. IfSome (s x) (λ e. In e (f d))) (λ x. IfSome (s x) (λ e. In e (c ∷ f d)))
    (λ x p. if_weaker (λ e. In e (f d)) (λ e. In e (c ∷ f d)) (s x) (λ e. in_next e c (f d)) p) (f d) (h d q)

-- the superclass of each superclass is one of them
up_closed : (classes : List Class) (rank : ClassId → ℕ) → Falls classes rank → (n : ℕ) (c : ClassId) → IsClass classes c
    → rank c < n
    → All (λ x. IfSome (superclass classes x) (λ d. In d (upwards n classes c))) (upwards n classes c)
unfolding upwards
up_closed classes rank falls zero c c-in low = absurd (omega (arith, low))
up_closed classes rank falls (suc n) c c-in low =
    let above = super_low classes rank c falls c-in in
    All-cons (λ x. IfSome (superclass classes x)
    (λ d. In d (c ∷ option_map_or (upwards n classes) (superclass classes c) []))) c
    (option_map_or (upwards n classes) (superclass classes c) [])
    (head_step (λ d. IsClass classes d × (rank d < rank c)) (upwards n classes) c (superclass classes c) above
    (λ d p. let d-low = p.1 in up_itself classes n d (omega (arith, d-low, low))))
    (tail_step (λ d. IsClass classes d × (rank d < rank c)) (superclass classes) (upwards n classes) c
    (superclass classes c) above
    (λ d p. let d-low = p.1 in up_closed classes rank falls n d p.0 (omega (arith, d-low, low))))

object_step : (Q : ClassId → Type 0) (f : ClassId → List ClassId) (object c : ClassId) (o : Option ClassId)
    → (o ≡ None → c ≡ object) → IfSome o Q → ((d : ClassId) → Q d → In object (f d))
    → In object (c ∷ option_map_or f o [])
object_step Q f object c None is q h = subst (λ (z : ClassId). In object (z ∷ [])) (sym (is refl)) (in_first object [])
object_step Q f object c (Some d) is q h = in_next object c (f d) (h d q)

-- Object is one of them
up_object : (classes : List Class) (rank : ClassId → ℕ) → Falls classes rank
    → (h : HasObject classes) (n : ℕ) (c : ClassId) → IsClass classes c → rank c < n → In h.object (upwards n classes c)
unfolding upwards
up_object classes rank falls h zero c c-in low = absurd (omega (arith, low))
up_object classes rank falls h (suc n) c c-in low =
    object_step (λ d. IsClass classes d × (rank d < rank c)) (upwards n classes) h.object c (superclass classes c)
    (h.alone c c-in) (super_low classes rank c falls c-in)
    (λ d p. let d-low = p.1 in up_object classes rank falls h n d p.0 (omega (arith, d-low, low)))

-- the interfaces are in the walk over them
walked_has : (classes : List Class) (rank : ClassId → ℕ) (n r : ℕ) (is : List ClassId) → All (λ i. rank i < r) is
    → r ≤ n → All (λ i. In i (walked n classes is)) is
unfolding walked
walked_has classes rank zero r is low r-n k d within = let none = ap length
    (no_rank rank is r (omega (arith, r-n)) low) in absurd (omega (arith, within, none))
walked_has classes rank (suc n) r is low r-n k d within =
    let i = get_or is k d in
    in_flat (λ j. j ∷ walked n classes (interfaces classes j)) is k d i within
    (in_first i (walked n classes (interfaces classes i)))

-- and so are the superinterfaces of each of the walk
walked_closed : (classes : List Class) (rank : ClassId → ℕ) → Falls classes rank → (n r : ℕ) (is : List ClassId)
    → All (IsClass classes) is → All (λ i. rank i < r) is → r ≤ n
    → All (λ x. All (λ y. In y (walked n classes is)) (interfaces classes x)) (walked n classes is)
unfolding walked
walked_closed classes rank falls zero r is valid low r-n = All-nil (λ x. All (λ y. In y []) (interfaces classes x))
walked_closed classes rank falls (suc n) r is valid low r-n =
    let f : ClassId → List ClassId = λ j. j ∷ walked n classes (interfaces classes j) in
    all_flat (λ x. All (λ y. In y (flat_map f is)) (interfaces classes x)) f is
    (λ k d within.
    let i = get_or is k d in
    let below : rank i < r = low k d within in
    let deep : rank i ≤ n = omega (arith, below, r-n) in
    let rest : List ClassId = walked n classes (interfaces classes i) in
    let fall = interfaces_fall classes rank i falls (valid k d within) in
    let more : (ys : List ClassId) → All (λ y. In y rest) ys → All (λ y. In y (flat_map f is)) ys =
    λ ys h. All-weaker (λ y. In y rest) (λ y. In y (flat_map f is))
    (λ y is-in. in_flat f is k d y within (in_next y i rest is-in)) ys h in
    All-cons (λ x. All (λ y. In y (flat_map f is)) (interfaces classes x)) i rest
    (more (interfaces classes i) (walked_has classes rank n (rank i) (interfaces classes i) fall deep))
    (All-weaker (λ x. All (λ y. In y rest) (interfaces classes x))
    (λ x. All (λ y. In y (flat_map f is)) (interfaces classes x)) (λ x h. more (interfaces classes x) h) rest
    (walked_closed classes rank falls n (rank i) (interfaces classes i) (interfaces_valid classes i) fall deep)))

-- the superclass of each superinterface is Object
own_object : (classes : List Class) (h : HasObject classes) (c : ClassId) → IsClass classes c
    → All (λ x. IsClass classes x × (superclass classes x ≡ Some h.object)) (own_superinterfaces classes c)
own_object classes h c c-in =
    walked_all (λ x. IsClass classes x × (superclass classes x ≡ Some h.object)) classes
    (λ x p. interfaces_object x p.0) highest (interfaces classes c) (interfaces_object c c-in)
  where
    interfaces_object : (x : ClassId) → IsClass classes x
        → All (λ y. IsClass classes y × (superclass classes y ≡ Some h.object)) (interfaces classes x)
    interfaces_object x x-in k d within = (interfaces_valid classes x k d within, h.above x x-in k d within)

-- the direct supertypes of what is met are met
met_closed : (classes : List Class) (r : HasRanks classes) (h : HasObject classes) (a : ClassId)
    → ((c : ClassId) → IsClass classes c → r.rank c < 8589934592) → IsClass classes a
    → All (λ x. All (λ y. In y (met_above classes a)) (direct classes x)) (met_above classes a)
met_closed classes r h a low a-in =
    let up : List ClassId = superclasses_from classes a in
    let own : ClassId → List ClassId = own_superinterfaces classes in
    let all : List ClassId = met_above classes a in
    let R : ClassId → Type 0 = λ x. All (λ y. In y all) (direct classes x) in
    let behind : (k : ℕ) (d : ClassId) → k < length up → (ys : List ClassId) → All (λ y. In y (own (get_or up k d))) ys
    → All (λ y. In y all) ys =
    λ k d within ys t. All-weaker (λ y. In y (own (get_or up k d))) (λ y. In y all)
    (λ y is-in. in_right y up (superinterfaces classes a) (in_flat own up k d y within is-in)) ys t in
    All-append R up (superinterfaces classes a)
    (λ k d within.
    let x = get_or up k d in
    let x-in = chain_valid classes a a-in k d within in
    let x-low = low x x-in in
    cons_all (λ y. In y all) (superclass classes x) (interfaces classes x)
    (if_weaker (λ y. In y up) (λ y. In y all) (superclass classes x) (λ y. in_left y up (superinterfaces classes a))
    (up_closed classes r.rank r.falls highest a a-in (low a a-in) k d within))
    (behind k d within (interfaces classes x)
    (walked_has classes r.rank highest (r.rank x) (interfaces classes x)
    (interfaces_fall classes r.rank x r.falls x-in) (omega (arith, x-low)))))
    (all_flat R own up
    (λ k d within.
    let c = get_or up k d in
    let c-in = chain_valid classes a a-in k d within in
    let c-low = low c c-in in
    λ j e inside.
    let x = get_or (own c) j e in
    cons_all (λ y. In y all) (superclass classes x) (interfaces classes x)
    (subst (λ (o : Option ClassId). IfSome o (λ y. In y all)) (sym (own_object classes h c c-in j e inside).1)
    (in_left h.object up (superinterfaces classes a) (up_object classes r.rank r.falls h highest a a-in (low a a-in))))
    (behind k d within (interfaces classes x)
    (walked_closed classes r.rank r.falls highest (r.rank c) (interfaces classes c) (interfaces_valid classes c)
    (interfaces_fall classes r.rank c r.falls c-in) (omega (arith, c-low)) j e inside))))

pub not_itself : (classes : List Class) (r : HasRanks classes) (a : ClassId) → IsClass classes a
    → IsProperSub classes a a
    → ⊥
not_itself classes r a a-in proper =
    let set : ClassId → Bool = λ x. nat_lt (r.rank x) (r.rank a) in
    let less : r.rank a < r.rank a =
    ltb-true (r.rank a) (r.rank a)
    (proper set (λ k d within. lt-ltb _ _ (r.falls a a-in k d within))
    (λ x has.
    ⊎_elim
    (λ x-in k d within.
    let below = r.falls x x-in k d within in
    let under = ltb-true (r.rank x) (r.rank a) has in
    lt-ltb _ _ (omega (arith, below, under)))
    (λ other. subst (All (λ y. IsTrue (set y))) (sym (none_above classes x other)) (All-nil (λ y. IsTrue (set y))))
    (class_cases classes x))) in
    omega (arith, less)

all_there : (classes : List Class) (r : HasRanks classes) (h : HasObject classes) (a b : ClassId)
    → ((c : ClassId) → IsClass classes c → r.rank c < 8589934592) → IsClass classes a → IsProperSub classes a b
    → Contains (supers classes a) b
all_there classes r h a b low a-in proper =
    let all : List ClassId = met_above classes a in
    let closed = met_closed classes r h a low a-in in
    let first : In a all = in_left a (superclasses_from classes a) (superinterfaces classes a)
    (up_itself classes highest a (omega arith)) in
    let there : In b all =
    proper (λ x. list_any (same_class x) all) (of_one (λ x. All (λ y. In y all) (direct classes x)) a all closed first)
    (λ x has. of_one (λ x. All (λ y. In y all) (direct classes x)) x all closed has) in
    let new : list_any (same_class b) (a ∷ []) ≡ false =
    ⊎_elim
    (λ same.
    ⊎_elim
    (λ one. absurd (not_itself classes r a a-in (subst (IsProperSub classes a) (same_is b a one) proper)))
    (λ none. absurd cc)
    (or_cases (same_class b a) false same))
    (λ other. other)
    (bool_cases (list_any (same_class b) (a ∷ []))) in
    in_contains b (supers classes a) (once_in b all (a ∷ []) there new)

pub supers_proper : (classes : List Class) (r : HasRanks classes) (h : HasObject classes) (a : ClassId)
    → length classes ≤ 4294967295 → IsClass classes a → IsSupers classes a (supers classes a)
supers_proper classes r h a few a-in =
    let low : (c : ClassId) → IsClass classes c
    → r.rank c < 8589934592 = λ c c-in. let most = r.most c c-in in omega (arith, most, few, count) in
    record {
      each = each_proper classes a a-in;
      all = λ b b-in proper. all_there classes r h a b low a-in proper;
      once = once_differ (met_above classes a) (a ∷ []);
    }

-- ---- one class below another

-- a class is another one or below it where the walk over its supertypes has that
pub below_sub : (classes : List Class) (r : HasRanks classes) (h : HasObject classes) (a b : ClassId)
    → length classes ≤ 4294967295 → IsClass classes a → IsTrue (is_below classes a b) ↔ Sub classes a b
below_sub classes r h a b few a-in = (
  λ is set has closed.
      ⊎_elim
      (λ same. subst (λ (x : ClassId). IsTrue (set x)) (sym same) has)
      (λ proper. proper set (closed a has) closed)
      (of_one (AtOrAbove classes a) b (met_above classes a) (met_all classes a a-in) is).1,
  λ sub.
      let low : (c : ClassId) → IsClass classes c → r.rank c < 8589934592 =
      λ c c-in. let most = r.most c c-in in omega (arith, most, few, count) in
      let all : List ClassId = met_above classes a in
      let closed = met_closed classes r h a low a-in in
      let first : In a all =
      in_left a (superclasses_from classes a) (superinterfaces classes a)
      (up_itself classes highest a (omega arith)) in
      sub (λ x. list_any (same_class x) all) first
      (λ x has. of_one (λ x. All (λ y. In y all) (direct classes x)) x all closed has),
)

-- so it is where one of its superclasses is the other one or has it as a superinterface itself
pub any_below : (classes : List Class) (a b : ClassId)
    → list_any (is_self_or_own classes b) (superclasses_from classes a) ≡ is_below classes a b
any_below classes a b =
    any_at (superclasses_from classes a)
    ∙ sym (list_any-append (same_class b) (superclasses_from classes a) (superinterfaces classes a))
  where
    any_at : (cs : List ClassId) → list_any (is_self_or_own classes b) cs
        ≡ (list_any (same_class b) cs || list_any (same_class b) (flat_map (own_superinterfaces classes) cs))
    any_at [] = refl
    any_at (c ∷ cs) =
        ap (λ (t : Bool). (same_class b c || t) || list_any (is_self_or_own classes b) cs)
        (any_once b (own_superinterfaces classes c))
        ∙ ap (λ (t : Bool). (same_class b c || list_any (same_class b) (own_superinterfaces classes c)) || t)
        (any_at cs)
        ∙ or_pairs (same_class b c) (list_any (same_class b) (own_superinterfaces classes c))
        (list_any (same_class b) cs) (list_any (same_class b) (flat_map (own_superinterfaces classes) cs))
        ∙ ap (λ (t : Bool). (same_class b c || list_any (same_class b) cs) || t)
        (sym (list_any-append (same_class b) (own_superinterfaces classes c)
        (flat_map (own_superinterfaces classes) cs)))

-- what a walk over the class and its superclasses finds
pub climbed : (classes : List Class) (r : HasRanks classes) (h : HasObject classes) (a b : ClassId) (x : Bool)
    → length classes ≤ 4294967295 → IsClass classes a
    → list_any (is_self_or_own classes b) (superclasses_from classes a) ≡ x → IsTrue x ↔ Sub classes a b
climbed classes r h a b x few a-in found =
    subst (λ (t : Bool). IsTrue t ↔ Sub classes a b) (sym (any_below classes a b) ∙ found)
    (below_sub classes r h a b few a-in)

-- ---- how the list is made

pub lists_more : (lists : List (List ClassId)) (s xs : List ClassId) (i : ℕ) (d : ClassId) (ids new : List ClassId)
    → i < length xs → ids ≡ s ++ each_once s (flat_map (list_at lists) (take i xs))
    → new ≡ ids ++ each_once ids (list_at lists (get_or xs i d))
    → new ≡ s ++ each_once s (flat_map (list_at lists) (take (i + 1) xs))
lists_more lists s xs i d ids new within before is =
    once_then s (flat_map (list_at lists) (take i xs)) (list_at lists (get_or xs i d)) ids new before is
    ∙ ap (λ (t : List ClassId). s ++ each_once s t)
    (flat_map_more (list_at lists) [] (take i xs) (get_or xs i d)
    ∙ ap (flat_map (list_at lists)) (sym (take_more xs i d within)))

-- what was met, without the first, are the supertypes
pub supers_met : (classes : List Class) (lists : List (List ClassId)) (a : ClassId) (up none one two : List ClassId)
    → AreOwn classes lists → IsClass classes a → up ≡ superclasses_from classes a → none ≡ []
    → one ≡ none ++ each_once none up → two ≡ one ++ each_once one (flat_map (list_at lists) up)
    → two ≡ a ∷ supers classes a
supers_met classes lists a up none one two own a-in up-is none-is one-is two-is =
    once_then [] up (flat_map (list_at lists) up) one two
    (one-is ∙ ap (λ (t : List ClassId). t ++ each_once t up) none-is) two-is
    ∙ ap (λ (t : List ClassId). each_once [] (t ++ flat_map (list_at lists) t)) up-is
    ∙ supers_are classes (list_at lists) a
    (λ k d within. own.own (get_or (superclasses_from classes a) k d) (chain_valid classes a a-in k d within))

pub without_first : (a : ClassId) (xs ids : List ClassId) → ids ≡ a ∷ xs → remove ids 0 ≡ xs
without_first a xs ids is = ap (λ (t : List ClassId). remove t 0) is

pub chain_below : (classes : List Class) (a : ClassId) (n : ℕ) (ids : List ClassId) → IsClass classes a
    → ids ≡ superclasses_from classes a → n ≡ length library + length classes → All (IsBelow n) ids
chain_below classes a n ids a-in is e =
    subst (λ (m : ℕ). All (IsBelow m) ids) (sym e)
    (subst (All (IsBelow (length library + length classes))) (sym is)
    (below_all classes (superclasses_from classes a) (chain_valid classes a a-in)))

pub lists_below : (classes : List Class) (lists : List (List ClassId)) (n : ℕ) → AreOwn classes lists
    → n ≡ length library + length classes → All (All (IsBelow n)) lists
lists_below classes lists n own e =
    subst (λ (m : ℕ). All (All (IsBelow m)) lists) (sym e)
    (All-weaker (All (IsClass classes)) (All (IsBelow (length library + length classes)))
    (λ ids h. below_all classes ids h) lists own.there)
