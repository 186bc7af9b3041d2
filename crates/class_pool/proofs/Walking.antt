-- Walks in a set without cycles.
use Rattle.std.proofs.Common.{◌≡◌, ℕ, zero, suc, ◌<◌, ◌≤◌, List, [], ◌∷◌, ◌++◌, get_or, Option, Some, None, refl, sym}
use Rattle.std.proofs.Common.{ap, ◌∙◌, arith}
use Rattle.std.specs.List.{All, cons_option, flat_map}
use Rattle.std.proofs.lemmas.List.Elements.{All-head, All-tail}
use Rattle.std.specs.Prelude.{IfSome}
use Rattle.std.specs.Option.{option_map_or}
use Rattle.class_model.specs.declared.class.Class.{Class}
use Rattle.class_pool.specs.declared.id.ClassId.{ClassId}
use Rattle.class_pool.specs.Hierarchy.{IsClass, interfaces, superclass}
use Rattle.class_pool.specs.Supertypes.{direct}
use Rattle.class_pool.specs.Walk.{highest, own_superinterfaces, superclasses_from, upwards, walked}
use Rattle.class_pool.proofs.Directs.{direct_valid}

-- a rank of each class, below which those of its direct supertypes are
abbrev pub Falls : List Class → (ClassId → ℕ) → Type 0
Falls classes rank = (a : ClassId) → IsClass classes a → All (λ b. rank b < rank a) (direct classes a)

pub flat_map_same : {X : Type 0} (f g : X → List X) (xs : List X) → All (λ x. f x ≡ g x) xs
    → flat_map f xs ≡ flat_map g xs
flat_map_same f g [] h = refl
flat_map_same {X} f g (x ∷ xs) h =
    ap (λ (t : List X). t ++ flat_map f xs) (All-head (λ y. f y ≡ g y) x xs h)
    ∙ ap (λ (t : List X). g x ++ t) (flat_map_same f g xs (All-tail (λ y. f y ≡ g y) x xs h))

pub rest_of : (P : ClassId → Type 0) (o : Option ClassId) (xs : List ClassId) → All P (cons_option o xs) → All P xs
rest_of P None xs h = h
rest_of P (Some x) xs h = All-tail P x xs h

pub interfaces_valid : (classes : List Class) (a : ClassId) → All (IsClass classes) (interfaces classes a)
interfaces_valid classes a = rest_of (IsClass classes) (superclass classes a) (interfaces classes a)
    (direct_valid classes a)

pub interfaces_fall : (classes : List Class) (rank : ClassId → ℕ) (a : ClassId) → Falls classes rank → IsClass classes a
    → All (λ b. rank b < rank a) (interfaces classes a)
interfaces_fall classes rank a falls a-in = rest_of (λ b. rank b < rank a) (superclass classes a) (interfaces classes a)
    (falls a a-in)

walked_none : (n : ℕ) (classes : List Class) → walked n classes [] ≡ []
unfolding walked
walked_none zero classes = refl
walked_none (suc n) classes = refl

pub walked_next : (n : ℕ) (classes : List Class) (is : List ClassId)
    → walked (suc n) classes is ≡ flat_map (λ i. i ∷ walked n classes (interfaces classes i)) is
unfolding walked
walked_next n classes is = refl

pub no_rank : (rank : ClassId → ℕ) (is : List ClassId) (r : ℕ) → r ≡ 0 → All (λ i. rank i < r) is → is ≡ []
no_rank rank [] r e h = refl
no_rank rank (i ∷ is) r e h = let low = All-head (λ j. rank j < r) i is h in absurd (omega (arith, low, e))

-- walks of more levels than ranks are one
pub walk_same : (classes : List Class) (rank : ClassId → ℕ) → Falls classes rank → (n m r : ℕ) (is : List ClassId)
    → All (IsClass classes) is → All (λ i. rank i < r) is → r ≤ n → r ≤ m
    → walked n classes is ≡ walked m classes is
walk_same classes rank falls zero m r is valid low r-n r-m =
    let none = no_rank rank is r (omega (arith, r-n)) low in
    ap (walked zero classes) none ∙ walked_none zero classes ∙ sym (ap (walked m classes) none ∙ walked_none m classes)
walk_same classes rank falls (suc n) zero r is valid low r-n r-m =
    let none = no_rank rank is r (omega (arith, r-m)) low in
    ap (walked (suc n) classes) none ∙ walked_none (suc n) classes
    ∙ sym (ap (walked zero classes) none ∙ walked_none zero classes)
walk_same classes rank falls (suc n) (suc m) r is valid low r-n r-m =
    walked_next n classes is
    ∙ flat_map_same (λ i. i ∷ walked n classes (interfaces classes i))
    (λ i. i ∷ walked m classes (interfaces classes i)) is
    (λ k d within.
    let i = get_or is k d in
    let below : rank i < r = low k d within in
    ap (λ (t : List ClassId). i ∷ t)
    (walk_same classes rank falls n m (rank i) (interfaces classes i) (interfaces_valid classes i)
    (interfaces_fall classes rank i falls (valid k d within)) (omega (arith, below, r-n))
    (omega (arith, below, r-m))))
    ∙ sym (walked_next m classes is)

-- its own superinterfaces are the direct ones, each followed by its own
own_step : (classes : List Class) (rank : ClassId → ℕ) (n h : ℕ) (a : ClassId) → Falls classes rank → IsClass classes a
    → n ≡ suc h → rank a < n
    → walked n classes (interfaces classes a)
    ≡ flat_map (λ i. i ∷ walked n classes (interfaces classes i)) (interfaces classes a)
own_step classes rank n h a falls a-in e low =
    let valid = interfaces_valid classes a in
    let fall = interfaces_fall classes rank a falls a-in in
    ap (λ (k : ℕ). walked k classes (interfaces classes a)) e
    ∙ walked_next h classes (interfaces classes a)
    ∙ flat_map_same (λ i. i ∷ walked h classes (interfaces classes i))
    (λ i. i ∷ walked n classes (interfaces classes i)) (interfaces classes a)
    (λ k d within.
    let i = get_or (interfaces classes a) k d in
    let below : rank i < rank a = fall k d within in
    ap (λ (t : List ClassId). i ∷ t)
    (walk_same classes rank falls h n (rank i) (interfaces classes i) (interfaces_valid classes i)
    (interfaces_fall classes rank i falls (valid k d within)) (omega (arith, below, low, e))
    (omega (arith, below, low))))

pub own_next : (classes : List Class) (rank : ClassId → ℕ) (a : ClassId) → Falls classes rank → IsClass classes a
    → rank a < 8589934592
    → own_superinterfaces classes a ≡ flat_map (λ i. i ∷ own_superinterfaces classes i) (interfaces classes a)
own_next classes rank a falls a-in low = own_step classes rank highest 8589934591 a falls a-in refl low

-- ---- superclasses

pub first_of : (P : ClassId → Type 0) (o : Option ClassId) (xs : List ClassId) → All P (cons_option o xs) → IfSome o P
first_of P None xs h = tt
first_of P (Some x) xs h = All-head P x xs h

up_step : (P Q : ClassId → Type 0) (f g : ClassId → List ClassId) (o : Option ClassId) → IfSome o P → IfSome o Q
    → ((d : ClassId) → P d → Q d → f d ≡ g d) → option_map_or f o [] ≡ option_map_or g o []
up_step P Q f g None p q h = refl
up_step P Q f g (Some d) p q h = h d p q

pub up_unfolded : (n : ℕ) (classes : List Class) (c : ClassId)
    → upwards (suc n) classes c ≡ c ∷ option_map_or (upwards n classes) (superclass classes c) []
unfolding upwards
up_unfolded n classes c = refl

-- superclasses of more levels than ranks are one list
pub up_same : (classes : List Class) (rank : ClassId → ℕ) → Falls classes rank → (n m : ℕ) (c : ClassId)
    → IsClass classes c → rank c < n → rank c < m → upwards n classes c ≡ upwards m classes c
up_same classes rank falls zero m c c-in n-low m-low = absurd (omega (arith, n-low))
up_same classes rank falls (suc n) zero c c-in n-low m-low = absurd (omega (arith, m-low))
up_same classes rank falls (suc n) (suc m) c c-in n-low m-low =
    up_unfolded n classes c
    ∙ ap (λ (t : List ClassId). c ∷ t)
    (up_step (IsClass classes) (λ b. rank b < rank c) (upwards n classes) (upwards m classes) (superclass classes c)
    (first_of (IsClass classes) (superclass classes c) (interfaces classes c) (direct_valid classes c))
    (first_of (λ b. rank b < rank c) (superclass classes c) (interfaces classes c) (falls c c-in))
    (λ d d-in d-low. up_same classes rank falls n m d d-in (omega (arith, d-low, n-low)) (omega (arith, d-low, m-low))))
    ∙ sym (up_unfolded m classes c)

up_next : (classes : List Class) (rank : ClassId → ℕ) (n h : ℕ) (c : ClassId) → Falls classes rank → IsClass classes c
    → n ≡ suc h → rank c < n
    → upwards n classes c ≡ c ∷ option_map_or (upwards n classes) (superclass classes c) []
up_next classes rank n h c falls c-in e low =
    ap (λ (k : ℕ). upwards k classes c) e
    ∙ up_unfolded h classes c
    ∙ ap (λ (t : List ClassId). c ∷ t)
    (up_step (IsClass classes) (λ b. rank b < rank c) (upwards h classes) (upwards n classes) (superclass classes c)
    (first_of (IsClass classes) (superclass classes c) (interfaces classes c) (direct_valid classes c))
    (first_of (λ b. rank b < rank c) (superclass classes c) (interfaces classes c) (falls c c-in))
    (λ d d-in d-low. up_same classes rank falls h n d d-in (omega (arith, d-low, low, e)) (omega (arith, d-low, low))))

-- a class, and then the superclasses of its superclass
pub superclasses_next : (classes : List Class) (rank : ClassId → ℕ) (c : ClassId) → Falls classes rank
    → IsClass classes c → rank c < 8589934592
    → superclasses_from classes c ≡ c ∷ option_map_or (superclasses_from classes) (superclass classes c) []
superclasses_next classes rank c falls c-in low = up_next classes rank highest 8589934591 c falls c-in refl low
