-- Texts that are cut along a pattern.
use Rattle.std.proofs.Common.{◌≡◌, ◌≢◌, ◌<◌, ℕ, ◌+◌, Bool, true, false, cond, eqb, List, [], ◌∷◌, ◌++◌, refl, sym, ap}
use Rattle.std.proofs.Common.{◌∙◌, subst, arith, append_assoc, ◌⊎◌, inl, inr}
use Rattle.std.proofs.lemmas.Bool.{eqb-false, eqb-true, ne_eqb}
use Rattle.std.specs.List.{AllByRecursion}
use Rattle.jv_base.proofs.Lists.{all_append, heads, tails}
use Rattle.keep_match.specs.declared.piece.Piece.{Piece}
use Rattle.keep_match.specs.declared.piece.Piece.TheVariants.{Character, One, Part, Any}
use Rattle.keep_match.specs.bodies.Scan.{IsNotAny, IsSingle}
use Rattle.keep_match.specs.Wildcards.{Begins, HasNoDot, IsPart}

-- ---- lists

pub all_front : {A : Type 0} (P : A → Type 0) (xs ys : List A) → AllByRecursion P (xs ++ ys) → AllByRecursion P xs
all_front P [] ys h = tt
all_front P (x ∷ xs) ys h = (h.0, all_front P xs ys h.1)

-- ---- a pattern in two

pub begins_append : (ps qs : List Piece) (x y z : List ℕ) → Begins ps x y → Begins qs y z → Begins (ps ++ qs) x z
begins_append [] qs x y z h k = subst (λ (t : List ℕ). Begins qs t z) (sym h) k
begins_append (p ∷ ps) qs x y z h k = (h.0, h.1, h.2, h.3, begins_append ps qs h.1 y z h.4 k)

pub begins_split : (ps qs : List Piece) (x z : List ℕ) → Begins (ps ++ qs) x z
    → (y : List ℕ) × Begins ps x y × Begins qs y z
begins_split [] qs x z h = (x, refl, h)
begins_split (p ∷ ps) qs x z h =
    let r = begins_split ps qs h.1 z h.4 in
    (r.0, (h.0, h.1, h.2, h.3, r.1), r.2)

-- what is left is the end of the text
pub front_of : (ps : List Piece) (x y : List ℕ) → Begins ps x y → (a : List ℕ) × (x ≡ a ++ y)
front_of [] x y h = ([], h)
front_of (p ∷ ps) x y h =
    let r = front_of ps h.1 y h.4 in
    (h.0 ++ r.0, h.2 ∙ ap (λ (t : List ℕ). h.0 ++ t) r.1 ∙ sym (append_assoc h.0 r.0 y))

-- ---- pieces for one character each

pub one_of : (p : Piece) (part : List ℕ) → IsSingle p → IsPart p part → (c : ℕ) × (part ≡ c ∷ [])
one_of (Character c) part s h = (c, h)
one_of One part s h = (h.0, h.1)
one_of Part part s h = absurd cc
one_of Any part s h = absurd cc

-- where it stands for a character that is no dot, it stands for no dot
same_dot : (p : Piece) (c d : ℕ) → IsSingle p → IsPart p (c ∷ []) → IsPart p (d ∷ []) → c ≢ 46 → d ≢ 46
same_dot (Character e) c d s h k other = λ dot. other (heads c e [] [] h ∙ sym (heads d e [] [] k) ∙ dot)
same_dot One c d s h k other = λ dot. k.2 (sym (heads d k.0 [] [] k.1) ∙ dot)
same_dot Part c d s h k other = absurd cc
same_dot Any c d s h k other = absurd cc

-- behind the first character of a text
step_over : (p : Piece) (part behind x : List ℕ) (c : ℕ) (xs : List ℕ) → IsSingle p → IsPart p part → x ≡ part ++ behind
    → x ≡ c ∷ xs → (behind ≡ xs) × IsPart p (c ∷ [])
step_over p part behind x c xs s h e f =
    let one = one_of p part s h in
    let at : one.0 ∷ behind ≡ c ∷ xs = ap (λ (t : List ℕ). t ++ behind) (sym one.1) ∙ sym e ∙ f in (
      tails one.0 c behind xs at,
      subst (IsPart p) (one.1 ∙ ap (λ (b : ℕ). b ∷ []) (heads one.0 c behind xs at)) h,
    )

-- where pieces for one character stand for the beginning of a text and for that of a later part of it, no dot standing
-- between, no dot stands between what they leave
pub dominated : (ps : List Piece) (a x y z : List ℕ) → AllByRecursion IsSingle ps → HasNoDot a → Begins ps (a ++ x) y
    → Begins ps x z → (b : List ℕ) × (y ≡ b ++ z) × HasNoDot b
dominated [] a x y z s n h k = (a, sym h ∙ ap (λ (t : List ℕ). a ++ t) k, n)
dominated (p ∷ ps) [] x y z s n h k =
    let one = one_of p k.0 s.0 k.3 in
    let at : x ≡ one.0 ∷ k.1 = k.2 ∙ ap (λ (t : List ℕ). t ++ k.1) one.1 in
    let over = step_over p h.0 h.1 x one.0 k.1 s.0 h.3 h.2 at in
    dominated ps [] k.1 y z s.1 tt (subst (λ (t : List ℕ). Begins ps t y) over.0 h.4) k.4
dominated (p ∷ ps) (c ∷ a) x y z s n h k =
    let one = one_of p k.0 s.0 k.3 in
    let at : x ≡ one.0 ∷ k.1 = k.2 ∙ ap (λ (t : List ℕ). t ++ k.1) one.1 in
    let over = step_over p h.0 h.1 (c ∷ (a ++ x)) c (a ++ x) s.0 h.3 h.2 refl in
    let later = subst (IsPart p) one.1 k.3 in
    let plain : HasNoDot (a ++ (one.0 ∷ [])) =
    all_append (λ b. b ≢ 46) a (one.0 ∷ []) n.1 (same_dot p c one.0 s.0 over.1 later n.0, tt) in
    let left : h.1 ≡ (a ++ (one.0 ∷ [])) ++ k.1 =
    over.0 ∙ ap (λ (t : List ℕ). a ++ t) at ∙ sym (append_assoc a (one.0 ∷ []) k.1) in
    dominated ps (a ++ (one.0 ∷ [])) k.1 y z s.1 plain (subst (λ (t : List ℕ). Begins ps t y) left h.4) k.4

-- they leave one rest alone
pub determined : (ps : List Piece) (x y z : List ℕ) → AllByRecursion IsSingle ps → Begins ps x y → Begins ps x z → y ≡ z
determined [] x y z s h k = sym h ∙ k
determined (p ∷ ps) x y z s h k =
    let one = one_of p k.0 s.0 k.3 in
    let at : x ≡ one.0 ∷ k.1 = k.2 ∙ ap (λ (t : List ℕ). t ++ k.1) one.1 in
    let over = step_over p h.0 h.1 x one.0 k.1 s.0 h.3 h.2 at in
    determined ps k.1 y z s.1 (subst (λ (t : List ℕ). Begins ps t y) over.0 h.4) k.4

-- ---- stars

-- a star takes more in front of it
pub part_more : (ps : List Piece) (x b y z : List ℕ) → x ≡ b ++ y → HasNoDot b → Begins (Part ∷ ps) y z
    → Begins (Part ∷ ps) x z
part_more ps x b y z e n h = (
  b ++ h.0,
  h.1,
  e ∙ ap (λ (t : List ℕ). b ++ t) h.2 ∙ sym (append_assoc b h.0 h.1),
  all_append (λ c. c ≢ 46) b h.0 n h.3,
  h.4,
)

pub any_more : (ps : List Piece) (x b y z : List ℕ) → x ≡ b ++ y → Begins (Any ∷ ps) y z → Begins (Any ∷ ps) x z
any_more ps x b y z e h = (
  b ++ h.0,
  h.1,
  e ∙ ap (λ (t : List ℕ). b ++ t) h.2 ∙ sym (append_assoc b h.0 h.1),
  tt,
  h.4,
)

-- ---- dots

abbrev pub dot_of : ℕ → ℕ
dot_of c = cond (eqb c 46) 1 0

abbrev pub dots : List ℕ → ℕ
dots [] = 0
dots (c ∷ cs) = dot_of c + dots cs

abbrev piece_dots : Piece → ℕ
piece_dots (Character c) = dot_of c
piece_dots One = 0
piece_dots Part = 0
piece_dots Any = 0

abbrev all_dots : List Piece → ℕ
all_dots [] = 0
all_dots (p ∷ ps) = piece_dots p + all_dots ps

dots_append : (xs ys : List ℕ) → dots (xs ++ ys) ≡ dots xs + dots ys
dots_append [] ys = omega arith
dots_append (x ∷ xs) ys = omega (arith, dots_append xs ys)

no_dot : (c : ℕ) → c ≢ 46 → dot_of c ≡ 0
no_dot c other = ap (λ (b : Bool). cond b 1 0) (ne_eqb c 46 other)

pub none_dots : (xs : List ℕ) → HasNoDot xs → dots xs ≡ 0
none_dots [] h = refl
none_dots (x ∷ xs) h = omega (arith, no_dot x h.0, none_dots xs h.1)

part_dots : (p : Piece) (part : List ℕ) → IsNotAny p → IsPart p part → dots part ≡ piece_dots p
part_dots (Character c) part s h = let e = ap dots h in omega (arith, e)
part_dots One part s h = let e = ap dots h.1 in omega (arith, e, no_dot h.0 h.2)
part_dots Part part s h = none_dots part h
part_dots Any part s h = absurd s

-- the dots that pieces stand for
counted : (ps : List Piece) (x y : List ℕ) → AllByRecursion IsNotAny ps → Begins ps x y
    → dots x ≡ all_dots ps + dots y
counted [] x y s h = omega (arith, ap dots h)
counted (p ∷ ps) x y s h =
    omega (arith, ap dots h.2, dots_append h.0 h.1, part_dots p h.0 s.0 h.3, counted ps h.1 y s.1 h.4)

-- of two fronts of a text the one with fewer dots is the shorter one
shorter : (f g y z : List ℕ) → f ++ y ≡ g ++ z → dots f < dots g → (b : List ℕ) × (y ≡ b ++ z)
shorter [] g y z e lt = (g, e)
shorter (c ∷ f) [] y z e lt = absurd (omega arith)
shorter (c ∷ f) (d ∷ g) y z e lt =
    shorter f g y z (tails c d (f ++ y) (g ++ z) e) (omega (arith, ap dot_of (heads c d (f ++ y) (g ++ z) e)))

-- a front of a text either has no dot, or takes the first dot in
pub first_dot : (a x b y : List ℕ) → a ++ (46 ∷ x) ≡ b ++ y → HasNoDot a → HasNoDot b ⊎ ((c : List ℕ) × (x ≡ c ++ y))
first_dot a x [] y e n = inl tt
first_dot [] x (d ∷ b) y e n = inr (b, tails 46 d x (b ++ y) e)
first_dot (c ∷ a) x (d ∷ b) y e n =
    elim (first_dot a x b y (tails c d (a ++ (46 ∷ x)) (b ++ y) e) n.1) as
    (λ _. HasNoDot (d ∷ b) ⊎ ((c : List ℕ) × (x ≡ c ++ y))) [
      | inl h ↦ inl ((λ dot. n.0 (heads c d (a ++ (46 ∷ x)) (b ++ y) e ∙ dot)), h)
      | inr h ↦ inr h
    ]

dots_more : (c : ℕ) (b : List ℕ) (t : Bool) → eqb c 46 ≡ t → (HasNoDot (c ∷ b) → ⊥) → ((HasNoDot b → ⊥) → 0 < dots b)
    → 0 < dots (c ∷ b)
dots_more c b true e h rest = let d : dot_of c ≡ 1 = ap (λ (t : Bool). cond t 1 0) e in omega (arith, d)
dots_more c b false e h rest = let more = rest (λ n. h (eqb-false c 46 e, n)) in omega (arith, more)

has_dots : (b : List ℕ) → (HasNoDot b → ⊥) → 0 < dots b
has_dots [] h = absurd (h tt)
has_dots (c ∷ b) h = dots_more c b (eqb c 46) refl h (has_dots b)

-- where pieces without a `**` lead from a text and from a part of it behind a dot, the second place is not before the
-- first one
pub later : (ps : List Piece) (x a y l m : List ℕ) → AllByRecursion IsNotAny ps → x ≡ a ++ y → (HasNoDot a → ⊥)
    → Begins ps x l → Begins ps y m → (b : List ℕ) × (l ≡ b ++ m)
later ps x a y l m s e dot h k =
    let f = front_of ps x l h in
    let g = front_of ps y m k in
    let same : f.0 ++ l ≡ (a ++ g.0) ++ m =
    sym f.1 ∙ e ∙ ap (λ (t : List ℕ). a ++ t) g.1 ∙ sym (append_assoc a g.0 m) in
    shorter f.0 (a ++ g.0) l m same (omega (
      arith,
      has_dots a dot,
      counted ps x l s h,
      counted ps y m s k,
      ap dots f.1,
      ap dots g.1,
      dots_append f.0 l,
      dots_append g.0 m,
      dots_append a g.0,
    ))

-- a text either has a dot or none
pub dot_cases : (xs : List ℕ) → HasNoDot xs ⊎ (HasNoDot xs → ⊥)
dot_cases [] = inl tt
dot_cases (c ∷ cs) = by (eqb c 46) refl (dot_cases cs)
  where
    by : (t : Bool) → eqb c 46 ≡ t → HasNoDot cs ⊎ (HasNoDot cs → ⊥) → HasNoDot (c ∷ cs) ⊎ (HasNoDot (c ∷ cs) → ⊥)
    by true e rest = inr (λ n. n.0 (eqb-true c 46 e))
    by false e (inl n) = inl (eqb-false c 46 e, n)
    by false e (inr h) = inr (λ n. h n.1)
