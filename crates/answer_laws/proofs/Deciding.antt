-- What it means that two values can be told apart, and that a fact is settled.
use Rattle.std.proofs.Common.{◌≡◌, ◌⊎◌, inl, inr, ℕ, ℤ, Bool, true, false, List, [], ◌∷◌, Option, Some, None}
use Rattle.std.proofs.Common.{refl, sym, ap, ◌∙◌}
use Rattle.std.specs.Bool.{Decides}
use Rattle.std.specs.Cmp.{signed_Decides}
use Rattle.std.specs.Ordering.{int_eq}
use Rattle.std.proofs.lemmas.Bool.{cases_eq}

-- ---- facts

-- a fact holds, or it doesn't
abbrev pub Settled : Type 0 → Type 0
Settled P = P ⊎ (P → ⊥)

pub settled_by : {P : Type 0} (b : Bool) → Decides b P → Settled P
settled_by true d = inl (d.0 refl)
settled_by false d = inr (λ p. absurd (let no : false ≡ true = d.1 p in cc))

pub settled_as : {P Q : Type 0} → (P → Q) → (Q → P) → Settled P → Settled Q
settled_as to from (inl p) = inl (to p)
settled_as to from (inr never) = inr (λ q. never (from q))

pub both_settled : {P Q : Type 0} → Settled P → Settled Q → Settled (P × Q)
both_settled (inl p) (inl q) = inl (p, q)
both_settled (inl p) (inr never) = inr (λ h. never h.1)
both_settled (inr never) q = inr (λ h. never h.0)

-- ---- values

-- of two values it is settled whether they are one
abbrev pub Apart : Type 0 → Type 0
Apart A = (a b : A) → Settled (a ≡ b)

pub numbers_apart : Apart ℕ
numbers_apart a b = cases_eq a b

pub integers_apart : Apart ℤ
integers_apart a b = settled_by (int_eq a b) (signed_Decides a b)

pub truths_apart : Apart Bool
truths_apart true true = inl refl
truths_apart true false = inr (λ e. absurd cc)
truths_apart false true = inr (λ e. absurd cc)
truths_apart false false = inl refl

pub units_apart : Apart (Unit {0})
units_apart a b = inl refl

-- values that stand for others, which can be told apart
pub apart_by : {A B : Type 0} (f : A → B) (g : B → A) → ((a : A) → g (f a) ≡ a) → Apart B → Apart A
apart_by f g back apart a b = by (apart (f a) (f b))
  where
    by : Settled (f a ≡ f b) → Settled (a ≡ b)
    by (inl e) = inl (sym (back a) ∙ ap g e ∙ back b)
    by (inr never) = inr (λ e. never (ap f e))

pub pairs_apart : {A B : Type 0} → Apart A → Apart B → Apart (A × B)
pairs_apart first second p q =
    settled_as (λ (h : (p.0 ≡ q.0) × (p.1 ≡ q.1)). λ i. (h.0 i, h.1 i)) (λ e. ((λ i. (e i).0), (λ i. (e i).1)))
    (both_settled (first p.0 q.0) (second p.1 q.1))

pub sums_apart : {A B : Type 0} → Apart A → Apart B → Apart (A ⊎ B)
sums_apart {A = A} {B} first second = apart
  where
    left : A ⊎ B → A → A
    left (inl a) other = a
    left (inr b) other = other

    right : A ⊎ B → B → B
    right (inl a) other = other
    right (inr b) other = b

    apart : Apart (A ⊎ B)
    apart (inl a) (inl b) = settled_as (λ e. ap inl e) (λ e. ap (λ x. left x a) e) (first a b)
    apart (inl a) (inr b) = inr (λ e. absurd cc)
    apart (inr a) (inl b) = inr (λ e. absurd cc)
    apart (inr a) (inr b) = settled_as (λ e. ap inr e) (λ e. ap (λ x. right x a) e) (second a b)

pub options_apart : {A : Type 0} → Apart A → Apart (Option A)
options_apart {A = A} apart = by
  where
    value : Option A → A → A
    value None other = other
    value (Some a) other = a

    by : Apart (Option A)
    by None None = inl refl
    by None (Some b) = inr (λ e. absurd cc)
    by (Some a) None = inr (λ e. absurd cc)
    by (Some a) (Some b) = settled_as (λ e. ap Some e) (λ e. ap (λ x. value x a) e) (apart a b)

pub lists_apart : {A : Type 0} → Apart A → Apart (List A)
lists_apart {A = A} apart = by
  where
    first : List A → A → A
    first [] other = other
    first (x ∷ xs) other = x

    rest : List A → List A
    rest [] = []
    rest (x ∷ xs) = xs

    by : Apart (List A)
    by [] [] = inl refl
    by [] (y ∷ ys) = inr (λ e. absurd cc)
    by (x ∷ xs) [] = inr (λ e. absurd cc)
    by (x ∷ xs) (y ∷ ys) =
        settled_as (λ (h : (x ≡ y) × (xs ≡ ys)). λ i. h.0 i ∷ h.1 i) (λ e. (ap (λ l. first l x) e, ap rest e))
        (both_settled (apart x y) (by xs ys))
