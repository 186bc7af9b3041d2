-- Two lists of stretches together.
use Rattle.std.proofs.Common.{ℕ, zero, suc, ◌+◌, List, [], ◌∷◌, ◌++◌, Option, Some, None, Bool, true}
use Rattle.std.proofs.Common.{false, ◌≡◌, ◌⊎◌, inl, inr, refl, sym, ap, ◌∙◌, subst, arith}
use Rattle.std.proofs.Common.{append_assoc, drop}
use Rattle.std.specs.Prelude.{slice_get, if◌then◌else◌}
use Rattle.std.specs.List.{AllByRecursion}
use Rattle.std.specs.Option.{option_or}
use Rattle.const_tables.specs.declared.facts.Next.TheVariants.{Former, Latter}
use Rattle.const_tables.specs.declared.facts.Stretch.{Stretch}
use Rattle.const_tables.specs.Stretches.{IsJoined, IsOrdered, IsUpTo, first_in, is_up_to, next_of}
use Rattle.const_tables.proofs.Ordering.{up_is, up_other, up_told, up_trans}

-- ---- lists

drop_at : (xs : List Stretch) (k : ℕ) (x : Stretch) → slice_get xs k ≡ Some x
    → drop k xs ≡ x ∷ drop (suc k) xs
drop_at [] k x e = absurd cc
drop_at (y ∷ ys) zero x e = let same : y ≡ x = cc in ap (λ z. z ∷ ys) same
drop_at (y ∷ ys) (suc k) x e = drop_at ys k x e

drop_none : (xs : List Stretch) (k : ℕ) → slice_get xs k ≡ None → drop k xs ≡ []
drop_none [] zero e = refl
drop_none [] (suc k) e = refl
drop_none (y ∷ ys) zero e = absurd cc
drop_none (y ∷ ys) (suc k) e = drop_none ys k e

all_push : (P : Stretch → Type 0) (xs : List Stretch) (x : Stretch) → AllByRecursion P xs → P x
    → AllByRecursion P (xs ++ x ∷ [])
all_push P [] x h p = (p, tt)
all_push P (y ∷ ys) x h p = (h.0, all_push P ys x h.1 p)

all_weaker : (P Q : Stretch → Type 0) → ((x : Stretch) → P x → Q x) → (xs : List Stretch)
    → AllByRecursion P xs → AllByRecursion Q xs
all_weaker P Q f [] h = tt
all_weaker P Q f (x ∷ xs) h = (f x h.0, all_weaker P Q f xs h.1)

-- ---- order

-- each of some stretches begins up to each of others
abbrev AreBefore : List Stretch → List Stretch → Type 0
AreBefore xs ys = AllByRecursion (λ (x : Stretch). AllByRecursion (IsUpTo x) ys) xs

trans : (x y z : Stretch) → IsUpTo x y → IsUpTo y z → IsUpTo x z
trans x y z p q =
    up_is x z.slot z.at
    (up_trans x.slot x.at y.slot y.at z.slot z.at (up_told x y.slot y.at p)
    (up_told y z.slot z.at q))

turned : (x y : Stretch) → is_up_to x y.slot y.at ≡ false → IsUpTo y x
turned x y e =
    up_is y x.slot x.at
    (up_other x.slot x.at y.slot y.at
    (λ u. let no : true ≡ false = sym (up_is x y.slot y.at u) ∙ e in cc))

ordered_push : (xs : List Stretch) (x : Stretch) → IsOrdered xs
    → AllByRecursion (λ (y : Stretch). IsUpTo y x) xs → IsOrdered (xs ++ x ∷ [])
ordered_push [] x o h = (tt, tt)
ordered_push (y ∷ ys) x o h = (all_push (IsUpTo y) ys x o.0 h.0, ordered_push ys x o.1 h.1)

behind : (xs : List Stretch) (k : ℕ) (x : Stretch) → IsOrdered xs → slice_get xs k ≡ Some x
    → AllByRecursion (IsUpTo x) (drop (suc k) xs)
behind [] k x o e = absurd cc
behind (y ∷ ys) zero x o e =
    let same : y ≡ x = cc in subst (λ z. AllByRecursion (IsUpTo z) ys) same o.0
behind (y ∷ ys) (suc k) x o e = behind ys k x o.1 e

-- ---- what is said

-- what is still to come says at each place what two lists say, after so much of them
abbrev Meets : Option ℕ → Option ℕ → List Stretch → List Stretch → List Stretch → Type 0
Meets first second former latter rest = (slot at : ℕ)
    → first_in (option_or first second) rest slot at
    ≡ option_or (first_in first former slot at) (first_in second latter slot at)

-- before a stretch others behind it say nothing
nothing : (said : Option ℕ) (xs : List Stretch) (x : Stretch) (slot at : ℕ)
    → is_up_to x slot at ≡ false → AllByRecursion (IsUpTo x) xs → first_in said xs slot at ≡ said
nothing said [] x slot at e h = refl
nothing said (y ∷ ys) x slot at e h = by (is_up_to y slot at) refl
  where
    by : (b : Bool) → is_up_to y slot at ≡ b
        → (if b then first_in y.first ys slot at else said) ≡ said
    by false q = refl
    by true q =
        let u = up_trans x.slot x.at y.slot y.at slot at (up_told x y.slot y.at h.0)
        (up_told y slot at q) in
        let no : true ≡ false = sym (up_is x slot at u) ∙ e in cc

abbrev pub says : Stretch → Option ℕ → Stretch
says x first = record x { first = first }

meets_former : (first second : Option ℕ) (x : Stretch) (xs ys rest : List Stretch)
    → AllByRecursion (IsUpTo x) ys → Meets x.first second xs ys rest
    → Meets first second (x ∷ xs) ys (says x (option_or x.first second) ∷ rest)
meets_former first second x xs ys rest h m slot at = by (is_up_to x slot at) refl
  where
    by : (b : Bool) → is_up_to x slot at ≡ b
        → (if b then first_in (option_or x.first second) rest slot at else option_or first second)
        ≡ option_or (if b then first_in x.first xs slot at else first)
        (first_in second ys slot at)
    by true q = m slot at
    by false q = ap (option_or first) (sym (nothing second ys x slot at q h))

meets_latter : (first second : Option ℕ) (y : Stretch) (xs ys rest : List Stretch)
    → AllByRecursion (IsUpTo y) xs → Meets first y.first xs ys rest
    → Meets first second xs (y ∷ ys) (says y (option_or first y.first) ∷ rest)
meets_latter first second y xs ys rest h m slot at = by (is_up_to y slot at) refl
  where
    by : (b : Bool) → is_up_to y slot at ≡ b
        → (if b then first_in (option_or first y.first) rest slot at else option_or first second)
        ≡ option_or (first_in first xs slot at)
        (if b then first_in y.first ys slot at else second)
    by true q = m slot at
    by false q = ap (λ o. option_or o second) (sym (nothing first xs y slot at q h))

-- ---- so much is joined

pub record IsJoining (former latter : List Stretch) (one other : ℕ) (first second : Option ℕ)
    (all : List Stretch) : Type 0 where
  pub meets : (rest : List Stretch) → Meets first second (drop one former) (drop other latter) rest
      → Meets None None former latter (all ++ rest)
  pub ordered : IsOrdered all
  pub former_behind : AreBefore all (drop one former)
  pub latter_behind : AreBefore all (drop other latter)

pub begins : (former latter : List Stretch) → IsJoining former latter 0 0 None None []
begins former latter =
    record { meets = λ rest m. m; ordered = tt; former_behind = tt; latter_behind = tt }

heads : (x : Stretch) (xs ys zs : List Stretch) → ys ≡ x ∷ zs → AreBefore xs ys
    → AllByRecursion (λ (y : Stretch). IsUpTo y x) xs × AreBefore xs zs
heads x xs ys zs e h = (
  all_weaker (λ (y : Stretch). AllByRecursion (IsUpTo y) ys) (λ (y : Stretch). IsUpTo y x)
      (λ y p. (subst (AllByRecursion (IsUpTo y)) e p).0) xs h,
  all_weaker (λ (y : Stretch). AllByRecursion (IsUpTo y) ys)
      (λ (y : Stretch). AllByRecursion (IsUpTo y) zs)
      (λ y p. (subst (AllByRecursion (IsUpTo y)) e p).1) xs h,
)

-- the next stretch of a list begins up to all that are left of it, and to all left of the other
-- list where it does to the next one there
ahead : (x : Stretch) (ys : List Stretch) (k : ℕ) → IsOrdered ys
    → (slice_get ys k ≡ None) ⊎ ((y : Stretch) × (slice_get ys k ≡ Some y) × IsUpTo x y)
    → AllByRecursion (IsUpTo x) (drop k ys)
ahead x ys k o (inl e) = subst (AllByRecursion (IsUpTo x)) (sym (drop_none ys k e)) tt
ahead x ys k o (inr q) =
    subst (AllByRecursion (IsUpTo x)) (sym (drop_at ys k q.0 q.1)) (
      q.2,
      all_weaker (IsUpTo q.0) (IsUpTo x) (λ z p. trans x q.0 z q.2 p) (drop (suc k) ys)
          (behind ys k q.0 o q.1),
    )

of_former : (a b : Option Stretch) (x : Stretch) → next_of a b ≡ Some (Former x)
    → (a ≡ Some x) × ((b ≡ None) ⊎ ((y : Stretch) × (b ≡ Some y) × IsUpTo x y))
of_former None None x e = absurd cc
of_former None (Some y) x e = absurd cc
of_former (Some z) None x e = let same : z ≡ x = cc in (ap Some same, inl refl)
of_former (Some z) (Some y) x e = by (is_up_to z y.slot y.at) refl e
  where
    by : (c : Bool) → is_up_to z y.slot y.at ≡ c
        → (if c then Some (Former z) else Some (Latter y)) ≡ Some (Former x)
        → (Some z ≡ Some x) × ((Some y ≡ None) ⊎ ((t : Stretch) × (Some y ≡ Some t) × IsUpTo x t))
    by true q e =
        let same : z ≡ x = cc in
        (ap Some same, inr (y, refl, subst (λ t. is_up_to t y.slot y.at ≡ true) same q))
    by false q e = absurd cc

of_latter : (a b : Option Stretch) (y : Stretch) → next_of a b ≡ Some (Latter y)
    → (b ≡ Some y) × ((a ≡ None) ⊎ ((x : Stretch) × (a ≡ Some x) × IsUpTo y x))
of_latter None None y e = absurd cc
of_latter None (Some z) y e = let same : z ≡ y = cc in (ap Some same, inl refl)
of_latter (Some x) None y e = absurd cc
of_latter (Some x) (Some z) y e = by (is_up_to x z.slot z.at) refl e
  where
    by : (c : Bool) → is_up_to x z.slot z.at ≡ c
        → (if c then Some (Former x) else Some (Latter z)) ≡ Some (Latter y)
        → (Some z ≡ Some y) × ((Some x ≡ None) ⊎ ((t : Stretch) × (Some x ≡ Some t) × IsUpTo y t))
    by true q e = absurd cc
    by false q e =
        let same : z ≡ y = cc in
        (ap Some same, inr (x, refl, subst (λ t. IsUpTo t x) same (turned x z q)))

of_none : (a b : Option Stretch) → next_of a b ≡ None → (a ≡ None) × (b ≡ None)
of_none None None e = (refl, refl)
of_none None (Some z) e = absurd cc
of_none (Some x) None e = absurd cc
of_none (Some x) (Some z) e = by (is_up_to x z.slot z.at) e
  where
    by : (c : Bool) → (if c then Some (Former x) else Some (Latter z)) ≡ None
        → (Some x ≡ None) × (Some z ≡ None)
    by true e = absurd cc
    by false e = absurd cc

module _ (former latter : List Stretch) (one other : ℕ) (first second : Option ℕ)
    (all : List Stretch) (of : IsOrdered former) (ol : IsOrdered latter)
    (j : IsJoining former latter one other first second all) where
  pub former_within : (x : Stretch)
      → next_of (slice_get former one) (slice_get latter other) ≡ Some (Former x)
      → slice_get former one ≡ Some x
  former_within x e = (of_former _ _ x e).0

  pub latter_within : (y : Stretch)
      → next_of (slice_get former one) (slice_get latter other) ≡ Some (Latter y)
      → slice_get latter other ≡ Some y
  latter_within y e = (of_latter _ _ y e).0

  pub with_former : (x : Stretch)
      → next_of (slice_get former one) (slice_get latter other) ≡ Some (Former x)
      → IsJoining former latter (one + 1) other x.first second
      (all ++ says x (option_or x.first second) ∷ [])
  with_former x e =
      let is = of_former _ _ x e in
      let rest = drop (suc one) former in
      let there = drop_at former one x is.0 in
      let next = ahead x latter other ol is.1 in
      let h = heads x all (drop one former) rest there j.former_behind in
      let at : suc one ≡ one + 1 = omega arith in
      subst (λ k. IsJoining former latter k other x.first second
      (all ++ says x (option_or x.first second) ∷ [])) at
      (record {
        meets = λ more m.
            subst (Meets None None former latter)
            (sym (append_assoc all (says x (option_or x.first second) ∷ []) more))
            (j.meets (says x (option_or x.first second) ∷ more)
            (subst (λ xs. Meets first second xs (drop other latter)
            (says x (option_or x.first second) ∷ more)) (sym there)
            (meets_former first second x rest (drop other latter) more next m)));
        ordered = ordered_push all (says x (option_or x.first second)) j.ordered h.0;
        former_behind =
            all_push (λ (y : Stretch). AllByRecursion (IsUpTo y) rest) all
            (says x (option_or x.first second)) h.1 (behind former one x of is.0);
        latter_behind =
            all_push (λ (y : Stretch). AllByRecursion (IsUpTo y) (drop other latter)) all
            (says x (option_or x.first second)) j.latter_behind next;
      })

  pub with_latter : (y : Stretch)
      → next_of (slice_get former one) (slice_get latter other) ≡ Some (Latter y)
      → IsJoining former latter one (other + 1) first y.first
      (all ++ says y (option_or first y.first) ∷ [])
  with_latter y e =
      let is = of_latter _ _ y e in
      let rest = drop (suc other) latter in
      let there = drop_at latter other y is.0 in
      let next = ahead y former one of is.1 in
      let h = heads y all (drop other latter) rest there j.latter_behind in
      let at : suc other ≡ other + 1 = omega arith in
      subst (λ k. IsJoining former latter one k first y.first
      (all ++ says y (option_or first y.first) ∷ [])) at
      (record {
        meets = λ more m.
            subst (Meets None None former latter)
            (sym (append_assoc all (says y (option_or first y.first) ∷ []) more))
            (j.meets (says y (option_or first y.first) ∷ more)
            (subst (λ ys. Meets first second (drop one former) ys
            (says y (option_or first y.first) ∷ more)) (sym there)
            (meets_latter first second y (drop one former) rest more next m)));
        ordered = ordered_push all (says y (option_or first y.first)) j.ordered h.0;
        former_behind =
            all_push (λ (z : Stretch). AllByRecursion (IsUpTo z) (drop one former)) all
            (says y (option_or first y.first)) j.former_behind next;
        latter_behind =
            all_push (λ (z : Stretch). AllByRecursion (IsUpTo z) rest) all
            (says y (option_or first y.first)) h.1 (behind latter other y ol is.0);
      })

  pub ends : next_of (slice_get former one) (slice_get latter other) ≡ None
      → IsJoined former latter all
  ends e = let is = of_none _ _ e in record {
    told = λ slot at.
        ap (λ (xs : List Stretch). first_in None xs slot at) (sym (nothing_more all))
        ∙ j.meets []
        (λ s a. λ i. option_or (first_in first (sym (drop_none former one is.0) i) s a)
        (first_in second (sym (drop_none latter other is.1) i) s a)) slot at;
    ordered = j.ordered;
  }
    where
      nothing_more : (xs : List Stretch) → xs ++ [] ≡ xs
      nothing_more [] = refl
      nothing_more (x ∷ xs) = ap (λ ys. x ∷ ys) (nothing_more xs)
