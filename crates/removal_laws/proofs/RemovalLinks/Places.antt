-- Where no rule is broken at any place, the rules tell no fault; and what stands at a place of what is left.
use Rattle.std.proofs.Common.{◌≡◌, ℕ, zero, suc, ◌+◌, Bool, true, false, cond, List, [], ◌∷◌, ◌++◌, length, Option}
use Rattle.std.proofs.Common.{Some, None, Ok, slice_get, refl, sym, ap, ◌∙◌, arith}
use Rattle.std.specs.List.{cons_option, enumerate_from, filter_map, flat_map}
use Rattle.std.specs.Option.{option_map}
use Rattle.class_model.specs.declared.class.Class.{Class}
use Rattle.link_check.specs.Profile.{fault_at, faults_of, kinds_of_class, kinds_of_field, kinds_of_method, least}
use Rattle.link_check.specs.Profile.{links_checked}
use Rattle.link_check.specs.Taken.{BreaksNoRule}
use Rattle.link_check.specs.declared.fault.ProfileFault.{ProfileFault}
use Rattle.link_check.specs.declared.fault.ProfileKind.{ProfileKind}
use Rattle.image_laws.specs.ShrunkImage.Keeping.{rank}
use Rattle.image_laws.proofs.ShrunkImage.Kept.{kept_of}

-- ---- no fault

least_none : (kinds : List ProfileKind) → kinds ≡ [] → least kinds ≡ None
unfolding least
least_none [] h = refl
least_none (k ∷ kinds) h = absurd cc

no_fault_at : (number : ℕ) (place : Option ℕ) (kinds : List ProfileKind) → kinds ≡ []
    → fault_at number place kinds ≡ None
no_fault_at number place kinds h = ap (option_map (λ kind. record { class = number; member = place; kind = kind }))
    (least_none kinds h)

none_of_each : {X Y : Type 0} (f : ℕ × X → List Y) (n : ℕ) (xs : List X)
    → ((k : ℕ) (x : X) → slice_get xs k ≡ Some x → f (n + k, x) ≡ []) → flat_map f (enumerate_from n xs) ≡ []
none_of_each f n [] h = refl
none_of_each {X} {Y} f n (x ∷ xs) h =
    let start : n ≡ n + 0 = omega arith in
    ap (λ (t : List Y). t ++ flat_map f (enumerate_from (n + 1) xs)) (ap (λ (k : ℕ). f (k, x)) start ∙ h 0 x refl)
    ∙ none_of_each f (n + 1) xs
    (λ k y is. let next : n + 1 + k ≡ n + suc k = omega arith in ap (λ (j : ℕ). f (j, y)) next ∙ h (suc k) y is)

no_options : {X Y : Type 0} (f : ℕ × X → Option Y) (n : ℕ) (xs : List X)
    → ((k : ℕ) (x : X) → slice_get xs k ≡ Some x → f (n + k, x) ≡ None) → filter_map f (enumerate_from n xs) ≡ []
no_options f n [] h = refl
no_options {X} {Y} f n (x ∷ xs) h =
    let start : n ≡ n + 0 = omega arith in
    ap (λ (o : Option Y). cons_option o (filter_map f (enumerate_from (n + 1) xs)))
    (ap (λ (k : ℕ). f (k, x)) start ∙ h 0 x refl)
    ∙ no_options f (n + 1) xs
    (λ k y is. let next : n + 1 + k ≡ n + suc k = omega arith in ap (λ (j : ℕ). f (j, y)) next ∙ h (suc k) y is)

no_faults_of : (classes : List Class) → BreaksNoRule classes → (n : ℕ) (c : Class) → slice_get classes n ≡ Some c
    → faults_of classes n c ≡ []
no_faults_of classes right n c is =
    ap (λ (o : Option ProfileFault). cons_option o
    (filter_map (λ p. fault_at n (Some p.0) (kinds_of_field classes n c p.0 p.1)) (enumerate_from 0 c.fields)
    ++ filter_map (λ p. fault_at n (Some p.0) (kinds_of_method classes n c p.0 p.1))
    (enumerate_from (length c.fields) c.methods)))
    (no_fault_at n None (kinds_of_class classes n c) (right.class n c is))
    ∙ ap (λ (t : List ProfileFault). t
    ++ filter_map (λ p. fault_at n (Some p.0) (kinds_of_method classes n c p.0 p.1))
    (enumerate_from (length c.fields) c.methods))
    (no_options (λ p. fault_at n (Some p.0) (kinds_of_field classes n c p.0 p.1)) 0 c.fields
    (λ k f at.
    let plain : 0 + k ≡ k = omega arith in
    no_fault_at n (Some (0 + k)) (kinds_of_field classes n c (0 + k) f)
    (ap (λ (j : ℕ). kinds_of_field classes n c j f) plain ∙ right.field n c k f is at)))
    ∙ no_options (λ p. fault_at n (Some p.0) (kinds_of_method classes n c p.0 p.1)) (length c.fields) c.methods
    (λ k m at.
    no_fault_at n (Some (length c.fields + k)) (kinds_of_method classes n c (length c.fields + k) m)
    (right.method n c k m is at))

-- a set that breaks no rule is taken
pub none_broken : (classes : List Class) → BreaksNoRule classes → links_checked classes ≡ Ok tt
none_broken classes right =
    let none : flat_map (λ (p : ℕ × Class). faults_of classes p.0 p.1) (enumerate_from 0 classes) ≡ [] =
    none_of_each (λ (p : ℕ × Class). faults_of classes p.0 p.1) 0 classes
    (λ k c is.
    let plain : 0 + k ≡ k = omega arith in
    ap (λ (j : ℕ). faults_of classes j c) plain ∙ no_faults_of classes right k c is) in
    rw none refl

-- ---- places of what is kept

-- an element of what is kept is a kept element, at its rank
pub record Origin {A B : Type 0} (p : ℕ → Bool) (f : ℕ → A → B) (n : ℕ) (xs : List A) (j : ℕ) (y : B) : Type 0 where
  pub k : ℕ
  pub element : A
  pub at : slice_get xs k ≡ Some element
  pub passes : p (n + k) ≡ true
  pub place : j ≡ rank p n k
  pub is : y ≡ f (n + k) element

module _ {A B : Type 0} (p : ℕ → Bool) (f : ℕ → A → B) where
  next_origin : (n : ℕ) (x : A) (xs : List A) (i j : ℕ) (y : B) → Origin p f (n + 1) xs i y
      → j ≡ cond (p n) (suc i) i → Origin p f n (x ∷ xs) j y
  next_origin n x xs i j y o is =
      let next : n + 1 + o.k ≡ n + suc o.k = omega arith in
      record {
        k = suc o.k;
        element = o.element;
        at = o.at;
        passes = ap p (sym next) ∙ o.passes;
        place = is ∙ ap (λ (r : ℕ). cond (p n) (suc r) r) o.place;
        is = o.is ∙ ap (λ (r : ℕ). f r o.element) next;
      }

  pub origin : (n : ℕ) (xs : List A) (j : ℕ) (y : B) → slice_get (kept_of p f n xs) j ≡ Some y
      → Origin p f n xs j y
  origin n [] j y e = absurd cc
  origin n (x ∷ xs) j y e = by (p n) refl j e (origin (n + 1) xs)
    where
      by : (t : Bool) → p n ≡ t → (j : ℕ)
          → slice_get (cond t (f n x ∷ kept_of p f (n + 1) xs) (kept_of p f (n + 1) xs)) j ≡ Some y
          → ((j : ℕ) (y : B) → slice_get (kept_of p f (n + 1) xs) j ≡ Some y → Origin p f (n + 1) xs j y)
          → Origin p f n (x ∷ xs) j y
      by true t zero e r =
          let start : n + 0 ≡ n = omega arith in
          let same : f n x ≡ y = cc in
          record {
            k = 0;
            element = x;
            at = refl;
            passes = ap p start ∙ t;
            place = refl;
            is = sym same ∙ ap (λ (i : ℕ). f i x) (sym start);
          }
      by true t (suc j) e r =
          next_origin n x xs j (suc j) y (r j y e) (ap (λ (b : Bool). cond b (suc j) j) (sym t))
      by false t j e r = next_origin n x xs j j y (r j y e) (ap (λ (b : Bool). cond b (suc j) j) (sym t))
