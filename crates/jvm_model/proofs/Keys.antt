-- Tests on names, functions of names, and lists that correspond.
use Rattle.std.proofs.Common.{ℕ, zero, suc, List, [], ◌∷◌, ◌++◌, Option, Some, Bool, true, false, ◌≡◌, refl, sym}
use Rattle.std.proofs.Common.{ap, ◌∙◌}
use Rattle.std.specs.Prelude.{map, replicate, slice_get, slice_set, if◌then◌else◌}
use Rattle.std.specs.List.{AllZip}
use Rattle.std.specs.Bool.{Decides}
use Rattle.jv_base.specs.Names.{is_text}
use Rattle.jv_base.proofs.Equality.{and_Decides, text_Decides}
use Rattle.jvm_model.specs.Mapped.{OptionCorr}
use Rattle.jvm_model.specs.Value.{Key, same_key, set_class, set_key}

pub key_Decides : (a b : Key) → Decides (same_key a b) (a ≡ b)
key_Decides a b =
    and_Decides {P = (a.class ≡ b.class) × (a.name ≡ b.name)} _ _
    (and_Decides _ _ (text_Decides a.class b.class) (text_Decides a.name b.name) (λ p q. (p, q)) (λ r. r.0) (λ r. r.1))
    (text_Decides a.descriptor b.descriptor)
    (λ p q i. record { class = p.0 i; name = p.1 i; descriptor = q i })
    (λ e. (ap (λ (k : Key). k.class) e, ap (λ (k : Key). k.name) e)) (λ e. ap (λ (k : Key). k.descriptor) e)

agree : {P Q : Type 0} (x y : Bool) → Decides x P → Decides y Q → (P → Q) → (Q → P) → y ≡ x
agree true y p q to from = q.1 (to (p.0 refl))
agree false true p q to from = sym (p.1 (from (q.0 refl)))
agree false false p q to from = refl

-- a test between two names is the same between their new names
module _ {K : Type 0} (eq : K → K → Bool) (decides : (a b : K) → Decides (eq a b) (a ≡ b)) (names : K → Option K)
    (one : (a b c : K) → names a ≡ Some c → names b ≡ Some c → a ≡ b) where
  tests_agree : (x y k l : K) → names x ≡ Some y → names k ≡ Some l → eq y l ≡ eq x k
  tests_agree x y k l e f = agree _ _ (decides x k) (decides y l)
      (λ p. let q : Some y ≡ Some l = sym e ∙ ap names p ∙ f in cc)
      (λ p. one x k y e (f ∙ ap Some (sym p)))

  put_agrees : {A : Type 0} (f g : K → A) → ((x y : K) → names x ≡ Some y → g y ≡ f x) → (k l : K) → names k ≡ Some l
      → (v : A) (x y : K) → names x ≡ Some y → (if eq y l then v else g y) ≡ (if eq x k then v else f x)
  put_agrees f g h k l e v x y e' =
      ap (λ b. if b then v else g y) (tests_agree x y k l e' e) ∙ ap (λ z. if eq x k then v else z) (h x y e')

pub texts_agree : (names : List ℕ → Option (List ℕ))
    → ((a b c : List ℕ) → names a ≡ Some c → names b ≡ Some c → a ≡ b) → (x y k l : List ℕ) → names x ≡ Some y
    → names k ≡ Some l → is_text y l ≡ is_text x k
texts_agree = tests_agree is_text text_Decides

pub set_class_agrees : {A : Type 0} (names : List ℕ → Option (List ℕ))
    → ((a b c : List ℕ) → names a ≡ Some c → names b ≡ Some c → a ≡ b) → (f g : List ℕ → A)
    → ((x y : List ℕ) → names x ≡ Some y → g y ≡ f x) → (k l : List ℕ) → names k ≡ Some l → (v : A) (x y : List ℕ)
    → names x ≡ Some y → set_class g l v y ≡ set_class f k v x
set_class_agrees {A} names one f g = put_agrees is_text text_Decides names one f g

pub set_key_agrees : {A : Type 0} (names : Key → Option Key)
    → ((a b c : Key) → names a ≡ Some c → names b ≡ Some c → a ≡ b) → (f g : Key → A)
    → ((x y : Key) → names x ≡ Some y → g y ≡ f x) → (k l : Key) → names k ≡ Some l → (v : A) (x y : Key)
    → names x ≡ Some y → set_key g l v y ≡ set_key f k v x
set_key_agrees {A} names one f g = put_agrees same_key key_Decides names one f g

-- ---- lists

pub zip_get : {A B : Type 0} (R : A → B → Type 0) (xs : List A) (ys : List B) → AllZip R xs ys → (n : ℕ)
    → OptionCorr R (slice_get xs n) (slice_get ys n)
zip_get R [] [] h n = refl
zip_get R [] (y ∷ ys) h n = absurd h
zip_get R (x ∷ xs) [] h n = absurd h
zip_get R (x ∷ xs) (y ∷ ys) h zero = (y, refl, h.0)
zip_get R (x ∷ xs) (y ∷ ys) h (suc n) = zip_get R xs ys h.1 n

pub zip_set : {A B : Type 0} (R : A → B → Type 0) (xs : List A) (ys : List B) → AllZip R xs ys → (n : ℕ) (a : A) (b : B)
    → R a b → AllZip R (slice_set xs n a) (slice_set ys n b)
zip_set R [] [] h n a b r = h
zip_set R [] (y ∷ ys) h n a b r = absurd h
zip_set R (x ∷ xs) [] h n a b r = absurd h
zip_set R (x ∷ xs) (y ∷ ys) h zero a b r = (r, h.1)
zip_set R (x ∷ xs) (y ∷ ys) h (suc n) a b r = (h.0, zip_set R xs ys h.1 n a b r)

pub zip_append : {A B : Type 0} (R : A → B → Type 0) (xs : List A) (ys : List B) (us : List A) (vs : List B)
    → AllZip R xs ys → AllZip R us vs → AllZip R (xs ++ us) (ys ++ vs)
zip_append R [] [] us vs h k = k
zip_append R [] (y ∷ ys) us vs h k = absurd h
zip_append R (x ∷ xs) [] us vs h k = absurd h
zip_append R (x ∷ xs) (y ∷ ys) us vs h k = (h.0, zip_append R xs ys us vs h.1 k)

pub zip_replicate : {A B : Type 0} (R : A → B → Type 0) (n : ℕ) (a : A) (b : B) → R a b
    → AllZip R (replicate n a) (replicate n b)
zip_replicate R zero a b r = tt
zip_replicate R (suc n) a b r = (r, zip_replicate R n a b r)

pub zip_map : {K A B : Type 0} (R : A → B → Type 0) (f : K → A) (g : K → B) → ((k : K) → R (f k) (g k)) → (ks : List K)
    → AllZip R (map f ks) (map g ks)
zip_map R f g h [] = tt
zip_map R f g h (k ∷ ks) = (h k, zip_map R f g h ks)
