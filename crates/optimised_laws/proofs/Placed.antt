-- Which method stands where after codes were put in place.
use Rattle.std.proofs.Common.{◌≡◌, ◌⊎◌, inl, inr, ℕ, zero, suc, List, [], ◌∷◌, map, Some, slice_get, refl, sym, ap}
use Rattle.std.proofs.Common.{subst, ◌∙◌}
use Rattle.std.proofs.lemmas.Option.{same_Some}
use Rattle.class_model.specs.declared.class.Class.{Class}
use Rattle.class_model.specs.declared.class.Method.{Method}
use Rattle.class_model.specs.declared.code.Code.{Code}
use Rattle.pass_driver.specs.Optimised.{with_codes}
use Rattle.pass_driver.specs.declared.optimising.NewCode.{NewCode}
use Rattle.shape_laws.specs.Bare.{bare, bare_method}
use Rattle.type_verifier.specs.WithCode.{changed_at, class_with_code, method_with_code, set_with_code}

-- ---- lists

-- what stands in a list with one element changed
changed_get : {X : Type 0} (f : X → X) (n k : ℕ) (xs : List X) (y : X)
    → slice_get (changed_at n f xs) k ≡ Some y
    → (x : X) × (slice_get xs k ≡ Some x) × ((y ≡ x) ⊎ ((n ≡ k) × (y ≡ f x)))
changed_get f n k [] y at = absurd cc
changed_get f zero zero (x ∷ xs) y at = (x, refl, inr (refl, sym (same_Some (f x) y at)))
changed_get f zero (suc k) (x ∷ xs) y at = (y, at, inl refl)
changed_get f (suc n) zero (x ∷ xs) y at = (x, refl, inl (sym (same_Some x y at)))
changed_get {X} f (suc n) (suc k) (x ∷ xs) y at =
    let r = changed_get f n k xs y at in (r.0, r.1, by r.0 r.2)
  where
    by : (z : X) → (y ≡ z) ⊎ ((n ≡ k) × (y ≡ f z)) → (y ≡ z) ⊎ ((suc n ≡ suc k) × (y ≡ f z))
    by z (inl e) = inl e
    by z (inr e) = inr (ap suc e.0, e.1)

changed_map : {X Y : Type 0} (g : X → Y) (f : X → X) → ((x : X) → g (f x) ≡ g x) → (n : ℕ) (xs : List X)
    → map g (changed_at n f xs) ≡ map g xs
changed_map g f same n [] = refl
changed_map {Y = Y} g f same zero (x ∷ xs) = ap (λ (y : Y). y ∷ map g xs) (same x)
changed_map {Y = Y} g f same (suc n) (x ∷ xs) = ap (λ (ys : List Y). g x ∷ ys) (changed_map g f same n xs)

-- ---- bare

pub class_bare : (number : ℕ) (code : Code) (c : Class) → bare (class_with_code number code c) ≡ bare c
class_bare number code c =
    λ i. record c { methods = changed_map bare_method (method_with_code code) (λ m. refl) number c.methods i }

pub set_bare : (own number : ℕ) (code : Code) (classes : List Class)
    → map bare (set_with_code classes own number code) ≡ map bare classes
set_bare own number code classes = changed_map bare (class_with_code number code) (class_bare number code) own classes

pub codes_bare : (codes : List NewCode) (classes : List Class) → map bare (with_codes codes classes) ≡ map bare classes
codes_bare [] classes = refl
codes_bare (x ∷ codes) classes =
    codes_bare codes (set_with_code classes x.class x.method x.code) ∙ set_bare x.class x.method x.code classes

-- ---- methods

-- a method is another one, or that with a new code of its place
abbrev pub IsFrom : List NewCode → ℕ → ℕ → Method → Method → Type 0
IsFrom codes n k m o = (o ≡ m)
    ⊎ ((j : ℕ) × (x : NewCode) × (slice_get codes j ≡ Some x) × (x.class ≡ n) × (x.method ≡ k)
    × (o ≡ method_with_code x.code m))

-- each method stands where it stood, perhaps with a new code
pub method_from : (codes : List NewCode) (classes : List Class) (n k : ℕ) (e : Class) (o : Method)
    → slice_get (with_codes codes classes) n ≡ Some e → slice_get e.methods k ≡ Some o
    → (c : Class) × (slice_get classes n ≡ Some c) × (m : Method) × (slice_get c.methods k ≡ Some m)
    × IsFrom codes n k m o
method_from [] classes n k e o at in_methods = (e, at, o, in_methods, inl refl)
method_from (x ∷ codes) classes n k e o at in_methods =
    let r = method_from codes (set_with_code classes x.class x.method x.code) n k e o at in_methods in
    by r.0 r.1 r.2 r.3 r.4
  where
    later : (m : Method) → IsFrom codes n k m o → IsFrom (x ∷ codes) n k m o
    later m (inl q) = inl q
    later m (inr (j, y, has, own, number, is)) = inr (suc j, y, has, own, number, is)

    again : (m p : Method) → x.class ≡ n → x.method ≡ k → p ≡ method_with_code x.code m → IsFrom codes n k p o
        → IsFrom (x ∷ codes) n k m o
    again m p own number is (inl q) = inr (0, x, refl, own, number, q ∙ is)
    again m p own number is (inr (j, y, has, at_class, at_method, put)) =
        inr (suc j, y, has, at_class, at_method, put ∙ ap (method_with_code y.code) is)

    in_class : (d c : Class) → x.class ≡ n → d ≡ class_with_code x.method x.code c → slice_get classes n ≡ Some c
        → (p : Method) → slice_get d.methods k ≡ Some p → IsFrom codes n k p o
        → (c : Class) × (slice_get classes n ≡ Some c) × (m : Method) × (slice_get c.methods k ≡ Some m)
        × IsFrom (x ∷ codes) n k m o
    in_class d c own is there p has from =
        let g = changed_get (method_with_code x.code) x.method k c.methods p
        (subst (λ (y : Class). slice_get y.methods k ≡ Some p) is has) in
        (c, there, g.0, g.1, which g.0 g.2)
      where
        which : (m : Method) → (p ≡ m) ⊎ ((x.method ≡ k) × (p ≡ method_with_code x.code m))
            → IsFrom (x ∷ codes) n k m o
        which m (inl q) = later m (subst (λ (y : Method). IsFrom codes n k y o) q from)
        which m (inr q) = again m p own q.0 q.1 from

    by : (d : Class) → slice_get (set_with_code classes x.class x.method x.code) n ≡ Some d
        → (p : Method) → slice_get d.methods k ≡ Some p → IsFrom codes n k p o
        → (c : Class) × (slice_get classes n ≡ Some c) × (m : Method) × (slice_get c.methods k ≡ Some m)
        × IsFrom (x ∷ codes) n k m o
    by d there p has from =
        let g = changed_get (class_with_code x.method x.code) x.class n classes d there in
        choose g.0 g.1 g.2
      where
        choose : (c : Class) → slice_get classes n ≡ Some c
            → (d ≡ c) ⊎ ((x.class ≡ n) × (d ≡ class_with_code x.method x.code c))
            → (c : Class) × (slice_get classes n ≡ Some c) × (m : Method) × (slice_get c.methods k ≡ Some m)
            × IsFrom (x ∷ codes) n k m o
        choose c at (inl q) =
            (c, at, p, subst (λ (y : Class). slice_get y.methods k ≡ Some p) q has, later p from)
        choose c at (inr q) = in_class d c q.0 q.1 at p has from
