-- What stands where in a set after new codes were put in place.
use Rattle.std.proofs.Common.{◌≡◌, ◌≢◌, ◌⊎◌, inl, inr, ℕ, zero, suc, ◌==◌, ◌&&◌, Bool, true, false, cond, List, [], ◌∷◌, map}
use Rattle.std.proofs.Common.{Option, Some, slice_get, refl, sym, ap, subst, ◌∙◌, arith}
use Rattle.std.specs.List.{AllByRecursion}
use Rattle.std.proofs.lemmas.Bool.{eq-eqb, and_from, and_parts}
use Rattle.std.proofs.lemmas.Bool.Decides.{eqb_tells}
use Rattle.std.proofs.lemmas.Option.{same_Some}
use Rattle.class_model.specs.declared.class.Class.{Class}
use Rattle.class_model.specs.declared.class.Method.{Method}
use Rattle.class_model.specs.declared.code.Code.{Code}
use Rattle.pass_driver.specs.Optimised.{with_codes}
use Rattle.pass_driver.specs.Stepped.{stepped}
use Rattle.pass_driver.specs.declared.optimising.NewCode.{NewCode}
use Rattle.shape_laws.specs.Bare.{bare, bare_method}
use Rattle.type_verifier.specs.WithCode.{changed_at, class_with_code, method_with_code, set_with_code}
use Rattle.pair_laws.proofs.OptimisedPairs.EditedMethods.{AreOrdered, EditedMethod, IsBelow, new_of}

-- ---- lists

changed_here : {X : Type 0} (f : X → X) (n : ℕ) (xs : List X) (x : X) → slice_get xs n ≡ Some x
    → slice_get (changed_at n f xs) n ≡ Some (f x)
changed_here f n [] x at = absurd cc
changed_here f zero (y ∷ xs) x at = ap (λ z. Some (f z)) (same_Some y x at)
changed_here f (suc n) (y ∷ xs) x at = changed_here f n xs x at

unchanged_there : {X : Type 0} (f : X → X) (n k : ℕ) (xs : List X) → n ≢ k
    → slice_get (changed_at n f xs) k ≡ slice_get xs k
unchanged_there f n k [] other = refl
unchanged_there f zero zero (y ∷ xs) other = absurd (other refl)
unchanged_there f zero (suc k) (y ∷ xs) other = refl
unchanged_there f (suc n) zero (y ∷ xs) other = refl
unchanged_there f (suc n) (suc k) (y ∷ xs) other = unchanged_there f n k xs (λ same. other (ap suc same))

-- ---- one code

-- the new code is that of the method of this class and number
abbrev pub is_of : ℕ → ℕ → NewCode → Bool
is_of n k x = x.class == n && x.method == k

-- the code of the method after one was put in place
abbrev put_one : ℕ → ℕ → NewCode → Option Code → Option Code
put_one n k x code = cond (is_of n k x) (Some x.code) code

-- and after several, one after another
abbrev pub put_codes : ℕ → ℕ → List NewCode → Option Code → Option Code
put_codes n k [] code = code
put_codes n k (x ∷ codes) code = put_codes n k codes (put_one n k x code)

-- where a method stands it stands with this code
pub record StandsWith (classes : List Class) (n k : ℕ) (c : Class) (m : Method) (code : Option Code) : Type 0 where
  pub class : Class
  pub in_set : slice_get classes n ≡ Some class
  pub named : class.name ≡ c.name
  pub in_class : slice_get class.methods k ≡ Some (record m { code = code })

eq_cases : (a b : ℕ) → (((a == b) ≡ true) × (a ≡ b)) ⊎ (((a == b) ≡ false) × (a ≢ b))
eq_cases a b = eqb_tells a b

module _ (classes : List Class) (n k : ℕ) (c : Class) (m : Method) (at : slice_get classes n ≡ Some c)
    (in_methods : slice_get c.methods k ≡ Some m) (x : NewCode) where
  abbrev put : List Class
  put = set_with_code classes x.class x.method x.code

  other_class : (x.class == n) ≡ false → x.class ≢ n → StandsWith put n k c m (put_one n k x m.code)
  other_class is other = record {
    class = c;
    in_set = unchanged_there (class_with_code x.method x.code) x.class n classes other ∙ at;
    named = refl;
    in_class = in_methods
        ∙ ap (λ (b : Bool). Some (record m { code = cond (b && x.method == k) (Some x.code) m.code })) (sym is);
  }

  there : x.class ≡ n → slice_get put n ≡ Some (class_with_code x.method x.code c)
  there same = subst (λ (i : ℕ). slice_get (set_with_code classes i x.method x.code) n
      ≡ Some (class_with_code x.method x.code c)) (sym same)
      (changed_here (class_with_code x.method x.code) n classes c at)

  other_method : (x.class == n) ≡ true → x.class ≡ n → (x.method == k) ≡ false → x.method ≢ k
      → StandsWith put n k c m (put_one n k x m.code)
  other_method class same is other = record {
    class = class_with_code x.method x.code c;
    in_set = there same;
    named = refl;
    in_class = unchanged_there (method_with_code x.code) x.method k c.methods other ∙ in_methods
        ∙ (λ i. Some (record m { code = cond (sym class i && sym is i) (Some x.code) m.code }));
  }

  this_method : (x.class == n) ≡ true → x.class ≡ n → (x.method == k) ≡ true → x.method ≡ k
      → StandsWith put n k c m (put_one n k x m.code)
  this_method class same is own = record {
    class = class_with_code x.method x.code c;
    in_set = there same;
    named = refl;
    in_class = subst (λ (i : ℕ). slice_get (changed_at i (method_with_code x.code) c.methods) k
        ≡ Some (method_with_code x.code m)) (sym own)
        (changed_here (method_with_code x.code) k c.methods m in_methods)
        ∙ (λ i. Some (record m { code = cond (sym class i && sym is i) (Some x.code) m.code }));
  }

  by_method : (x.class == n) ≡ true → x.class ≡ n
      → (((x.method == k) ≡ true) × (x.method ≡ k)) ⊎ (((x.method == k) ≡ false) × (x.method ≢ k))
      → StandsWith put n k c m (put_one n k x m.code)
  by_method class same (inl h) = this_method class same h.0 h.1
  by_method class same (inr h) = other_method class same h.0 h.1

  by_class : (((x.class == n) ≡ true) × (x.class ≡ n)) ⊎ (((x.class == n) ≡ false) × (x.class ≢ n))
      → StandsWith put n k c m (put_one n k x m.code)
  by_class (inl h) = by_method h.0 h.1 (eq_cases x.method k)
  by_class (inr h) = other_class h.0 h.1

  pub one_put : StandsWith put n k c m (put_one n k x m.code)
  one_put = by_class (eq_cases x.class n)

-- ---- all codes

pub all_put : (codes : List NewCode) (classes : List Class) (n k : ℕ) (c : Class) (m : Method)
    → slice_get classes n ≡ Some c → slice_get c.methods k ≡ Some m
    → StandsWith (with_codes codes classes) n k c m (put_codes n k codes m.code)
all_put [] classes n k c m at in_methods =
    record { class = c; in_set = at; named = refl; in_class = in_methods }
all_put (x ∷ codes) classes n k c m at in_methods =
    let one = one_put classes n k c m at in_methods x in
    let rest = all_put codes (set_with_code classes x.class x.method x.code) n k one.class
    (record m { code = put_one n k x m.code }) one.in_set one.in_class in
    record { class = rest.class; in_set = rest.in_set; named = rest.named ∙ one.named; in_class = rest.in_class }

-- ---- the codes of edited methods

-- it doesn't stand at this place
abbrev pub IsElsewhere : ℕ → ℕ → EditedMethod → Type 0
IsElsewhere n k d = d.spot.class ≡ n → d.spot.method ≡ k → ⊥

elsewhere_is : (n k : ℕ) (d : EditedMethod) → IsElsewhere n k d → is_of n k (new_of d) ≡ false
elsewhere_is n k d other = by (is_of n k (new_of d)) refl
  where
    by : (b : Bool) → is_of n k (new_of d) ≡ b → b ≡ false
    by false is = refl
    by true is =
        let both = and_parts (d.spot.class == n) (d.spot.method == k) is in
        absurd (other (eqb_is d.spot.class n both.0) (eqb_is d.spot.method k both.1))
      where
        eqb_is : (a b : ℕ) → (a == b) ≡ true → a ≡ b
        eqb_is a b h = on (eqb_tells a b)
          where
            on : (((a == b) ≡ true) × (a ≡ b)) ⊎ (((a == b) ≡ false) × (a ≢ b)) → a ≡ b
            on (inl q) = q.1
            on (inr q) = absurd (let wrong : true ≡ false = sym h ∙ q.0 in cc)

-- where none stands the code stays
pub none_put : (n k : ℕ) (ds : List EditedMethod) (code : Option Code) → AllByRecursion (IsElsewhere n k) ds
    → put_codes n k (map new_of ds) code ≡ code
none_put n k [] code all = refl
none_put n k (d ∷ ds) code all =
    none_put n k ds (put_one n k (new_of d) code) all.1
    ∙ ap (λ (b : Bool). cond b (Some (stepped d.edits.steps d.own)) code) (elsewhere_is n k d all.0)

not_above : (n k : ℕ) (d e : EditedMethod) → d.spot.class ≡ n → d.spot.method ≡ k → IsBelow d.spot e.spot
    → IsElsewhere n k e
not_above n k d e class method (inl low) own number = absurd (omega (arith, class, low, own))
not_above n k d e class method (inr low) own number = absurd (omega (arith, method, low.1, number))

all_above : (n k : ℕ) (d : EditedMethod) (ds : List EditedMethod) → d.spot.class ≡ n → d.spot.method ≡ k
    → AllByRecursion (λ (e : EditedMethod). IsBelow d.spot e.spot) ds → AllByRecursion (IsElsewhere n k) ds
all_above n k d [] class method all = tt
all_above n k d (e ∷ ds) class method all =
    (not_above n k d e class method all.0, all_above n k d ds class method all.1)

-- where one stands its new code stands
pub one_stands : (n k : ℕ) (ds : List EditedMethod) (code : Option Code) → AreOrdered ds → (j : ℕ) (d : EditedMethod)
    → slice_get ds j ≡ Some d → d.spot.class ≡ n → d.spot.method ≡ k
    → put_codes n k (map new_of ds) code ≡ Some (stepped d.edits.steps d.own)
one_stands n k [] code ordered j d at class method = absurd cc
one_stands n k (e ∷ ds) code ordered zero d at class method =
    let same : e ≡ d = same_Some e d at in
    none_put n k ds (put_one n k (new_of e) code)
    (all_above n k e ds (ap (λ (x : EditedMethod). x.spot.class) same ∙ class)
    (ap (λ (x : EditedMethod). x.spot.method) same ∙ method) ordered.0)
    ∙ ap (λ (b : Bool). cond b (Some (stepped e.edits.steps e.own)) code)
    (and_from (e.spot.class == n) (e.spot.method == k)
    (eq-eqb e.spot.class n (ap (λ (x : EditedMethod). x.spot.class) same ∙ class))
    (eq-eqb e.spot.method k (ap (λ (x : EditedMethod). x.spot.method) same ∙ method)))
    ∙ ap (λ (x : EditedMethod). Some (stepped x.edits.steps x.own)) same
one_stands n k (e ∷ ds) code ordered (suc j) d at class method =
    one_stands n k ds (put_one n k (new_of e) code) ordered.1 j d at class method

-- ---- what isn't a code

changed_map : {X Y : Type 0} (g : X → Y) (f : X → X) → ((x : X) → g (f x) ≡ g x) → (n : ℕ) (xs : List X)
    → map g (changed_at n f xs) ≡ map g xs
changed_map g f same n [] = refl
changed_map {Y = Y} g f same zero (x ∷ xs) = ap (λ (y : Y). y ∷ map g xs) (same x)
changed_map {Y = Y} g f same (suc n) (x ∷ xs) = ap (λ (ys : List Y). g x ∷ ys) (changed_map g f same n xs)

class_bare : (number : ℕ) (code : Code) (c : Class) → bare (class_with_code number code c) ≡ bare c
class_bare number code c =
    λ i. record c { methods = changed_map bare_method (method_with_code code) (λ m. refl) number c.methods i }

pub codes_bare : (codes : List NewCode) (classes : List Class) → map bare (with_codes codes classes) ≡ map bare classes
codes_bare [] classes = refl
codes_bare (x ∷ codes) classes =
    codes_bare codes (set_with_code classes x.class x.method x.code)
    ∙ changed_map bare (class_with_code x.method x.code) (class_bare x.method x.code) x.class classes
