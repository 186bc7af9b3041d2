-- Supertypes whose names are matched, by those of the superclass.
use Rattle.std.proofs.Common.{◌≡◌, ℕ, zero, suc, ◌<◌, ◌≤◌, Bool, true, false, not, ◌&&◌, ◌||◌, List, [], ◌∷◌, ◌++◌}
use Rattle.std.proofs.Common.{length, get_or, Option, Some, None, refl, sym, ap, ◌∙◌, subst, arith}
use Rattle.std.specs.Prelude.{IfSome}
use Rattle.std.specs.List.{All, list_any}
use Rattle.std.specs.Option.{option_map_or}
use Rattle.std.proofs.lemmas.List.Elements.{All-append, All-cons, All-head, All-nil, All-tail, All-weaker}
use Rattle.jv_base.proofs.Lists.{all_flat}
use Rattle.class_model.specs.declared.class.Class.{Class}
use Rattle.lib_table.proofs.Computed.{count}
use Rattle.class_pool.specs.declared.id.ClassId.{ClassId}
use Rattle.class_pool.specs.declared.id.ClassId.TheVariants.{Prog}
use Rattle.class_pool.specs.Found.{name_of}
use Rattle.class_pool.specs.Hierarchy.{IsClass, interfaces, superclass}
use Rattle.class_pool.specs.Ranks.{HasRanks}
use Rattle.class_pool.specs.Supertypes.{direct}
use Rattle.class_pool.specs.Walk.{highest, own_superinterfaces, same_class, superclasses_from, superinterfaces, supers}
use Rattle.class_pool.specs.Walk.{upwards, walked}
use Rattle.class_pool.proofs.Declaring.{superclass_there}
use Rattle.class_pool.proofs.Directs.{direct_valid}
use Rattle.class_pool.proofs.EachOnce.{same_is}
use Rattle.class_pool.proofs.Walking.{first_of, rest_of, superclasses_next}
use Rattle.class_pool.proofs.Within.{up_first}
use Rattle.keep_match.specs.bodies.Above.{is_met_at}
use Rattle.keep_match.specs.Matches.{matches_class_name}
use Rattle.keep_match.proofs.AboveLaw.{above_is, any_same, met_is, supers_is}

-- ---- ranks of what is met

module _ (classes : List Class) (r : HasRanks classes) (k : ℕ) where
  -- a class whose rank is below a number
  abbrev IsLow : ClassId → Type 0
  IsLow c = IsClass classes c × (r.rank c < k)

  direct_low : (c : ClassId) → IsLow c → All IsLow (direct classes c)
  direct_low c h i d within =
      let falls = r.falls c h.0 i d within in
      let low = h.1 in
      (direct_valid classes c i d within, omega (arith, falls, low))

  option_low : (f : ClassId → List ClassId) (o : Option ClassId) → IfSome o IsLow
      → ((d : ClassId) → IsLow d → All IsLow (f d)) → All IsLow (option_map_or f o [])
  option_low f None low h = All-nil IsLow
  option_low f (Some d) low h = h d low

  up_low : (n : ℕ) (c : ClassId) → IsLow c → All IsLow (upwards n classes c)
  unfolding upwards
  up_low zero c h = All-nil IsLow
  up_low (suc n) c h =
      All-cons IsLow c (option_map_or (upwards n classes) (superclass classes c) []) h
      (option_low (upwards n classes) (superclass classes c)
      (first_of IsLow (superclass classes c) (interfaces classes c) (direct_low c h)) (λ d low. up_low n d low))

  walked_low : (n : ℕ) (is : List ClassId) → All IsLow is → All IsLow (walked n classes is)
  unfolding walked
  walked_low zero is h = All-nil IsLow
  walked_low (suc n) is h =
      all_flat IsLow (λ i. i ∷ walked n classes (interfaces classes i)) is
      (λ j d within.
      let i = get_or is j d in
      All-cons IsLow i (walked n classes (interfaces classes i)) (h j d within)
      (walked_low n (interfaces classes i)
      (rest_of IsLow (superclass classes i) (interfaces classes i) (direct_low i (h j d within)))))

  -- all that is met from such a class upwards
  met_low : (c : ClassId) → IsLow c → All IsLow (superclasses_from classes c ++ superinterfaces classes c)
  met_low c h =
      All-append IsLow (superclasses_from classes c) (superinterfaces classes c) (up_low highest c h)
      (all_flat IsLow (own_superinterfaces classes) (superclasses_from classes c)
      (λ j d within.
      let x = get_or (superclasses_from classes c) j d in
      walked_low highest (interfaces classes x)
      (rest_of IsLow (superclass classes x) (interfaces classes x) (direct_low x (up_low highest c h j d within)))))

-- ---- classes that a test leaves out

-- the test of all classes but one
abbrev but : ClassId → (ClassId → Bool) → ClassId → Bool
but x test c = not (same_class c x) && test c

both : (a b c d : Bool) → a ≡ c → b ≡ d → (a || b) ≡ (c || d)
both a b c d p q = λ i. p i || q i

-- where the class has a higher rank than those of a list, nothing is left out
but_higher : (rank : ClassId → ℕ) (x : ClassId) (test : ClassId → Bool) (xs : List ClassId)
    → All (λ c. rank c < rank x) xs → list_any (but x test) xs ≡ list_any test xs
but_higher rank x test [] h = refl
but_higher rank x test (y ∷ ys) h =
    both (but x test y) (list_any (but x test) ys) (test y) (list_any test ys) (by (same_class y x) refl)
    (but_higher rank x test ys (All-tail (λ c. rank c < rank x) y ys h))
  where
    by : (b : Bool) → same_class y x ≡ b → (not (same_class y x) && test y) ≡ test y
    by true e =
        let less = All-head (λ c. rank c < rank x) y ys h in
        let same : rank y ≡ rank x = ap rank (same_is y x e) in
        absurd (omega (arith, less, same))
    by false e = ap (λ (b : Bool). not b && test y) e

-- where it is left out, it is tested before
but_first : (x : ClassId) (test : ClassId → Bool) (xs : List ClassId) (b : Bool) → test x ≡ b
    → (test x || list_any (but x test) (x ∷ xs)) ≡ list_any test (x ∷ xs)
but_first x test xs true e =
    ap (λ (t : Bool). t || list_any (but x test) (x ∷ xs)) e ∙ sym (ap (λ (t : Bool). t || list_any test xs) e)
but_first x test xs false e =
    ap (λ (t : Bool). t || list_any (but x test) (x ∷ xs)) e
    ∙ any_same (but x test) test (x ∷ xs) (λ c. by c (same_class c x) refl)
  where
    by : (c : ClassId) (b : Bool) → same_class c x ≡ b → (not (same_class c x) && test c) ≡ test c
    by c true s = ap (λ (b : Bool). not b && test c) s ∙ sym (ap test (same_is c x s) ∙ e)
    by c false s = ap (λ (b : Bool). not b && test c) s

-- ---- by the superclass

either : (t m : Bool) → (t || (m || true)) ≡ true
either true m = refl
either false true = refl
either false false = refl

turned : (m t : Bool) → (m || t) ≡ (t || (m || false))
turned true true = refl
turned true false = refl
turned false true = refl
turned false false = refl

module _ (pattern : List ℕ) (classes : List Class) (r : HasRanks classes) (n s : ℕ)
    (few : length classes ≤ 4294967295) (n-in : n < length classes)
    (is : superclass classes (Prog n) ≡ Some (Prog s)) where
  abbrev met : ClassId → Bool
  met c = matches_class_name pattern (name_of classes c)

  abbrev from_super : List ClassId
  from_super = superclasses_from classes (Prog s) ++ superinterfaces classes (Prog s)

  s-in : s < length classes
  s-in = subst (λ (o : Option ClassId). IfSome o (IsClass classes)) is (superclass_there classes (Prog n))

  s-low : r.rank (Prog s) < r.rank (Prog n)
  s-low = subst (λ (o : Option ClassId). IfSome o (λ c. r.rank c < r.rank (Prog n))) is
      (first_of (λ c. r.rank c < r.rank (Prog n)) (superclass classes (Prog n)) (interfaces classes (Prog n))
      (r.falls (Prog n) n-in))

  all_low : All (λ c. r.rank c < r.rank (Prog n)) from_super
  all_low =
      All-weaker (IsLow classes r (r.rank (Prog n))) (λ c. r.rank c < r.rank (Prog n)) (λ c h. h.1) from_super
      (met_low classes r (r.rank (Prog n)) (Prog s) (s-in, s-low))

  next : superclasses_from classes (Prog n) ≡ Prog n ∷ superclasses_from classes (Prog s)
  next =
      let most = r.most (Prog n) n-in in
      superclasses_next classes r.rank (Prog n) r.falls n-in (omega (arith, count, most, few))
      ∙ ap (λ (o : Option ClassId). Prog n ∷ option_map_or (superclasses_from classes) o []) is

  -- the test over the superclasses of the superclass
  super_is : list_any (is_met_at pattern classes n) (superclasses_from classes (Prog s))
      ≡ (met (Prog s) || list_any met (supers classes (Prog s)))
  super_is =
      sym (met_is pattern classes n (Prog s))
      ∙ but_higher r.rank (Prog n) met from_super all_low
      ∙ ap (λ (cs : List ClassId). list_any met (cs ++ superinterfaces classes (Prog s))) (up_first classes (Prog s))
      ∙ sym (but_first (Prog s) met
      (option_map_or (upwards 8589934591 classes) (superclass classes (Prog s)) [] ++ superinterfaces classes (Prog s))
      (met (Prog s)) refl)
      ∙ ap (λ (cs : List ClassId). met (Prog s) || list_any (but (Prog s) met)
      (cs ++ superinterfaces classes (Prog s))) (sym (up_first classes (Prog s)))
      ∙ ap (λ (t : Bool). met (Prog s) || t) (sym (supers_is pattern classes s))

  abbrev above : ℕ → Bool
  above m = list_any met (supers classes (Prog m))

  -- a name above a class is matched where that of its superclass or one of its own superinterfaces is, or one above the
  -- superclass
  by_super : above n ≡ (is_met_at pattern classes n (Prog n) || (met (Prog s) || above s))
  by_super =
      above_is pattern classes n ∙ ap (list_any (is_met_at pattern classes n)) next
      ∙ ap (λ (t : Bool). is_met_at pattern classes n (Prog n) || t) super_is

  pub met_above : (a : Bool)
      → a ≡ list_any (λ id. matches_class_name pattern (name_of classes id)) (supers classes (Prog s))
      → a ≡ true → a ≡ list_any (λ id. matches_class_name pattern (name_of classes id)) (supers classes (Prog n))
  met_above a known e =
      e ∙ sym (either (is_met_at pattern classes n (Prog n)) (met (Prog s)))
      ∙ ap (λ (t : Bool). is_met_at pattern classes n (Prog n) || (met (Prog s) || t)) (sym e ∙ known) ∙ sym by_super

  pub met_next : (a b : Bool)
      → a ≡ list_any (λ id. matches_class_name pattern (name_of classes id)) (supers classes (Prog s))
      → a ≡ false → b ≡ (matches_class_name pattern (name_of classes (Prog s)) || is_met_at pattern classes n (Prog n))
      → b ≡ list_any (λ id. matches_class_name pattern (name_of classes id)) (supers classes (Prog n))
  met_next a b known e h =
      h ∙ turned (met (Prog s)) (is_met_at pattern classes n (Prog n))
      ∙ ap (λ (t : Bool). is_met_at pattern classes n (Prog n) || (met (Prog s) || t)) (sym e ∙ known) ∙ sym by_super
