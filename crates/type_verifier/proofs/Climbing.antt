-- Walks upwards in long steps.
use Rattle.std.proofs.Common.{◌≡◌, ◌⊎◌, ◌≤◌, ◌<◌, ℕ, zero, suc, ◌+◌, Bool, true, false, ◌||◌, nat_eq}
use Rattle.std.proofs.Common.{List, [], ◌∷◌, length, set, Option, Some, None, inl, inr, refl, sym, ap, subst, ◌∙◌}
use Rattle.std.proofs.Common.{arith, ⊎_elim}
use Rattle.std.proofs.Common.{get_or-set_other, get_or-set_same}
use Rattle.std.specs.Prelude.{IfSome, slice_index_or}
use Rattle.std.specs.List.{All, list_any}
use Rattle.std.specs.Option.{option_map_or}
use Rattle.std.proofs.lemmas.Bool.{cases_eq, eq-eqb, eqb-true}
use Rattle.std.proofs.lemmas.List.Elements.{All-cons, All-head, All-nil, All-tail, All-weaker}
use Rattle.std.proofs.Math.Bool.{or-false}
use Rattle.class_model.specs.declared.class.Class.{Class}
use Rattle.lib_table.proofs.Computed.{count}
use Rattle.class_pool.specs.declared.id.ClassId.{ClassId}
use Rattle.class_pool.specs.declared.id.ClassId.TheVariants.{Prog, Lib}
use Rattle.class_pool.specs.Hierarchy.{IsClass, superclass}
use Rattle.class_pool.specs.Ranks.{HasRanks}
use Rattle.class_pool.specs.Resolution.{is_class_below}
use Rattle.class_pool.specs.Walk.{highest, same_class, superclasses_from, upwards}
use Rattle.class_pool.proofs.Declaring.{superclass_there}
use Rattle.class_pool.proofs.EachOnce.{same_is}
use Rattle.class_pool.proofs.Walking.{superclasses_next}
use Rattle.type_verifier.specs.declared.hierarchy.Step.{Step}
use Rattle.type_verifier.specs.bodies.Steps.{AreSteps, IsFar, IsFloor, IsStep, height}

-- ---- classes that aren't met

other_not : (classes : List Class) (to : ClassId) (xs : List ClassId)
    → All (λ x. height classes x < height classes to) xs
    → list_any (same_class to) xs ≡ false
other_not classes to [] h = refl
other_not classes to (x ∷ xs) h =
    ap (λ (b : Bool). b || list_any (same_class to) xs) (by (same_class to x) refl)
    ∙ other_not classes to xs (All-tail (λ y. height classes y < height classes to) x xs h)
  where
    by : (b : Bool) → same_class to x ≡ b → same_class to x ≡ false
    by false e = e
    by true e =
        let less = All-head (λ y. height classes y < height classes to) x xs h in
        let same : height classes to ≡ height classes x = ap (height classes) (same_is to x e) in
        absurd (omega (arith, less, same))

-- ---- steps that follow each other

lower : (classes : List Class) (a b : ℕ) (to : ClassId) → a ≤ b → IsFloor classes a to → IsFloor classes b to
lower classes a b (Prog m) le h = omega (arith, le, h)
lower classes a b (Lib id) le h = h

pub far_here : (classes : List Class) (n : ℕ) → n < length classes → IsFar classes n n
far_here classes n n-in = record { there = n-in; low = omega arith; same = λ to under. refl }

pub far_then : (classes : List Class) (a b c : ℕ) → IsFar classes a b → IsFar classes b c → IsFar classes a c
far_then classes a b c one two = record {
  there = two.there;
  low = let x = one.low in let y = two.low in omega (arith, x, y);
  same = λ to under. two.same to under
      ∙ one.same to (lower classes (height classes (Prog c)) (height classes (Prog b)) to two.low under);
}

module _ (classes : List Class) (r : HasRanks classes) (few : length classes ≤ 4294967295) where
  low : (c : ClassId) → IsClass classes c → r.rank c < 8589934592
  low c c-in = let most = r.most c c-in in omega (arith, most, few, count)

  -- a class, and then those from its superclass on
  next : (c : ClassId) → IsClass classes c
      → superclasses_from classes c ≡ c ∷ option_map_or (superclasses_from classes) (superclass classes c) []
  next c c-in = superclasses_next classes r.rank c r.falls c-in (low c c-in)

  above : (c s : ClassId) → IsClass classes c → superclass classes c ≡ Some s
      → superclasses_from classes c ≡ c ∷ superclasses_from classes s
  above c s c-in is = next c c-in
      ∙ ap (λ (o : Option ClassId). c ∷ option_map_or (superclasses_from classes) o []) is

  super_in : (c s : ClassId) → superclass classes c ≡ Some s → IsClass classes s
  super_in c s is = subst (λ (o : Option ClassId). IfSome o (IsClass classes)) is (superclass_there classes c)

  super_height : (c s : ClassId) → IsClass classes c → superclass classes c ≡ Some s
      → height classes c ≡ suc (height classes s)
  unfolding height
  super_height c s c-in is = ap length (above c s c-in is)

  -- ---- heights fall upwards

  up_low : (n : ℕ) (c : ClassId) → IsClass classes c
      → All (λ x. height classes x ≤ height classes c) (upwards n classes c)
  unfolding upwards
  up_low zero c c-in = All-nil (λ x. height classes x ≤ height classes c)
  up_low (suc n) c c-in =
      All-cons (λ x. height classes x ≤ height classes c) c
      (option_map_or (upwards n classes) (superclass classes c) [])
      (omega arith) (by (λ s s-in. up_low n s s-in) (superclass classes c) refl)
    where
      by : ((s : ClassId) → IsClass classes s → All (λ x. height classes x ≤ height classes s) (upwards n classes s))
          → (o : Option ClassId) → superclass classes c ≡ o
          → All (λ x. height classes x ≤ height classes c) (option_map_or (upwards n classes) o [])
      by more None is = All-nil (λ x. height classes x ≤ height classes c)
      by more (Some s) is =
          let one = super_height c s c-in is in
          All-weaker (λ x. height classes x ≤ height classes s) (λ x. height classes x ≤ height classes c)
          (λ x le. omega (arith, le, one)) (upwards n classes s) (more s (super_in c s is))

  -- a class of at least the height of another one is below it only where it is that one
  pub met_here : (m n : ℕ) → m < length classes → height classes (Prog m) ≤ height classes (Prog n)
      → nat_eq m n ≡ is_class_below classes (Prog m) (Prog n)
  met_here m n m-in le = sym (ap (list_any (same_class (Prog n))) (next (Prog m) m-in)
      ∙ by (superclass classes (Prog m)) refl ∙ turned n m)
    where
      turned : (i j : ℕ) → nat_eq i j ≡ nat_eq j i
      turned i j = ⊎_elim
          (λ e. eq-eqb i j e ∙ sym (eq-eqb j i (sym e)))
          (λ ne. told (nat_eq i j) (nat_eq j i) refl refl ne)
          (cases_eq i j)
        where
          told : (a b : Bool) → nat_eq i j ≡ a → nat_eq j i ≡ b → (i ≡ j → ⊥) → nat_eq i j ≡ nat_eq j i
          told true b ea eb ne = absurd (ne (eqb-true i j ea))
          told false true ea eb ne = absurd (ne (sym (eqb-true j i eb)))
          told false false ea eb ne = ea ∙ sym eb

      by : (o : Option ClassId) → superclass classes (Prog m) ≡ o
          → list_any (same_class (Prog n)) (Prog m ∷ option_map_or (superclasses_from classes) o []) ≡ nat_eq n m
      by None is = or-false (nat_eq n m)
      by (Some s) is =
          let more = super_height (Prog m) s m-in is in
          ap (λ (b : Bool). nat_eq n m || b)
          (other_not classes (Prog n) (superclasses_from classes s)
          (All-weaker (λ x. height classes x ≤ height classes s) (λ x. height classes x < height classes (Prog n))
          (λ x low. omega (arith, low, more, le)) (superclasses_from classes s)
          (up_low highest s (super_in (Prog m) s is))))
          ∙ or-false (nat_eq n m)

  -- ---- a step to the superclass

  -- a class that isn't met here is looked for from the superclass on
  super_same : (n s floor : ℕ) → n < length classes → superclass classes (Prog n) ≡ Some (Prog s)
      → floor < height classes (Prog n) → (to : ClassId) → IsFloor classes floor to
      → is_class_below classes (Prog s) to ≡ is_class_below classes (Prog n) to
  super_same n s floor n-in is high to under =
      sym (ap (list_any (same_class to)) (above (Prog n) (Prog s) n-in is)
      ∙ ap (λ (b : Bool). b || list_any (same_class to) (superclasses_from classes (Prog s))) (differs to under))
    where
      differs : (t : ClassId) → IsFloor classes floor t → same_class t (Prog n) ≡ false
      differs (Lib id) h = refl
      differs (Prog m) h = by (nat_eq m n) refl
        where
          by : (b : Bool) → nat_eq m n ≡ b → nat_eq m n ≡ false
          by false e = e
          by true e =
              let same : height classes (Prog m) ≡ height classes (Prog n) =
              ap (λ (k : ℕ). height classes (Prog k)) (eqb-true m n e) in
              absurd (omega (arith, same, h, high))

  pub super_if : (n floor : ℕ) (o : Option ℕ) → n < length classes → floor < height classes (Prog n)
      → IfSome o (λ s. superclass classes (Prog n) ≡ Some (Prog s))
      → IfSome o (λ s. (to : ClassId) → IsFloor classes floor to
      → is_class_below classes (Prog s) to ≡ is_class_below classes (Prog n) to)
  super_if n floor None n-in high h = tt
  super_if n floor (Some s) n-in high h = super_same n s floor n-in h high

  super_there : (n s : ℕ) → superclass classes (Prog n) ≡ Some (Prog s) → s < length classes
  super_there n s is = super_in (Prog n) (Prog s) is

  super_far : (n s : ℕ) → n < length classes → superclass classes (Prog n) ≡ Some (Prog s) → IsFar classes n s
  super_far n s n-in is = record {
    there = super_there n s is;
    low = let more = super_height (Prog n) (Prog s) n-in is in omega (arith, more);
    same = λ to under.
        let more = super_height (Prog n) (Prog s) n-in is in
        super_same n s (height classes (Prog s)) n-in is (omega (arith, more)) to under;
  }

  -- what is known of a class by its superclass
  pub step_super : (n s far : ℕ) (step new : Step) → n < length classes → superclass classes (Prog n) ≡ Some (Prog s)
      → IsStep classes s step → IsFar classes s far → new ≡ record { height = step.height + 1; far = far }
      → IsStep classes n new
  step_super n s far step new n-in is known h e = record {
    height = let more = super_height (Prog n) (Prog s) n-in is in
        let old = known.height in
        ap (λ (x : Step). x.height) e ∙ omega (arith, more, old);
    far = subst (IsFar classes n) (sym (ap (λ (x : Step). x.far) e))
        (far_then classes n s far (super_far n s n-in is) h);
  }

-- ---- long steps

-- what is known of a class, where something is
pub known_at : (classes : List Class) (steps : List (Option Step)) (n : ℕ) (step : Step) → AreSteps classes steps
    → slice_index_or steps n None ≡ Some step → IsStep classes n step
known_at classes steps n step are is = subst (λ (o : Option Step). IfSome o (IsStep classes n)) is (are n)

pub far_same : (classes : List Class) (n floor : ℕ) (step far : Step) → IsStep classes n step
    → IsStep classes step.far far → floor ≤ far.height → (to : ClassId) → IsFloor classes floor to
    → is_class_below classes (Prog step.far) to ≡ is_class_below classes (Prog n) to
far_same classes n floor step far known other le to under =
    known.far.same to (lower classes floor (height classes (Prog step.far)) to
    (let h = other.height in omega (arith, h, le)) under)

-- ---- heights

up_long : (n : ℕ) (classes : List Class) (c : ClassId) → length (upwards n classes c) ≤ n
unfolding upwards
up_long zero classes c = omega arith
up_long (suc n) classes c = by (λ s. up_long n classes s) (superclass classes c)
  where
    by : ((s : ClassId) → length (upwards n classes s) ≤ n) → (o : Option ClassId)
        → suc (length (option_map_or (upwards n classes) o [])) ≤ suc n
    by more None = omega arith
    by more (Some s) = let le = more s in omega (arith, le)

-- no class stands higher than the bound of walks
height_bound : (classes : List Class) (c : ClassId) → height classes c ≤ 8589934592
unfolding height
height_bound classes c = up_long highest classes c

pub one_higher : (classes : List Class) (c : ClassId) (h : ℕ) → h ≡ height classes c → h + 1 ≤ 8589934593
one_higher classes c h is = at (height classes c) (height_bound classes c) is
  where
    at : (k : ℕ) → k ≤ 8589934592 → h ≡ k → h + 1 ≤ 8589934593
    at k le e = omega (arith, le, e)

none_yet : (n : ℕ) → 0 + n ≡ n
none_yet n = omega arith

pub counted_none : (classes : List Class) (c : ClassId) (left : List ClassId) → left ≡ superclasses_from classes c
    → 0 + length left ≡ height classes c
unfolding height
counted_none classes c left is = none_yet (length left) ∙ ap length is

pub counted_more : (c : ClassId) (left further : List ClassId) (h due : ℕ) → left ≡ c ∷ further → h + length left ≡ due
    → (h + 1) + length further ≡ due
counted_more c left further h due is so_far = by (length left) (length further) (ap length is) so_far
  where
    by : (x y : ℕ) → x ≡ suc y → h + x ≡ due → (h + 1) + y ≡ due
    by x y e f = omega (arith, e, f)

pub counted_all : (left : List ClassId) (h due : ℕ) → left ≡ [] → h + length left ≡ due → h ≡ due
counted_all left h due is so_far = by (length left) (ap length is) so_far
  where
    by : (x : ℕ) → x ≡ 0 → h + x ≡ due → h ≡ due
    by x e f = omega (arith, e, f)

pub count_low : (classes : List Class) (c : ClassId) (h more : ℕ) → h + more ≡ height classes c → h ≤ 8589934592
count_low classes c h more is = by (height classes c) (height_bound classes c) is
  where
    by : (due : ℕ) → due ≤ 8589934592 → h + more ≡ due → h ≤ 8589934592
    by due le e = omega (arith, le, e)

-- ---- the table

put_here : (classes : List Class) (old : List (Option Step)) (i n : ℕ) (step : Step) → AreSteps classes old
    → i < length old → IsStep classes i step → (n ≡ i) ⊎ (n ≡ i → ⊥)
    → IfSome (slice_index_or (set old i (Some step)) n None) (IsStep classes n)
put_here classes old i n step are lt is (inl e) =
    subst (λ (m : ℕ). IfSome (slice_index_or (set old i (Some step)) m None) (IsStep classes m)) (sym e)
    (subst (λ (o : Option Step). IfSome o (IsStep classes i)) (sym (get_or-set_same old i (Some step) None lt)) is)
put_here classes old i n step are lt is (inr ne) =
    subst (λ (o : Option Step). IfSome o (IsStep classes n)) (sym (get_or-set_other old i n (Some step) None ne))
    (are n)

pub steps_put : (classes : List Class) (old new : List (Option Step)) (i : ℕ) (step : Step) → AreSteps classes old
    → i < length old → IsStep classes i step → new ≡ set old i (Some step) → AreSteps classes new
steps_put classes old new i step are lt is put =
    subst (AreSteps classes) (sym put) (λ n. put_here classes old i n step are lt is (cases_eq n i))
