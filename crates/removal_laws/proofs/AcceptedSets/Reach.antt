-- Which classes are proper supertypes of one can be tested, so where none is its own each class has a rank.
use Rattle.std.proofs.Common.{◌≡◌, ⊎_elim, ◌⊎◌, inl, inr, IsTrue, ℕ, zero, suc, ◌+◌, ◌<◌, ◌≤◌, Bool, true, false, cond}
use Rattle.std.proofs.Common.{List, [], ◌∷◌, length, refl, sym, ap, ◌∙◌, subst, arith, eq-eqb, ne_eqb}
use Rattle.std.specs.Prelude.{◌==◌}
use Rattle.std.specs.List.{All, AllByRecursion}
use Rattle.std.proofs.lemmas.Bool.{cases_eq, cases_lt}
use Rattle.std.proofs.lemmas.List.Elements.{All-from_recursion, All-nil, recursion_from_All}
use Rattle.class_model.specs.declared.class.Class.{Class}
use Rattle.class_pool.specs.bodies.Cycles.{HasTest}
use Rattle.class_pool.specs.Hierarchy.{IsClass}
use Rattle.class_pool.specs.Ranks.{HasRanks}
use Rattle.class_pool.specs.Supertypes.{IsClosed, IsProperSub, NoCycle, direct}
use Rattle.class_pool.specs.declared.id.ClassId.{ClassId}
use Rattle.class_pool.specs.declared.id.ClassId.TheVariants.{Prog, Lib}
use Rattle.class_pool.proofs.Above.{library_up, lifted}
use Rattle.class_pool.proofs.Directs.{direct_valid, none_above, proper_direct, proper_on}
use Rattle.class_pool.proofs.Ranking.{tests_rank}
use Rattle.image_laws.specs.ShrunkImage.Keeping.{rank}
use Rattle.removal_laws.proofs.RemovalBuilds.LeftLists.{rank_fewer, rank_most}

module _ (classes : List Class) (n : ℕ) where
  abbrev count : ℕ
  count = length classes

  abbrev Proper : ClassId → Type 0
  Proper b = IsProperSub classes (Prog n) b

  -- the set, and with it the library, has the class
  abbrev In : (ℕ → Bool) → ClassId → Type 0
  In set b = IsTrue (lifted set b)

  -- a proper supertype of the set of classes that isn't in this one
  pub record Missing (set : ℕ → Bool) : Type 0 where
    pub number : ℕ
    pub within : number < count
    pub proper : Proper (Prog number)
    pub out : set number ≡ false

  -- each number of it is that of a proper supertype
  abbrev Sound : (ℕ → Bool) → Type 0
  Sound set = (y : ℕ) → set y ≡ true → Proper (Prog y)

  -- it has the direct supertypes of its classes with numbers below k
  abbrev ClosedBelow : ℕ → (ℕ → Bool) → Type 0
  ClosedBelow k set = (y : ℕ) → y < k → set y ≡ true → AllByRecursion (In set) (direct classes (Prog y))

  look : (set : ℕ → Bool) (ids : List ClassId) → AllByRecursion (IsClass classes) ids → AllByRecursion Proper ids
      → Missing set ⊎ AllByRecursion (In set) ids
  look set [] there proper = inr tt
  look set (Lib id ∷ ids) there proper = ⊎_elim (λ m. inl m) (λ r. inr (refl, r)) (look set ids there.1 proper.1)
  look set (Prog x ∷ ids) there proper = by (set x) refl (look set ids there.1 proper.1)
    where
      by : (t : Bool) → set x ≡ t → Missing set ⊎ AllByRecursion (In set) ids
          → Missing set ⊎ AllByRecursion (In set) (Prog x ∷ ids)
      by true is (inl m) = inl m
      by true is (inr r) = inr (is, r)
      by false is r = inl (record { number = x; within = there.0; proper = proper.0; out = is })

  -- the direct supertypes of a class of which all are proper supertypes
  look_at : (set : ℕ → Bool) (a : ClassId) → All Proper (direct classes a)
      → Missing set ⊎ AllByRecursion (In set) (direct classes a)
  look_at set a proper =
      look set (direct classes a) (recursion_from_All (IsClass classes) (direct classes a) (direct_valid classes a))
      (recursion_from_All Proper (direct classes a) proper)

  scan : (set : ℕ → Bool) → Sound set → (k : ℕ) → Missing set ⊎ ClosedBelow k set
  scan set sound zero = inr (λ y low is. absurd (omega (arith, low)))
  scan set sound (suc k) = ⊎_elim (λ m. inl m) (λ rest. by (set k) refl rest) (scan set sound k)
    where
      with_one : ClosedBelow k set → (set k ≡ true → AllByRecursion (In set) (direct classes (Prog k)))
          → ClosedBelow (suc k) set
      with_one rest here y low is =
          ⊎_elim (λ same. subst (λ (z : ℕ). AllByRecursion (In set) (direct classes (Prog z))) (sym same)
          (here (ap set (sym same) ∙ is)))
          (λ other. rest y (omega (arith, low, other)) is) (cases_eq y k)

      by : (t : Bool) → set k ≡ t → ClosedBelow k set → Missing set ⊎ ClosedBelow (suc k) set
      by true is rest =
          ⊎_elim (λ m. inl m) (λ all. inr (with_one rest (λ e. all)))
          (look_at set (Prog k) (proper_on classes (Prog n) (Prog k) (sound k is)))
      by false is rest = inr (with_one rest (λ e. absurd (let f : true ≡ false = sym e ∙ is in cc)))

  -- it has the direct supertypes of the class, and of each of its own
  abbrev Done : (ℕ → Bool) → Type 0
  Done set = AllByRecursion (In set) (direct classes (Prog n)) × ClosedBelow count set

  step : (set : ℕ → Bool) → Sound set → Missing set ⊎ Done set
  step set sound =
      ⊎_elim (λ m. inl m) (λ start. ⊎_elim (λ m. inl m) (λ closed. inr (start, closed)) (scan set sound count))
      (look_at set (Prog n) (proper_direct classes (Prog n)))

  -- with one more
  abbrev put : ℕ → (ℕ → Bool) → ℕ → Bool
  put x set y = cond (y == x) true (set y)

  put_sound : (set : ℕ → Bool) → Sound set → (x : ℕ) → Proper (Prog x) → Sound (put x set)
  put_sound set sound x proper y is =
      ⊎_elim (λ same. subst (λ (z : ℕ). Proper (Prog z)) (sym same) proper)
      (λ other. sound y (sym (ap (λ (t : Bool). cond t true (set y)) (ne_eqb y x other)) ∙ is)) (cases_eq y x)

  more : (set : ℕ → Bool) (m : Missing set) → rank set 0 count < rank (put m.number set) 0 count
  more set m =
      let plain : 0 + m.number ≡ m.number = omega arith in
      rank_fewer set (put m.number set) (λ y is. kept y (y == m.number) is) 0 count m.number m.within
      (ap set plain ∙ m.out)
      (ap (put m.number set) plain ∙ ap (λ (t : Bool). cond t true (set m.number)) (eq-eqb m.number m.number refl))
    where
      kept : (y : ℕ) (t : Bool) → set y ≡ true → cond t true (set y) ≡ true
      kept y true is = refl
      kept y false is = is

  close : (gap : ℕ) (set : ℕ → Bool) → Sound set → count ≤ rank set 0 count + gap
      → (all : ℕ → Bool) × Sound all × Done all
  close zero set sound few =
      ⊎_elim
      (λ m.
      let one = more set m in
      let most = rank_most (put m.number set) 0 count in
      absurd (omega (arith, few, one, most)))
      (λ done. (set, sound, done)) (step set sound)
  close (suc gap) set sound few =
      ⊎_elim
      (λ m.
      let one = more set m in
      close gap (put m.number set) (put_sound set sound m.number m.proper) (omega (arith, few, one)))
      (λ done. (set, sound, done)) (step set sound)

  has_test : n < count → HasTest classes n
  has_test there =
      let found = close count (λ y. false) (λ y is. absurd cc) (omega arith) in (
        found.0,
        λ m within. (
          λ is. found.1 m is,
          λ proper. proper (lifted found.0)
              (All-from_recursion (In found.0) (direct classes (Prog n)) found.2.0)
              (closed found.0 found.2.1),
        ),
      )
    where
      closed : (set : ℕ → Bool) → ClosedBelow count set → IsClosed classes (lifted set)
      closed set below (Lib id) is = library_up classes set id
      closed set below (Prog y) is =
          ⊎_elim
          (λ low. All-from_recursion (In set) (direct classes (Prog y)) (below y low is))
          (λ over. subst (All (In set)) (sym (none_above classes (Prog y) (λ low. absurd (omega (arith, low, over)))))
          (All-nil (In set)))
          (cases_lt y count)

-- where no class is its own proper supertype, each has a rank
pub acyclic_ranks : (classes : List Class) → NoCycle classes → HasRanks classes
acyclic_ranks classes acyclic = tests_rank classes (λ n there. has_test classes n there) acyclic
