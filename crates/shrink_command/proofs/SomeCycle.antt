-- No class is its own proper supertype, or a first one is.
use Rattle.std.proofs.Common.{◌≡◌, ◌⊎◌, inl, inr, ⊎_elim, ℕ, zero, suc, ◌≤◌, ◌<◌, Bool, true, false, List, [], ◌∷◌}
use Rattle.std.proofs.Common.{length, map}
use Rattle.std.proofs.Common.{slice_get, Some, refl, ap, subst, ◌∙◌, arith}
use Rattle.std.specs.Option.{option_map}
use Rattle.std.proofs.lemmas.Bool.{cases_eq, both_ways}
use Rattle.std.proofs.lemmas.List.{length-map}
use Rattle.std.proofs.lemmas.Option.{get_or_from_slice_get, slice_get-map, slice_get_cases}
use Rattle.mark_core.specs.Marks.{Marks, set_of}
use Rattle.mark_core.specs.declared.system.System.{System}
use Rattle.class_model.specs.declared.class.Class.{Class}
use Rattle.class_pool.specs.Faults.{IsFirstCycle}
use Rattle.class_pool.specs.bodies.Numbers.{IsHierarchy, above}
use Rattle.class_pool.specs.Supertypes.{IsCyclic, NoCycle}
use Rattle.class_pool.specs.declared.fault.PoolFault.{PoolFault}
use Rattle.class_pool.specs.declared.fault.PoolKind.TheVariants.{Cycle}
use Rattle.class_pool.proofs.Above.{above_below, valid}
use Rattle.class_pool.proofs.CycleLaws.{marked_proper, proper_marked}
use Rattle.shrink_command.proofs.SomeMarks.{some_marks}

-- ---- cycles

-- the direct supertypes of each class, and those of this one as seeds
abbrev hierarchy : List Class → Class → System
hierarchy classes c = record {
  n = length classes;
  seeds = above classes c;
  needs = map
      (above classes) classes;
  pairs = [];
}

is_hierarchy : (classes : List Class) (c : Class) → IsHierarchy classes (hierarchy classes c)
is_hierarchy classes c = record {
  count = refl;
  lists = length-map classes (above classes);
  needs = λ n d is. get_or_from_slice_get (map (above classes) classes) n (above classes d) []
      (slice_get-map (above classes) classes n ∙ ap (option_map (above classes)) is);
  pairs = refl;
  seeds = above_below classes (c.super_name ∷ c.interfaces);
}

cyclic_by : (classes : List Class) (n : ℕ) (c : Class) → slice_get classes n ≡ Some c → (marks : List Bool)
    → Marks (hierarchy classes c) marks
    → (b : Bool) → set_of marks n ≡ b → IsCyclic classes n ⊎ (IsCyclic classes n → ⊥)
cyclic_by classes n c is marks told true e =
    inl (marked_proper classes (hierarchy classes c) marks n n c (is_hierarchy classes c) is refl told e)
cyclic_by classes n c is marks told false e =
    inr (λ cyclic. both_ways (set_of marks n) e
    (proper_marked classes (hierarchy classes c) marks n n c (is_hierarchy classes c) is refl told cyclic))

cyclic_or : (classes : List Class) (n : ℕ) (c : Class) → slice_get classes n ≡ Some c
    → IsCyclic classes n ⊎ (IsCyclic classes n → ⊥)
cyclic_or classes n c is =
    let told = some_marks (hierarchy classes c) (valid classes (hierarchy classes c) (is_hierarchy classes c)) in
    cyclic_by classes n c is told.0 told.1 (set_of told.0 n) refl

abbrev NoneBelow : List Class → ℕ → Type 0
NoneBelow classes n = (m : ℕ) → m < n → IsCyclic classes m → ⊥

abbrev HasFirst : List Class → Type 0
HasFirst classes = (f : PoolFault) × IsFirstCycle classes f

one_more : (classes : List Class) (n : ℕ) (c : Class) → slice_get classes n ≡ Some c → NoneBelow classes n
    → IsCyclic classes n ⊎ (IsCyclic classes n → ⊥) → NoneBelow classes (suc n) ⊎ HasFirst classes
one_more classes n c is none (inl cyclic) = inr
    (record { class = c.name; kind = Cycle }, (n, c, is, refl, cyclic, none))
one_more classes n c is none (inr not) =
    inl (λ m lt cyclic. ⊎_elim (λ same. not (subst (IsCyclic classes) same cyclic))
    (λ other. none m (omega (arith, other, lt)) cyclic) (cases_eq m n))

first_below : (classes : List Class) (n : ℕ) → n ≤ length classes → NoneBelow classes n ⊎ HasFirst classes
first_below classes zero le = inl (λ m lt cyclic. absurd (omega (arith, lt)))
first_below classes (suc n) le =
    ⊎_elim
    (λ none. ⊎_elim (λ p. one_more classes n p.0 p.2 none (cyclic_or classes n p.0 p.2))
    (λ p. (let most = p.0 in absurd (omega (arith, most, le))))
    (slice_get_cases classes n).1)
    inr
    (first_below classes n (omega (arith, le)))

pub cycle_or : (classes : List Class) → NoCycle classes ⊎ HasFirst classes
cycle_or classes = first_below classes (length classes) (omega arith)
