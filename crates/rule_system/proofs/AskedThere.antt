-- What rules ask for is there.
use Rattle.std.proofs.Common.{◌≡◌, ℕ, zero, suc, ◌+◌, ◌<◌, List, [], ◌∷◌, All, get_or, length, map, slice_get}
use Rattle.std.proofs.Common.{◌++◌, Option, Some, Result, Ok, Err, refl, sym, ap, subst, ◌∙◌, arith, length-append}
use Rattle.std.specs.Prelude.{IfOk}
use Rattle.std.specs.List.{enumerate_from, flat_map}
use Rattle.std.proofs.lemmas.List.{length-map}
use Rattle.std.proofs.lemmas.List.Elements.{All-nil}
use Rattle.class_model.specs.declared.class.Class.{Class}
use Rattle.class_pool.specs.Count.{item_count}
use Rattle.class_pool.specs.Found.{field_row, method_row, rows_in}
use Rattle.class_pool.specs.declared.id.ClassId.TheVariants.{Prog}
use Rattle.class_pool.proofs.ToldMembers.{rows_counted}
use Rattle.std.specs.Option.{option_map_or}
use Rattle.keep_rules.specs.declared.rules.Keep.{Keep}
use Rattle.keep_rules.specs.declared.rules.Rules.{Rules}
use Rattle.keep_match.specs.Asked.{are_asked, members_asked}
use Rattle.keep_match.specs.Seeds.{are_kept, places_of_true, seeds_of}
use Rattle.keep_match.proofs.RowLaw.{kept_width}
use Rattle.mark_core.specs.Valid.{Valid}
use Rattle.jv_base.specs.Outcome.{FaultIs, IsDue}
use Rattle.jv_base.specs.declared.outcome.Or.{Or}
use Rattle.mark_core.specs.declared.system.System.{System}
use Rattle.rule_system.specs.Required.{kept_by_rules, required, system_due}
use Rattle.require_sys.specs.Limits.{limited, limited_lists, within_limit}
use Rattle.require_sys.specs.Requires.{requires}
use Rattle.require_sys.specs.declared.kept.KeptByRules.{KeptByRules}
use Rattle.require_sys.specs.declared.limits.Counted.TheVariants.{Items}
use Rattle.require_sys.specs.declared.limits.TooMany.{TooMany}
use Rattle.rule_system.proofs.Limiting.{fault_due, limited_is, lists_on}
use Rattle.item_needs.specs.bodies.Asked.{AreMembers}
use Rattle.rule_system.proofs.Placing.{places_below}
use Rattle.rule_system.proofs.Validity.{flat_long, system_valid}

asked_width : (keeps : List Keep) (classes : List Class) (n : ℕ) (c : Class)
    → length (are_asked keeps classes (n, c)) ≡ length c.fields + length c.methods
asked_width keeps classes n c = simp (length-append, length-map)

module _ (classes : List Class) (keeps : List Keep) where
  abbrev asked_at : ℕ × Class → List ℕ
  asked_at p = places_of_true 0 (are_asked keeps classes p)

  asked_below : (s : ℕ) (cs : List Class)
      → ((k : ℕ) (c : Class) → slice_get cs k ≡ Some c → slice_get classes (s + k) ≡ Some c) → (k : ℕ)
      → All (λ i. i < length (rows_in classes (Prog (s + k)))) (get_or (map asked_at (enumerate_from s cs)) k [])
  asked_below s [] at k = All-nil (λ i. i < length (rows_in classes (Prog (s + k))))
  asked_below s (c ∷ cs) at zero =
      let rows = ap (λ (o : Option Class). length (option_map_or
      (λ (d : Class). map field_row d.fields ++ map method_row d.methods) o [])) (at zero c refl) in
      let counted = rows_counted c in
      let wide = asked_width keeps classes s c in
      places_below (length (rows_in classes (Prog (s + zero)))) 0 (are_asked keeps classes (s, c))
      (omega (arith, rows, counted, wide))
  asked_below s (c ∷ cs) at (suc k) =
      let e : s + 1 + k ≡ s + suc k = omega arith in
      subst (λ (j : ℕ). All (λ i. i < length (rows_in classes (Prog j))) (get_or (map asked_at (enumerate_from
      (s + 1) cs)) k [])) e
      (asked_below (s + 1) cs (λ j d is. let f : s + suc j ≡ s + 1 + j = omega arith in
      subst (λ (i : ℕ). slice_get classes i ≡ Some d) f (at (suc j) d is)) k)

pub are_members : (classes : List Class) (rules : Rules) → AreMembers classes (members_asked rules classes)
are_members classes rules n =
    let e : 0 + n ≡ n = omega arith in
    subst (λ (j : ℕ). All (λ i. i < length (rows_in classes (Prog j)))
    (get_or (map (asked_at classes rules.keeps) (enumerate_from 0 classes)) n [])) e
    (asked_below classes rules.keeps 0 classes (λ k c is. let f : k ≡ 0 + k = omega arith in
    subst (λ (i : ℕ). slice_get classes i ≡ Some c) f is) n)

pub seeds_below : (classes : List Class) (rules : Rules) → All (λ x. x < item_count classes) (seeds_of rules classes)
seeds_below classes rules =
    let long = flat_long (are_kept rules.keeps classes) (λ n c. kept_width rules.keeps classes n c) 0 classes in
    places_below (item_count classes) 0 (flat_map (are_kept rules.keeps classes) (enumerate_from 0 classes))
    (omega (arith, long))

-- the system of a set and of rules is a valid one
pub required_valid : (classes : List Class) (rules : Rules) → Valid (required classes rules)
required_valid classes rules =
    system_valid classes (kept_by_rules classes rules) (are_members classes rules) (seeds_below classes rules)

-- so is what system_of gives
pub due_valid : (r : Result System (Or TooMany)) (classes : List Class) (rules : Rules)
    → IsDue r (system_due classes rules) → IfOk r Valid
unfolding system_due
due_valid (Ok sys) classes rules h =
    subst Valid (sym (limited_is (required classes rules) sys h)) (required_valid classes rules)
due_valid (Err e) classes rules h = tt

-- what is due of a set and of rules, where there aren't too many items
pub whole_due : {X : Type 0} (r : Result System (Or TooMany)) (classes set : List Class) (rules : Rules)
    (kept : KeptByRules) (n : ℕ) (u v : X) → set ≡ classes → kept ≡ kept_by_rules classes rules → n ≡ item_count set
    → within_limit Items n (Ok u) ≡ Ok v → IsDue r (limited_lists (requires set kept))
    → IsDue r (system_due classes rules)
unfolding system_due
whole_due r classes set rules kept n u v same asked count fits due =
    let all : requires set kept ≡ required classes rules = λ i. requires (same i) (asked i) in
    let counted : within_limit Items (item_count set) (Ok u) ≡ Ok v =
    subst (λ (k : ℕ). within_limit Items k (Ok u) ≡ Ok v) count fits in
    subst (λ (s : System). IsDue r (limited s)) all
    (subst (λ (d : Result System TooMany). IsDue r d) (sym (lists_on (requires set kept) u v counted)) due)

pub items_fault : {X : Type 0} (classes set : List Class) (rules : Rules) (n : ℕ) (u : X) (e : Or TooMany)
    → set ≡ classes → n ≡ item_count set → FaultIs e (within_limit Items n (Ok u))
    → FaultIs e (system_due classes rules)
unfolding system_due
items_fault classes set rules n u e same count h =
    fault_due Items (item_count classes) u e (limited_lists (required classes rules))
    (subst (λ (k : ℕ). FaultIs e (within_limit Items k (Ok u))) (count ∙ ap item_count same) h)
