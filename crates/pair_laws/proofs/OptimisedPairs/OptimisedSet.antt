-- The set with the codes that become of it is taken and typed, and marks that were closed for it stay so.
use Rattle.std.proofs.Common.{◌≡◌, Bool, true, false, List, sym, subst}
use Rattle.mark_core.specs.Marks.{Closed, set_of}
use Rattle.class_model.specs.declared.class.Class.{Class}
use Rattle.class_pool.specs.Count.{item_count}
use Rattle.image_laws.specs.TakenSet.TakenSet.{IsTaken}
use Rattle.keep_rules.specs.declared.rules.Rules.{Rules}
use Rattle.optimised_laws.specs.Laws.{SetsByRulesAreSwapped, SetsByRulesAreTyped}
use Rattle.pass_driver.specs.Optimised.{IsOptimisedIf, with_codes}
use Rattle.pass_driver.specs.declared.optimising.Optimised.{Optimised}
use Rattle.rule_system.specs.Required.{kept_by_rules, required}
use Rattle.require_sys.specs.Requires.{requires}
use Rattle.require_sys.specs.declared.kept.KeptByRules.{KeptByRules}
use Rattle.shape_laws.proofs.BareSets.{same}
use Rattle.swap_laws.specs.Swapped.{IsSwapped}
use Rattle.swap_laws.proofs.Closing.{swap_keeps_closed}
use Rattle.swap_laws.proofs.Taken.{items_same}
use Rattle.type_verifier.specs.Verified.{AreTyped}
use Rattle.pair_laws.proofs.OptimisedPairs.EditedMethods.{AreEdited, are_edited, none_edited}
use Rattle.pair_laws.proofs.OptimisedPairs.SteppedCodes.{FindsLegal}
use Rattle.pair_laws.proofs.SwappedPairs.Names.{kept_same}

-- what is known of the passes: what they find is legal, and a set with the codes that they leave is swapped for its own
-- and typed
pub record PassLaws : Type 0 where
  pub legal : FindsLegal
  pub swapped : SetsByRulesAreSwapped
  pub typed : SetsByRulesAreTyped

module _ (laws : PassLaws) (marks : List Bool) (classes : List Class) (o : Optimised) (taken : IsTaken classes)
    (typed : AreTyped classes) where
  pub swapped_if : (wanted : Bool) → IsOptimisedIf wanted marks classes o → IsSwapped classes (with_codes o.codes classes)
  swapped_if wanted h = laws.swapped wanted marks classes o taken typed h

  pub typed_if : (wanted : Bool) → IsOptimisedIf wanted marks classes o → AreTyped (with_codes o.codes classes)
  typed_if wanted h = laws.typed wanted marks classes o typed h

  pub edited_if : (wanted : Bool) → IsOptimisedIf wanted marks classes o → AreEdited marks classes o.codes o.witness.methods
  edited_if true h = are_edited marks classes o.codes o.witness.methods o.fallback h
  edited_if false h =
      subst (λ (p : Optimised). AreEdited marks classes p.codes p.witness.methods) (sym h) (none_edited marks classes)

-- ---- marks

module _ (a b : List Class) (swapped : IsSwapped a b) where
  pub closed_too : (rules : Rules) (marks : List Bool) → Closed (required a rules) (set_of marks)
      → Closed (required b rules) (set_of marks)
  closed_too rules marks closed =
      subst (λ (kept : KeptByRules). Closed (requires b kept) (set_of marks)) (sym (kept_same a b swapped.alike rules))
      (swap_keeps_closed a b (kept_by_rules a rules) (set_of marks) swapped closed)

  pub count_too : item_count b ≡ item_count a
  count_too = same a b swapped.alike item_count items_same
