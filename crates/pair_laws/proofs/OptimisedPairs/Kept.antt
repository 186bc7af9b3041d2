-- What is kept of a set with the codes that become of it can be written under its new names.
use Rattle.std.proofs.Common.{List, Option, Some, None, sym, subst}
use Rattle.class_model.specs.declared.class.Class.{Class}
use Rattle.fresh_names.specs.declared.taken.TakenNames.{TakenNames}
use Rattle.image_laws.specs.TakenSet.TakenSet.{IsTaken}
use Rattle.keep_rules.specs.declared.rules.Rules.{Rules}
use Rattle.pass_driver.specs.Optimised.{with_codes}
use Rattle.rename_map.specs.Fixed.{Stay}
use Rattle.rename_map.specs.Names.{AreFixed, StaySo}
use Rattle.swap_laws.specs.Swapped.{IsSwapped}
use Rattle.swap_laws.proofs.Taken.{swap_keeps_taken}
use Rattle.pair_laws.specs.NamedForm.Laws.{IsLinked, OptimisedKeepsWritable}
use Rattle.pair_laws.proofs.NamedForm.Written.{kept_writable}
use Rattle.pair_laws.proofs.OptimisedPairs.OptimisedSet.{PassLaws, closed_too, count_too, edited_if, swapped_if}
use Rattle.pair_laws.proofs.OptimisedPairs.WritableCodes.{all_writable}
use Rattle.pair_laws.proofs.SwappedPairs.Clauses.{stay_same}

linked_set : (classes : List Class) → IsTaken classes → IsLinked classes
linked_set classes t = record { files = t.files; ascend = t.ascend; built = t.built; linked = t.linked }

-- no rule looks at a code, so the names that stay are the same
fixed_too : (a b : List Class) → IsSwapped a b → (rules : Rules) (taken : Option TakenNames) → AreFixed rules a taken
    → AreFixed rules b taken
fixed_too a b swapped rules None h = h
fixed_too a b swapped rules (Some taken) h =
    (h.0, subst (λ (stay : Stay). StaySo taken stay) (sym (stay_same a b swapped.alike rules)) h.1)

pub keeps_writable : PassLaws → OptimisedKeepsWritable
keeps_writable laws classes rules old marks o has taken typed closed all optimised =
    let new = with_codes o.codes classes in
    let swapped = swapped_if laws marks classes o taken typed rules.optimise optimised in
    let edited = edited_if laws marks classes o taken typed rules.optimise optimised in
    record {
      writable = kept_writable new rules old marks has (linked_set new (swap_keeps_taken classes new swapped taken))
          (closed_too classes new swapped rules marks closed)
          (all_writable marks classes o.codes o.witness.methods taken edited swapped all);
      count = count_too classes new swapped;
      fixed = fixed_too classes new swapped rules;
    }
