-- One thing at most is due of told files: one plan, or one refusal.
use Rattle.std.proofs.Common.{◌≡◌, ℕ, Bool, List, Option, Some, None, Result, Ok, Err, refl, sym, ap, subst, ◌∙◌}
use Rattle.jv_base.proofs.Results.{same_fault, same_ok}
use Rattle.tree_io.specs.Files.{Files}
use Rattle.class_model.specs.declared.class.Class.{Class}
use Rattle.keep_rules.specs.declared.rules.Rules.{Rules}
use Rattle.image_laws.specs.TakenSet.TakenSet.{IsTaken}
use Rattle.mark_core.specs.declared.system.System.{System}
use Rattle.optimised_laws.proofs.OneOptimised.{one_optimised}
use Rattle.pass_driver.specs.Optimised.{with_codes}
use Rattle.pass_driver.specs.declared.optimising.Optimised.{Optimised}
use Rattle.removal_laws.proofs.AcceptedSets.Taken.{are_taken}
use Rattle.type_verifier.specs.Verified.{AreTyped}
use Rattle.rule_system.specs.Required.{system_due}
use Rattle.set_shrink.proofs.OneShrunk.{not_both_shrunk, one_limit, one_shrunk}
use Rattle.set_shrink.specs.Texts.{texts_due}
use Rattle.command_frame.proofs.OneStep.{IsOne, no_err, one_value, then_one}
use Rattle.command_frame.specs.Steps.{Then, follows, stops}
use Rattle.command_frame.specs.declared.refusal.Refusal.{Refusal}
use Rattle.command_steps.proofs.OneStep.{one_config_apart, one_directory, one_taken}
use Rattle.command_steps.specs.Config.{IsConfigApart}
use Rattle.command_steps.specs.Sets.{IsDirectory, IsSet}
use Rattle.command_steps.specs.System.{IsSystem, or_many}
use Rattle.command_steps.specs.Texts.{AreEarlier, IsEarlier, IsMapping, or_bad_mapping}
use Rattle.command_frame.specs.declared.refusal.Quantity.TheVariants as quantity
use Rattle.std.specs.FinMap.{get}
use Rattle.command_frame.specs.Steps.{IsFile, bytes_in}
use Rattle.mapping_file.specs.MapReading.{read_mapping}
use Rattle.mapping_file.specs.declared.mapping.Mapping.{Mapping}
use Rattle.shrink_command.specs.Due.{AreMarks, AreOptimised, FollowsCodes, FollowsEarlier, FollowsInput, FollowsMarks}
use Rattle.shrink_command.specs.Due.{FollowsOutput, FollowsRules, FollowsSystem, IsEmptied, IsPlan, IsPlanned, IsWritten, Joins, limit_told, or_long, plan_for}
use Rattle.shrink_command.specs.OneDue.{IsOneDue}
use Rattle.shrink_command.proofs.Planned.{found_readable}
use Rattle.shrink_command.proofs.SameMarks.{same_marks}

-- ---- the output directory

one_emptied : (files : Files) (directory : List ℕ) → IsOne (IsEmptied files directory)
one_emptied files directory (Ok one) (Ok other) h k = refl
one_emptied files directory (Ok one) (Err refusal) h k = absurd (k.1 h)
one_emptied files directory (Err refusal) (Ok other) h k = absurd (h.1 k)
one_emptied files directory (Err refusal) (Err other) h k = ap Err (h.0 ∙ sym k.0)

-- ---- the earlier mapping

one_earlier : (files : Files) (path : Option (List ℕ)) → IsOne (IsEarlier files path)
one_earlier files None = one_value (Ok None)
one_earlier files (Some path) = then_one (IsFile files quantity.Mapping path) AreEarlier
    (one_value (bytes_in quantity.Mapping path (get files path)))
    (λ bytes. then_one (IsMapping bytes) (λ mapping due. due ≡ Ok (Some mapping))
    (one_value (or_bad_mapping (read_mapping bytes))) (λ mapping. one_value (Ok (Some mapping))))

-- ---- the plan

one_marked : (sys : System) → IsOne (AreMarks sys)
one_marked sys (Ok marks) (Ok other) h k = ap Ok (same_marks sys marks other h k)
one_marked sys (Ok marks) (Err refusal) h k = absurd k
one_marked sys (Err refusal) other h k = absurd h

one_written : (rules : Rules) (old : Option Mapping) (classes : List Class) (marks : List Bool) → IsOne (IsWritten rules old classes marks)
one_written rules old classes marks (Ok shrunk) (Ok other) h k =
    ap Ok (one_shrunk classes marks rules old shrunk other h k)
one_written rules old classes marks (Ok shrunk) (Err refusal) h k =
    absurd (not_both_shrunk classes marks rules old shrunk k.0 h k.1)
one_written rules old classes marks (Err refusal) (Ok shrunk) h k =
    absurd (not_both_shrunk classes marks rules old shrunk h.0 k h.1)
one_written rules old classes marks (Err refusal) (Err other) h k =
    ap Err (h.2 ∙ (ap limit_told (one_limit classes marks rules old h.0 k.0 h.1 k.1) ∙ sym k.2))

-- two steps, of which the second is one where the first gave something
module _ {A B : Type 0} (First : Result A Refusal → Type 0) (Next : A → Result B Refusal → Type 0) where
  then_one_so : IsOne First → ((x : A) → First (Ok x) → IsOne (Next x)) → IsOne (Then First Next)
  then_one_so first next one other (stops r h e) (stops s k f) =
      e ∙ (ap Err (same_fault r s (first (Err r) (Err s) h k)) ∙ sym f)
  then_one_so first next one other (stops r h e) (follows x k f) = absurd (no_err x r (first (Ok x) (Err r) k h))
  then_one_so first next one other (follows x h e) (stops s k f) = absurd (no_err x s (first (Ok x) (Err s) h k))
  then_one_so first next one other (follows x h e) (follows y k f) =
      let same : x ≡ y = same_ok x y (first (Ok x) (Ok y) h k) in
      next y k one other (subst (λ (x : A). Next x one) same e) f

one_optimised_by : (rules : Rules) (classes : List Class) (marks : List Bool) → IsTaken classes → AreTyped classes
    → IsOne (AreOptimised rules classes marks)
one_optimised_by rules classes marks taken typed (Ok o) (Ok other) h k =
    ap Ok (one_optimised rules.optimise marks classes o other taken typed h k)
one_optimised_by rules classes marks taken typed (Ok o) (Err refusal) h k = absurd k
one_optimised_by rules classes marks taken typed (Err refusal) other h k = absurd h

one_of_codes : (rules : Rules) (old : Option Mapping) (witness : List ℕ) (classes : List Class) (marks : List Bool) (o : Optimised)
    → IsOne (FollowsCodes rules old witness classes marks o)
one_of_codes rules old witness classes marks o =
    then_one (IsWritten rules old (with_codes o.codes classes) marks) _
    (one_written rules old (with_codes o.codes classes) marks)
    (λ shrunk. then_one _ (IsPlan shrunk o.witness o.fallback)
    (one_value (or_long (texts_due shrunk.mapping o.witness classes marks rules witness)))
    (λ texts. one_value (Ok (plan_for shrunk o.witness o.fallback texts))))

one_planned : (rules : Rules) (old : Option Mapping) (witness : List ℕ) (classes : List Class) → IsTaken classes → AreTyped classes
    → IsOne (IsPlanned rules old witness classes)
one_planned rules old witness classes taken typed =
    then_one (IsSystem rules classes) (FollowsSystem rules old witness classes)
    (one_value (or_many rules (system_due classes rules)))
    (λ sys. then_one (AreMarks sys) (FollowsMarks rules old witness classes) (one_marked sys)
    (λ marks. then_one (AreOptimised rules classes marks) (FollowsCodes rules old witness classes marks)
    (one_optimised_by rules classes marks taken typed) (one_of_codes rules old witness classes marks)))

-- ---- the law

pub one_due : IsOneDue
one_due files named one other h k =
    then_one (IsConfigApart files named.config named.witness) (FollowsRules files named.witness)
    (one_config_apart files named.config named.witness)
    (λ rules. then_one (IsEarlier files rules.apply) (FollowsEarlier files named.witness rules)
    (one_earlier files rules.apply)
    (λ old. then_one (IsEmptied files rules.out_dir) (λ done. FollowsOutput files named.witness rules old)
    (one_emptied files rules.out_dir)
    (λ done. then_one_so (IsDirectory files rules.in_dir) (FollowsInput rules old named.witness)
    (one_directory files rules.in_dir)
    (λ inputs given. then_one_so (IsSet rules.in_dir inputs) (IsPlanned rules old named.witness)
    (one_taken rules.in_dir inputs)
    (λ classes accepted. one_planned rules old named.witness classes
    (are_taken inputs classes (found_readable files rules.in_dir inputs given) accepted) accepted.typed)))))
    one other h k
