-- What `shrink` was due to write is found again, and belongs to the input.
use Rattle.std.proofs.Common.{◌≡◌, ◌⊎◌, inl, inr, ℕ, nat_le, Bool, true, cond, List, ◌++◌, length}
use Rattle.std.proofs.Common.{Some, Result, Ok, Err, refl, sym, ap, subst, ◌∙◌}
use Rattle.std.proofs.lemmas.Bool.{le-leb}
use Rattle.tree_io.specs.Files.{Files}
use Rattle.tree_io.specs.declared.file_at.FileAt.{FileAt}
use Rattle.class_files.specs.Input.{input_due}
use Rattle.class_files.specs.Output.{put_all}
use Rattle.class_files.specs.declared.input.InputFault.TheVariants.{TooManyFiles, TooManyClasses, TooLong}
use Rattle.mapping_file.specs.declared.mapping.Mapping.{Mapping}
use Rattle.witness_file.specs.declared.witness.Witness.{Witness}
use Rattle.command_frame.proofs.OneStep.{both_gave}
use Rattle.command_frame.specs.Refusal.{passed}
use Rattle.command_frame.specs.Steps.{IsFile, bytes_in, follows, stops}
use Rattle.command_frame.specs.declared.command.Plan.{Plan}
use Rattle.command_frame.specs.declared.refusal.Quantity.{Quantity}
use Rattle.command_frame.specs.declared.refusal.Quantity.TheVariants as quantity
use Rattle.command_frame.specs.declared.refusal.Refusal.{Refusal}
use Rattle.command_steps.specs.Config.{IsConfigured, IsRules}
use Rattle.command_steps.specs.Sets.{IsDirectory}
use Rattle.command_steps.specs.System.{or_many, or_nothing}
use Rattle.command_steps.specs.Texts.{or_bad_mapping, or_bad_witness}
use Rattle.check_command.specs.Due as check
use Rattle.check_command.specs.Due.{IsJudged, IsTexts, belongs, ok_plan}
use Rattle.check_command.specs.declared.finding.Texts.{Texts}
use Rattle.pair_laws.proofs.OwnPairs.Own.{own_pairs}
use Rattle.pair_laws.specs.OwnChecked.Again.{HasText, IsFoundAgain, PassesInputLimit, by_classes, by_files, by_length}
use Rattle.shrink_command.specs.Due as shrink
use Rattle.shrink_command.specs.declared.command.ShrinkFiles.{ShrinkFiles}
use Rattle.shrink_command.proofs.Paired.{IsResult, again, below, pass_laws, result, written_so}
use Rattle.shrink_core.specs.Again.{PlanIsChecked}

-- a told file that is no longer than 64 MiB
file_is : (files : Files) (q : Quantity) (path bytes : List ℕ) → HasText files path bytes
    → nat_le (length bytes) 67108864 ≡ true
    → bytes_in q path (Some bytes) ≡ cond (nat_le (length bytes) 67108864) (Ok bytes) (Err (passed q))
    → IsFile files q path (Ok bytes)
file_is files q path bytes has short is =
    sym (ap (bytes_in q path) has.there ∙ is ∙ ap (λ (b : Bool). cond b (Ok bytes) (Err (passed q))) short)

module _ (files : Files) (named : ShrinkFiles) (plan : Plan) (r : IsResult files named plan) where
  abbrev new : Files
  new = put_all files (r.shrunk.files ++ r.texts)

  abbrev written : List FileAt
  written = (below files named plan r).0

  found : IsFoundAgain files new named.config named.witness r.rules r.shrunk.mapping r.optimised.witness
      written
  found = again files named plan r

  configured : IsConfigured new named.config named.witness (Ok r.rules)
  configured =
      let k = both_gave (IsFile files quantity.Config named.config) (λ bytes. IsRules bytes named.witness) r.rules
      r.configured in
      follows k.0 (k.1 ∙ ap (bytes_in quantity.Config named.config) (sym found.config_stays)) k.2

  abbrev texts : Texts
  texts = record { mapping = r.shrunk.mapping; witness = r.optimised.witness }

  told : IsTexts new r.rules.mapping named.witness (Ok texts)
  told =
      let m = found.mapping_is in
      let w = found.witness_is in
      follows m.0 (file_is new quantity.Mapping r.rules.mapping m.0 m.1 (le-leb _ _ m.1.short) refl)
      (follows w.0 (file_is new quantity.Witness named.witness w.0 w.1 (le-leb _ _ w.1.short) refl)
      (follows r.shrunk.mapping (sym (ap or_bad_mapping m.2))
      (follows r.optimised.witness (sym (ap or_bad_witness w.2)) refl)))

  judged : IsJudged r.rules texts (record { input = r.inputs; output = written }) (Ok ok_plan)
  judged =
      let pair = own_pairs pass_laws r.inputs r.classes r.marks r.rules r.old r.optimised r.shrunk written
      (written_so files named plan r) in
      follows r.classes r.taken
      (follows r.kept.sys
      (sym (ap (or_many r.rules) r.kept.due ∙ ap (λ (b : Bool). or_nothing b r.kept.sys) r.kept.some))
      (belongs pair.0 refl))

  input_is : IsDirectory new r.rules.in_dir (Ok r.inputs)
  input_is = found.input_stays ∙ r.given

  abbrev Checked : Files → Result Plan Refusal → Type 0
  Checked = check.IsDue (record { config = named.config; witness = named.witness })

  says_ok : input_due new r.rules.out_dir ≡ Ok written → Checked new (Ok ok_plan)
  says_ok is = follows r.rules configured (follows texts told
      (follows (record { input = r.inputs; output = written }) (follows r.inputs input_is (follows written is refl)) judged))

  passes : (q : Quantity) → IsDirectory new r.rules.out_dir (Err (passed q)) → Checked new (Err (passed q))
  passes q is = follows r.rules configured (follows texts told
      (stops (passed q) (follows r.inputs input_is (stops (passed q) is refl)) refl))

  limit : PassesInputLimit new r.rules.out_dir → (q : Quantity) × Checked new (Err (passed q))
  limit (by_files is) = (quantity.Files, passes quantity.Files (TooManyFiles, is, refl))
  limit (by_classes is) = (quantity.Classes, passes quantity.Classes (TooManyClasses, is, refl))
  limit (by_length is) = (quantity.Input, passes quantity.Input (TooLong, is, refl))

  by_output : (input_due new r.rules.out_dir ≡ Ok written) ⊎ PassesInputLimit new r.rules.out_dir
      → Checked new (Ok ok_plan) ⊎ ((q : Quantity) × Checked new (Err (passed q)))
  by_output (inl is) = inl (says_ok is)
  by_output (inr passed_one) = inr (limit passed_one)

  is_checked : Checked (put_all files plan.files) (Ok ok_plan)
      ⊎ ((q : Quantity) × Checked (put_all files plan.files) (Err (passed q)))
  is_checked = subst (λ (put : List FileAt). Checked (put_all files put) (Ok ok_plan)
      ⊎ ((q : Quantity) × Checked (put_all files put) (Err (passed q)))) (sym r.files_are) (by_output found.output_is)

pub plan_checked : PlanIsChecked
plan_checked files config witness plan due =
    let named : ShrinkFiles = record { config = config; witness = witness } in
    is_checked files named plan (result files named plan due)
