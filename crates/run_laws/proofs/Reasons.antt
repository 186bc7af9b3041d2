-- What the steps of `compare` before both runs refuse is refused for another reason than that the output differs.
use Rattle.std.proofs.Common.{◌≡◌, ◌≢◌, ℕ, Bool, true, false, List, Option, Some, None, Result, Ok, Err, cond, sym, subst}
use Rattle.std.specs.Prelude.{length, nat_le}
use Rattle.std.specs.FinMap.{get}
use Rattle.jv_base.proofs.Results.{same_fault}
use Rattle.tree_io.specs.Files.{Files}
use Rattle.class_files.specs.declared.input.InputFault.{InputFault}
use Rattle.class_files.specs.declared.input.InputFault.TheVariants as input
use Rattle.class_model.specs.declared.class.Class.{Class}
use Rattle.keep_rules.specs.declared.rules.Rules.{Rules}
use Rattle.mapping_file.specs.MapReading.{read_mapping}
use Rattle.mapping_file.specs.declared.mapping.MapFault.{MapFault}
use Rattle.mapping_file.specs.declared.mapping.Mapping.{Mapping}
use Rattle.set_read.specs.declared.fault.SetFault.{SetFault}
use Rattle.set_read.specs.declared.fault.SetFault.TheVariants as set
use Rattle.command_frame.specs.Refusal.{absent, passed, quantity_limit}
use Rattle.command_frame.specs.Steps.{IsFile, Then, bytes_in, follows, stops}
use Rattle.command_frame.specs.declared.refusal.Quantity.{Quantity}
use Rattle.command_frame.specs.declared.refusal.Quantity.TheVariants as quantity
use Rattle.command_frame.specs.declared.refusal.Reason.TheVariants.{Differs}
use Rattle.command_frame.specs.declared.refusal.Refusal.{Refusal}
use Rattle.command_frame.specs.declared.stop.Stop.TheVariants.{Refused}
use Rattle.command_steps.specs.Config.{IsConfigured, IsRules}
use Rattle.command_steps.specs.Sets.{IsDirectory, IsSet, input_stop, set_refused}
use Rattle.command_steps.specs.Texts.{IsMapping, or_bad_mapping}
use Rattle.run_command.specs.Due.{IsStart, no_entry, or_no_entry, start_in}
use Rattle.run_command.specs.declared.entries.Start.{Start}
use Rattle.compare_command.specs.Due.{IsMappingAt, IsSeed, IsSeedStart, IsSetAt, or_no_seed}
use Rattle.compare_command.specs.Seeds.{is_seed}
use Rattle.compare_command.specs.declared.command.CompareFiles.{CompareFiles}

-- another reason
abbrev pub IsOther : Refusal → Type 0
IsOther refusal = refusal.reason ≢ Differs

-- what a step refuses is refused for another reason
abbrev pub AreOthers : {A : Type 0} → (Result A Refusal → Type 0) → Type 0
AreOthers Step = (refusal : Refusal) → Step (Err refusal) → IsOther refusal

module _ {A B : Type 0} (First : Result A Refusal → Type 0) (Next : A → Result B Refusal → Type 0) where
  pub others_then : AreOthers First → ((x : A) → First (Ok x) → AreOthers (Next x)) → AreOthers (Then First Next)
  others_then first next refusal (stops stop h e) =
      subst IsOther (sym (same_fault refusal stop e)) (first stop h)
  others_then first next refusal (follows x h k) = next x h refusal k

-- ---- files

file_by : (q : Quantity) (path : List ℕ) (o : Option (List ℕ)) → AreOthers (λ due. due ≡ bytes_in q path o)
file_by q path None refusal e = subst IsOther (sym (same_fault refusal (absent path) e)) (λ w. cc)
file_by q path (Some bytes) refusal e = by (nat_le (length bytes) (quantity_limit q)) e
  where
    by : (b : Bool) → (let R : Result (List ℕ) Refusal = Err refusal in R) ≡ cond b (Ok bytes) (Err (passed q))
        → IsOther refusal
    by true e = absurd cc
    by false e = subst IsOther (sym (same_fault refusal (passed q) e)) (λ w. cc)

file_others : (files : Files) (q : Quantity) (path : List ℕ) → AreOthers (IsFile files q path)
file_others files q path = file_by q path (get files path)

-- ---- the config

pub config_others : (files : Files) (config witness : List ℕ) → AreOthers (IsConfigured files config witness)
config_others files config witness =
    others_then (IsFile files quantity.Config config) (λ bytes. IsRules bytes witness)
    (file_others files quantity.Config config)
    (λ bytes found refusal h. subst IsOther (sym h.2) (λ w. cc))

-- ---- the mapping

mapping_by : (r : Result Mapping MapFault) → AreOthers (λ due. due ≡ or_bad_mapping r)
mapping_by (Ok mapping) refusal e = absurd cc
mapping_by (Err fault) refusal e = subst IsOther (sym (same_fault refusal _ e)) (λ w. cc)

pub mapping_others : (files : Files) (path : List ℕ) → AreOthers (IsMappingAt files path)
mapping_others files path =
    others_then (IsFile files quantity.Mapping path) IsMapping (file_others files quantity.Mapping path)
    (λ text found. mapping_by (read_mapping text))

-- ---- class files

same_refusal : (one other : Refusal) → Refused one ≡ Refused other → one ≡ other
same_refusal one other h = cc

directory_by : (fault : InputFault) (refusal : Refusal) → input_stop fault ≡ Refused refusal → IsOther refusal
directory_by input.TooManyFiles refusal e = subst IsOther (same_refusal (passed quantity.Files) refusal e) (λ w. cc)
directory_by input.TooManyClasses refusal e = subst IsOther (same_refusal (passed quantity.Classes) refusal e) (λ w. cc)
directory_by input.TooLong refusal e = subst IsOther (same_refusal (passed quantity.Input) refusal e) (λ w. cc)
directory_by (input.Absent path) refusal e = subst IsOther (same_refusal (absent path) refusal e) (λ w. cc)
directory_by input.Failed refusal e = absurd cc
directory_by input.OutOfMemory refusal e = absurd cc

set_by : (directory : List ℕ) (fault : SetFault) → IsOther (set_refused directory fault)
set_by directory (set.Format path fault) = λ w. cc
set_by directory (set.Rule fault) = λ w. cc

pub set_others : (files : Files) (directory : List ℕ) → AreOthers (IsSetAt files directory)
set_others files directory =
    others_then (IsDirectory files directory) (IsSet directory)
    (λ refusal h. directory_by h.0 refusal h.2)
    (λ inputs found refusal h. subst IsOther (sym h.2) (set_by directory h.0))

-- ---- the entry

start_by : (text : List ℕ) (o : Option Start) → AreOthers (λ due. due ≡ or_no_entry text o)
start_by text None refusal e = subst IsOther (sym (same_fault refusal (no_entry text) e)) (λ w. cc)
start_by text (Some start) refusal e = absurd cc

seed_by : (text : List ℕ) (start : Start) (b : Bool) → AreOthers (λ due. due ≡ or_no_seed text start b)
seed_by text start true refusal e = absurd cc
seed_by text start false refusal e = subst IsOther (sym (same_fault refusal (no_entry text) e)) (λ w. cc)

pub start_others : (rules : Rules) (classes : List Class) (named : CompareFiles)
    → AreOthers (IsSeedStart rules classes named)
start_others rules classes named =
    others_then (IsStart classes named.entry named.words) (IsSeed rules classes named.entry)
    (start_by named.entry (start_in classes named.entry named.words))
    (λ start found. seed_by named.entry start (is_seed rules classes start.entry.key))
