-- What is written is a pair with what was read.
use Rattle.std.proofs.Common.{◌≡◌, ℕ, Bool, true, false, cond, nat_le, List, [], ◌∷◌, ◌++◌, length, Option, Result, Ok, Err}
use Rattle.std.proofs.Common.{refl, sym, ap, subst, ◌∙◌, arith}
use Rattle.std.specs.FinMap.{keys}
use Rattle.jv_base.proofs.Results.{same_ok}
use Rattle.jv_base.specs.Outcome.{◌>>=◌}
use Rattle.tree_io.specs.Below.{paths_below}
use Rattle.tree_io.specs.Files.{Files}
use Rattle.tree_io.specs.declared.file_at.FileAt.{FileAt}
use Rattle.class_files.specs.Input.{input_due}
use Rattle.class_files.specs.Output.{put_all}
use Rattle.class_model.specs.declared.class.Class.{Class}
use Rattle.keep_rules.specs.Paths.{meets_config}
use Rattle.keep_rules.specs.declared.rules.Rules.{Rules}
use Rattle.list_texts.specs.declared.limit.TooLong.{TooLong}
use Rattle.mapping_file.specs.Mappings.{mapping_text}
use Rattle.mapping_file.specs.declared.mapping.Mapping.{Mapping}
use Rattle.edit_laws.proofs.FoundLegal.{found_legal}
use Rattle.optimised_laws.proofs.Swapped.{swapped_by_rules}
use Rattle.optimised_laws.proofs.Typed.{typed_by_rules}
use Rattle.pair_laws.proofs.OptimisedPairs.OptimisedSet.{PassLaws}
use Rattle.pair_laws.proofs.OwnChecked.Own.{files_found_again}
use Rattle.pair_laws.proofs.OwnPairs.Found.{files_below}
use Rattle.pair_laws.proofs.OwnPairs.Own.{own_paired, own_written}
use Rattle.pair_laws.proofs.OwnPairs.WordTexts.{source_name_text}
use Rattle.mark_core.specs.Marks.{Marks}
use Rattle.mark_core.specs.declared.system.System.{System}
use Rattle.pair_laws.specs.FilesFound.Below.{AreBelow}
use Rattle.pair_laws.specs.OwnChecked.Again.{IsFoundAgain}
use Rattle.pair_laws.specs.OwnPairs.Written.{AreWritten}
use Rattle.pass_driver.specs.Optimised.{IsOptimisedIf, with_codes}
use Rattle.pass_driver.specs.declared.optimising.Optimised.{Optimised}
use Rattle.set_read.specs.Accepted.{IsAccepted}
use Rattle.set_shrink.specs.ShrunkSet.{IsShrunk}
use Rattle.set_shrink.specs.Texts.{texts_beside, texts_due, witness_due}
use Rattle.set_shrink.specs.declared.shrunk.ShrunkSet.{ShrunkSet}
use Rattle.witness_file.specs.declared.witness.Witness.{Witness}
use Rattle.command_frame.proofs.OneStep.{both_gave, no_err}
use Rattle.command_frame.specs.Refusal.{passed}
use Rattle.command_frame.specs.Steps.{IsFile}
use Rattle.command_frame.specs.declared.command.Plan.{Plan}
use Rattle.command_frame.specs.declared.refusal.Quantity.TheVariants as quantity
use Rattle.command_frame.specs.declared.refusal.Refusal.{Refusal}
use Rattle.command_steps.specs.Config.{IsConfig, IsConfigApart, IsConfigured, IsRules, rules_apart, same_path}
use Rattle.command_steps.specs.Refusals.{rules_refused}
use Rattle.command_steps.specs.Sets.{IsDirectory, IsSet}
use Rattle.command_steps.specs.System.{IsSystem}
use Rattle.command_steps.specs.Texts.{IsEarlier}
use Rattle.command_steps.proofs.Earlier.{earlier_has_text}
use Rattle.shrink_command.specs.Due.{AreMarks, AreOptimised, FollowsCodes, FollowsEarlier, FollowsInput, FollowsMarks, FollowsOutput}
use Rattle.shrink_command.specs.Due.{FollowsRules, FollowsSystem, IsDue, IsEmptied, IsKept, IsPlan, IsPlanned, IsWritten, Joins, or_long, plan_for}
use Rattle.shrink_command.specs.OwnPair.{DueIsOwnPair, IsOwnPair, mapping_file}
use Rattle.shrink_command.specs.declared.command.ShrinkFiles.{ShrinkFiles}
use Rattle.shrink_command.proofs.Planned.{found_readable, kept_by, kept_closed, kept_count}

-- ---- the texts behind them

first_by : (short : Bool) (long : TooLong) (text : List ℕ) (path : List ℕ) (lists : Result (List FileAt) TooLong)
    (last : Result FileAt TooLong) (texts : List FileAt)
    → (((cond short (Ok text) (Err long)) >>= (λ (bytes : List ℕ). Ok (record { path = path; bytes = bytes })))
    >>= (λ (first : FileAt). lists >>= (λ (others : List FileAt). last
    >>= (λ (behind : FileAt). Ok (first ∷ (others ++ behind ∷ [])))))) ≡ Ok texts
    → (others : List FileAt) × (texts ≡ record { path = path; bytes = text } ∷ others)
first_by false long text path lists last texts h = absurd cc
first_by true long text path (Err e) last texts h = absurd cc
first_by true long text path (Ok others) (Err e) texts h = absurd cc
first_by true long text path (Ok others) (Ok behind) texts h = (others ++ behind ∷ [], cc)

-- the mapping is the first of them
first_text : (mapping : Mapping) (edits : Witness) (lists : Result (List FileAt) TooLong) (rules : Rules)
    (witness : List ℕ) (texts : List FileAt) → texts_beside mapping edits lists rules witness ≡ Ok texts
    → (others : List FileAt) × (texts ≡ mapping_file rules mapping ∷ others)
first_text mapping edits lists rules witness texts h =
    first_by (nat_le (length (mapping_text mapping)) 67108864) (record { limit = 67108864 }) (mapping_text mapping)
    rules.mapping lists (witness_due edits witness) texts h

-- ---- what is known of a plan that is due

-- what led to it
pub record IsResult (files : Files) (named : ShrinkFiles) (plan : Plan) : Type 0 where
  pub rules : Rules
  pub bytes : List ℕ
  pub config : IsConfig bytes named.witness rules
  pub configured : IsConfigured files named.config named.witness (Ok rules)
  pub clear : meets_config named.config rules named.witness ≡ false
  pub old : Option Mapping
  pub earlier : IsEarlier files rules.apply (Ok old)
  pub empty : paths_below rules.out_dir (keys files) ≡ []
  pub inputs : List FileAt
  pub given : input_due files rules.in_dir ≡ Ok inputs
  pub classes : List Class
  pub taken : IsAccepted inputs classes
  pub marks : List Bool
  pub kept : IsKept rules classes marks
  pub optimised : Optimised
  pub is_optimised : IsOptimisedIf rules.optimise marks classes optimised
  pub shrunk : ShrunkSet
  pub is_shrunk : IsShrunk (with_codes optimised.codes classes) marks rules old shrunk
  pub texts : List FileAt
  pub told : texts_due shrunk.mapping optimised.witness classes marks rules named.witness ≡ Ok texts
  pub files_are : plan.files ≡ shrunk.files ++ texts

apart_by : (meets : Bool) (rules same : Rules)
    → (let R : Result Rules Refusal = Ok same in R) ≡ cond meets (Err (rules_refused same_path)) (Ok rules)
    → (rules ≡ same) × (meets ≡ false)
apart_by true rules same h = absurd (no_err same (rules_refused same_path) h)
apart_by false rules same h = (sym (same_ok same rules h), refl)

-- the config gave the rules, and nothing that is written meets it
config_apart : (files : Files) (config witness : List ℕ) (rules : Rules)
    → IsConfigApart files config witness (Ok rules)
    → IsConfigured files config witness (Ok rules) × (meets_config config rules witness ≡ false)
config_apart files config witness rules due =
    let a = both_gave (IsConfigured files config witness) (λ given told. told ≡ rules_apart config witness given) rules
    due in
    let b = apart_by (meets_config config a.0 witness) a.0 rules a.2 in (
      subst (λ (r : Rules). IsConfigured files config witness (Ok r)) b.0 a.1,
      subst (λ (r : Rules). meets_config config r witness ≡ false) b.0 b.1,
    )

texts_told : (r : Result (List FileAt) TooLong) (texts : List FileAt) → Ok texts ≡ or_long r → r ≡ Ok texts
texts_told (Ok others) texts h = ap Ok (same_ok others texts (sym h))
texts_told (Err long) texts h = absurd (no_err texts (passed quantity.Text) h)

-- what was made of what is kept
pub record IsOutput (rules : Rules) (old : Option Mapping) (witness : List ℕ) (classes : List Class) (marks : List Bool)
    (plan : Plan) : Type 0 where
  pub optimised : Optimised
  pub is_optimised : IsOptimisedIf rules.optimise marks classes optimised
  pub shrunk : ShrunkSet
  pub is_shrunk : IsShrunk (with_codes optimised.codes classes) marks rules old shrunk
  pub texts : List FileAt
  pub told : texts_due shrunk.mapping optimised.witness classes marks rules witness ≡ Ok texts
  pub files_are : plan.files ≡ shrunk.files ++ texts

-- the texts behind class files
texts_behind : (shrunk : ShrunkSet) (edits : Witness) (fallback : ℕ) (told : Result (List FileAt) TooLong) (plan : Plan)
    → Joins shrunk edits fallback told (Ok plan)
    → (texts : List FileAt) × (told ≡ Ok texts) × (plan.files ≡ shrunk.files ++ texts)
texts_behind shrunk edits fallback told plan due =
    let h = both_gave (λ (z : Result (List FileAt) Refusal). z ≡ or_long told) (IsPlan shrunk edits fallback) plan due in
    (h.0, texts_told told h.0 h.1, ap (λ (p : Plan). p.files) (same_ok plan (plan_for shrunk edits fallback h.0) h.2))

module _ (rules : Rules) (old : Option Mapping) (witness : List ℕ) (classes : List Class) (marks : List Bool) (plan : Plan) where
  written_out : (o : Optimised) → IsOptimisedIf rules.optimise marks classes o → (shrunk : ShrunkSet)
      → IsShrunk (with_codes o.codes classes) marks rules old shrunk
      → Joins shrunk o.witness o.fallback (texts_due shrunk.mapping o.witness classes marks rules witness) (Ok plan)
      → IsOutput rules old witness classes marks plan
  written_out o is shrunk is_shrunk due =
      let h = texts_behind shrunk o.witness o.fallback (texts_due shrunk.mapping o.witness classes marks rules witness)
      plan due in
      record {
        optimised = o;
        is_optimised = is;
        shrunk = shrunk;
        is_shrunk = is_shrunk;
        texts = h.0;
        told = h.1;
        files_are = h.2;
      }

  coded : (o : Optimised) → IsOptimisedIf rules.optimise marks classes o
      → FollowsCodes rules old witness classes marks o (Ok plan) → IsOutput rules old witness classes marks plan
  coded o is due =
      let g = both_gave (IsWritten rules old (with_codes o.codes classes) marks)
      (λ shrunk. Joins shrunk o.witness o.fallback (texts_due shrunk.mapping o.witness classes marks rules witness))
      plan due in
      written_out o is g.0 g.1 g.2

  output_of : FollowsMarks rules old witness classes marks (Ok plan) → IsOutput rules old witness classes marks plan
  output_of due =
      let o = both_gave (AreOptimised rules classes marks) (FollowsCodes rules old witness classes marks) plan due in
      coded o.0 o.1 o.2

module _ (files : Files) (named : ShrinkFiles) (plan : Plan) (rules : Rules)
    (configured : IsConfigured files named.config named.witness (Ok rules))
    (clear : meets_config named.config rules named.witness ≡ false)
    (old : Option Mapping) (earlier : IsEarlier files rules.apply (Ok old))
    (empty : paths_below rules.out_dir (keys files) ≡ []) (inputs : List FileAt)
    (given : input_due files rules.in_dir ≡ Ok inputs) (classes : List Class) (taken : IsAccepted inputs classes) where
  marked : (sys : System) → IsSystem rules classes (Ok sys) → (marks : List Bool) → Marks sys marks
      → FollowsMarks rules old named.witness classes marks (Ok plan) → IsResult files named plan
  marked sys asked marks least due =
      let out = output_of rules old named.witness classes marks plan due in
      let k = both_gave (IsFile files quantity.Config named.config) (λ bytes. IsRules bytes named.witness) rules
      configured in
      record {
        rules = rules;
        bytes = k.0;
        config = k.2;
        configured = configured;
        clear = clear;
        old = old;
        earlier = earlier;
        empty = empty;
        inputs = inputs;
        given = given;
        classes = classes;
        taken = taken;
        marks = marks;
        kept = kept_by rules classes sys marks asked least;
        optimised = out.optimised;
        is_optimised = out.is_optimised;
        shrunk = out.shrunk;
        is_shrunk = out.is_shrunk;
        texts = out.texts;
        told = out.told;
        files_are = out.files_are;
      }

  planned : IsPlanned rules old named.witness classes (Ok plan) → IsResult files named plan
  planned due =
      let e = both_gave (IsSystem rules classes) (FollowsSystem rules old named.witness classes) plan due in
      let f = both_gave (AreMarks e.0) (FollowsMarks rules old named.witness classes) plan e.2 in
      marked e.0 e.1 f.0 f.1 f.2

pub result : (files : Files) (named : ShrinkFiles) (plan : Plan) → IsDue named files (Ok plan) → IsResult files named plan
result files named plan due =
    let y = both_gave (IsConfigApart files named.config named.witness) (FollowsRules files named.witness) plan due in
    let z = config_apart files named.config named.witness y.0 y.1 in
    let a = both_gave (IsEarlier files y.0.apply) (FollowsEarlier files named.witness y.0) plan y.2 in
    let b = both_gave (IsEmptied files y.0.out_dir) (λ done. FollowsOutput files named.witness y.0 a.0) plan a.2 in
    let c = both_gave (IsDirectory files y.0.in_dir) (FollowsInput y.0 a.0 named.witness) plan b.2 in
    let d = both_gave (IsSet y.0.in_dir c.0) (IsPlanned y.0 a.0 named.witness) plan c.2 in
    planned files named plan y.0 z.0 z.1 a.0 a.1 b.1 c.0 c.1 d.0 d.1 d.2

-- ---- the pair

-- what is known of the passes
pub pass_laws : PassLaws
pass_laws = record { legal = found_legal; swapped = swapped_by_rules found_legal; typed = typed_by_rules }

module _ (files : Files) (named : ShrinkFiles) (plan : Plan) (r : IsResult files named plan) where
  pub below : (written : List FileAt) × AreBelow r.rules.out_dir r.shrunk.files written
  below = files_below (with_codes r.optimised.codes r.classes) r.marks r.rules r.old r.shrunk r.is_shrunk

  pub written_so : AreWritten r.inputs r.classes r.marks r.rules r.old r.optimised r.shrunk below.0
  written_so =
      let config = r.config in
      record {
        readable = found_readable files r.rules.in_dir r.inputs r.given;
        accepted = r.taken;
        closed = kept_closed r.rules r.classes r.marks r.kept;
        count = kept_count r.rules r.classes r.marks r.kept;
        source_name = source_name_text r.bytes named.witness r.rules config.words config.encoded config.split
            config.stand;
        optimised = r.is_optimised;
        shrunk = r.is_shrunk;
        earlier = earlier_has_text files r.rules.apply r.old r.earlier;
        below = below.1;
      }

  -- what is found where the plan was written
  pub again : IsFoundAgain files (put_all files (r.shrunk.files ++ r.texts)) named.config named.witness r.rules
      r.shrunk.mapping r.optimised.witness below.0
  again = files_found_again pass_laws r.inputs r.classes r.marks r.rules r.old r.optimised r.shrunk below.0 written_so files
      named.config named.witness r.texts r.empty r.config.stand.apart r.clear r.told

  own_pair : IsOwnPair files named plan
  own_pair =
      let text = first_text r.shrunk.mapping r.optimised.witness _ r.rules named.witness r.texts r.told in
      record {
        rules = r.rules;
        inputs = r.inputs;
        classes = r.classes;
        configured = r.configured;
        given = r.given;
        taken = r.taken;
        class_files = r.shrunk.files;
        mapping = r.shrunk.mapping;
        edits = r.optimised.witness;
        others = text.0;
        files_are = r.files_are ∙ ap (λ (texts : List FileAt). r.shrunk.files ++ texts) text.1;
        paired = own_paired pass_laws r.inputs r.classes r.marks r.rules r.old r.optimised r.shrunk below.0 written_so;
        again = subst (λ (there : List FileAt). IsFoundAgain files (put_all files plan.files) named.config named.witness
            r.rules r.shrunk.mapping r.optimised.witness there)
            (sym (own_written pass_laws r.inputs r.classes r.marks r.rules r.old r.optimised r.shrunk below.0 written_so))
            (subst (λ (put : List FileAt). IsFoundAgain files (put_all files put) named.config named.witness r.rules
            r.shrunk.mapping r.optimised.witness below.0) (sym r.files_are) again);
      }

pub due_pairs : DueIsOwnPair
due_pairs files named plan due = own_pair files named plan (result files named plan due)
