-- The output of a pair is never told to differ.
use Rattle.std.proofs.Common.{◌≡◌, ℕ, Bool, true, false, cond, List, [], Result, Ok, Err, refl, sym, ap, subst, ◌∙◌}
use Rattle.std.specs.FinMap.{get}
use Rattle.jv_base.specs.Outcome.{◌>>=◌}
use Rattle.jv_base.proofs.Results.{same_ok}
use Rattle.tree_io.specs.Files.{Files}
use Rattle.tree_io.specs.declared.file_at.FileAt.{FileAt}
use Rattle.class_model.specs.declared.class.Class.{Class}
use Rattle.conf_words.specs.Reading.{words_of_bytes}
use Rattle.conf_words.specs.declared.splitting.Word.{Word}
use Rattle.conf_words.specs.declared.splitting.WordFault.{WordFault}
use Rattle.keep_rules.specs.Paths.{paths_meet}
use Rattle.keep_rules.specs.Reader.{fault, none_left}
use Rattle.keep_rules.specs.Reading.{apart, blank, finished, options_read, rules_read, sections_of, whole_rules}
use Rattle.keep_rules.specs.declared.fault.RuleFault.{RuleFault}
use Rattle.keep_rules.specs.declared.fault.RuleKind.TheVariants.{SamePath}
use Rattle.keep_rules.specs.declared.rules.Rules.{Rules}
use Rattle.mapping_file.specs.MapReading.{read_mapping}
use Rattle.mapping_file.specs.declared.mapping.Mapping.{Mapping}
use Rattle.witness_file.specs.declared.witness.Witness.{Witness}
use Rattle.pair_checker.specs.PairOk.{PairOk}
use Rattle.pair_laws.proofs.FilesFound.Readable.{readable}
use Rattle.command_frame.proofs.OneStep.{IsOne, both_gave, no_err, one_value, then_one}
use Rattle.command_frame.specs.Steps.{IsFile, Then, bytes_in, follows}
use Rattle.command_frame.specs.declared.command.Plan.{Plan}
use Rattle.command_frame.specs.declared.refusal.Quantity.TheVariants as quantity
use Rattle.command_frame.specs.declared.refusal.Refusal.{Refusal}
use Rattle.command_steps.proofs.OneConfig.{config_only}
use Rattle.command_steps.proofs.OneStep.{one_configured, one_directory, one_taken}
use Rattle.command_steps.specs.Config.{IsConfig, IsConfigured, IsRules, rules_of}
use Rattle.command_steps.specs.Sets.{IsDirectory, IsSet}
use Rattle.command_steps.specs.System.{IsSystem}
use Rattle.command_steps.specs.Texts.{IsMapping, IsWitness, or_bad_mapping}
use Rattle.check_command.specs.Due as check
use Rattle.check_command.specs.declared.command.CheckFiles.{CheckFiles}
use Rattle.check_command.specs.declared.finding.Directories.{Directories}
use Rattle.check_command.specs.declared.finding.Texts.{Texts}
use Rattle.run_command.specs.Due.{IsStart, no_entry}
use Rattle.run_command.specs.declared.entries.Start.{Start}
use Rattle.compare_command.specs.Alike.{IsAnyAlike}
use Rattle.compare_command.specs.Due.{FollowsInput, FollowsMapping, FollowsOutput, FollowsRules, IsCompared}
use Rattle.compare_command.specs.Due.{IsMappingAt, IsSeed, IsSeedStart, IsSetAt, alike, differs, input_ended}
use Rattle.compare_command.specs.Due.{or_no_seed, output_ended, same_plan}
use Rattle.compare_command.specs.Seeds.{is_seed}
use Rattle.compare_command.specs.declared.command.CompareFiles.{CompareFiles}
use Rattle.run_laws.specs.Pairs.{CheckedNeverDiffer, NeverDiffers, PairsNeverDiffer}
use Rattle.run_laws.proofs.Compared.{shows}
use Rattle.run_laws.proofs.Entered.{begins}
use Rattle.run_laws.proofs.Reasons.{AreOthers, config_others, mapping_others, others_then, set_others, start_others}

-- ---- one thing is read

one_mapping : (files : Files) (path : List ℕ) → IsOne (IsMappingAt files path)
one_mapping files path =
    then_one (IsFile files quantity.Mapping path) IsMapping (one_value (bytes_in quantity.Mapping path (get files path)))
    (λ map. one_value (or_bad_mapping (read_mapping map)))

one_set : (files : Files) (directory : List ℕ) → IsOne (IsSetAt files directory)
one_set files directory =
    then_one (IsDirectory files directory) (IsSet directory) (one_directory files directory)
    (λ inputs. one_taken directory inputs)

-- ---- the same rules, whatever the witness

apart_same : (b : Bool) (rules read : Rules) → cond b (Err (fault 0 SamePath)) (Ok rules) ≡ Ok read → rules ≡ read
apart_same true rules read e = absurd (no_err read (fault 0 SamePath) (sym e))
apart_same false rules read e = same_ok rules read e

finished_by : (witness other : List ℕ) (rules others : Rules) (r : Result Rules RuleFault)
    → (r >>= apart witness) ≡ Ok rules → (r >>= apart other) ≡ Ok others → rules ≡ others
finished_by witness other rules others (Ok read) h k =
    sym (apart_same (paths_meet read witness) read rules h) ∙ apart_same (paths_meet read other) read others k
finished_by witness other rules others (Err f) h k = absurd (no_err rules f (sym h))

-- two steps before one that gives the same
behind_both : {D : Type 0} (a : Result (Unit {0}) RuleFault) (r : Result D RuleFault)
    (one two : D → Result Rules RuleFault) (rules others : Rules)
    → ((d : D) → one d ≡ Ok rules → two d ≡ Ok others → rules ≡ others) → (a >>= λ _. r >>= one) ≡ Ok rules
    → (a >>= λ _. r >>= two) ≡ Ok others → rules ≡ others
behind_both (Ok t) (Ok d) one two rules others same h k = same d h k
behind_both (Ok t) (Err f) one two rules others same h k = absurd (no_err rules f (sym h))
behind_both (Err f) r one two rules others same h k = absurd (no_err rules f (sym h))

read_same : (words : List Word) (witness other : List ℕ) (rules others : Rules) → rules_read words witness ≡ Ok rules
    → rules_read words other ≡ Ok others → rules ≡ others
unfolding rules_read finished
read_same words witness other rules others h k =
    behind_both (none_left {A = Unit {0}} tt (sections_of words).front) (options_read blank (sections_of words).sections)
    (finished witness) (finished other) rules others
    (λ d e f. finished_by witness other rules others (whole_rules d) e f) h k

config_same : (bytes witness other : List ℕ) (rules others : Rules) → IsConfig bytes witness rules
    → IsConfig bytes other others → rules ≡ others
config_same bytes witness other rules others h k =
    by (words_of_bytes bytes) (config_only bytes witness rules h) (config_only bytes other others k)
  where
    by : (r : Result (List Word) WordFault) → rules_of r witness ≡ Ok rules → rules_of r other ≡ Ok others
        → rules ≡ others
    by (Ok words) h k = read_same words witness other rules others h k
    by (Err f) h k = absurd (no_err rules _ (sym h))

rules_same : (files : Files) (config witness other : List ℕ) (rules others : Rules)
    → IsConfigured files config witness (Ok rules) → IsConfigured files config other (Ok others) → rules ≡ others
rules_same files config witness other rules others h k =
    let x = both_gave (IsFile files quantity.Config config) (λ bytes. IsRules bytes witness) rules h in
    let y = both_gave (IsFile files quantity.Config config) (λ bytes. IsRules bytes other) others k in
    let same : x.0 ≡ y.0 = same_ok x.0 y.0
    (one_value (bytes_in quantity.Config config (get files config)) (Ok x.0) (Ok y.0) x.1 y.1) in
    config_same y.0 witness other rules others (subst (λ (b : List ℕ). IsConfig b witness rules) same x.2) y.2

-- ---- the steps behind the config

module _ (files : Files) (named : CompareFiles) (rules : Rules) (mapping : Mapping) (inputs : List FileAt)
    (input : List Class) (outputs : List FileAt) (witness : Witness)
    (mapped : IsMappingAt files rules.mapping (Ok mapping)) (given : IsDirectory files rules.in_dir (Ok inputs))
    (accepted : IsSet rules.in_dir inputs (Ok input)) (written : IsDirectory files rules.out_dir (Ok outputs))
    (pair : PairOk input outputs mapping rules witness) where
  input_set : IsSetAt files rules.in_dir (Ok input)
  input_set = follows inputs given accepted

  output_set : IsSetAt files rules.out_dir (Ok pair.output)
  output_set = follows outputs written pair.accepted

  -- a start that was found is one of a seed
  seeded : (s start : Start) (b : Bool) → is_seed rules input s.entry.key ≡ b
      → (let R : Result Start Refusal = Ok start in R) ≡ or_no_seed named.entry s b
      → (s ≡ start) × (is_seed rules input s.entry.key ≡ true)
  seeded s start true is e = (sym (same_ok start s e), is)
  seeded s start false is e = absurd (no_err start (no_entry named.entry) e)

  alike_there : (start : Start) → IsSeedStart rules input named (Ok start)
      → IsAnyAlike mapping (input_ended input start named.steps) (output_ended mapping pair.output start named.steps)
  alike_there start found =
      let first = both_gave (IsStart input named.entry named.words) (IsSeed rules input named.entry) start found in
      let seed = seeded first.0 start (is_seed rules input first.0.entry.key) refl first.2 in
      subst (λ (s : Start). IsAnyAlike mapping (input_ended input s named.steps)
      (output_ended mapping pair.output s named.steps)) seed.0
      (shows inputs input outputs mapping rules witness (readable files rules.in_dir inputs given) accepted
      (readable files rules.out_dir outputs written) pair named.words first.0
      (begins input named.entry named.words first.0 first.1) seed.1 named.steps)

  compared : (start : Start) → IsSeedStart rules input named (Ok start)
      → AreOthers (IsCompared mapping input pair.output named.steps start)
  compared start found refusal (alike h e) = absurd (no_err same_plan refusal (sym e))
  compared start found refusal (differs unlike e) = absurd (unlike (alike_there start found))

  behind_output : AreOthers (FollowsOutput named rules mapping input pair.output)
  behind_output = others_then (IsSeedStart rules input named) (IsCompared mapping input pair.output named.steps)
      (start_others rules input named) compared

  behind_input : AreOthers (FollowsInput named rules mapping files input)
  behind_input = others_then (IsSetAt files rules.out_dir) (FollowsOutput named rules mapping input)
      (set_others files rules.out_dir)
      (λ read at refusal h. behind_output refusal
      (subst (λ (c : List Class). FollowsOutput named rules mapping input c (Err refusal))
      (same_ok read pair.output (one_set files rules.out_dir (Ok read) (Ok pair.output) at output_set)) h))

  behind_mapping : AreOthers (FollowsMapping named rules files mapping)
  behind_mapping = others_then (IsSetAt files rules.in_dir) (FollowsInput named rules mapping files)
      (set_others files rules.in_dir)
      (λ read at refusal h. behind_input refusal
      (subst (λ (c : List Class). FollowsInput named rules mapping files c (Err refusal))
      (same_ok read input (one_set files rules.in_dir (Ok read) (Ok input) at input_set)) h))

  pub followed : AreOthers (FollowsRules named files rules)
  followed = others_then (IsMappingAt files rules.mapping) (FollowsMapping named rules files)
      (mapping_others files rules.mapping)
      (λ read at refusal h. behind_mapping refusal
      (subst (λ (m : Mapping). FollowsMapping named rules files m (Err refusal))
      (same_ok read mapping (one_mapping files rules.mapping (Ok read) (Ok mapping) at mapped)) h))

-- ---- the whole

-- rules that are read behind the config are these
behind_config : (files : Files) (named : CompareFiles) (rules : Rules)
    → ((read : Rules) → IsConfigured files named.config [] (Ok read) → read ≡ rules)
    → AreOthers (FollowsRules named files rules) → NeverDiffers named files
behind_config files named rules one others =
    others_then (IsConfigured files named.config []) (FollowsRules named files) (config_others files named.config [])
    (λ read at refusal h. others refusal
    (subst (λ (r : Rules). FollowsRules named files r (Err refusal)) (one read at) h))

pub pairs_right : PairsNeverDiffer
pairs_right files named p =
    behind_config files named p.rules
    (λ read at. same_ok read p.rules
    (one_configured files named.config [] (Ok read) (Ok p.rules) at p.configured))
    (followed files named p.rules p.mapping p.inputs p.input p.outputs p.witness p.mapped p.given p.accepted p.written
    p.pair)

-- ---- what `check` says

-- what it has found where it says that the pair is one
record IsChecked (files : Files) (checked : CheckFiles) : Type 0 where
  pub rules : Rules
  pub mapping : Mapping
  pub inputs : List FileAt
  pub input : List Class
  pub outputs : List FileAt
  pub witness : Witness
  pub configured : IsConfigured files checked.config checked.witness (Ok rules)
  pub mapped : IsMappingAt files rules.mapping (Ok mapping)
  pub given : IsDirectory files rules.in_dir (Ok inputs)
  pub accepted : IsSet rules.in_dir inputs (Ok input)
  pub written : IsDirectory files rules.out_dir (Ok outputs)
  pub pair : PairOk input outputs mapping rules witness

belongs : (rules : Rules) (texts : Texts) (output : List FileAt) (classes : List Class) (plan : Plan)
    → check.IsPair rules texts output classes (Ok plan) → PairOk classes output texts.mapping rules texts.witness
belongs rules texts output classes plan (check.belongs pair e) = pair
belongs rules texts output classes plan (check.differs answer refused e) =
    absurd (no_err plan (check.no_refused answer) e)

read_mapping_at : (files : Files) (path witness : List ℕ) (texts : Texts)
    → check.IsTexts files path witness (Ok texts) → IsMappingAt files path (Ok texts.mapping)
read_mapping_at files path witness texts h =
    let map = both_gave (IsFile files quantity.Mapping path) (check.FollowsMapping files witness) texts h in
    let wit = both_gave (IsFile files quantity.Witness witness) (check.AreTexts map.0) texts map.2 in
    let first = both_gave (IsMapping map.0) (λ (mapping : Mapping). Then (IsWitness wit.0)
    (λ (w : Witness) due. due ≡ Ok (let t : Texts = record { mapping = mapping; witness = w } in t))) texts wit.2 in
    let second = both_gave (IsWitness wit.0)
    (λ (w : Witness) due. due ≡ Ok (let t : Texts = record { mapping = first.0; witness = w } in t)) texts first.2 in
    let is : texts ≡ (let t : Texts = record { mapping = first.0; witness = second.0 } in t) =
    same_ok texts (record { mapping = first.0; witness = second.0 }) second.2 in
    subst (λ (m : Mapping). IsMappingAt files path (Ok m)) (sym (ap (λ (t : Texts). t.mapping) is))
    (follows map.0 map.1 first.1)

-- the class files of both directories
found_both : (files : Files) (from to : List ℕ) (both : Directories)
    → check.AreDirectories files from to (Ok both)
    → IsDirectory files from (Ok both.input) × IsDirectory files to (Ok both.output)
found_both files from to both h =
    let first = both_gave (IsDirectory files from) (check.FollowsInput files to) both h in
    let second = both_gave (IsDirectory files to)
    (λ (output : List FileAt) due. due ≡ Ok (let d : Directories = record { input = first.0; output = output } in d))
    both first.2 in
    let is : both ≡ (let d : Directories = record { input = first.0; output = second.0 } in d) =
    same_ok both (record { input = first.0; output = second.0 }) second.2 in (
      subst (λ (fs : List FileAt). IsDirectory files from (Ok fs)) (sym (ap (λ (d : Directories). d.input) is)) first.1,
      subst (λ (fs : List FileAt). IsDirectory files to (Ok fs)) (sym (ap (λ (d : Directories). d.output) is)) second.1,
    )

is_checked : (files : Files) (checked : CheckFiles) (plan : Plan) → check.IsDue checked files (Ok plan)
    → IsChecked files checked
is_checked files checked plan due =
    let rules = both_gave (IsConfigured files checked.config checked.witness)
    (check.FollowsRules files checked.witness) plan due in
    let texts = both_gave (check.IsTexts files rules.0.mapping checked.witness) (check.FollowsTexts files rules.0) plan
    rules.2 in
    let both = both_gave (check.AreDirectories files rules.0.in_dir rules.0.out_dir) (check.IsJudged rules.0 texts.0) plan
    texts.2 in
    let set = both_gave (IsSet rules.0.in_dir both.0.input) (check.FollowsSet rules.0 texts.0 both.0.output) plan
    both.2 in
    let sys = both_gave (IsSystem rules.0 set.0) (λ sys. check.IsPair rules.0 texts.0 both.0.output set.0) plan set.2 in
    let found = found_both files rules.0.in_dir rules.0.out_dir both.0 both.1 in
    record {
      rules = rules.0;
      mapping = texts.0.mapping;
      inputs = both.0.input;
      input = set.0;
      outputs = both.0.output;
      witness = texts.0.witness;
      configured = rules.1;
      mapped = read_mapping_at files rules.0.mapping checked.witness texts.0 texts.1;
      given = found.0;
      accepted = set.1;
      written = found.1;
      pair = belongs rules.0 texts.0 both.0.output set.0 plan sys.2;
    }

pub checked_right : CheckedNeverDiffer
checked_right files checked plan due named same =
    let p = is_checked files checked plan due in
    behind_config files named p.rules
    (λ read at. rules_same files checked.config [] checked.witness read p.rules
    (subst (λ (c : List ℕ). IsConfigured files c [] (Ok read)) same at) p.configured)
    (followed files named p.rules p.mapping p.inputs p.input p.outputs p.witness p.mapped p.given p.accepted p.written
    p.pair)
