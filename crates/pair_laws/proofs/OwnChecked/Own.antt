-- What is written of a set is found again.
use Rattle.std.proofs.Common.{◌≡◌, ◌≢◌, ◌⊎◌, inl, inr, ℕ, ◌||◌, Bool, true, false, List, [], ◌∷◌, ◌++◌, map, Option}
use Rattle.std.proofs.Common.{Ok, Some, sym, ap, ◌∙◌}
use Rattle.std.specs.FinMap.{get, insert, keys}
use Rattle.std.specs.List.{AllByRecursion, list_any}
use Rattle.std.proofs.lemmas.Bool.{or_parts}
use Rattle.mapping_file.specs.declared.mapping.Mapping.{Mapping}
use Rattle.jv_base.specs.Names.{is_text}
use Rattle.jv_base.proofs.Lists.{all_append}
use Rattle.tree_io.specs.Below.{paths_below}
use Rattle.tree_io.specs.Files.{Files}
use Rattle.tree_io.specs.declared.file_at.FileAt.{FileAt}
use Rattle.path_text.specs.Path.{is_below}
use Rattle.class_files.specs.Input.{input_due}
use Rattle.class_files.specs.Output.{put_all}
use Rattle.class_model.specs.declared.class.Class.{Class}
use Rattle.keep_rules.specs.Paths.{any_meet, files_of, is_at, meets, meets_config, meets_file}
use Rattle.keep_rules.specs.Paths.{paths_meet}
use Rattle.keep_rules.specs.declared.rules.Rules.{Rules}
use Rattle.mapping_file.specs.Mappings.{mapping_text}
use Rattle.pass_driver.specs.declared.optimising.Optimised.{Optimised}
use Rattle.set_shrink.specs.Texts.{texts_due}
use Rattle.set_shrink.specs.declared.shrunk.ShrunkSet.{ShrunkSet}
use Rattle.witness_file.specs.Witnesses.{witness_text}
use Rattle.pair_laws.specs.FilesFound.Below.{AreBelow, IsElsewhere}
use Rattle.pair_laws.proofs.FilesFound.Found.{put_both}
use Rattle.pair_laws.proofs.OptimisedPairs.OptimisedSet.{PassLaws}
use Rattle.pair_laws.specs.OwnPairs.Written.{AreWritten}
use Rattle.pair_laws.proofs.OwnPairs.Found.{files_found}
use Rattle.pair_laws.proofs.OwnMapping.Own.{own_mapping_is_read, own_witness_is_read}
use Rattle.pair_laws.specs.OwnChecked.Again.{HasMapping, HasWitness, IsFoundAgain, PassesInputLimit}
use Rattle.pair_laws.specs.OwnChecked.Laws.{OwnFilesAreFoundAgain}
use Rattle.pair_laws.proofs.OwnChecked.Paths.{AreApart, all_elsewhere, another_file, any_less, are_apart, lies_below}
use Rattle.pair_laws.proofs.OwnChecked.Paths.{none_of, not_below_other}
use Rattle.pair_laws.proofs.OwnChecked.Put.{elsewhere_same, found_or_limit, stands_at, stays_at}
use Rattle.pair_laws.proofs.OwnChecked.Texts.{AreTexts, are_texts}

-- ---- class files

-- files below one of two directories that don't meet are elsewhere for the other
other_directory : (one other : List ℕ) → is_text one other ≡ false → is_below one other ≡ false
    → is_below other one ≡ false → (files there : List FileAt) → AreBelow other files there
    → AllByRecursion (IsElsewhere one) files
other_directory one other no_text no_below no_above [] there below = tt
other_directory one other no_text no_below no_above (f ∷ files) [] below = absurd below
other_directory one other no_text no_below no_above (f ∷ files) (w ∷ there) below = (
  not_below_other one other f.path w.path no_text no_below no_above below.0.0,
  other_directory one other no_text no_below no_above files there below.1,
)

-- a path that doesn't lie below the directory is none of theirs
none_below : (directory path : List ℕ) → is_below path directory ≡ false → (files there : List FileAt)
    → AreBelow directory files there → AllByRecursion (λ (f : FileAt). path ≢ f.path) files
none_below directory path outside [] there below = tt
none_below directory path outside (f ∷ files) [] below = absurd below
none_below directory path outside (f ∷ files) (w ∷ there) below = (
  (λ same.
      let wrong : false ≡ true = sym outside ∙ ap (λ p. is_below p directory) same
      ∙ lies_below directory f.path w.path below.0.0 in
      absurd cc),
  none_below directory path outside files there below.1,
)

-- ---- paths that don't meet

-- what the test of the paths says
record DontMeet (rules : Rules) (witness : List ℕ) : Type 0 where
  directories : AreApart rules.in_dir rules.out_dir
  from_input : list_any (meets_file rules.in_dir) (files_of rules witness) ≡ false
  from_output : list_any (meets_file rules.out_dir) (files_of rules witness) ≡ false
  files : any_meet (files_of rules witness) ≡ false

dont_meet : (rules : Rules) (witness : List ℕ) → paths_meet rules witness ≡ false → DontMeet rules witness
unfolding paths_meet
dont_meet rules witness apart =
    let first = or_parts (meets rules.in_dir rules.out_dir || list_any (meets_file rules.in_dir) (files_of rules witness))
    (list_any (meets_file rules.out_dir) (files_of rules witness) || any_meet (files_of rules witness)) apart in
    let input = or_parts (meets rules.in_dir rules.out_dir)
    (list_any (meets_file rules.in_dir) (files_of rules witness)) first.0 in
    let output = or_parts (list_any (meets_file rules.out_dir) (files_of rules witness))
    (any_meet (files_of rules witness)) first.1 in
    record {
      directories = are_apart rules.in_dir rules.out_dir input.0;
      from_input = input.1;
      from_output = output.0;
      files = output.1;
    }

-- what the test of the config says
record IsApartFrom (config : List ℕ) (rules : Rules) (witness : List ℕ) : Type 0 where
  not_below : is_below config rules.out_dir ≡ false
  no_text : list_any (is_text config) (files_of rules witness) ≡ false

is_apart_from : (config : List ℕ) (rules : Rules) (witness : List ℕ) → meets_config config rules witness ≡ false
    → IsApartFrom config rules witness
unfolding meets_config
is_apart_from config rules witness apart =
    let first = or_parts (is_below config rules.out_dir)
    (list_any (is_at config) (rules.out_dir ∷ files_of rules witness)) apart in
    let files = or_parts (is_at config rules.out_dir) (list_any (is_at config) (files_of rules witness)) first.1 in
    record {
      not_below = first.0;
      no_text = any_less (is_at config) (is_text config)
          (λ path none. (or_parts (is_text config path) (is_below path config) none).0)
          (files_of rules witness) files.1;
    }

-- ---- the whole

module _ (laws : PassLaws) (files : List FileAt) (classes : List Class) (marks : List Bool) (rules : Rules)
    (old : Option Mapping) (o : Optimised) (set : ShrunkSet) (written : List FileAt)
    (h : AreWritten files classes marks rules old o set written)
    (there : Files) (config witness : List ℕ) (texts : List FileAt) (empty : paths_below rules.out_dir (keys there) ≡ [])
    (apart : paths_meet rules witness ≡ false) (clear : meets_config config rules witness ≡ false)
    (told : texts_due set.mapping o.witness classes marks rules witness ≡ Ok texts) where
  abbrev new : Files
  new = put_all there (set.files ++ texts)

  abbrev classes_put : Files
  classes_put = put_all there set.files

  abbrev mapping_at : FileAt
  mapping_at = record { path = rules.mapping; bytes = mapping_text set.mapping }

  abbrev witness_at : FileAt
  witness_at = record { path = witness; bytes = witness_text o.witness }

  are : AreTexts set.mapping o.witness rules witness texts
  are = are_texts set.mapping o.witness classes marks rules witness texts told

  paths : DontMeet rules witness
  paths = dont_meet rules witness apart

  own : IsApartFrom config rules witness
  own = is_apart_from config rules witness clear

  new_is : new ≡ put_all classes_put texts
  new_is = put_both there set.files texts

  -- the directories

  elsewhere : AllByRecursion (IsElsewhere rules.in_dir) texts × AllByRecursion (IsElsewhere rules.out_dir) texts
  elsewhere = (
    all_elsewhere rules.in_dir texts (ap (list_any (meets_file rules.in_dir)) are.paths ∙ paths.from_input),
    all_elsewhere rules.out_dir texts (ap (list_any (meets_file rules.out_dir)) are.paths ∙ paths.from_output),
  )

  input : input_due new rules.in_dir ≡ input_due there rules.in_dir
  input = elsewhere_same there rules.in_dir (set.files ++ texts)
      (all_append (IsElsewhere rules.in_dir) set.files texts
      (other_directory rules.in_dir rules.out_dir paths.directories.no_text paths.directories.not_below
      paths.directories.not_above set.files written h.below) elsewhere.0)

  output_by : ((found : List FileAt) × (input_due new rules.out_dir ≡ Ok found)) ⊎ PassesInputLimit new rules.out_dir
      → (input_due new rules.out_dir ≡ Ok written) ⊎ PassesInputLimit new rules.out_dir
  output_by (inr limit) = inr limit
  output_by (inl given) =
      inl (given.1 ∙ ap Ok (files_found files classes marks rules old o set written h there texts empty elsewhere.1 given.0
      given.1))

  -- the config

  config_put : get new config ≡ get there config
  config_put =
      stays_at config (set.files ++ texts)
      (all_append (λ (f : FileAt). config ≢ f.path) set.files texts
      (none_below rules.out_dir config own.not_below set.files written h.below)
      (none_of config texts (ap (list_any (is_text config)) are.paths ∙ own.no_text))) there

  -- the mapping and the witness

  abbrev behind : List FileAt
  behind = are.lists ++ witness_at ∷ []

  others_differ : list_any (is_text rules.mapping) (map (λ (f : FileAt). f.path) behind) ≡ false
  others_differ =
      any_less (meets_file rules.mapping) (is_text rules.mapping) (another_file rules.mapping)
      (map (λ (f : FileAt). f.path) behind)
      (or_parts (list_any (meets_file rules.mapping) (map (λ (f : FileAt). f.path) behind))
      (any_meet (map (λ (f : FileAt). f.path) behind))
      (ap any_meet (ap (map (λ (f : FileAt). f.path)) (sym are.are) ∙ are.paths) ∙ paths.files)).0

  mapping_stands : get new rules.mapping ≡ Some (mapping_text set.mapping)
  mapping_stands =
      ap (λ (m : Files). get m rules.mapping) (new_is ∙ ap (put_all classes_put) are.are)
      ∙ stays_at rules.mapping behind (none_of rules.mapping behind others_differ)
      (insert classes_put rules.mapping (mapping_text set.mapping))
      ∙ stands_at classes_put rules.mapping (mapping_text set.mapping)

  witness_stands : get new witness ≡ Some (witness_text o.witness)
  witness_stands =
      ap (λ (m : Files). get m witness)
      (new_is ∙ ap (put_all classes_put) are.are
      ∙ put_both classes_put (mapping_at ∷ are.lists) (witness_at ∷ []))
      ∙ stands_at (put_all classes_put (mapping_at ∷ are.lists)) witness (witness_text o.witness)

  has_mapping : HasMapping new rules.mapping set.mapping
  has_mapping = (
    mapping_text set.mapping,
    record { there = mapping_stands; short = are.short },
    own_mapping_is_read laws files classes marks rules old o set written h,
  )

  has_witness : HasWitness new witness o.witness
  has_witness = (
    witness_text o.witness,
    record { there = witness_stands; short = are.edits_short },
    (own_witness_is_read laws files classes marks rules old o set written h).1,
  )

  found_again : IsFoundAgain there new config witness rules set.mapping o.witness written
  found_again = record {
    config_stays = config_put;
    mapping_is = has_mapping;
    witness_is = has_witness;
    input_stays = input;
    output_is = output_by (found_or_limit rules.out_dir new);
  }

pub files_found_again : PassLaws → OwnFilesAreFoundAgain
files_found_again laws files classes marks rules old o set written h there config witness texts empty apart clear told =
    found_again laws files classes marks rules old o set written h there config witness texts empty apart clear told
