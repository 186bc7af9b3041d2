-- What somebody can rely on who was told that a pair is one, as a statement on all files, mappings, rules and witnesses
-- (the project's own).
use Rattle.std.specs.Prelude.{◌≡◌, ℕ, true, List}
use Rattle.std.specs.List.{AllZip}
use Rattle.tree_io.specs.declared.file_at.FileAt.{FileAt}
use Rattle.class_model.specs.declared.class.Class.{Class}
use Rattle.set_read.specs.Accepted.{IsAccepted}
pub use Rattle.removal_laws.specs.AcceptedSets.Laws.{AreReadable}
use Rattle.keep_rules.specs.declared.rules.Rules.{Rules}
use Rattle.mapping_file.specs.declared.mapping.Mapping.{Mapping}
use Rattle.witness_file.specs.declared.witness.Witness.{Witness}
use Rattle.jvm_model.specs.Heap.{Object}
use Rattle.jvm_model.specs.Same.{Corr, Same}
use Rattle.jvm_model.specs.Start.{ArePlain}
use Rattle.jvm_model.specs.State.{State, frames}
use Rattle.jvm_model.specs.Step.{run, start}
use Rattle.jvm_model.specs.Value.{Key, Value}
use Rattle.set_view.specs.ViewOf.{is_startable, view_of}
use Rattle.type_sound.specs.Laws.{DoesWhole}
use Rattle.type_verifier.specs.Verified.{AreTyped}
use Rattle.pair_checker.specs.PairOk.{PairOk}
use Rattle.pair_laws.specs.PairSame.Entries.{AreEntries}
use Rattle.pair_laws.specs.PairSame.Laws.{pair_names}
use Rattle.pair_laws.specs.PairSame.OneToOne.{AreOneToOne}
use Rattle.pair_laws.specs.PairTrace.Laws.{IsRetraced, IsTold}

-- the files of an input and those of an output are taken as sets; the names that the mapping gives are one to one, and
-- the library's stay; from each entry that the rules keep the output does what the input does, names read through the
-- mapping, and neither goes wrong where the entry is given what it may be given; and each method of the output is typed
pub record DoTheSame (input_files output_files : List FileAt) (rules : Rules) (mapping : Mapping) : Type 0 where
  pub input : List Class
  pub output : List Class
  pub input_taken : IsAccepted input_files input
  pub output_taken : IsAccepted output_files output
  pub names : AreOneToOne input (pair_names input mapping)
  pub same : (entries : List Key) → AreEntries input rules entries
      → Same (view_of input) (view_of output) (pair_names input mapping) entries
  pub whole : (entries : List Key) → AreEntries input rules entries
      → DoesWhole input (view_of output) (pair_names input mapping) entries
  pub typed : AreTyped output

-- where files are taken as the input, and a pair is one, the output does what the input does, from each entry, names
-- read through the mapping, and each of its methods is typed
abbrev pub CheckedPairsDoTheSame : Type 0
CheckedPairsDoTheSame = (files : List FileAt) (input : List Class) (written : List FileAt) (mapping : Mapping)
    (rules : Rules) (witness : Witness) → AreReadable files → IsAccepted files input → AreReadable written
    → (pair : PairOk input written mapping rules witness) → (entries : List Key) → AreEntries input rules entries
    → Same (view_of input) (view_of pair.output) (pair_names input mapping) entries × AreTyped pair.output

-- and a trace of the output tells, with old names, what the input does: wherever both are in step, the lines of the
-- frames of methods with codes are those of the input, one by one (ProGuard manual, "ReTrace")
abbrev pub CheckedFramesRetrace : Type 0
CheckedFramesRetrace = (files : List FileAt) (input : List Class) (written : List FileAt) (mapping : Mapping)
    (rules : Rules) (witness : Witness) → AreReadable files → IsAccepted files input → AreReadable written
    → (pair : PairOk input written mapping rules witness) → (s t : State)
    → Corr (view_of input) (view_of pair.output) (pair_names input mapping) s t
    → AllZip (IsRetraced input pair.output mapping) (frames s) (frames t)

-- a frame of a run from an entry has a code, so of such a run each line is told
abbrev pub CheckedRunsRetrace : Type 0
CheckedRunsRetrace = (files : List FileAt) (input : List Class) (written : List FileAt) (mapping : Mapping)
    (rules : Rules) (witness : Witness) → AreReadable files → IsAccepted files input → AreReadable written
    → (pair : PairOk input written mapping rules witness) → (entry : Key) → is_startable input entry ≡ true
    → (heap : List Object) → ArePlain heap → (args : List Value) (n : ℕ) (t : State)
    → Corr (view_of input) (view_of pair.output) (pair_names input mapping)
    (run (view_of input) (start (view_of input) entry heap args) n) t
    → AllZip (IsTold pair.output mapping) (frames (run (view_of input) (start (view_of input) entry heap args) n)) (frames t)
