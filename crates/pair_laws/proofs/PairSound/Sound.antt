-- The places of a pair that is one are those of no clause; so its sets do the same, whatever was edited.
use Rattle.class_model.specs.declared.class.Class.{Class}
use Rattle.std.proofs.Common.{List}
use Rattle.tree_io.specs.declared.file_at.FileAt.{FileAt}
use Rattle.removal_laws.specs.AcceptedSets.Laws.{AreReadable}
use Rattle.removal_laws.proofs.AcceptedSets.Taken.{are_taken}
use Rattle.set_read.specs.Accepted.{IsAccepted}
use Rattle.keep_rules.specs.declared.rules.Rules.{Rules}
use Rattle.mapping_file.specs.declared.mapping.Mapping.{Mapping}
use Rattle.witness_file.specs.declared.witness.Witness.{Witness}
use Rattle.jvm_model.specs.Step.{run, start}
use Rattle.jvm_model.specs.Value.{Key}
use Rattle.set_view.specs.ViewOf.{view_of}
use Rattle.type_sound.proofs.Whole.{same_whole}
use Rattle.image_laws.specs.TakenSet.TakenSet.{IsTaken}
use Rattle.pair_edits.specs.Entries.{edited_input}
use Rattle.pair_checker.specs.PairOk.{PairOk}
use Rattle.pair_checker.specs.declared.answer.Clause.TheVariants as clause
use Rattle.pair_laws.specs.PairSame.Entries.{AreEntries}
use Rattle.pair_laws.specs.PairSame.Laws.{pair_names}
use Rattle.pair_laws.specs.EditedPairs.Laws.{EditedDoTheSame, IsEditedPair}
use Rattle.pair_laws.proofs.EditedPairs.Whole.{edited_pairs}
use Rattle.pair_laws.proofs.PairSound.Witnessed.{codes_edited, edited_alike}
use Rattle.pair_laws.proofs.PairTrace.Framed.{all_told}
use Rattle.pair_laws.specs.PairSound.Laws.{CheckedFramesRetrace, CheckedPairsDoTheSame, CheckedRunsRetrace, DoTheSame}

module _ (files : List FileAt) (input : List Class) (written : List FileAt) (mapping : Mapping) (rules : Rules)
    (witness : Witness) (readable : AreReadable files) (accepted : IsAccepted files input)
    (then_readable : AreReadable written) (pair : PairOk input written mapping rules witness) where
  taken : IsTaken input
  taken = are_taken files input readable accepted

  is_edited : IsEditedPair input (edited_input witness input) pair.output mapping rules
  is_edited = record {
    alike = edited_alike witness input;
    steps = codes_edited mapping witness input (pair.none clause.WitnessStray) (pair.none clause.EditIllegal);
    but_codes = record {
      shape = pair.none clause.MapShape;
      fixed = pair.none clause.FixedName;
      packages = pair.none clause.Package;
      seeds = pair.none clause.SeedLost;
      closed = pair.none clause.NotClosed;
      members = pair.none clause.MemberDiffers;
      ranges = pair.none clause.LineRange;
    };
    codes = pair.none clause.CodeDiffers;
  }

  pub are_edited : EditedDoTheSame input pair.output mapping rules
  are_edited = edited_pairs input (edited_input witness input) pair.output mapping rules taken accepted.typed
      (are_taken written pair.output then_readable pair.accepted) is_edited

pub checked_same : CheckedPairsDoTheSame
checked_same files input written mapping rules witness readable accepted then_readable pair entries are = (
  (are_edited files input written mapping rules witness readable accepted then_readable pair).same entries are,
  pair.accepted.typed,
)

pub checked_retraced : CheckedFramesRetrace
checked_retraced files input written mapping rules witness readable accepted then_readable pair =
    (are_edited files input written mapping rules witness readable accepted then_readable pair).retraced

pub checked_runs : CheckedRunsRetrace
checked_runs files input written mapping rules witness readable accepted then_readable pair entry startable heap plain
    args n t corr =
    all_told input pair.output mapping (taken files input written mapping rules witness readable accepted then_readable pair)
    (view_of pair.output) (pair_names input mapping) entry startable heap plain args n t corr
    (checked_retraced files input written mapping rules witness readable accepted then_readable pair
    (run (view_of input) (start (view_of input) entry heap args) n) t corr)

pub pairs_do_the_same : (files : List FileAt) (input : List Class) (written : List FileAt) (mapping : Mapping)
    (rules : Rules) (witness : Witness) → AreReadable files → IsAccepted files input → AreReadable written
    → PairOk input written mapping rules witness → DoTheSame files written rules mapping
pairs_do_the_same files input written mapping rules witness readable accepted then_readable pair =
    let taken_first = are_taken files input readable accepted in
    let same = λ (entries : List Key) (are : AreEntries input rules entries).
    (checked_same files input written mapping rules witness readable accepted then_readable pair entries are).0 in
    record {
      input = input;
      output = pair.output;
      input_taken = accepted;
      output_taken = pair.accepted;
      names = (are_edited files input written mapping rules witness readable accepted then_readable pair).names;
      same = same;
      whole = λ entries are. same_whole input taken_first accepted.typed (view_of pair.output) (pair_names input mapping)
          entries (same entries are);
      typed = pair.accepted.typed;
    }
