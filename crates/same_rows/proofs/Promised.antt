-- What the laws promise of the small set and of what is written of it.
use Rattle.std.proofs.Common.{None, refl, ltb-true}
use Rattle.std.specs.List.Sorted.{IsStrictlySortedBy}
use Rattle.removal_laws.specs.AcceptedSets.Laws.{AreReadable}
use Rattle.removal_laws.proofs.AcceptedSets.Taken.{are_taken}
use Rattle.pair_checker.specs.declared.answer.Clause.TheVariants as clause
use Rattle.pass_driver.specs.Optimised.{as_it_is}
use Rattle.pair_laws.specs.OwnPairs.Laws.{OwnFilesArePaired}
use Rattle.pair_laws.specs.OwnPairs.Written.{AreWritten}
use Rattle.pair_laws.proofs.PairSound.Sound.{pairs_do_the_same}
use Rattle.pair_rows.specs.Examples.{files, input, input_files, mapping, output, rules, unedited}
use Rattle.pair_rows.proofs.Answered.{none, taken}
use Rattle.pair_rows.proofs.Sets.{accepted, input_accepted}
use Rattle.same_rows.specs.Rows.{PairRow, PairedRow, SameRow, TakenRow, marks, shrunk_set}
use Rattle.same_rows.proofs.Computed.{marks_are, shrunk_is}

input_readable : AreReadable input_files
unfolding IsStrictlySortedBy
input_readable = record { ascending = ((refl, tt), (tt, tt)); short = ltb-true _ _ refl }

output_readable : AreReadable files
unfolding IsStrictlySortedBy
output_readable = record { ascending = ((refl, tt), (tt, tt)); short = ltb-true _ _ refl }

pub both_taken : TakenRow
both_taken =
    (are_taken input_files input input_readable input_accepted, are_taken files output output_readable accepted)

pub pair_is : PairRow
pair_is = record {
  shape = none clause.MapShape;
  fixed = none clause.FixedName;
  packages = none clause.Package;
  seeds = none clause.SeedLost;
  closed = none clause.NotClosed;
  members = none clause.MemberDiffers;
  codes = none clause.CodeDiffers;
  ranges = none clause.LineRange;
}

pub does_the_same : SameRow
does_the_same =
    pairs_do_the_same input_files input files mapping rules unedited input_readable input_accepted output_readable taken

-- the rules leave the codes as they are
written_so : AreWritten input_files input marks rules None as_it_is shrunk_set files
written_so = record {
  readable = input_readable;
  accepted = input_accepted;
  closed = marks_are.0.closed;
  count = refl;
  source_name = tt;
  optimised = refl;
  shrunk = shrunk_is;
  earlier = tt;
  below = ((refl, refl), ((refl, refl), tt));
}

pub is_paired : OwnFilesArePaired → PairedRow
is_paired paired = paired input_files input marks rules None as_it_is shrunk_set files written_so
