use Rattle.std.proofs.Common.{◌≡◌, length}
use Rattle.std.specs.Prelude.{IsTrue}
use Rattle.keep_rules.specs.Reading.{options_read, blank, sections_of, begins_so}
use Rattle.keep_rules.proofs.reading.read_options.Given as goal

abbrev pub invariant-loop-option : goal.invariant-loop-option
invariant-loop-option l = record {
  read : options_read l.draft (sections_of l.rest).sections ≡ options_read blank (sections_of l.words).sections;
  begins : IsTrue (begins_so l.rest);
}

abbrev pub decreases-loop-option : goal.decreases-loop-option
decreases-loop-option l = length l.rest
