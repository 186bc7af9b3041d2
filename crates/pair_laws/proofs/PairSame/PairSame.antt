-- So the two sets of a pair do the same.
use Rattle.class_model.specs.declared.class.Class.{Class}
use Rattle.keep_rules.specs.declared.rules.Rules.{Rules}
use Rattle.mapping_file.specs.declared.mapping.Mapping.{Mapping}
use Rattle.rule_system.specs.Required.{kept_by_rules}
use Rattle.std.proofs.Common.{List}
use Rattle.image_laws.specs.TakenSet.TakenSet.{IsTaken}
use Rattle.pair_laws.specs.RenamedSame.Laws.{IsLeftUnderNames}
use Rattle.pair_laws.proofs.RenamedSame.NewSame.{new_same}
use Rattle.pair_laws.specs.PairSame.Laws.{PairsDoTheSame}
use Rattle.pair_laws.specs.PairSame.Pairs.{IsPair}
use Rattle.pair_laws.proofs.PairSame.Expected.{closed, codes_new, lined, names, place, renamed}
use Rattle.pair_laws.proofs.PairSame.Naming.{apart}
use Rattle.pair_laws.proofs.RenamedTaken.Setting.{found_of}

module _ (input output : List Class) (mapping : Mapping) (rules : Rules) (taken : IsTaken input)
    (then_taken : IsTaken output) (pair : IsPair input output mapping rules) where
  pub left_under_names : IsLeftUnderNames input (kept_by_rules input rules)
      (lined input output mapping rules taken pair) (names input output mapping rules taken pair)
      (place input output mapping rules taken pair) output
  left_under_names = record {
    closed = closed input output mapping rules taken pair;
    found = found_of output then_taken;
    apart = apart input output mapping rules taken then_taken pair;
    renamed = renamed input output mapping rules taken pair;
    codes = codes_new input output mapping rules taken pair;
  }

pub pair_same : PairsDoTheSame
pair_same input output mapping rules taken then_taken pair entries kept =
    new_same input (kept_by_rules input rules) (lined input output mapping rules taken pair)
    (names input output mapping rules taken pair) (place input output mapping rules taken pair) output taken
    (left_under_names input output mapping rules taken then_taken pair) entries kept
