-- What a pair promises, as a statement on all sets, mappings and rules (the project's own).
use Rattle.std.specs.Prelude.{List}
use Rattle.class_model.specs.declared.class.Class.{Class}
use Rattle.keep_rules.specs.declared.rules.Rules.{Rules}
use Rattle.mapping_file.specs.declared.mapping.Mapping.{Mapping}
use Rattle.new_names.specs.NewNames.{names_of}
use Rattle.pair_clauses.specs.Closing.{lined_items}
use Rattle.pair_checker.specs.Clauses.{given_names}
use Rattle.jvm_model.specs.Same.{AreKept, Names, Same}
use Rattle.jvm_model.specs.Value.{Key}
use Rattle.set_view.specs.ViewOf.{view_of}
use Rattle.image_laws.specs.TakenSet.TakenSet.{IsTaken}
use Rattle.pair_laws.specs.RenamedSame.NewKeys.{kept_names}
use Rattle.pair_laws.specs.PairSame.Entries.{AreEntries}
use Rattle.pair_laws.specs.PairSame.Pairs.{IsPair}

-- the names of what has a line, and of the library; what has no line isn't kept
abbrev pub pair_names : List Class → Mapping → Names
pair_names input mapping = kept_names (names_of mapping) input (lined_items (given_names mapping input))

-- the two sets of a pair, which are taken, do the same, from each entry that has a line
abbrev pub PairsDoTheSame : Type 0
PairsDoTheSame = (input output : List Class) (mapping : Mapping) (rules : Rules) → IsTaken input → IsTaken output
    → IsPair input output mapping rules → (entries : List Key) → AreKept (pair_names input mapping) entries
    → Same (view_of input) (view_of output) (pair_names input mapping) entries

-- each entry has a line, and so a new name
abbrev pub EntriesHaveLines : Type 0
EntriesHaveLines = (input output : List Class) (mapping : Mapping) (rules : Rules) → IsTaken input
    → IsPair input output mapping rules → (entries : List Key) → AreEntries input rules entries
    → AreKept (pair_names input mapping) entries
