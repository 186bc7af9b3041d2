-- What a pair does that `check` takes (the project's own).
use Rattle.std.specs.Prelude.{List}
use Rattle.tree_io.specs.declared.file_at.FileAt.{FileAt}
use Rattle.keep_rules.specs.declared.rules.Rules.{Rules}
use Rattle.mapping_file.specs.declared.mapping.Mapping.{Mapping}
use Rattle.pair_laws.specs.PairSound.Laws.{DoTheSame}

-- the files of an input and those of an output are taken as sets, and the output does what the input does
abbrev pub DirectoriesDoTheSame : List FileAt → List FileAt → Rules → Mapping → Type 0
DirectoriesDoTheSame input output rules mapping = DoTheSame input output rules mapping
