-- The names of what is wrong with a line (the project's own: what the command says).
use Rattle.std.specs.Prelude.{ℕ, List, codes}
use Rattle.witness_file.specs.declared.witness.WitKind.{WitKind}
use Rattle.witness_file.specs.declared.witness.WitKind.TheVariants.{NotUtf8, BadLine, BadOrder}

-- the word for a kind of fault
abbrev pub wit_kind_name : WitKind → List ℕ
wit_kind_name NotUtf8 = codes "NotUtf8"
wit_kind_name BadLine = codes "BadLine"
wit_kind_name BadOrder = codes "BadOrder"
