-- The names of what is wrong with a line (the project's own: what the commands say).
use Rattle.std.specs.Prelude.{ℕ, List, codes}
use Rattle.mapping_file.specs.declared.mapping.MapKind.{MapKind}
use Rattle.mapping_file.specs.declared.mapping.MapKind.TheVariants.{NotUtf8, BadLine, NoClass, Repeated}

-- the word for a kind of fault
abbrev pub map_kind_name : MapKind → List ℕ
map_kind_name NotUtf8 = codes "NotUtf8"
map_kind_name BadLine = codes "BadLine"
map_kind_name NoClass = codes "NoClass"
map_kind_name Repeated = codes "Repeated"
