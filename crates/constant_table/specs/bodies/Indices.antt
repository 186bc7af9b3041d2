-- Where the index of each key is kept (the project's own: only the proof of the table needs it).
use Rattle.std.specs.Prelude.{ℕ, List, Option, None}
use Rattle.std.specs.List.{slice_index_or}
use Rattle.std.specs.Map.{lookup}
use Rattle.constant_table.specs.declared.key.Key.{Key}
use Rattle.constant_table.specs.declared.key.Key.TheVariants as key
use Rattle.constant_table.specs.declared.indices.Indices.{Indices}
use Rattle.constant_table.specs.bodies.Keys.{same_key}

-- the index at a number
abbrev pub slot : List (Option ℕ) → ℕ → Option ℕ
slot slots number = slice_index_or slots number None

-- the index that is kept for a key
abbrev pub index_at : Indices → Key → Option ℕ
index_at indices (key.Utf8 number) = slot indices.texts number
index_at indices (key.Class number) = slot indices.classes number
index_at indices (key.Str number) = slot indices.strings number
index_at indices k = lookup (same_key k) indices.others.entries
