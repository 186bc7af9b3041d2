-- How long the text of a mapping may be (the project's own: a longer one isn't made).
use Rattle.std.specs.Prelude.{ℕ, List, length, nat_le, Option, Some, None, if◌then◌else◌}
use Rattle.mapping_file.specs.Mappings.{mapping_text}
use Rattle.mapping_file.specs.declared.mapping.Mapping.{Mapping}

-- the text, if it has at most so many bytes
abbrev pub text_within : ℕ → Mapping → Option (List ℕ)
text_within limit map = if nat_le (length (mapping_text map)) limit then Some (mapping_text map) else None
