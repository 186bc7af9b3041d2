-- The text of an entry: a static method that a run begins with, spelled `class.name(types)` (ProGuard manual, "ReTrace":
-- names and types as a mapping file has them; that they are joined so is the project's own).
use Rattle.std.specs.Prelude.{ℕ, Bool, false, ◌&&◌, ◌==◌, List, [], ◌∷◌, length, Option, Some, None, codes, is_some}
use Rattle.std.specs.Prelude.{if◌then◌else◌}
use Rattle.jv_base.specs.Names.{is_method_name}
use Rattle.text_lines.specs.Cut.{◌>>=◌, cut, where_true}
use Rattle.text_lines.specs.Members.{class_of, method_type_of}

-- a text is cut at a later byte, or else at this one where it is the byte
abbrev pub last_on : ℕ → ℕ → List ℕ → Option (List ℕ × List ℕ) → Option (List ℕ × List ℕ)
last_on byte x xs None = if x == byte then Some ([], xs) else None
last_on byte x xs (Some parts) = Some (x ∷ parts.0, parts.1)

-- the text before the last such byte, and the one behind it
unfoldable pub cut_last : ℕ → List ℕ → Option (List ℕ × List ℕ)
cut_last byte [] = None
cut_last byte (x ∷ xs) = last_on byte x xs (cut_last byte xs)

-- what stands before the parenthesis, where the other one ends the text, and between them
abbrev pub closed : List ℕ → List ℕ → Option (List ℕ × List ℕ)
closed head rest = cut 41 rest >>= (λ types. where_true (length types.1 == 0) (head, types.0))

abbrev pub entry_parts : List ℕ → Option (List ℕ × List ℕ)
entry_parts text = cut 40 text >>= (λ parts. closed parts.0 parts.1)

-- the name of a class with dots, and that of a method
abbrev pub are_names : Option (List ℕ × List ℕ) → Bool
are_names (Some names) = is_method_name names.1 && is_some (class_of names.0)
are_names None = false

-- the types of the parameters of a method
abbrev pub are_types : List ℕ → Bool
are_types text = is_some (method_type_of (codes "void") text)

abbrev pub are_parts : Option (List ℕ × List ℕ) → Bool
are_parts (Some parts) = are_names (cut_last 46 parts.0) && are_types parts.1
are_parts None = false

-- the text is that of an entry
unfoldable pub is_entry : List ℕ → Bool
is_entry text = are_parts (entry_parts text)
