-- Tables of names (only the proofs of bodies need them).
use Rattle.std.specs.Prelude.{◌≡◌, ℕ, List, Option}
use Rattle.std.specs.Borrow.{Bor}
use Rattle.std.specs.Map.{lookup}
use Rattle.std.specs.Option.{option_map}
use Rattle.jv_base.specs.Names.{is_text}
use Rattle.mapping_file.specs.declared.mapping.MapClass.{MapClass}
use Rattle.mapping_file.specs.declared.mapping.Range.{Range}
use Rattle.new_names.specs.NewNames.{NameAndType, class_lines, is_same}

-- a table of names has what the first of these pairs has
abbrev pub TellsNames : List (List ℕ × List ℕ) → List (List ℕ × List ℕ) → Type 0
TellsNames table pairs = (name : List ℕ) → lookup (is_text name) table ≡ lookup (λ old. is_text old name) pairs

-- so has a table of members
abbrev pub TellsMembers : List (NameAndType × List ℕ) → List (NameAndType × List ℕ) → Type 0
TellsMembers table pairs = (key : NameAndType) → lookup (is_same key) table ≡ lookup (λ old. is_same old key) pairs

-- so has a table of ranges
abbrev pub TellsRanges : List (NameAndType × Option Range) → List (NameAndType × Option Range) → Type 0
TellsRanges table pairs = (key : NameAndType) → lookup (is_same key) table ≡ lookup (λ old. is_same old key) pairs

-- so has a table of classes
abbrev pub TellsClasses : List (List ℕ × Bor MapClass) → List MapClass → Type 0
TellsClasses table lines = (name : List ℕ)
    → option_map (λ l. l.now) (lookup (is_text name) table) ≡ lookup (λ old. is_text old name) (class_lines lines)
