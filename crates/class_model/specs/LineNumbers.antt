-- The attribute LineNumberTable (JVMS 4.7.12).
use Rattle.std.specs.Prelude.{◌≡◌, ℕ, ◌^◌, ◌<◌, Bool, true, List, [], ◌∷◌, ◌++◌, length, fold, Option, Some, None}
use Rattle.std.specs.Prelude.{option_map, nat_le, ◌&&◌, if◌then◌else◌}
use Rattle.std.specs.Int.{w16, to_be_bytes}
use Rattle.std.specs.List.{AllByRecursion, flat_map}
use Rattle.class_model.specs.Structure.{AttributeInfo}

-- a row of the line_number_table
pub record LineNumber : Type 0 where
  pub start_pc : ℕ
  pub line_number : ℕ

-- the bytes of a row (JVMS 4.7.12)
abbrev pub line_number : LineNumber → List ℕ
line_number row = to_be_bytes w16 row.start_pc ++ to_be_bytes w16 row.line_number

-- both numbers of a row have two bytes (JVMS 4.7.12)
abbrev pub FitsLine : LineNumber → Type 0
FitsLine row = (row.start_pc < 2 ^ 16) × (row.line_number < 2 ^ 16)

-- the contents are a table of these rows (JVMS 4.7.12)
pub record IsLineTable (info : List ℕ) (rows : List LineNumber) : Type 0 where
  pub is : info ≡ to_be_bytes w16 (length rows) ++ flat_map line_number rows
  pub count_fits : length rows < 2 ^ 16
  pub fit : AllByRecursion FitsLine rows

-- a code may have several tables, whose rows are taken together in the order of the file (JVMS 4.7.12)
abbrev pub AreLineTables : List AttributeInfo → List LineNumber → Type 0
AreLineTables [] rows = rows ≡ []
AreLineTables (a ∷ others) rows =
    (first : List LineNumber) × (behind : List LineNumber) × IsLineTable a.info first × AreLineTables others behind
    × (rows ≡ first ++ behind)

-- of two rows at or before an instruction the one with the greater start counts, and of equals the later one
-- (the project's own: JVMS 4.7.12 doesn't say which counts)
abbrev pub is_nearer : Option LineNumber → LineNumber → Bool
is_nearer (Some best) row = nat_le best.start_pc row.start_pc
is_nearer None row = true

-- which row counts for the instruction at an offset, of the best so far and the next of the table
-- (the project's own: JVMS 4.7.12 doesn't say which counts)
abbrev pub nearer : ℕ → Option LineNumber → LineNumber → Option LineNumber
nearer start best row = if nat_le row.start_pc start && is_nearer best row then Some row else best

-- the line of the instruction that begins at an offset (JVMS 4.7.12; which of several rows counts is the project's own)
abbrev pub line_at : List LineNumber → ℕ → Option ℕ
line_at rows start = option_map (λ (row : LineNumber). row.line_number) (fold (nearer start) None rows)
