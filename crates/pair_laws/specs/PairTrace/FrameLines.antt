-- The lines of frames as Java prints them (ProGuard manual, "ReTrace").
use Rattle.std.specs.Prelude.{◌≡◌, ◌<◌, ◌⊎◌, ◌==◌, ℕ, true, false, List, [], ◌∷◌, Option, Some, codes}
use Rattle.std.specs.Fmt.{decimal}
use Rattle.std.specs.List.{AllByRecursion, Contains}
use Rattle.jv_base.specs.External.{dotted}
use Rattle.text_lines.specs.Numbers.{are_digits}
use Rattle.class_model.specs.declared.code.Code.{Code}
use Rattle.rename_map.specs.MappingOf.{lines_of}
use Rattle.jvm_model.specs.Value.{Key}
use Rattle.retrace_core.specs.Retraced.{frame_text}

-- no byte of a text is this one
abbrev pub HasNone : ℕ → List ℕ → Type 0
HasNone byte text = AllByRecursion (λ b. (b == byte) ≡ false) text

-- the line number of a frame as it is printed: a colon and digits; or nothing, where a frame has none
abbrev pub IsNumber : List ℕ → Type 0
IsNumber number = (number ≡ [])
    ⊎ ((d : ℕ) × (ds : List ℕ) × (are_digits (d ∷ ds) ≡ true) × (number ≡ 58 ∷ (d ∷ ds)))

-- the same of one of the lines of a code; a line number has 16 bits (JVMS 4.7.12)
pub record IsLineOf (code : Code) (number : List ℕ) : Type 0 where
  pub line : ℕ
  pub small : line < 65536
  pub among : Contains (lines_of code) line
  pub is : number ≡ 58 ∷ decimal line

-- what a frame of a method prints as its line: nothing, or one of the lines of its code
abbrev pub IsLineNumber : Option Code → List ℕ → Type 0
IsLineNumber code number = (number ≡ []) ⊎ ((c : Code) × (code ≡ Some c) × IsLineOf c number)

-- the name of a source file, as it is printed
pub record IsSource (source : List ℕ) : Type 0 where
  pub colon : HasNone 58 source
  pub end : HasNone 41 source

-- the line of a frame of a method, by its class and its name
abbrev pub frame_line : Key → (number source : List ℕ) → List ℕ
frame_line k number source = frame_text (record {
  blanks = codes "    ";
  class = dotted k.class;
  method = k.name;
  number = number;
}) source
