-- Texts that are read line by line (ProGuard manual, "ReTrace": a mapping file; the rest is the project's own).
use Rattle.std.specs.Prelude.{ℕ, ◌+◌, Bool, true, false, not, ◌||◌, ◌==◌, List, [], ◌∷◌, filter, Option, Some, None}
use Rattle.std.specs.Prelude.{Result, Ok, Err}
use Rattle.std.specs.Prelude.{if◌then◌else◌}
use Rattle.std.specs.List.{AllByRecursion, list_all}
use Rattle.std.specs.Str.{IsUtf8, is_utf8}
use Rattle.std.specs.Str.Lines.{lines}
use Rattle.jv_base.specs.Outcome.{◌>>=◌}

-- a space or a tab
abbrev pub is_blank : ℕ → Bool
is_blank b = b == 32 || b == 9

-- the line begins with `#`
abbrev pub is_comment : List ℕ → Bool
is_comment [] = false
is_comment (b ∷ bs) = b == 35

-- a comment, or nothing but blanks
unfoldable pub is_passed_over : List ℕ → Bool
is_passed_over line = is_comment line || list_all is_blank line

-- ---- the grammar: lines and values

-- the lines that say something
abbrev pub saying : List (List ℕ) → List (List ℕ)
saying ls = filter (λ l. not (is_passed_over l)) ls

-- the lines spell the items one by one
abbrev pub AllSpell : {X : Type 0} → (List ℕ → X → Type 0) → List (List ℕ) → List X → Type 0
AllSpell spells [] [] = Unit {0}
AllSpell spells [] (x ∷ xs) = ⊥
AllSpell spells (l ∷ ls) [] = ⊥
AllSpell spells (l ∷ ls) (x ∷ xs) = spells l x × AllSpell spells ls xs

-- each line is in UTF-8, and those that say something spell the items one by one
pub record AreSpelled {X : Type 0} (spells : List ℕ → X → Type 0) (ls : List (List ℕ)) (items : List X) : Type 0 where
  pub utf8 : AllByRecursion IsUtf8 ls
  pub spelled : AllSpell spells (saying ls) items

-- ---- reading

-- what a line makes of what was read before it; one that says nothing leaves it
abbrev pub line_read : {S K : Type 0} → K → (List ℕ → S → Result S K) → List ℕ → S → Result S K
line_read not_utf8 read line s =
    if is_utf8 line then (if is_passed_over line then Ok s else read line s) else Err not_utf8

-- what was read, with an item that a line spells; a line may spell none
abbrev pub item_added : {X S K : Type 0} → K → (X → S → Result S K) → Option X → S → Result S K
item_added bad_line add (Some x) s = add x s
item_added bad_line add None s = Err bad_line

-- a kind of fault as the fault of a line
abbrev pub at_line : {S K F : Type 0} → (ℕ → K → F) → ℕ → Result S K → Result S F
at_line fault n (Ok s) = Ok s
at_line fault n (Err kind) = Err (fault n kind)

-- what the line of a number makes of what was read before it. Its kinds of fault are those of a line that isn't in
-- UTF-8 and of one that spells no item; an item may be one that can't be added
abbrev pub line_step : {X S K F : Type 0} → (ℕ → K → F) → K → K → (List ℕ → Option X) → (X → S → Result S K) → ℕ
    → List ℕ → S → Result S F
line_step fault not_utf8 bad_line item_of add n line s =
    at_line fault n (line_read not_utf8 (λ l t. item_added bad_line add (item_of l) t) line s)

-- what lines make of what was read before them, or the first fault; the first of them has this number
unfoldable pub read_lines : {S F : Type 0} → (ℕ → List ℕ → S → Result S F) → ℕ → List (List ℕ) → S → Result S F
read_lines step n [] s = Ok s
read_lines step n (l ∷ ls) s = step n l s >>= (λ t. read_lines step (n + 1) ls t)
