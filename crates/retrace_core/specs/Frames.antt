-- The line of a frame, as `    at demo.Main.main(Main.java:5)` (ProGuard manual, "ReTrace"; as Java prints one, and
-- which lines are taken is the project's own).
use Rattle.std.specs.Prelude.{ℕ, ◌+◌, ◌-◌, ◌*◌, min, not, ◌&&◌, List, [], length, take, drop, Option, Some, None}
use Rattle.std.specs.Prelude.{codes, ◌==◌, if◌then◌else◌}
use Rattle.std.specs.List.{fold, list_any, position, slice_index}
use Rattle.std.specs.Str.{is_utf8}
use Rattle.jv_base.specs.Names.{is_method_name}
use Rattle.text_lines.specs.Cut.{◌>>=◌, where_true}
use Rattle.text_lines.specs.Lines.{is_blank}
use Rattle.text_lines.specs.Numbers.{are_digits}
use Rattle.retrace_core.specs.Cut.{behind, last_place_of, place_of}

-- what a frame's line says: what stands before `at `, the class and the method, and the line number with its colon,
-- empty where there is none
pub record Frame : Type 0 where
  pub blanks : List ℕ
  pub class : List ℕ
  pub method : List ℕ
  pub number : List ℕ

-- the number behind a source, of which no byte is `)`
abbrev pub lacks_end : List ℕ → List ℕ → Option (List ℕ)
lacks_end source number = where_true (not (list_any (λ b. b == 41) source)) number

-- digits behind a colon, one at least
abbrev pub numbered : List ℕ → List ℕ → Option (List ℕ)
numbered source number = if length number == 1 then None
    else (if are_digits (drop 1 number) then lacks_end source number else None)

-- the line behind a colon, if there is one; it is counted up to 65,536, which no range holds (JVMS 4.7.12)
abbrev pub line_of : List ℕ → Option ℕ
line_of number = if length number == 0 then None
    else Some (fold (λ n b. min 65536 (10 * n + (b - 48))) 0 (drop 1 number))

-- a source without a colon, and perhaps a colon and digits
abbrev pub number_from : Option ℕ → List ℕ → Option (List ℕ)
number_from None text = lacks_end text []
number_from (Some n) text = numbered (take n text) (drop n text)

-- the line number that stands between parentheses, behind a source without `:` and `)`
unfoldable pub number_in : List ℕ → Option (List ℕ)
number_in text = number_from (place_of 58 text) text

-- what stands before a `)` at the end
abbrev pub closed : List ℕ → Option (List ℕ)
closed text = if slice_index text (length text - 1) == 41 then Some (take (length text - 1) text) else None

-- the line number behind `(`, where `)` ends the line
abbrev pub number_of : List ℕ → Option (List ℕ)
number_of text = closed text >>= number_in

-- a class and, behind the last dot, a method
unfoldable pub class_and_method : List ℕ → Option (List ℕ × List ℕ)
class_and_method text = do
  dot ← last_place_of 46 text
  where_true (is_utf8 (drop (dot + 1) text) && is_method_name (drop (dot + 1) text))
      (take dot text, drop (dot + 1) text)

-- what stands behind `at `
unfoldable pub frame_behind : List ℕ → List ℕ → Option Frame
frame_behind blanks text = do
  paren ← place_of 40 text
  named ← class_and_method (take paren text)
  number ← number_of (drop (paren + 1) text)
  Some (record { blanks = blanks; class = named.0; method = named.1; number = number })

-- the frame whose line this is, if it is one's
unfoldable pub frame_of : List ℕ → Option Frame
frame_of line = do
  n ← position (λ b. not (is_blank b)) line
  text ← behind (codes "at ") (drop n line)
  frame_behind (take n line) text
