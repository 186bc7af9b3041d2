-- The line of a thrown object, as `Caused by: demo.Failed: text` (ProGuard manual, "ReTrace"; as Java prints one, and
-- which lines are taken is the project's own).
use Rattle.std.specs.Prelude.{ℕ, ◌+◌, Bool, ◌||◌, List, length, take, drop, Option, Some, None, codes, ◌==◌}
use Rattle.std.specs.Prelude.{if◌then◌else◌}
use Rattle.std.specs.Option.{unwrap_or}
use Rattle.text_lines.specs.Cut.{where_true}
use Rattle.retrace_core.specs.Cut.{begins, place_of}

-- what the line of a thrown object says: what stands before its class, the class, and what stands behind it
pub record Head : Type 0 where
  pub front : List ℕ
  pub class : List ℕ
  pub text : List ℕ

-- how many bytes stand before the class, where a quote ends the name of a thread
abbrev pub behind_thread : List ℕ → Option ℕ → ℕ
behind_thread line None = 0
behind_thread line (Some n) = if begins (codes " ") (drop (n + 22) line) then n + 23 else 0

-- how many bytes stand before the class: `Caused by: `, or `Exception in thread "..." `
unfoldable pub front_length : List ℕ → ℕ
front_length line =
    if begins (codes "Caused by: ") line then 11
    else if begins (codes "Exception in thread \"") line then behind_thread line (place_of 34 (drop 21 line))
    else 0

-- a class is followed by nothing, or by `: ` and a text
abbrev pub ends_class : List ℕ → Bool
ends_class text = length text == 0 || begins (codes ": ") text

-- the class ends before this place
abbrev pub head_at : List ℕ → List ℕ → ℕ → Option Head
head_at front text end = where_true (ends_class (drop end text))
    (record { front = front; class = take end text; text = drop end text })

-- a class, and perhaps a text, behind a front
unfoldable pub head_behind : List ℕ → List ℕ → Option Head
head_behind front text = head_at front text (unwrap_or (place_of 58 text) (length text))

-- the thrown object whose line this is, if it is one's
unfoldable pub head_of : List ℕ → Option Head
head_of line = head_behind (take (front_length line) line) (drop (front_length line) line)
