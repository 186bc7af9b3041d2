-- What a line of a mapping file says, read from left to right (ProGuard manual, "ReTrace", the mapping file).
use Rattle.std.specs.Prelude.{ℕ, ◌&&◌, ◌==◌, List, length, Option, Some, None, codes}
use Rattle.jv_base.specs.Names.{is_member_name, is_method_name}
use Rattle.text_lines.specs.Cut.{◌>>=◌, where_true, cut, after}
use Rattle.text_lines.specs.Members.{class_of, type_of, method_type_of}
use Rattle.text_lines.specs.Numbers.{number_below}
use Rattle.mapping_file.specs.declared.line.MapLine.{MapLine}
use Rattle.mapping_file.specs.declared.line.MapLine.TheVariants as line
use Rattle.mapping_file.specs.declared.mapping.Range.{Range}
use Rattle.mapping_file.specs.declared.parts.Parts as kept
use Rattle.mapping_file.specs.declared.parts.Parts.TheVariants as part

-- the parts of a line, which aren't judged yet
pub data Parts : Type 0 where
  class_parts : List ℕ → List ℕ → Parts
  field_parts : List ℕ → List ℕ → List ℕ → Parts
  method_parts : Option Range → List ℕ → List ℕ → List ℕ → List ℕ → Parts

-- `old -> new:`
abbrev pub class_line : List ℕ → Option Parts
class_line text = do
  p ← cut 32 text
  q ← after (codes "-> ") p.1
  r ← cut 58 q
  where_true (length r.1 == 0) (class_parts p.0 r.0)

-- `type old -> new`
abbrev pub field_line : List ℕ → Option Parts
field_line text = do
  p ← cut 32 text
  q ← cut 32 p.1
  new ← after (codes "-> ") q.1
  Some (field_parts p.0 q.0 new)

-- the lines between colons, and what stands behind them
abbrev pub lines_between : List ℕ → List ℕ → Option (Option Range × List ℕ)
lines_between before behind = do
  q ← cut 58 behind
  first ← number_below 65536 before
  last ← number_below 65536 q.0
  Some (Some (record { first = first; last = last }), q.1)

-- the lines where they are told, and what stands behind them
abbrev pub lines_before : List ℕ → Option (List ℕ × List ℕ) → Option (Option Range × List ℕ)
lines_before text None = Some (None, text)
lines_before text (Some p) = lines_between p.0 p.1

-- lines, a type and a name, and behind `(` the rest of the line
abbrev pub method_line : List ℕ → List ℕ → Option Parts
method_line head behind = do
  h ← lines_before head (cut 58 head)
  p ← cut 32 h.1
  q ← cut 41 behind
  new ← after (codes " -> ") q.1
  Some (method_parts h.0 p.0 p.1 q.0 new)

-- a member's line behind its four blanks: a method's where there is a `(`
abbrev pub member_line : List ℕ → Option (List ℕ × List ℕ) → Option Parts
member_line text None = field_line text
member_line text (Some p) = method_line p.0 p.1

-- a member's line begins with four blanks
abbrev pub line_parts : List ℕ → Option (List ℕ) → Option Parts
line_parts text None = class_line text
line_parts text (Some member) = member_line member (cut 40 member)

-- the parts of a line
unfoldable pub parts_of : List ℕ → Option Parts
parts_of text = line_parts text (after (codes "    ") text)

-- what the parts of a line stand for
unfoldable pub said : Parts → Option MapLine
said (class_parts old new) = do
  o ← class_of old
  n ← class_of new
  Some (line.Class o n)
said (field_parts ty old new) = do
  t ← type_of ty
  where_true (is_member_name old && is_member_name new) (line.Field (record { ty = t; old = old; new = new }))
said (method_parts lines ret old args new) = do
  t ← method_type_of ret args
  where_true (is_method_name old && is_method_name new)
      (line.Method (record { lines = lines; ty = t; old = old; new = new }))

-- what a line says, if it is one of a mapping file
unfoldable pub line_said : List ℕ → Option MapLine
line_said text = parts_of text >>= said

-- the parts that the code has (only its proofs need it)
abbrev pub kept_parts : kept.Parts → Parts
kept_parts (part.Class old new) = class_parts old.now new.now
kept_parts (part.Field ty old new) = field_parts ty.now old.now new.now
kept_parts (part.Method lines ret old args new) = method_parts lines ret.now old.now args.now new.now
