-- Names in internal form (JVMS 4.2), seen as their bytes in UTF-8. Of the names that the standard allows only those are
-- taken whose characters are the ones below; the standard forbids no more than `.`, `;`, `[`, `/` and, in method names,
-- `<` and `>`.
use Rattle.std.specs.Prelude.{ℕ, Bool, true, false, not, ◌&&◌, ◌||◌, List, [], ◌∷◌, length, nat_le, nat_eq, ◌==◌, codes}
use Rattle.std.specs.Prelude.{Option, Some, None, if◌then◌else◌}
use Rattle.std.specs.Char.{is_ascii_alphanumeric}
use Rattle.std.specs.Cmp.Lexicographic.{pointwise}
use Rattle.std.specs.List.{list_all, list_any, slice_split}

-- two texts are the same (the project's own: names are compared byte by byte)
abbrev pub is_text : List ℕ → List ℕ → Bool
is_text text other = pointwise nat_eq text other

-- an ASCII letter or digit, `_`, `$`, `-`, or a byte of a character from U+0080 on. In UTF-8 such a character has no
-- byte below 128, and every other one is a single byte, so testing the bytes is testing the characters (the project's
-- own: fewer characters than JVMS 4.2.2 takes)
unfoldable pub is_name_byte : ℕ → Bool
is_name_byte b = nat_le 128 b || is_ascii_alphanumeric b || b == 95 || b == 36 || b == 45

-- each byte is one of a name
abbrev pub all_name_bytes : List ℕ → Bool
all_name_bytes bytes = list_all is_name_byte bytes

-- an unqualified name, of a field or of a method that initialises nothing (JVMS 4.2.2)
unfoldable pub is_member_name : List ℕ → Bool
is_member_name name = not (length name == 0) && all_name_bytes name

-- the name of a method, instance initialisation and class initialisation included (JVMS 2.9, 4.2.2)
unfoldable pub is_method_name : List ℕ → Bool
is_method_name name = is_member_name name || is_text name (codes "<init>") || is_text name (codes "<clinit>")

-- a word that stands for another type, or for none, in Java source; by a choice of our own it names no class
-- (JLS 3.9; that it names no class is the project's own)
unfoldable pub is_primitive_or_void : List ℕ → Bool
is_primitive_or_void text = list_any (is_text text)
    (codes "boolean" ∷ codes "byte" ∷ codes "char" ∷ codes "short" ∷ codes "int" ∷ codes "long" ∷ codes "float"
    ∷ codes "double" ∷ codes "void" ∷ [])

-- the parts of a name between its separators, `/` (JVMS 4.2.1)
abbrev pub name_parts : List ℕ → List (List ℕ)
name_parts name = slice_split (λ b. b == 47) name

-- the name of a class or an interface, arrays aside: such names joined by `/` (JVMS 4.2.1)
unfoldable pub is_class_name : List ℕ → Bool
is_class_name name = list_all is_member_name (name_parts name) && not (is_primitive_or_void name)

-- the same of its parts, read from left to right: whether a part is begun, and each part is whole
-- (only the proof of is_class_name needs it)
abbrev pub parts_whole : Bool → List ℕ → Bool
parts_whole in_part [] = in_part
parts_whole in_part (b ∷ bs) = if b == 47 then in_part && parts_whole false bs else is_name_byte b
    && parts_whole true bs

-- whether a part is begun where a class name goes on with a byte, if it can (JVMS 4.2.1)
unfoldable pub part_after : Bool → ℕ → Option Bool
part_after in_part b =
    if b == 47 then (if in_part then Some false else None)
    else if is_name_byte b then Some true
    else None
