-- Paths: an optional `/`, and then segments joined by `/` (the project's own: one form of each path).
use Rattle.std.specs.Prelude.{◌≡◌, ℕ, ◌+◌, take, drop, Bool, false, not, ◌&&◌, ◌==◌, List, [], ◌∷◌, length, Option}
use Rattle.std.specs.Prelude.{Some, None}
use Rattle.std.specs.Prelude.{if◌then◌else◌, codes, nat_eq}
use Rattle.std.specs.List.{list_all, slice_split}
use Rattle.std.specs.Cmp.Lexicographic.{pointwise}
use Rattle.jv_base.specs.Names.{is_text}

-- no segment is empty, `.` or `..`
abbrev pub is_segment : List ℕ → Bool
is_segment segment = not (length segment == 0) && not (is_text segment (codes "."))
    && not (is_text segment (codes ".."))

-- the byte is a `/`
abbrev pub is_slash : ℕ → Bool
is_slash b = b == 47

-- segments joined by `/`
unfoldable pub are_segments : List ℕ → Bool
are_segments text = list_all is_segment (slice_split is_slash text)

-- the first of several segments ends there (only the proof of is_path needs it)
abbrev pub EndsFirst : List ℕ → ℕ → Type 0
EndsFirst text at = are_segments text ≡ (is_segment (take at text) && are_segments (drop (at + 1) text))

-- a text without the `/` at its front
abbrev pub without_root : List ℕ → List ℕ
without_root [] = []
without_root (b ∷ rest) = if b == 47 then rest else b ∷ rest

-- the text is a path
abbrev pub is_path : List ℕ → Bool
is_path text = are_segments (without_root text)

-- a text without one `/` at its end
unfoldable pub without_slash : List ℕ → List ℕ
without_slash [] = []
without_slash (b ∷ []) = if is_slash b then [] else b ∷ []
without_slash (b ∷ c ∷ rest) = b ∷ without_slash (c ∷ rest)

-- the directory that a word names
abbrev pub directory_in : List ℕ → Option (List ℕ)
directory_in word = let text = without_slash word in if is_path text then Some text else None

-- the file that a word names
abbrev pub file_in : List ℕ → Option (List ℕ)
file_in word = if is_path word then Some word else None

-- a path lies below a directory: it begins with the directory and a `/`
abbrev pub is_below : List ℕ → List ℕ → Bool
is_below [] [] = false
is_below (b ∷ path) [] = b == 47
is_below [] (d ∷ directory) = false
is_below (b ∷ path) (d ∷ directory) = b == d && is_below path directory

-- a text begins with a `/` (only the proof of is_below needs it)
abbrev pub begins_with_slash : List ℕ → Bool
begins_with_slash [] = false
begins_with_slash (b ∷ text) = b == 47

-- a directory stands at the front of a path (only the proof of is_below needs it)
abbrev pub stands_in_front : List ℕ → List ℕ → Bool
stands_in_front path directory = pointwise nat_eq (take (length directory) path) directory
