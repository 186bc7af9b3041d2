-- Classes and members as lists of items have them (ProGuard manual, "-printseeds", "-printusage"). Items are the
-- classes of a set in their order, each followed by its fields and then its methods.
use Rattle.std.specs.Prelude.{ℕ, ◌+◌, ◌==◌, Bool, List, [], ◌∷◌, ◌++◌, length, map, nat_le, codes, Result, Ok, Err}
use Rattle.std.specs.Prelude.{if◌then◌else◌}
use Rattle.std.specs.List.{enumerate_from, flat_map, list_any}
use Rattle.mark_core.specs.Marks.{set_of}
use Rattle.class_model.specs.declared.class.Class.{Class}
use Rattle.class_pool.specs.Items.{class_item}
use Rattle.report_text.specs.Spelled.{class_text, member_texts}
use Rattle.list_texts.specs.declared.limit.TooLong.{TooLong}

-- ---- items

-- a member behind the name of its class (ProGuard manual, "-printseeds")
abbrev pub member_text_of : Class → List ℕ → List ℕ
member_text_of c member = class_text c ++ (codes ": " ++ member)

-- a class and its members, in the order of their items (ProGuard manual, "-printseeds")
abbrev pub item_texts_of : Class → List (List ℕ)
item_texts_of c = class_text c ∷ map (member_text_of c) (member_texts c)

-- all items of a set, in their order
abbrev pub item_texts : List Class → List (List ℕ)
item_texts classes = flat_map item_texts_of classes

-- a text with the end of its line (the project's own: a line ends with LF)
abbrev pub line : List ℕ → List ℕ
line text = text ++ 10 ∷ []

-- ---- the list of seeds

-- the item is one of these
abbrev pub is_among : List ℕ → ℕ → Bool
is_among items x = list_any (λ y. x == y) items

-- the line of an item that passes a test; another one has none
abbrev pub line_if : (ℕ → Bool) → ℕ × List ℕ → List ℕ
line_if test (item, text) = if test item then line text else []

-- a line for each seed, in the order of the items (ProGuard manual, "-printseeds")
abbrev pub seeds_text : List Class → List ℕ → List ℕ
seeds_text classes seeds = flat_map (line_if (is_among seeds)) (enumerate_from 0 (item_texts classes))

-- ---- the list of what is dropped

-- the line of a member that isn't marked, four blanks before it (ProGuard manual, "-printusage")
abbrev pub dropped_line : List Bool → ℕ × List ℕ → List ℕ
dropped_line marks (item, text) = if set_of marks item then [] else line (codes "    " ++ text)

-- those of the members of a class, the first of which has this item
abbrev pub dropped_lines : List Bool → ℕ → Class → List ℕ
dropped_lines marks first c = flat_map (dropped_line marks) (enumerate_from first (member_texts c))

-- a class that is kept stands before its members that are dropped, if there are any (ProGuard manual, "-printusage")
abbrev pub kept_class_lines : Class → List ℕ → List ℕ
kept_class_lines c [] = []
kept_class_lines c (b ∷ bs) = line (class_text c ++ codes ":") ++ (b ∷ bs)

-- what is dropped of a class, which has this item (ProGuard manual, "-printusage")
abbrev pub class_usage : List Bool → ℕ → Class → List ℕ
class_usage marks item c =
    if set_of marks item then kept_class_lines c (dropped_lines marks (item + 1) c) else line (class_text c)

-- for each class that is dropped its name, for each that is kept its members that are dropped
-- (ProGuard manual, "-printusage")
abbrev pub usage_text : List Class → List Bool → List ℕ
usage_text classes marks =
    flat_map (λ p. class_usage marks (class_item classes p.0) p.1) (enumerate_from 0 classes)

-- ---- how long a list may be

-- a list of at most so many bytes; a longer one isn't made (the project's own)
abbrev pub up_to : ℕ → List ℕ → Result (List ℕ) TooLong
up_to limit text = if nat_le (length text) limit then Ok text else Err (record { limit = limit })
