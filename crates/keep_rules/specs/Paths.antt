-- Paths that stand in one another's way (the project's own: what is written destroys nothing that is read or written in
-- the same run, and doesn't fail behind what is written for a reason that the config shows).
use Rattle.std.specs.Prelude.{ℕ, Bool, false, not, ◌&&◌, ◌||◌, ◌==◌, List, [], ◌∷◌, length, Option, Some, None}
use Rattle.std.specs.List.{list_any}
use Rattle.jv_base.specs.Names.{is_text}
use Rattle.path_text.specs.Path.{is_below}
use Rattle.keep_rules.specs.declared.rules.Rules.{Rules}

-- a text, if there is one, before others
abbrev pub before_texts : Option (List ℕ) → List (List ℕ) → List (List ℕ)
before_texts None texts = texts
before_texts (Some text) texts = text ∷ texts

-- the files that a run writes beside the classes; the witness is the empty text where none is written
abbrev pub files_of : Rules → List ℕ → List (List ℕ)
files_of rules witness = rules.mapping ∷ before_texts rules.seeds (before_texts rules.usage (witness ∷ []))

-- two paths are one, or one of them lies below the other
abbrev pub meets : List ℕ → List ℕ → Bool
meets a b = is_text a b || is_below a b || is_below b a

-- a path lies below a file; below the empty text, which stands for no file, none does
abbrev pub is_below_file : List ℕ → List ℕ → Bool
is_below_file path file = not (length file == 0) && is_below path file

-- a path and a file that is written are one, or one of them lies below the other
abbrev pub meets_file : List ℕ → List ℕ → Bool
meets_file path file = is_text path file || is_below_file path file || is_below file path

-- two of these files meet
abbrev pub any_meet : List (List ℕ) → Bool
any_meet [] = false
any_meet (file ∷ files) = list_any (meets_file file) files || any_meet files

-- two of both directories and of the files that are written meet
unfoldable pub paths_meet : Rules → List ℕ → Bool
paths_meet rules witness =
    let files = files_of rules witness in
    meets rules.in_dir rules.out_dir || list_any (meets_file rules.in_dir) files
    || (list_any (meets_file rules.out_dir) files || any_meet files)

-- a path is this one, or lies below it
abbrev pub is_at : List ℕ → List ℕ → Bool
is_at place path = is_text place path || is_below path place

-- the config lies below the output directory, or this or a file that is written is the config or lies below it
unfoldable pub meets_config : List ℕ → Rules → List ℕ → Bool
meets_config config rules witness =
    is_below config rules.out_dir || list_any (is_at config) (rules.out_dir ∷ files_of rules witness)
