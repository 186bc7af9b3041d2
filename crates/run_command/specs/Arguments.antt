-- What the words behind an entry give its method (the project's own: how arguments are spelled).
use Rattle.std.specs.Prelude.{ℕ, ℤ, pos, neg_ℤ, ◌+◌, ◌^◌, nat_lt, Bool, false, ◌&&◌, ◌==◌, List, [], ◌∷◌, length}
use Rattle.std.specs.Prelude.{Option, Some, None, codes, if◌then◌else◌}
use Rattle.std.specs.Option.{option_map}
use Rattle.jv_base.specs.Names.{is_text}
use Rattle.jv_base.specs.Utf16.{units_of}
use Rattle.jv_base.specs.declared.types.Base.{Base}
use Rattle.jv_base.specs.declared.types.Base.TheVariants as base
use Rattle.jv_base.specs.declared.types.FieldType.{FieldType}
use Rattle.text_lines.specs.Cut.{after}
use Rattle.text_lines.specs.Numbers.{number_below}
use Rattle.jvm_model.specs.Heap.{string}
use Rattle.jvm_model.specs.Start.{are_units}
use Rattle.class_run.specs.declared.ended.Arg.{Arg}
use Rattle.class_run.specs.declared.ended.Arg.TheVariants as arg

-- ---- numbers

-- A number below a limit; or behind a `~`, since a word that begins with `-` is an option, one that isn't above it with
-- a minus. `~0` is 0.
abbrev pub signed_by : ℕ → List ℕ → Option (List ℕ) → Option ℤ
signed_by limit word (Some digits) = option_map (λ n. neg_ℤ (pos n)) (number_below (limit + 1) digits)
signed_by limit word None = option_map (λ n. pos n) (number_below limit word)

unfoldable pub signed : ℕ → List ℕ → Option ℤ
signed limit word = signed_by limit word (after (codes "~") word)

-- ---- arguments

-- `true` is 1 and `false` is 0
abbrev pub truth : List ℕ → Option Arg
truth word =
    if is_text word (codes "true") then Some (arg.Int (pos 1))
    else if is_text word (codes "false") then Some (arg.Int (pos 0))
    else None

-- a char is its number
abbrev pub char_number : List ℕ → Option Arg
char_number word = option_map (λ n. arg.Int (pos n)) (number_below 65536 word)

abbrev pub int : ℕ → List ℕ → Option Arg
int limit word = option_map (λ z. arg.Int z) (signed limit word)

abbrev pub long : List ℕ → Option Arg
long word = option_map (λ z. arg.Long z) (signed 9223372036854775808 word)

-- the string that a word spells: its units, if a String can have as many (Java SE 8 API, String: a length is an int)
abbrev pub string_in : List ℕ → Option (List ℕ)
string_in word = if are_units (units_of word) then Some (units_of word) else None

abbrev pub text_arg : List ℕ → Option Arg
text_arg word = option_map (λ units. arg.Text units) (string_in word)

-- the argument that a word is for a parameter of a type without dimensions (JVMS 4.3.2; the ranges of JVMS 2.3.1)
unfoldable pub arg_of_base : Base → List ℕ → Option Arg
arg_of_base base.Boolean word = truth word
arg_of_base base.Byte word = int 128 word
arg_of_base base.Char word = char_number word
arg_of_base base.Short word = int 32768 word
arg_of_base base.Int word = int 2147483648 word
arg_of_base base.Long word = long word
arg_of_base (base.Class name) word = if is_text name string then text_arg word else None
arg_of_base _ word = None

abbrev pub arg_in : FieldType → List ℕ → Option Arg
arg_in ty word = if ty.dims == 0 then arg_of_base ty.base word else None

-- the type is String[]
abbrev pub is_string : Base → Bool
is_string (base.Class name) = is_text name string
is_string _ = false

abbrev pub is_texts : FieldType → Bool
is_texts ty = ty.dims == 1 && is_string ty.base

-- one of several before others, if each is there
abbrev pub before : {A : Type 0} → Option A → Option (List A) → Option (List A)
before (Some x) (Some xs) = Some (x ∷ xs)
before _ _ = None

-- the strings that words spell, each of them
unfoldable pub strings_in : List (List ℕ) → Option (List (List ℕ))
strings_in [] = Some []
strings_in (word ∷ words) = before (string_in word) (strings_in words)

-- the same, if an array can have as many components (JVMS 6.5.arraylength: a length is an int)
abbrev pub texts_in : List (List ℕ) → Option (List (List ℕ))
texts_in words = if nat_lt (length words) (2 ^ 31) then strings_in words else None

-- the one argument that such strings are
abbrev pub as_texts : Option (List (List ℕ)) → Option (List Arg)
as_texts o = option_map (λ texts. arg.Texts texts ∷ []) o

-- the words are the arguments of parameters of these types: one word for each, and for a last String[] all words that
-- are left
unfoldable pub args_in : List FieldType → List (List ℕ) → Option (List Arg)
args_in [] [] = Some []
args_in [] (word ∷ words) = None
args_in (ty ∷ types) [] = if length types == 0 && is_texts ty then as_texts (texts_in []) else None
args_in (ty ∷ types) (word ∷ words) =
    if length types == 0 && is_texts ty then as_texts (texts_in (word ∷ words))
    else before (arg_in ty word) (args_in types words)
