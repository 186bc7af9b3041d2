-- What a config's text is made of: blanks, comments and words (ProGuard manual, "Usage": blanks separate words, `#`
-- begins a comment, and a text in quotes is a word; that a line feed alone ends a line, a comment and a quote's line,
-- and that a quote or a `#` ends the word before it, is the project's own).
use Rattle.std.specs.Prelude.{◌≡◌, ℕ, ◌+◌, Bool, true, false, not, ◌||◌, ◌==◌, if◌then◌else◌, List, [], ◌∷◌, ◌++◌}
use Rattle.std.specs.Prelude.{Option}
use Rattle.std.specs.Prelude.{Some, None, IsTrue}
use Rattle.std.specs.List.{list_all, flat_map}
use Rattle.conf_words.specs.declared.splitting.Word.{Word}
use Rattle.conf_words.specs.declared.kinds.Kind.{Kind}
use Rattle.conf_words.specs.declared.kinds.Kind.TheVariants.{LineEnd, Blank, Hash, Mark, Quote, Plain}

-- what a byte is: a line feed; a space, tab, carriage return or form feed; `#`; one of `( ) , ; { }`; `"` or `'`; or
-- one of a word. In UTF-8 a character from U+0080 on has no byte below 128, so it is of a word.
unfoldable pub kind_of : ℕ → Kind
kind_of b =
    if b == 10 then LineEnd
    else if b == 32 || b == 9 || b == 13 || b == 12 then Blank
    else if b == 35 then Hash
    else if b == 40 || b == 41 || b == 44 || b == 59 || b == 123 || b == 125 then Mark
    else if b == 34 || b == 39 then Quote
    else Plain

-- a byte of another kind ends a word
abbrev pub ends_of : Kind → Bool
ends_of Plain = false
ends_of _ = true

-- a byte that ends a word
abbrev pub ends_word : ℕ → Bool
ends_word b = ends_of (kind_of b)

-- a byte that ends a line
abbrev pub ends_line : ℕ → Bool
ends_line b = b == 10

-- a byte that ends a quote, or the line on which it has to be closed
abbrev pub ends_quote : ℕ → ℕ → Bool
ends_quote quote b = b == quote || ends_line b

-- a piece of a text
pub data Piece : Type 0 where
  line_end : Piece
  blank : ℕ → Piece
  comment : List ℕ → Piece
  mark : ℕ → Piece
  quoted : ℕ → List ℕ → Piece
  plain : List ℕ → Piece

-- its bytes
abbrev pub spelled : Piece → List ℕ
spelled line_end = 10 ∷ []
spelled (blank b) = b ∷ []
spelled (comment text) = 35 ∷ text
spelled (mark b) = b ∷ []
spelled (quoted quote text) = quote ∷ (text ++ quote ∷ [])
spelled (plain text) = text

-- no byte of a text passes the test
abbrev pub Lacks : (ℕ → Bool) → List ℕ → Type 0
Lacks test text = IsTrue (list_all (λ b. not (test b)) text)

-- a text has no byte, or begins with one that passes the test
abbrev pub stops : (ℕ → Bool) → List ℕ → Bool
stops test [] = true
stops test (b ∷ text) = test b

-- a piece may stand before a text: a comment goes to the end of its line, a quote is closed on its line, and a word
-- without quotes goes as far as it can
abbrev pub StandsBefore : Piece → List ℕ → Type 0
StandsBefore line_end behind = Unit {0}
StandsBefore (blank b) behind = kind_of b ≡ Blank
StandsBefore (comment text) behind = Lacks ends_line text × IsTrue (stops ends_line behind)
StandsBefore (mark b) behind = kind_of b ≡ Mark
StandsBefore (quoted quote text) behind = (kind_of quote ≡ Quote) × Lacks (ends_quote quote) text
StandsBefore (plain []) behind = ⊥
StandsBefore (plain (b ∷ text)) behind = Lacks ends_word (b ∷ text) × IsTrue (stops ends_word behind)

-- pieces, one behind the other, and then a text
abbrev pub StandBefore : List Piece → List ℕ → Type 0
StandBefore [] behind = Unit {0}
StandBefore (piece ∷ pieces) behind = StandsBefore piece (flat_map spelled pieces ++ behind)
    × StandBefore pieces behind

-- the word that a piece is
abbrev pub word_of : Piece → Option (List ℕ)
word_of line_end = None
word_of (blank b) = None
word_of (comment text) = None
word_of (mark b) = Some (b ∷ [])
word_of (quoted quote text) = Some text
word_of (plain text) = Some text

-- how many lines a piece ends
abbrev pub lines_of : Piece → ℕ
lines_of line_end = 1
lines_of _ = 0

-- a word, if there is one, on a line, before others
abbrev pub word_before : Option (List ℕ) → ℕ → List Word → List Word
word_before None line words = words
word_before (Some text) line words = record { text = text; line = line } ∷ words

-- the words of pieces, of which the first stands on a line
abbrev pub words_from : ℕ → List Piece → List Word
words_from line [] = []
words_from line (piece ∷ pieces) = word_before (word_of piece) line (words_from (line + lines_of piece) pieces)

-- the line behind pieces, of which the first stands on a line
abbrev pub line_behind : ℕ → List Piece → ℕ
line_behind line [] = line
line_behind line (piece ∷ pieces) = line_behind (line + lines_of piece) pieces

-- a text has these words, and no others
pub record HasWords (text : List ℕ) (words : List Word) : Type 0 where
  pub pieces : List Piece
  pub spelled_so : text ≡ flat_map spelled pieces
  pub apart : StandBefore pieces []
  pub are : words ≡ words_from 1 pieces

-- a quote is opened on a line of a text, and isn't closed there
pub record LeavesOpen (text : List ℕ) (line : ℕ) : Type 0 where
  pub pieces : List Piece
  pub quote : ℕ
  pub inside : List ℕ
  pub behind : List ℕ
  pub spelled_so : text ≡ flat_map spelled pieces ++ quote ∷ (inside ++ behind)
  pub apart : StandBefore pieces (quote ∷ (inside ++ behind))
  pub opened : kind_of quote ≡ Quote
  pub not_closed : Lacks (ends_quote quote) inside
  pub line_ends : IsTrue (stops ends_line behind)
  pub on_line : line ≡ line_behind 1 pieces
