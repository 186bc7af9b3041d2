-- The words of a text, read from left to right, or the first fault (the project's own: which fault is told).
use Rattle.std.specs.Prelude.{ℕ, zero, suc, ◌+◌, ◌-◌, ◌==◌, if◌then◌else◌, List, [], ◌∷◌, ◌++◌, length, drop, get_or}
use Rattle.std.specs.Prelude.{Option, Some, None, Result, Ok, Err}
use Rattle.std.specs.List.{before_first}
use Rattle.std.specs.Str.{is_utf8}
use Rattle.std.specs.Str.Lossy.{utf8_valid_len}
use Rattle.conf_words.specs.declared.splitting.Word.{Word}
use Rattle.conf_words.specs.declared.splitting.WordFault.{WordFault}
use Rattle.conf_words.specs.declared.splitting.WordFault.TheVariants.{NotUtf8, QuoteOpen}
use Rattle.conf_words.specs.declared.kinds.Kind.{Kind}
use Rattle.conf_words.specs.declared.kinds.Kind.TheVariants.{LineEnd, Blank, Hash, Mark, Quote, Plain}
use Rattle.conf_words.specs.Pieces.{Piece, line_end, blank, comment, mark, quoted, plain, spelled, kind_of}
use Rattle.conf_words.specs.Pieces.{ends_word, ends_line, ends_quote, word_of, lines_of, word_before}

-- the text in quotes behind an opening one, if it is closed on its line
abbrev pub quoted_in : ℕ → List ℕ → Option Piece
quoted_in quote text =
    let inside = before_first (ends_quote quote) text in
    if get_or (drop (length inside) text) 0 10 == quote then Some (quoted quote inside) else None

-- the piece with which a text begins, told by the kind of its first byte, that byte and what stands behind it; there is
-- none where a quote stays open
abbrev pub piece_by : Kind → ℕ → List ℕ → Option Piece
piece_by LineEnd b text = Some line_end
piece_by Blank b text = Some (blank b)
piece_by Hash b text = Some (comment (before_first ends_line text))
piece_by Mark b text = Some (mark b)
piece_by Quote b text = quoted_in b text
piece_by Plain b text = Some (plain (b ∷ before_first ends_word text))

-- the same, told by the first byte and what stands behind it
unfoldable pub piece_of : ℕ → List ℕ → Option Piece
piece_of b text = piece_by (kind_of b) b text

-- words before those that were read
abbrev pub with_words : List Word → Result (List Word) WordFault → Result (List Word) WordFault
with_words words (Ok others) = Ok (words ++ others)
with_words words (Err f) = Err f

-- the words of a text on a line, behind so many bytes of a piece that was read
unfoldable pub words_at : ℕ → ℕ → List ℕ → Result (List Word) WordFault
words_at skip line [] = Ok []
words_at (suc skip) line (b ∷ text) = words_at skip line text
words_at zero line (b ∷ text) =
    elim (piece_of b text) [
      | None ↦ Err (QuoteOpen line)
      | Some piece ↦ with_words (word_before (word_of piece) line [])
          (words_at (length (spelled piece) - 1) (line + lines_of piece) text)
    ]

-- the words of a config
abbrev pub words_of_bytes : List ℕ → Result (List Word) WordFault
words_of_bytes bytes = if is_utf8 bytes then words_at 0 1 bytes else Err (NotUtf8 (utf8_valid_len bytes))
