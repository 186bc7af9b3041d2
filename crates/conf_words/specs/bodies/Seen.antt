-- Pieces as the code sees them (only the proof of words needs it).
use Rattle.std.specs.Prelude.{ℕ, List, length, drop, Option, option_map}
use Rattle.std.specs.Option.{option_copied}
use Rattle.conf_words.specs.declared.pieces.Piece.{Piece as Seen}
use Rattle.conf_words.specs.Pieces.{Piece, spelled, word_of, lines_of}
use Rattle.conf_words.specs.Reading.{piece_of}

-- the word, the lines that end, and what stands behind
abbrev pub Parts : Type 0
Parts = Option (List ℕ) × ℕ × List ℕ

-- the parts of what the code sees
abbrev pub parts_seen : Seen → Parts
parts_seen seen = (option_copied seen.word, seen.lines, seen.rest.now)

-- the parts of a text that begins with a piece
abbrev pub parts_of : List ℕ → Piece → Parts
parts_of text piece = (word_of piece, lines_of piece, drop (length (spelled piece)) text)

-- the parts of a text that begins with a byte
abbrev pub parts_at : ℕ → List ℕ → Option Parts
parts_at first text = option_map (parts_of text) (piece_of first (drop 1 text))
