-- Words are read piece by piece.
use Rattle.std.proofs.Common.{◌≡◌, ℕ, zero, suc, ◌+◌, ◌-◌, ◌≤◌, ◌<◌, ◌↔◌, List, [], ◌∷◌, ◌++◌}
use Rattle.std.proofs.Common.{length, drop, Option, Some, None, Result, Ok, Err, refl, sym, ap, subst, ◌∙◌}
use Rattle.std.proofs.Common.{append_assoc, arith}
use Rattle.std.specs.Prelude.{IsTrue}
use Rattle.std.specs.List.{flat_map}
use Rattle.std.proofs.lemmas.List.{drop_at, append-nil, length-append}
use Rattle.conf_words.specs.declared.splitting.Word.{Word}
use Rattle.conf_words.specs.declared.splitting.WordFault.{WordFault}
use Rattle.conf_words.specs.declared.splitting.WordFault.TheVariants.{QuoteOpen, NotUtf8}
use Rattle.conf_words.specs.declared.kinds.Kind.TheVariants.{Quote}
use Rattle.conf_words.specs.Pieces.{Piece, spelled, kind_of, Lacks, stops, StandsBefore, StandBefore, ends_line}
use Rattle.conf_words.specs.Pieces.{ends_quote, word_of, lines_of, word_before, words_from, line_behind, HasWords}
use Rattle.conf_words.specs.Pieces.{LeavesOpen}
use Rattle.conf_words.specs.Reading.{words_at, with_words, piece_of}
use Rattle.conf_words.proofs.Begins.{StaysOpen, begins, opens, some_byte, front_piece, told, told_open}

-- bytes of a piece that was read are passed over
passed : (skip line : ℕ) (text : List ℕ) → words_at skip line text ≡ words_at 0 line (drop skip text)
unfolding words_at
passed zero line text = refl
passed (suc skip) line [] = refl
passed (suc skip) line (b ∷ text) = passed skip line text

first_read : (line b : ℕ) (text : List ℕ) (piece : Piece) (rest : List ℕ) → piece_of b text ≡ Some piece
    → drop (length (spelled piece) - 1) text ≡ rest
    → words_at 0 line (b ∷ text)
    ≡ with_words (word_before (word_of piece) line []) (words_at 0 (line + lines_of piece) rest)
unfolding words_at
first_read line b text piece rest h e = rw (h, words_at)
    (ap (with_words (word_before (word_of piece) line []))
    (passed (length (spelled piece) - 1) (line + lines_of piece) text ∙ ap (words_at 0 (line + lines_of piece)) e))

-- a quote that stays open
pub first_open : (line b : ℕ) (text : List ℕ) → piece_of b text ≡ None
    → words_at 0 line (b ∷ text) ≡ Err (QuoteOpen line)
unfolding words_at
first_open line b text h = rw (h, words_at) refl

-- the words of a text that begins with a piece
pub piece_read : (line : ℕ) (text : List ℕ) (piece : Piece) (rest : List ℕ) → front_piece text ≡ Some piece
    → text ≡ spelled piece ++ rest → 0 < length (spelled piece)
    → words_at 0 line text
    ≡ with_words (word_before (word_of piece) line []) (words_at 0 (line + lines_of piece) rest)
piece_read line [] piece rest h e lt = absurd cc
piece_read line (b ∷ text) piece rest h e lt =
    let behind : drop (length (spelled piece)) (b ∷ text) ≡ rest = ap (drop (length (spelled piece))) e
    ∙ drop_at (spelled piece) rest (length (spelled piece)) refl in
    let one : suc (length (spelled piece) - 1) ≡ length (spelled piece) = omega (arith, lt) in
    let same : drop (length (spelled piece) - 1) text ≡ rest = ap (λ (n : ℕ). drop n (b ∷ text)) one ∙ behind in
    first_read line b text piece rest h same

-- words before words before others
pub with_both : (a b : List Word) (read : Result (List Word) WordFault)
    → with_words a (with_words b read) ≡ with_words (a ++ b) read
with_both a b (Ok ws) =
    ap (λ (w : List Word). let R : Result (List Word) WordFault = Ok w in R) (sym (append_assoc a b ws))
with_both a b (Err f) = refl

before_is : (text : Option (List ℕ)) (line : ℕ) (words : List Word)
    → word_before text line [] ++ words ≡ word_before text line words
before_is None line words = refl
before_is (Some text) line words = refl

-- no word before others
with_none : (read : Result (List Word) WordFault) → with_words [] read ≡ read
with_none (Ok ws) = refl
with_none (Err f) = refl

-- pieces at the front of a text are read, and then the rest
pub pieces_read : (pieces : List Piece) (line : ℕ) (behind : List ℕ) → StandBefore pieces behind
    → words_at 0 line (flat_map spelled pieces ++ behind)
    ≡ with_words (words_from line pieces) (words_at 0 (line_behind line pieces) behind)
pieces_read [] line behind h = sym (with_none (words_at 0 line behind))
pieces_read (piece ∷ pieces) line behind h =
    let rest : List ℕ = flat_map spelled pieces ++ behind in
    let text : flat_map spelled (piece ∷ pieces) ++ behind ≡ spelled piece ++ rest = append_assoc (spelled piece)
    (flat_map spelled pieces) behind in
    let words : List Word = words_from (line + lines_of piece) pieces in
    ap (words_at 0 line) text
    ∙ piece_read line (spelled piece ++ rest) piece rest (told piece rest h.0) refl (some_byte piece rest h.0)
    ∙ ap (with_words (word_before (word_of piece) line [])) (pieces_read pieces (line + lines_of piece) behind h.1)
    ∙ with_both (word_before (word_of piece) line []) words _
    ∙ ap (λ (w : List Word). with_words w (words_at 0 (line_behind (line + lines_of piece) pieces) behind))
    (before_is (word_of piece) line words)

-- ---- what is read is there

-- a text on a line has these words
record Has (line : ℕ) (text : List ℕ) (words : List Word) : Type 0 where
  pub pieces : List Piece
  pub spelled_so : text ≡ flat_map spelled pieces
  pub apart : StandBefore pieces []
  pub are : words ≡ words_from line pieces

-- a text on a line leaves a quote open on another
record Leaves (line : ℕ) (text : List ℕ) (at : ℕ) : Type 0 where
  pub pieces : List Piece
  pub quote : ℕ
  pub inside : List ℕ
  pub behind : List ℕ
  pub spelled_so : text ≡ flat_map spelled pieces ++ quote ∷ (inside ++ behind)
  pub apart : StandBefore pieces (quote ∷ (inside ++ behind))
  pub opened : kind_of quote ≡ Quote
  pub not_closed : Lacks (ends_quote quote) inside
  pub line_ends : IsTrue (stops ends_line behind)
  pub on_line : at ≡ line_behind line pieces

-- what is read of a text on a line is so
abbrev Parsed : ℕ → List ℕ → Result (List Word) WordFault → Type 0
Parsed line text (Ok words) = Has line text words
Parsed line text (Err (QuoteOpen at)) = Leaves line text at
Parsed line text (Err (NotUtf8 offset)) = ⊥

-- behind a piece
further : (line : ℕ) (text : List ℕ) (piece : Piece) (rest : List ℕ) (read : Result (List Word) WordFault)
    → text ≡ spelled piece ++ rest → StandsBefore piece rest → Parsed (line + lines_of piece) rest read
    → Parsed line text (with_words (word_before (word_of piece) line []) read)
further line text piece rest (Ok words) e s h = record {
  pieces = piece ∷ h.pieces;
  spelled_so = e ∙ ap (λ (t : List ℕ). spelled piece ++ t) h.spelled_so;
  apart = (subst (StandsBefore piece) (h.spelled_so ∙ sym (append-nil (flat_map spelled h.pieces))) s, h.apart);
  are = before_is (word_of piece) line words ∙ ap (word_before (word_of piece) line) h.are;
}
further line text piece rest (Err (QuoteOpen at)) e s h = record {
  pieces = piece ∷ h.pieces;
  quote = h.quote;
  inside = h.inside;
  behind = h.behind;
  spelled_so = e ∙ ap (λ (t : List ℕ). spelled piece ++ t) h.spelled_so
      ∙ sym (append_assoc (spelled piece) (flat_map spelled h.pieces) (h.quote ∷ (h.inside ++ h.behind)));
  apart = (subst (StandsBefore piece) h.spelled_so s, h.apart);
  opened = h.opened;
  not_closed = h.not_closed;
  line_ends = h.line_ends;
  on_line = h.on_line;
}
further line text piece rest (Err (NotUtf8 offset)) e s h = absurd h

left_open : (line b : ℕ) (text : List ℕ) → StaysOpen b text → Leaves line (b ∷ text) line
left_open line b text o = record {
  pieces = [];
  quote = b;
  inside = o.inside;
  behind = o.behind;
  spelled_so = ap (λ (t : List ℕ). b ∷ t) o.whole;
  apart = tt;
  opened = o.opened;
  not_closed = o.not_closed;
  line_ends = o.line_ends;
  on_line = refl;
}

parsed_by : (n line b : ℕ) (text : List ℕ) (piece : Option Piece) → piece_of b text ≡ piece
    → ((l : ℕ) (rest : List ℕ) → length rest ≤ n → Parsed l rest (words_at 0 l rest)) → length text ≤ n
    → Parsed line (b ∷ text) (words_at 0 line (b ∷ text))
parsed_by n line b text None e ih le = subst (Parsed line (b ∷ text)) (sym (first_open line b text e))
    (left_open line b text (opens b text e))
parsed_by n line b text (Some piece) e ih le =
    let o = begins b text piece e in
    let some : 0 < length (spelled piece) = some_byte piece o.0 o.1.stands in
    let shorter : length o.0 ≤ n = omega (arith, some, le, ap length o.1.whole, length-append (spelled piece) o.0) in
    subst (Parsed line (b ∷ text)) (sym (piece_read line (b ∷ text) piece o.0 e o.1.whole some))
    (further line (b ∷ text) piece o.0 (words_at 0 (line + lines_of piece) o.0) o.1.whole o.1.stands
    (ih (line + lines_of piece) o.0 shorter))

pub nothing_read : (line : ℕ) → words_at 0 line [] ≡ Ok []
unfolding words_at
nothing_read line = refl

-- the count bounds the bytes
parsed : (n line : ℕ) (text : List ℕ) → length text ≤ n → Parsed line text (words_at 0 line text)
parsed n line [] le = subst (Parsed line []) (sym (nothing_read line))
    (record { pieces = []; spelled_so = refl; apart = tt; are = refl })
parsed zero line (b ∷ text) le = absurd (omega (arith, le))
parsed (suc n) line (b ∷ text) le = parsed_by n line b text (piece_of b text) refl (parsed n) (omega (arith, le))

-- ---- the laws

found : (text : List ℕ) (words : List Word) → words_at 0 1 text ≡ Ok words → HasWords text words
found text words e =
    let h : Has 1 text words = subst (Parsed 1 text) e (parsed (length text) 1 text (omega arith)) in
    record { pieces = h.pieces; spelled_so = h.spelled_so; apart = h.apart; are = h.are }

only : (text : List ℕ) (words : List Word) → HasWords text words → words_at 0 1 text ≡ Ok words
only text words h = ap (words_at 0 1) (h.spelled_so ∙ sym (append-nil (flat_map spelled h.pieces)))
    ∙ pieces_read h.pieces 1 [] h.apart
    ∙ ap (with_words (words_from 1 h.pieces)) (nothing_read (line_behind 1 h.pieces))
    ∙ ap (λ (w : List Word). let R : Result (List Word) WordFault = Ok w in R)
    (append-nil (words_from 1 h.pieces) ∙ sym h.are)

pub words_law : (text : List ℕ) (words : List Word) → (words_at 0 1 text ≡ Ok words) ↔ HasWords text words
words_law text words = (found text words, only text words)

open_found : (text : List ℕ) (line : ℕ) → words_at 0 1 text ≡ Err (QuoteOpen line) → LeavesOpen text line
open_found text line e =
    let h : Leaves 1 text line = subst (Parsed 1 text) e (parsed (length text) 1 text (omega arith)) in
    record {
      pieces = h.pieces;
      quote = h.quote;
      inside = h.inside;
      behind = h.behind;
      spelled_so = h.spelled_so;
      apart = h.apart;
      opened = h.opened;
      not_closed = h.not_closed;
      line_ends = h.line_ends;
      on_line = h.on_line;
    }

open_only : (text : List ℕ) (line : ℕ) → LeavesOpen text line → words_at 0 1 text ≡ Err (QuoteOpen line)
open_only text line h = ap (words_at 0 1) h.spelled_so
    ∙ pieces_read h.pieces 1 (h.quote ∷ (h.inside ++ h.behind)) h.apart
    ∙ ap (with_words (words_from 1 h.pieces)) (first_open (line_behind 1 h.pieces) h.quote (h.inside ++ h.behind)
    (told_open h.quote h.inside h.behind h.opened h.not_closed h.line_ends))
    ∙ ap (λ (n : ℕ). let R : Result (List Word) WordFault = Err (QuoteOpen n) in R) (sym h.on_line)

pub open_law : (text : List ℕ) (line : ℕ) → (words_at 0 1 text ≡ Err (QuoteOpen line)) ↔ LeavesOpen text line
open_law text line = (open_found text line, open_only text line)
