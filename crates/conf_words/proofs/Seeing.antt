-- What the code sees of a piece is what the piece is.
use Rattle.std.proofs.Common.{◌≡◌, ℕ, zero, suc, ◌+◌, ◌≤◌, ◌<◌, true, List, [], ◌∷◌}
use Rattle.std.proofs.Common.{length, drop, get_or, Option, Some, None, Err, refl, sym, ap, subst, ◌∙◌}
use Rattle.std.proofs.Common.{arith, eqb}
use Rattle.std.specs.Prelude.{slice_get, option_map}
use Rattle.std.specs.List.{before_first, position, position_or_len}
use Rattle.std.specs.Str.{IsUtf8, IsCharBoundary}
use Rattle.std.proofs.lemmas.Bool.{eqb-true}
use Rattle.std.proofs.lemmas.List.{drop_at, drop_all, length-append}
use Rattle.std.proofs.lemmas.Str.{IsUtf8-drop}
use Rattle.jv_base.proofs.Tests.{or_by}
use Rattle.conf_words.specs.declared.splitting.WordFault.TheVariants.{QuoteOpen}
use Rattle.conf_words.specs.declared.kinds.Kind.TheVariants.{Hash, Quote}
use Rattle.conf_words.specs.Pieces.{Piece, comment, spelled, kind_of, ends_line, ends_quote, ends_of}
use Rattle.conf_words.specs.Pieces.{word_of, lines_of, word_before}
use Rattle.conf_words.specs.Pieces.{line_end, blank, mark, quoted, plain}
use Rattle.conf_words.specs.Reading.{words_at, with_words, piece_of, quoted_in}
use Rattle.conf_words.specs.bodies.Seen.{Parts, parts_of, parts_at}
use Rattle.conf_words.proofs.Runs.{length_before}
use Rattle.conf_words.proofs.Cutting.{ascii_end, ascii_line_end, cut_at, cut_first, found_at, found_none}
use Rattle.conf_words.proofs.Begins.{begins, some_byte, by_kind, no_line_feed, not_ten, hash}
use Rattle.conf_words.proofs.Parsed.{piece_read, first_open}

-- ---- quotes

quote_ascii : (quote : ℕ) → kind_of quote ≡ Quote → quote < 128
quote_ascii quote k = ascii_end quote (ap ends_of k)

-- what ends a quote is of ASCII
ends_ascii : (quote b : ℕ) → kind_of quote ≡ Quote → ends_quote quote b ≡ true → b < 128
ends_ascii quote b k h = or_by (eqb b quote) (ends_line b) (b < 128)
    (λ e. let is = eqb-true b quote e in omega (arith, is, quote_ascii quote k)) (ascii_line_end b) h

-- a quote that nothing ends stays open
pub open_to_end : (quote : ℕ) (text : List ℕ) → kind_of quote ≡ Quote → position (ends_quote quote) text ≡ None
    → quoted_in quote text ≡ None
open_to_end quote text k h =
    let len : length text ≡ length (before_first (ends_quote quote) text) = found_none (ends_quote quote) text h
    ∙ length_before (ends_quote quote) text in
    rw (
      drop_all (length (before_first (ends_quote quote) text)) text (omega (arith, len)),
      not_ten quote (no_line_feed quote k),
    )
    refl

-- the text inside a quote may be cut where the quote ends
pub cut_quote : (quote : ℕ) (inside : List ℕ) (at : ℕ) → kind_of quote ≡ Quote
    → position (ends_quote quote) inside ≡ Some at → IsCharBoundary inside at
cut_quote quote inside at k h = cut_at (ends_quote quote) inside at (λ b. ends_ascii quote b k) h

get_is : (text : List ℕ) (at b : ℕ) → at < length text → get_or text at 0 ≡ b → slice_get (drop at text) 0 ≡ Some b
get_is [] at b lt h = absurd (omega (arith, lt))
get_is (c ∷ text) zero b lt h = ap (λ n. Some n) h
get_is (c ∷ text) (suc at) b lt h = get_is text at b (omega (arith, lt)) h

-- and behind the quote that ends it
pub cut_behind : (quote : ℕ) (inside : List ℕ) (at : ℕ) → IsUtf8 inside → kind_of quote ≡ Quote
    → position (ends_quote quote) inside ≡ Some at → get_or inside at 0 ≡ quote → IsCharBoundary (drop at inside) 1
cut_behind quote inside at u k h e =
    let f = found_at (ends_quote quote) inside at h in
    cut_first (drop at inside) quote (IsUtf8-drop inside at u (cut_quote quote inside at k h))
    (get_is inside at quote f.1 e)
    (quote_ascii quote k)

-- ---- comments

hash_goes_on : (b : ℕ) (text : List ℕ) → b ≡ 35
    → position_or_len ends_line (b ∷ text) ≡ length (spelled (comment (before_first ends_line text)))
hash_goes_on b text e = rw e (omega (arith, length_before ends_line text))

-- what is seen of a comment
pub comment_seen : (text : List ℕ) (first : ℕ) (word : Option (List ℕ)) (lines : ℕ) (rest : List ℕ)
    → slice_get text 0 ≡ Some first → kind_of first ≡ Hash → word ≡ None → lines ≡ 0
    → rest ≡ drop (position_or_len ends_line text) text
    → (let P : Option Parts = Some (word, lines, rest) in P) ≡ parts_at first text
comment_seen [] first word lines rest h k w l r = absurd cc
comment_seen (b ∷ text) first word lines rest h k w l r =
    let is : b ≡ first = cc in
    let len = hash_goes_on b text (is ∙ hash first k) in
    rw (w, l, r, len, by_kind Hash first text (comment (before_first ends_line text)) k refl) refl

-- ---- pieces

lines_within : (piece : Piece) → lines_of piece ≤ length (spelled piece)
lines_within line_end = omega arith
lines_within (blank b) = omega arith
lines_within (comment text) = omega arith
lines_within (mark b) = omega arith
lines_within (quoted quote text) = omega arith
lines_within (plain text) = omega arith

-- what is read of a text of which a piece is seen
pub record Step (line : ℕ) (text : List ℕ) (parts : Parts) : Type 0 where
  pub read : words_at 0 line text ≡ with_words (word_before parts.0 line []) (words_at 0 (line + parts.1) parts.2)
  pub shorter : length parts.2 < length text
  pub lines : parts.1 + length parts.2 ≤ length text

step_of : (line b : ℕ) (text : List ℕ) (piece : Piece) → piece_of b text ≡ Some piece
    → Step line (b ∷ text) (parts_of (b ∷ text) piece)
step_of line b text piece h =
    let o = begins b text piece h in
    let some : 0 < length (spelled piece) = some_byte piece o.0 o.1.stands in
    let rest : drop (length (spelled piece)) (b ∷ text) ≡ o.0 = ap (drop (length (spelled piece))) o.1.whole
    ∙ drop_at (spelled piece) o.0 (length (spelled piece)) refl in
    let len : length (b ∷ text) ≡ length (spelled piece) + length o.0 = ap length o.1.whole
    ∙ length-append (spelled piece) o.0 in
    let within = lines_within piece in
    record {
      read = piece_read line (b ∷ text) piece o.0 h o.1.whole some
          ∙ ap (λ (t : List ℕ). with_words (word_before (word_of piece) line []) (words_at 0 (line + lines_of piece) t))
          (sym rest);
      shorter = omega (arith, some, len, ap length rest);
      lines = omega (arith, within, len, ap length rest);
    }

step_by : (line b : ℕ) (text : List ℕ) (piece : Option Piece) (parts : Parts) → piece_of b text ≡ piece
    → option_map (parts_of (b ∷ text)) piece ≡ Some parts → Step line (b ∷ text) parts
step_by line b text None parts h e = absurd cc
step_by line b text (Some piece) parts h e =
    let is : parts_of (b ∷ text) piece ≡ parts = cc in
    subst (Step line (b ∷ text)) is (step_of line b text piece h)

pub step : (line : ℕ) (text : List ℕ) (first : ℕ) (parts : Parts) → slice_get text 0 ≡ Some first
    → (let P : Option Parts = Some parts in P) ≡ parts_at first text → Step line text parts
step line [] first parts h e = absurd cc
step line (b ∷ text) first parts h e =
    let is : first ≡ b = cc in
    step_by line b text (piece_of b text) parts refl (ap (λ (n : ℕ). parts_at n (b ∷ text)) (sym is) ∙ sym e)

open_by : (b : ℕ) (text : List ℕ) (piece : Option Piece) → option_map (parts_of (b ∷ text)) piece ≡ None → piece ≡ None
open_by b text None e = refl
open_by b text (Some piece) e = absurd cc

-- what is read where no piece is seen
pub step_open : (line : ℕ) (text : List ℕ) (first : ℕ) → slice_get text 0 ≡ Some first
    → (let P : Option Parts = None in P) ≡ parts_at first text → words_at 0 line text ≡ Err (QuoteOpen line)
step_open line [] first h e = absurd cc
step_open line (b ∷ text) first h e =
    let is : first ≡ b = cc in
    first_open line b text
    (open_by b text (piece_of b text) (ap (λ (n : ℕ). parts_at n (b ∷ text)) (sym is) ∙ sym e))
