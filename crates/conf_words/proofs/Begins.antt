-- The piece with which a text begins.
use Rattle.std.proofs.Common.{◌≡◌, ℕ, ◌<◌, Bool, true, false, cond, List, [], ◌∷◌, ◌++◌}
use Rattle.std.proofs.Common.{length, drop, get_or, Option, Some, None, refl, sym, ap, subst, ◌∙◌}
use Rattle.std.proofs.Common.{append_assoc, arith, eqb}
use Rattle.std.specs.Prelude.{IsTrue}
use Rattle.std.specs.List.{before_first, position_or_len}
use Rattle.std.proofs.lemmas.Bool.{eqb-true, eq-eqb, or_right}
use Rattle.std.proofs.lemmas.List.{drop_at}
use Rattle.std.proofs.lemmas.Option.{same_Some, cond_some}
use Rattle.jv_base.proofs.Options.{none_by}
use Rattle.conf_words.specs.declared.kinds.Kind.{Kind}
use Rattle.conf_words.specs.declared.kinds.Kind.TheVariants.{LineEnd, Blank, Hash, Mark, Quote, Plain}
use Rattle.conf_words.specs.Pieces.{Piece, line_end, blank, comment, mark, quoted, plain, spelled, kind_of, Lacks}
use Rattle.conf_words.specs.Pieces.{stops, StandsBefore, ends_of, ends_word, ends_line, ends_quote}
use Rattle.conf_words.specs.Reading.{piece_of, piece_by, quoted_in}
use Rattle.conf_words.proofs.Runs.{lacks_before, stops_behind, both, front_is, length_before, lacks_both}

-- the text begins with the piece, which may stand there
pub record Begins (text : List ℕ) (piece : Piece) (rest : List ℕ) : Type 0 where
  pub whole : text ≡ spelled piece ++ rest
  pub stands : StandsBefore piece rest

-- the quote that a byte opens stays open
pub record StaysOpen (quote : ℕ) (text : List ℕ) : Type 0 where
  pub inside : List ℕ
  pub behind : List ℕ
  pub whole : text ≡ inside ++ behind
  pub opened : kind_of quote ≡ Quote
  pub not_closed : Lacks (ends_quote quote) inside
  pub line_ends : IsTrue (stops ends_line behind)

-- the tests of kind_of, of which the first that is passed decides
abbrev chosen : Bool → Bool → Bool → Bool → Bool → Kind
chosen a b c d e = cond a LineEnd (cond b Blank (cond c Hash (cond d Mark (cond e Quote Plain))))

line_feed_by : (a b c d e : Bool) → chosen a b c d e ≡ LineEnd → a ≡ true
line_feed_by true b c d e h = refl
line_feed_by false true c d e h = absurd cc
line_feed_by false false true d e h = absurd cc
line_feed_by false false false true e h = absurd cc
line_feed_by false false false false true h = absurd cc
line_feed_by false false false false false h = absurd cc

hash_by : (a b c d e : Bool) → chosen a b c d e ≡ Hash → c ≡ true
hash_by true b c d e h = absurd cc
hash_by false true c d e h = absurd cc
hash_by false false true d e h = refl
hash_by false false false true e h = absurd cc
hash_by false false false false true h = absurd cc
hash_by false false false false false h = absurd cc

quote_by : (a b c d e : Bool) → chosen a b c d e ≡ Quote → a ≡ false
quote_by true b c d e h = absurd cc
quote_by false b c d e h = refl

-- only a line feed is a line end
line_feed : (b : ℕ) → kind_of b ≡ LineEnd → b ≡ 10
unfolding kind_of
line_feed b h = eqb-true b 10 (line_feed_by _ _ _ _ _ h)

-- only `#` begins a comment
pub hash : (b : ℕ) → kind_of b ≡ Hash → b ≡ 35
unfolding kind_of
hash b h = eqb-true b 35 (hash_by _ _ _ _ _ h)

line_feed_is : kind_of 10 ≡ LineEnd
unfolding kind_of
line_feed_is = refl

hash_is : kind_of 35 ≡ Hash
unfolding kind_of
hash_is = refl

-- a quote is no line feed
pub no_line_feed : (b : ℕ) → kind_of b ≡ Quote → ends_line b ≡ false
unfolding kind_of
no_line_feed b h = quote_by _ _ _ _ _ h

-- what ends no word is of a word
plain_by : (k : Kind) → ends_of k ≡ false → k ≡ Plain
plain_by LineEnd h = absurd cc
plain_by Blank h = absurd cc
plain_by Hash h = absurd cc
plain_by Mark h = absurd cc
plain_by Quote h = absurd cc
plain_by Plain h = refl

-- a piece that may stand somewhere has a byte
pub some_byte : (piece : Piece) (rest : List ℕ) → StandsBefore piece rest → 0 < length (spelled piece)
some_byte line_end rest h = omega arith
some_byte (blank b) rest h = omega arith
some_byte (comment text) rest h = omega arith
some_byte (mark b) rest h = omega arith
some_byte (quoted quote text) rest h = omega arith
some_byte (plain []) rest h = absurd h
some_byte (plain (b ∷ text)) rest h = omega arith

-- ---- what is read begins the text

-- a text whose first byte is a quote begins with it
first_quote : (text : List ℕ) (quote : ℕ) → ends_line quote ≡ false → get_or text 0 10 ≡ quote
    → (rest : List ℕ) × (text ≡ quote ∷ rest)
first_quote [] quote other h = absurd (let e : false ≡ true = sym other ∙ rw (← h) refl in cc)
first_quote (b ∷ text) quote other h = (text, rw h refl)

-- a quote that is closed
quoted_begins : (quote : ℕ) (text : List ℕ) (piece : Piece) → kind_of quote ≡ Quote → quoted_in quote text ≡ Some piece
    → (rest : List ℕ) × Begins (quote ∷ text) piece rest
quoted_begins quote text piece k h =
    let inside : List ℕ = before_first (ends_quote quote) text in
    let o = cond_some _ _ _ h in
    let f = first_quote (drop (length inside) text) quote (no_line_feed quote k) (eqb-true _ _ o.0) in
    let whole : text ≡ inside ++ (quote ∷ f.0) = both (ends_quote quote) text
    ∙ ap (λ (n : ℕ). inside ++ drop n text) (length_before (ends_quote quote) text)
    ∙ ap (λ (t : List ℕ). inside ++ t) f.1 in (
      f.0,
      subst (λ (p : Piece). Begins (quote ∷ text) p f.0) o.1 (record {
        whole = ap (λ (t : List ℕ). quote ∷ t) (whole ∙ sym (append_assoc inside (quote ∷ []) f.0));
        stands = (k, lacks_before (ends_quote quote) text);
      }),
    )

-- a piece that is told is the one with which the text begins
begins_by : (kind : Kind) (b : ℕ) (text : List ℕ) (piece : Piece) → kind_of b ≡ kind
    → piece_by kind b text ≡ Some piece → (rest : List ℕ) × Begins (b ∷ text) piece rest
begins_by LineEnd b text piece k h = (
  text,
  subst (λ (p : Piece). Begins (b ∷ text) p text) (same_Some line_end piece h)
      (record { whole = ap (λ (n : ℕ). n ∷ text) (line_feed b k); stands = tt }),
)
begins_by Blank b text piece k h = (
  text,
  subst (λ (p : Piece). Begins (b ∷ text) p text) (same_Some (blank b) piece h)
      (record { whole = refl; stands = k }),
)
begins_by Hash b text piece k h =
    let rest : List ℕ = drop (position_or_len ends_line text) text in (
      rest,
      subst (λ (p : Piece). Begins (b ∷ text) p rest) (same_Some (comment (before_first ends_line text)) piece h)
          (record {
            whole = ap (λ (n : ℕ). n ∷ text) (hash b k) ∙ ap (λ (t : List ℕ). 35 ∷ t) (both ends_line text);
            stands = (lacks_before ends_line text, stops_behind ends_line text);
          }),
    )
begins_by Mark b text piece k h = (
  text,
  subst (λ (p : Piece). Begins (b ∷ text) p text) (same_Some (mark b) piece h)
      (record { whole = refl; stands = k }),
)
begins_by Quote b text piece k h = quoted_begins b text piece k h
begins_by Plain b text piece k h =
    let rest : List ℕ = drop (position_or_len ends_word text) text in (
      rest,
      subst (λ (p : Piece). Begins (b ∷ text) p rest) (same_Some (plain (b ∷ before_first ends_word text)) piece h)
          (record {
            whole = ap (λ (t : List ℕ). b ∷ t) (both ends_word text);
            stands = (rw (ap ends_of k) (lacks_before ends_word text), stops_behind ends_word text);
          }),
    )

pub begins : (b : ℕ) (text : List ℕ) (piece : Piece) → piece_of b text ≡ Some piece
    → (rest : List ℕ) × Begins (b ∷ text) piece rest
unfolding piece_of
begins b text piece h = begins_by (kind_of b) b text piece refl h

-- where no quote is closed, the line ends
line_by : (text : List ℕ) (quote : ℕ) → IsTrue (stops (ends_quote quote) text) → eqb (get_or text 0 10) quote ≡ false
    → IsTrue (stops ends_line text)
line_by [] quote s h = refl
line_by (b ∷ text) quote s h = rw h at s

-- a quote that stays open
open_by : (kind : Kind) (b : ℕ) (text : List ℕ) → kind_of b ≡ kind → piece_by kind b text ≡ None → StaysOpen b text
open_by LineEnd b text k h = absurd cc
open_by Blank b text k h = absurd cc
open_by Hash b text k h = absurd cc
open_by Mark b text k h = absurd cc
open_by Quote b text k h =
    let inside : List ℕ = before_first (ends_quote b) text in
    let rest : List ℕ = drop (position_or_len (ends_quote b) text) text in
    record {
      inside = inside;
      behind = rest;
      whole = both (ends_quote b) text;
      opened = k;
      not_closed = lacks_before (ends_quote b) text;
      line_ends = line_by rest b (stops_behind (ends_quote b) text)
          (ap (λ (n : ℕ). eqb (get_or (drop n text) 0 10) b) (length_before (ends_quote b) text) ∙ none_by _ _ h);
    }
open_by Plain b text k h = absurd cc

pub opens : (b : ℕ) (text : List ℕ) → piece_of b text ≡ None → StaysOpen b text
unfolding piece_of
opens b text h = open_by (kind_of b) b text refl h

-- ---- a piece that begins a text is read

-- the piece with which a text begins
abbrev pub front_piece : List ℕ → Option Piece
front_piece [] = None
front_piece (b ∷ text) = piece_of b text

-- a quote stops at itself
stops_at : (quote : ℕ) (rest : List ℕ) → IsTrue (stops (ends_quote quote) (quote ∷ rest))
stops_at quote rest = rw (eq-eqb quote quote refl) refl

-- a piece is told by the kind of its first byte
pub by_kind : (kind : Kind) (b : ℕ) (text : List ℕ) (piece : Piece) → kind_of b ≡ kind
    → piece_by kind b text ≡ Some piece
    → piece_of b text ≡ Some piece
unfolding piece_of
by_kind kind b text piece k h = rw k h

-- a quote that is closed is told
quoted_told : (quote : ℕ) (text rest : List ℕ) → Lacks (ends_quote quote) text
    → quoted_in quote (text ++ quote ∷ rest) ≡ Some (quoted quote text)
quoted_told quote text rest h =
    let front : before_first (ends_quote quote) (text ++ quote ∷ rest) ≡ text = front_is (ends_quote quote) text
    (quote ∷ rest) h (stops_at quote rest) in
    rw (front, drop_at text (quote ∷ rest) (length text) refl, eq-eqb quote quote refl) refl

-- the piece that stands at the front of a text is the one that is told
pub told : (piece : Piece) (rest : List ℕ) → StandsBefore piece rest → front_piece (spelled piece ++ rest) ≡ Some piece
told line_end rest h = by_kind LineEnd 10 rest line_end line_feed_is refl
told (blank b) rest h = by_kind Blank b rest (blank b) h refl
told (comment text) rest h = by_kind Hash 35 (text ++ rest) (comment text) hash_is
    (ap (λ (t : List ℕ). Some (comment t)) (front_is ends_line text rest h.0 h.1))
told (mark b) rest h = by_kind Mark b rest (mark b) h refl
told (quoted quote text) rest h = by_kind Quote quote ((text ++ quote ∷ []) ++ rest) (quoted quote text) h.0
    (ap (quoted_in quote) (append_assoc text (quote ∷ []) rest) ∙ quoted_told quote text rest h.1)
told (plain []) rest h = absurd h
told (plain (b ∷ text)) rest h =
    let k = lacks_both ends_word b text h.0 in
    by_kind Plain b (text ++ rest) (plain (b ∷ text)) (plain_by (kind_of b) k.0)
    (ap (λ (t : List ℕ). Some (plain (b ∷ t))) (front_is ends_word text rest k.1 h.1))

-- a quote ends where its line ends
stops_with_line : (quote : ℕ) (behind : List ℕ) → IsTrue (stops ends_line behind)
    → IsTrue (stops (ends_quote quote) behind)
stops_with_line quote [] s = refl
stops_with_line quote (b ∷ behind) s = or_right (eqb b quote) (ends_line b) s

-- at the end of a line stands a line feed, or nothing
line_feed_at : (behind : List ℕ) → IsTrue (stops ends_line behind) → get_or behind 0 10 ≡ 10
line_feed_at [] s = refl
line_feed_at (b ∷ behind) s = eqb-true b 10 s

pub not_ten : (quote : ℕ) → eqb quote 10 ≡ false → eqb 10 quote ≡ false
not_ten quote h = grind arith

-- a quote that stays open is told as none
pub told_open : (quote : ℕ) (inside behind : List ℕ) → kind_of quote ≡ Quote → Lacks (ends_quote quote) inside
    → IsTrue (stops ends_line behind) → piece_of quote (inside ++ behind) ≡ None
unfolding piece_of
told_open quote inside behind k h s =
    let front : before_first (ends_quote quote) (inside ++ behind) ≡ inside =
    front_is (ends_quote quote) inside behind h
    (stops_with_line quote behind s) in
    rw k (rw (
      front,
      drop_at inside behind (length inside) refl,
      line_feed_at behind s,
      not_ten quote (no_line_feed quote k),
    )
    refl)
