-- The words of a config that is in UTF-8 are texts, and so is the name that source files get.
use Rattle.std.proofs.Common.{◌≡◌, ℕ, zero, suc, ◌+◌, ◌<◌, List, [], ◌∷◌, ◌++◌, length, get_or, take, drop, map}
use Rattle.std.proofs.Common.{true, Option, Some, None, refl, sym, ap, subst, ◌∙◌, arith}
use Rattle.std.specs.Prelude.{IfSome, IsTrue, option_to_list}
use Rattle.std.specs.List.{AllByRecursion, AllZip, cons_option, flat_map, filter_map}
use Rattle.std.specs.Str.{IsAscii, IsUtf8, IsCharBoundary}
use Rattle.std.proofs.lemmas.List.{append-nil, append_assoc, length-append}
use Rattle.std.proofs.lemmas.Str.{IsUtf8-take, IsUtf8-drop, IsUtf8-nil, IsUtf8-from_ascii}
use Rattle.std.proofs.lemmas.Str.{IsCharBoundary-after_ascii, IsCharBoundary-before_ascii}
use Rattle.conf_words.specs.Pieces.{HasWords, Piece, StandBefore, StandsBefore, ends_line, ends_of, ends_word, kind_of}
use Rattle.conf_words.specs.Pieces.{lines_of, spelled, stops, word_before, word_of, words_from}
use Rattle.conf_words.specs.Pieces.{line_end, blank, comment, mark, quoted, plain}
use Rattle.conf_words.specs.declared.splitting.Word.{Word}
use Rattle.conf_words.proofs.Cutting.{ascii_end, ascii_line_end}
use Rattle.keep_rules.specs.Grammar as grammar
use Rattle.keep_rules.specs.Grammar.{Saying, Says, IsSection, in_order, source_names}
use Rattle.keep_rules.specs.Laws.{text_of}
use Rattle.keep_rules.specs.declared.rules.Rules.{Rules}

-- ---- cuts

-- nothing, or a byte of ASCII first
abbrev IsCut : List ℕ → Type 0
IsCut [] = Unit {0}
IsCut (b ∷ bs) = b < 128

-- behind a byte of ASCII stands a text
past_ascii : (b : ℕ) (bs : List ℕ) → IsUtf8 (b ∷ bs) → b < 128 → IsUtf8 bs
past_ascii b bs u lt = IsUtf8-drop (b ∷ bs) 1 u (IsCharBoundary-after_ascii (b ∷ bs) 0 u (omega arith) lt)

get_behind : (xs : List ℕ) (b : ℕ) (bs : List ℕ) → get_or (xs ++ b ∷ bs) (length xs) 0 ≡ b
get_behind [] b bs = refl
get_behind (x ∷ xs) b bs = get_behind xs b bs

take_front : (xs ys : List ℕ) → take (length xs) (xs ++ ys) ≡ xs
take_front [] ys = refl
take_front (x ∷ xs) ys = ap (λ l. x ∷ l) (take_front xs ys)

drop_front : (xs ys : List ℕ) → drop (length xs) (xs ++ ys) ≡ ys
drop_front [] ys = refl
drop_front (x ∷ xs) ys = drop_front xs ys

-- before and behind a cut stand texts
cut_texts : (xs ys : List ℕ) → IsUtf8 (xs ++ ys) → IsCut ys → IsUtf8 xs × IsUtf8 ys
cut_texts xs [] u cut = (subst IsUtf8 (append-nil xs) u, IsUtf8-nil)
cut_texts xs (b ∷ bs) u cut =
    let at : IsCharBoundary (xs ++ b ∷ bs) (length xs) = IsCharBoundary-before_ascii (xs ++ b ∷ bs) (length xs)
    (omega (arith, length-append xs (b ∷ bs))) (omega (arith, get_behind xs b bs, cut)) in (
      subst IsUtf8 (take_front xs (b ∷ bs)) (IsUtf8-take (xs ++ b ∷ bs) (length xs) u at),
      subst IsUtf8 (drop_front xs (b ∷ bs)) (IsUtf8-drop (xs ++ b ∷ bs) (length xs) u at),
    )

-- a byte of ASCII is a text
ascii_at : (b : ℕ) → b < 128 → IsAscii (b ∷ [])
ascii_at b lt zero = lt
ascii_at b lt (suc i) = omega arith

one_ascii : (b : ℕ) → b < 128 → IsUtf8 (b ∷ [])
one_ascii b lt = IsUtf8-from_ascii (b ∷ []) (ascii_at b lt)

-- ---- pieces

small : (b : ℕ) → ends_of (kind_of b) ≡ true → b < 128
small b e = ascii_end b e

line_cut : (behind : List ℕ) → IsTrue (stops ends_line behind) → IsCut behind
line_cut [] h = tt
line_cut (b ∷ bs) h = ascii_line_end b h

word_cut : (behind : List ℕ) → IsTrue (stops ends_word behind) → IsCut behind
word_cut [] h = tt
word_cut (b ∷ bs) h = ascii_end b h

-- a piece before a text: the word that it is, if it is one, is a text, and so is what stands behind
piece_text : (piece : Piece) (behind : List ℕ) → StandsBefore piece behind → IsUtf8 (spelled piece ++ behind)
    → IfSome (word_of piece) IsUtf8 × IsUtf8 behind
piece_text line_end behind h u = (tt, past_ascii 10 behind u (omega arith))
piece_text (blank b) behind h u = (tt, past_ascii b behind u (small b (ap ends_of h)))
piece_text (comment text) behind h u =
    (tt, (cut_texts text behind (past_ascii 35 (text ++ behind) u (omega arith)) (line_cut behind h.1)).1)
piece_text (mark b) behind h u =
    (one_ascii b (small b (ap ends_of h)), past_ascii b behind u (small b (ap ends_of h)))
piece_text (quoted quote text) behind h u =
    let lt : quote < 128 = small quote (ap ends_of h.0) in
    let inside : IsUtf8 (text ++ quote ∷ behind) = subst IsUtf8 (append_assoc text (quote ∷ []) behind)
    (past_ascii quote ((text ++ quote ∷ []) ++ behind) u lt) in
    let cut : IsUtf8 text × IsUtf8 (quote ∷ behind) = cut_texts text (quote ∷ behind) inside lt in
    (cut.0, past_ascii quote behind cut.1 lt)
piece_text (plain []) behind h u = absurd h
piece_text (plain (b ∷ text)) behind h u = cut_texts (b ∷ text) behind u (word_cut behind h.1)

-- ---- words

abbrev IsTextWord : Word → Type 0
IsTextWord word = IsUtf8 word.text

word_first : (word : Option (List ℕ)) (line : ℕ) (words : List Word) → IfSome word IsUtf8
    → AllByRecursion IsTextWord words → AllByRecursion IsTextWord (word_before word line words)
word_first None line words text texts = texts
word_first (Some w) line words text texts = (text, texts)

-- the words of pieces that together are a text are texts
words_text : (pieces : List Piece) (line : ℕ) → StandBefore pieces [] → IsUtf8 (flat_map spelled pieces ++ [])
    → AllByRecursion IsTextWord (words_from line pieces)
words_text [] line h u = tt
words_text (piece ∷ pieces) line h u =
    let first : IfSome (word_of piece) IsUtf8 × IsUtf8 (flat_map spelled pieces ++ []) = piece_text piece
    (flat_map spelled pieces ++ []) h.0
    (subst IsUtf8 (append_assoc (spelled piece) (flat_map spelled pieces) []) u) in
    word_first (word_of piece) line (words_from (line + lines_of piece) pieces) first.0
    (words_text pieces (line + lines_of piece) h.1 first.1)

-- the words of a text are texts
all_texts : (bytes : List ℕ) (words : List Word) → IsUtf8 bytes → HasWords bytes words
    → AllByRecursion IsTextWord words
all_texts bytes words u h = subst (λ l. AllByRecursion IsTextWord l) (sym h.are)
    (words_text h.pieces 1 h.apart (subst IsUtf8 (h.spelled_so ∙ sym (append-nil (flat_map spelled h.pieces))) u))

mapped_texts : (words : List Word) → AllByRecursion IsTextWord words → AllByRecursion IsUtf8 (map text_of words)
mapped_texts [] h = tt
mapped_texts (w ∷ ws) h = (h.0, mapped_texts ws h.1)

-- ---- what a config says

behind_all : (xs ys : List (List ℕ)) → AllByRecursion IsUtf8 (xs ++ ys)
    → AllByRecursion IsUtf8 xs × AllByRecursion IsUtf8 ys
behind_all [] ys h = (tt, h)
behind_all (x ∷ xs) ys h = let rest = behind_all xs ys h.1 in ((h.0, rest.0), rest.1)

-- what a section says of source files is a word of it
said_text : (words : List (List ℕ)) (saying : Saying) → Says words saying → AllByRecursion IsUtf8 words
    → IfSome (source_names saying) IsUtf8
said_text words (grammar.source_name name) h texts =
    (subst (λ l. AllByRecursion IsUtf8 l) h texts).1.0
said_text words (grammar.in_dir directory) h texts = tt
said_text words (grammar.out_dir directory) h texts = tt
said_text words (grammar.mapping file) h texts = tt
said_text words (grammar.apply file) h texts = tt
said_text words (grammar.seeds file) h texts = tt
said_text words (grammar.usage file) h texts = tt
said_text words grammar.no_shrink h texts = tt
said_text words grammar.no_optimise h texts = tt
said_text words grammar.no_obfuscate h texts = tt
said_text words (grammar.attributes filters) h texts = tt
said_text words (grammar.keeps k) h texts = tt
said_text words grammar.nothing h texts = tt

abbrev IsSaidSo : List (List ℕ) → Saying → Type 0
IsSaidSo section saying = IsSection section × Says section saying

names_more : (saying : Saying) (sayings : List Saying) → IfSome (source_names saying) IsUtf8
    → AllByRecursion IsUtf8 (filter_map source_names sayings)
    → AllByRecursion IsUtf8 (filter_map source_names (saying ∷ sayings))
names_more saying sayings one others = by (source_names saying) one where
  by : (name : Option (List ℕ)) → IfSome name IsUtf8
      → AllByRecursion IsUtf8 (cons_option name (filter_map source_names sayings))
  by None text = others
  by (Some name) text = (text, others)

names_texts : (sections : List (List (List ℕ))) (sayings : List Saying) → AllZip IsSaidSo sections sayings
    → AllByRecursion IsUtf8 (in_order sections) → AllByRecursion IsUtf8 (filter_map source_names sayings)
names_texts [] [] h texts = tt
names_texts [] (saying ∷ sayings) h texts = absurd h
names_texts (section ∷ sections) [] h texts = absurd h
names_texts (section ∷ sections) (saying ∷ sayings) h texts =
    let parts = behind_all section (in_order sections) texts in
    names_more saying sayings (said_text section saying h.0.1 parts.0) (names_texts sections sayings h.1 parts.1)

option_text : (name : Option (List ℕ)) → AllByRecursion IsUtf8 (option_to_list name) → IfSome name IsUtf8
option_text None h = tt
option_text (Some name) h = h.0

-- the name that source files get is a text
pub source_name_text : (bytes witness : List ℕ) (rules : Rules) (words : List Word) → IsUtf8 bytes
    → HasWords bytes words → grammar.IsConfig (map text_of words) witness rules → IfSome rules.source_name IsUtf8
source_name_text bytes witness rules words u h config =
    let texts : AllByRecursion IsUtf8 (in_order config.sections) = subst (λ l. AllByRecursion IsUtf8 l) config.spelled
    (mapped_texts words (all_texts bytes words u h)) in
    option_text rules.source_name (subst (λ l. AllByRecursion IsUtf8 l) config.one_source
    (names_texts config.sections config.sayings config.options texts))
