-- Where a text may be cut: at the bytes that end a word, which are all of ASCII.
use Rattle.std.proofs.Common.{◌≡◌, ℕ, ◌≤◌, ◌<◌, Bool, true, false, not, List, [], ◌∷◌}
use Rattle.std.proofs.Common.{length, get_or, Some, None, sym, ap, ◌∙◌, arith, inl, inr}
use Rattle.std.specs.Prelude.{slice_get}
use Rattle.std.specs.List.{position, position_or_len}
use Rattle.std.specs.Str.{IsUtf8, IsCharBoundary}
use Rattle.std.proofs.lemmas.Bool.{eqb-true, ltb-true, ltb-false, cases_lt}
use Rattle.std.proofs.lemmas.List.Sums.{passes_at_first, prefix_len-le-length}
use Rattle.std.proofs.lemmas.Str.{IsCharBoundary-before_ascii, IsCharBoundary-after_ascii}
use Rattle.std.proofs.lemmas.Option.{cond_some}
use Rattle.jv_base.proofs.Options.{none_by}
use Rattle.conf_words.specs.declared.kinds.Kind.{Kind}
use Rattle.conf_words.specs.declared.kinds.Kind.TheVariants.{Plain}
use Rattle.conf_words.specs.Pieces.{kind_of, ends_of, ends_word, ends_line}

-- a byte of a character from U+0080 on is of a word
plain_of : (b : ℕ) → 128 ≤ b → kind_of b ≡ Plain
unfolding kind_of
plain_of b h = grind arith

-- a byte that ends a word is of ASCII
pub ascii_end : (b : ℕ) → ends_word b ≡ true → b < 128
ascii_end b e = elim (cases_lt b 128) [
  | inl lt ↦ lt
  | inr le ↦ absurd
      (let k : ends_of (kind_of b) ≡ ends_of Plain = ap ends_of (plain_of b le) in let no : true ≡ false = sym e
      ∙ k in cc)
]

-- where a byte was found
pub found_at : (p : ℕ → Bool) (text : List ℕ) (at : ℕ) → position p text ≡ Some at
    → (at ≡ position_or_len p text) × (at < length text) × (p (get_or text at 0) ≡ true)
found_at p text at h =
    let s = cond_some _ _ at h in
    let lt : position_or_len p text < length text = ltb-true _ _ s.0 in
    (sym s.1, omega (arith, lt, s.1), ap (λ (n : ℕ). p (get_or text n 0)) (sym s.1) ∙ passes_at_first p text 0 lt)

-- where no byte was found
pub found_none : (p : ℕ → Bool) (text : List ℕ) → position p text ≡ None → length text ≡ position_or_len p text
found_none p text h =
    let le : length text ≤ position_or_len p text = ltb-false _ _ (none_by _ _ h) in
    omega (arith, le, prefix_len-le-length (λ b. not (p b)) text)

-- a text may be cut before a byte of ASCII that was found
pub cut_at : (p : ℕ → Bool) (text : List ℕ) (at : ℕ) → ((b : ℕ) → p b ≡ true → b < 128) → position p text ≡ Some at
    → IsCharBoundary text at
cut_at p text at ascii h =
    let f = found_at p text at h in
    IsCharBoundary-before_ascii text at f.1 (ascii _ f.2)

-- a line end is of ASCII
pub ascii_line_end : (b : ℕ) → ends_line b ≡ true → b < 128
ascii_line_end b e = let is = eqb-true b 10 e in omega (arith, is)

first_is : (text : List ℕ) (first : ℕ) → slice_get text 0 ≡ Some first → (0 < length text) × (get_or text 0 0 ≡ first)
first_is [] first h = absurd cc
first_is (b ∷ text) first h = (omega arith, cc)

-- a text may be cut behind a first byte of ASCII
pub cut_first : (text : List ℕ) (first : ℕ) → IsUtf8 text → slice_get text 0 ≡ Some first → first < 128
    → IsCharBoundary text 1
cut_first text first u h lt =
    let f = first_is text first h in
    IsCharBoundary-after_ascii text 0 u f.0 (omega (arith, f.1, lt))

-- the same of a byte that is of another kind than those of words
pub cut_kind : (text : List ℕ) (first : ℕ) (kind : Kind) → IsUtf8 text → slice_get text 0 ≡ Some first
    → kind_of first ≡ kind → ends_of kind ≡ true → IsCharBoundary text 1
cut_kind text first kind u h is ends = cut_first text first u h (ascii_end first (ap ends_of is ∙ ends))
