-- Patterns without wildcards stand for themselves.
use Rattle.std.proofs.Common.{◌≡◌, ℕ, ◌<◌, Bool, true, false, ◌||◌, cond, eqb, List, [], ◌∷◌, ◌++◌, map, refl}
use Rattle.std.proofs.Common.{sym, ap, ◌∙◌, arith, ◌⊎◌, inl, inr, lit<}
use Rattle.std.specs.List.{list_any}
use Rattle.std.specs.Str.{IsUtf8, chars}
use Rattle.std.proofs.lemmas.Bool.{and_from, and_left, and_parts, eqb-true, eq-eqb, false_from_ne_true, or_cases}
use Rattle.std.proofs.lemmas.Bool.{or_from, or_parts}
use Rattle.std.proofs.lemmas.List.{map-append}
use Rattle.std.proofs.lemmas.List.Folds.{list_any-append}
use Rattle.std.proofs.lemmas.Str.{chars_from_encodes, encode_ascii, encodes-chars}
use lib.Utf8.{encode, encodes}
use Rattle.jv_base.specs.External.{dotted, swapped}
use Rattle.jv_base.proofs.Swapping.{swapped_char}
use Rattle.keep_match.specs.declared.piece.Piece.{Piece}
use Rattle.keep_match.specs.declared.piece.Piece.TheVariants.{Any, Character, One, Part}
use Rattle.keep_match.specs.bodies.Marks.{is_wildcard}
use Rattle.keep_match.specs.Wildcards.{is_cut, piece_of, pieces, dotted_chars, wild, wild_class}

-- ---- pieces

plain_piece : (c : ℕ) → is_wildcard c ≡ false → piece_of c ≡ Character c
plain_piece c h =
    let p = or_parts (eqb c 42) (eqb c 63) h in
    ap (λ (b : Bool). cond b Part (cond (eqb c 63) One (Character c))) p.0
    ∙ ap (λ (b : Bool). cond b One (Character c)) p.1

plain_pieces : (cs : List ℕ) → list_any is_wildcard cs ≡ false → pieces cs ≡ map Character cs
unfolding pieces
plain_pieces [] h = refl
plain_pieces (c ∷ []) h =
    let p = or_parts (is_wildcard c) false h in ap (λ (q : Piece). q ∷ []) (plain_piece c p.0)
plain_pieces (c ∷ (d ∷ cs)) h =
    let p = or_parts (is_wildcard c) (list_any is_wildcard (d ∷ cs)) h in
    let star = or_parts (eqb c 42) (eqb c 63) p.0 in
    ap (λ (b : Bool). cond b (Any ∷ pieces cs) (piece_of c ∷ pieces (d ∷ cs))) (and_left (eqb c 42) (eqb d 42) star.0)
    ∙ (λ i. plain_piece c p.0 i ∷ plain_pieces (d ∷ cs) p.1 i)

cut_is : (cs x : List ℕ) → is_cut (map Character cs) x ≡ true → x ≡ cs
unfolding is_cut
cut_is [] [] h = refl
cut_is [] (y ∷ x) h = absurd cc
cut_is (c ∷ cs) [] h = absurd cc
cut_is (c ∷ cs) (y ∷ x) h =
    let p = and_parts (eqb y c) (is_cut (map Character cs) x) h in
    λ i. eqb-true y c p.0 i ∷ cut_is cs x p.1 i

cut_whole : (cs : List ℕ) → is_cut (map Character cs) cs ≡ true
unfolding is_cut
cut_whole [] = refl
cut_whole (c ∷ cs) = and_from (eqb c c) (is_cut (map Character cs) cs) (eq-eqb c c refl) (cut_whole cs)

-- ---- names

swapped_all : (cs : List ℕ) → encodes (map (swapped 47 46) cs) ≡ map (swapped 47 46) (encodes cs)
swapped_all [] = refl
swapped_all (c ∷ cs) =
    (λ i. swapped_char 47 46 c (lit< tt) (lit< tt) i ++ swapped_all cs i)
    ∙ sym (map-append (swapped 47 46) (encode c) (encodes cs))

shown_name : (name : List ℕ) → IsUtf8 name → encodes (dotted_chars 47 name) ≡ dotted name
shown_name name u = swapped_all (chars name) ∙ ap (map (swapped 47 46)) (encodes-chars name u)

-- a class name is matched exactly where the pattern is it, with dots
pub literal_is : (pattern name : List ℕ) → list_any is_wildcard (chars pattern) ≡ false → IsUtf8 pattern → IsUtf8 name
    → wild_class pattern name ≡ true → dotted name ≡ pattern
unfolding wild_class
literal_is pattern name plain u v h =
    let cut : is_cut (map Character (chars pattern)) (dotted_chars 47 name) ≡ true =
    ap (λ (ps : List Piece). is_cut ps (dotted_chars 47 name)) (sym (plain_pieces (chars pattern) plain)) ∙ h in
    sym (shown_name name v) ∙ ap encodes (cut_is (chars pattern) (dotted_chars 47 name) cut) ∙ encodes-chars pattern u

pub literal_matches : (pattern name : List ℕ) → list_any is_wildcard (chars pattern) ≡ false → IsUtf8 pattern
    → IsUtf8 name → dotted name ≡ pattern → wild_class pattern name ≡ true
unfolding wild_class
literal_matches pattern name plain u v e =
    let same : dotted_chars 47 name ≡ chars pattern =
    chars_from_encodes (dotted_chars 47 name) pattern u (shown_name name v ∙ e) in
    ap (λ (ps : List Piece). is_cut ps (dotted_chars 47 name)) (plain_pieces (chars pattern) plain)
    ∙ ap (is_cut (map Character (chars pattern))) same ∙ cut_whole (chars pattern)

-- a name is matched by the pattern that it is itself alone
pub same_name : (pattern name : List ℕ) → list_any is_wildcard (chars pattern) ≡ false → IsUtf8 pattern → IsUtf8 name
    → wild pattern name ≡ true → pattern ≡ name
unfolding wild
same_name pattern name plain u v h =
    let cut : is_cut (map Character (chars pattern)) (chars name) ≡ true =
    ap (λ (ps : List Piece). is_cut ps (chars name)) (sym (plain_pieces (chars pattern) plain)) ∙ h in
    sym (encodes-chars pattern u) ∙ sym (ap encodes (cut_is (chars pattern) (chars name) cut)) ∙ encodes-chars name v

-- ---- bytes

low_wildcard : (c : ℕ) → (eqb c 42 ≡ true) ⊎ (eqb c 63 ≡ true) → c < 128
low_wildcard c (inl e) = let f = eqb-true c 42 e in omega arith
low_wildcard c (inr e) = let f = eqb-true c 63 e in omega arith

wild_byte : (c : ℕ) → is_wildcard c ≡ true → list_any is_wildcard (encode c) ≡ true
wild_byte c h =
    ap (list_any is_wildcard) (encode_ascii c (low_wildcard c (or_cases (eqb c 42) (eqb c 63) h)))
    ∙ ap (λ (b : Bool). b || false) h

chars_plain : (cs : List ℕ) → list_any is_wildcard (encodes cs) ≡ false → list_any is_wildcard cs ≡ false
chars_plain [] h = refl
chars_plain (c ∷ cs) h =
    let p = or_parts (list_any is_wildcard (encode c)) (list_any is_wildcard (encodes cs))
    (sym (list_any-append is_wildcard (encode c) (encodes cs)) ∙ h) in
    or_from (is_wildcard c) (list_any is_wildcard cs)
    (false_from_ne_true (is_wildcard c) (λ t. let f : true ≡ false = sym (wild_byte c t) ∙ p.0 in cc))
    (chars_plain cs p.1)

pub no_wildcard : (bs : List ℕ) → IsUtf8 bs → list_any is_wildcard bs ≡ false → list_any is_wildcard (chars bs) ≡ false
no_wildcard bs u h = chars_plain (chars bs) (ap (list_any is_wildcard) (encodes-chars bs u) ∙ h)
