-- Wildcards (ProGuard manual, "Class Specifications"). A pattern is a row of pieces, each of which allows some parts of
-- a text, and it matches each text that can be cut into such parts, one for each piece.
use Rattle.std.specs.Prelude.{◌≡◌, ◌≢◌, ℕ, ◌==◌, Bool, true, false, not, ◌&&◌, ◌||◌, List, [], ◌∷◌, ◌++◌, map}
use Rattle.std.specs.Prelude.{if◌then◌else◌}
use Rattle.std.specs.List.{AllByRecursion}
use Rattle.std.specs.Str.{chars}
use Rattle.jv_base.specs.External.{swapped}
use Rattle.keep_match.specs.declared.piece.Piece.{Piece}
use Rattle.keep_match.specs.declared.piece.Piece.TheVariants.{Character, One, Part, Any}

-- ---- pieces

-- `*`, `?`, or a character that stands for itself (ProGuard manual, "Class Specifications")
abbrev pub piece_of : ℕ → Piece
piece_of c = if c == 42 then Part else if c == 63 then One else Character c

-- the pieces of a pattern, two stars being one piece (ProGuard manual, "Class Specifications")
unfoldable pub pieces : List ℕ → List Piece
pieces [] = []
pieces (c ∷ []) = piece_of c ∷ []
pieces (c ∷ (d ∷ cs)) = if c == 42 && d == 42 then Any ∷ pieces cs else piece_of c ∷ pieces (d ∷ cs)

-- ---- parts of a text

-- no character is a dot (ProGuard manual, "Class Specifications": a dot separates packages)
abbrev pub HasNoDot : List ℕ → Type 0
HasNoDot text = AllByRecursion (λ c. c ≢ 46) text

-- the part is one that the piece allows: the character itself, one that is no dot, any number of such, or any number of
-- characters (ProGuard manual, "Class Specifications")
abbrev pub IsPart : Piece → List ℕ → Type 0
IsPart (Character c) part = part ≡ c ∷ []
IsPart One part = (c : ℕ) × (part ≡ c ∷ []) × (c ≢ 46)
IsPart Part part = HasNoDot part
IsPart Any part = Unit {0}

-- the text begins with parts, one for each piece, and the rest stands behind them
-- (ProGuard manual, "Class Specifications")
abbrev pub Begins : List Piece → List ℕ → List ℕ → Type 0
Begins [] text rest = text ≡ rest
Begins (p ∷ ps) text rest = (part : List ℕ) × (behind : List ℕ) × (text ≡ part ++ behind) × IsPart p part
    × Begins ps behind rest

-- the text can be cut into parts, one for each piece of the pattern (ProGuard manual, "Class Specifications")
abbrev pub IsCut : List ℕ → List ℕ → Type 0
IsCut pattern text = Begins (pieces pattern) text []

-- a pattern matches a text, both in UTF-8 (ProGuard manual, "Class Specifications")
abbrev pub Wild : List ℕ → List ℕ → Type 0
Wild pattern text = IsCut (chars pattern) (chars text)

-- ---- the same as a test

-- a front of allowed characters can be taken away so that the rest passes
-- (only as a test: the relation above says the same)
abbrev pub passes_behind : (ℕ → Bool) → (List ℕ → Bool) → List ℕ → Bool
passes_behind allowed passes [] = passes []
passes_behind allowed passes (c ∷ cs) = passes (c ∷ cs) || (allowed c && passes_behind allowed passes cs)

-- the text can be cut into parts, one for each piece (ProGuard manual, "Class Specifications")
unfoldable pub is_cut : List Piece → List ℕ → Bool
is_cut [] [] = true
is_cut [] (c ∷ cs) = false
is_cut (Character d ∷ ps) [] = false
is_cut (Character d ∷ ps) (c ∷ cs) = c == d && is_cut ps cs
is_cut (One ∷ ps) [] = false
is_cut (One ∷ ps) (c ∷ cs) = not (c == 46) && is_cut ps cs
is_cut (Part ∷ ps) cs = passes_behind (λ c. not (c == 46)) (is_cut ps) cs
is_cut (Any ∷ ps) cs = passes_behind (λ c. true) (is_cut ps) cs

-- the characters of a text in which another one stands for a dot
-- (JVMS 4.2.1: a class name has slashes where Java source has dots)
abbrev pub dotted_chars : ℕ → List ℕ → List ℕ
dotted_chars dot text = map (swapped dot 46) (chars text)

-- a pattern matches a text, both in UTF-8 (ProGuard manual, "Class Specifications")
unfoldable pub wild : List ℕ → List ℕ → Bool
wild pattern text = is_cut (pieces (chars pattern)) (chars text)

-- a pattern matches a class name in internal form, which is shown with dots (JVMS 4.2.1; ProGuard manual, "Class
-- Specifications")
unfoldable pub wild_class : List ℕ → List ℕ → Bool
wild_class pattern name = is_cut (pieces (chars pattern)) (dotted_chars 47 name)
