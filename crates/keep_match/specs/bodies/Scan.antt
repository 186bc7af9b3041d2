-- How far a pattern and a text are read (only the proof of wild needs it).
use Rattle.std.specs.Prelude.{◌≡◌, ℕ, ◌==◌, Bool, true, false, not, List, [], ◌∷◌, ◌++◌}
use Rattle.std.specs.List.{AllByRecursion}
use Rattle.std.specs.Str.{chars}
use Rattle.keep_match.specs.declared.piece.Piece.{Piece}
use Rattle.keep_match.specs.declared.piece.Piece.TheVariants.{Character, One, Part, Any}
use Rattle.keep_match.specs.declared.scan.Place.{Place}
use Rattle.keep_match.specs.Wildcards.{Begins, HasNoDot, pieces, dotted_chars}

-- ---- pieces

-- it stands for any number of characters (only the proof of wild needs it)
abbrev pub is_star : Piece → Bool
is_star (Character c) = false
is_star One = false
is_star Part = true
is_star Any = true

-- a piece for one character stands for this one (only the proof of wild needs it)
abbrev pub allows : Piece → ℕ → Bool
allows (Character d) c = c == d
allows One c = not (c == 46)
allows Part c = false
allows Any c = false

-- it stands for one character (only the proof of wild needs it)
abbrev pub IsSingle : Piece → Type 0
IsSingle p = is_star p ≡ false

-- it stands for a number of dots that is known (only the proof of wild needs it)
abbrev pub IsNotAny : Piece → Type 0
IsNotAny (Character c) = Unit {0}
IsNotAny One = Unit {0}
IsNotAny Part = Unit {0}
IsNotAny Any = ⊥

-- ---- places

-- the pieces that are left (only the proof of wild needs it)
abbrev pub pieces_at : Place → List Piece
pieces_at place = pieces (chars place.pattern.now)

-- the text that is left (only the proof of wild needs it)
abbrev pub text_at : ℕ → Place → List ℕ
text_at dot place = dotted_chars dot place.text.now

-- pieces of a kind were read, and a front of the text that they stand for (only the proof of wild needs it)
pub record IsRead (IsKind : Piece → Type 0) (ps : List Piece) (x : List ℕ) (qs : List Piece) (y : List ℕ) : Type 0 where
  pub read : List Piece
  pub split : ps ≡ read ++ qs
  pub kinds : AllByRecursion IsKind read
  pub parts : Begins read x y

-- a star comes next, or both have ended (only the proof of wild needs it)
abbrev pub EndsBlock : List Piece → List ℕ → Type 0
EndsBlock [] y = y ≡ []
EndsBlock (Character c ∷ qs) y = ⊥
EndsBlock (One ∷ qs) y = ⊥
EndsBlock (Part ∷ qs) y = Unit {0}
EndsBlock (Any ∷ qs) y = Unit {0}

-- two stars come next, or both have ended (only the proof of wild needs it)
abbrev pub EndsSection : List Piece → List ℕ → Type 0
EndsSection [] y = y ≡ []
EndsSection (Character c ∷ qs) y = ⊥
EndsSection (One ∷ qs) y = ⊥
EndsSection (Part ∷ qs) y = ⊥
EndsSection (Any ∷ qs) y = Unit {0}

-- a block of pieces for one character each was read (only the proof of wild needs it)
pub record IsBlock (ps : List Piece) (x : List ℕ) (qs : List Piece) (y : List ℕ) : Type 0 where
  pub read : IsRead IsSingle ps x qs y
  pub end : EndsBlock qs y

-- the first place to which pieces lead was found: where the text matches, the rest of it does from there on
-- (only the proof of wild needs it)
pub record IsStep (ps : List Piece) (x : List ℕ) (qs : List Piece) (y : List ℕ) : Type 0 where
  pub read : IsRead IsNotAny ps x qs y
  pub only : Begins ps x [] → Begins qs y []

-- the same, at a star or at the end (only the proof of wild needs it)
pub record IsStepToBlock (ps : List Piece) (x : List ℕ) (qs : List Piece) (y : List ℕ) : Type 0 where
  pub step : IsStep ps x qs y
  pub end : EndsBlock qs y

-- the same, at two stars or at the end (only the proof of wild needs it)
pub record IsStepToSection (ps : List Piece) (x : List ℕ) (qs : List Piece) (y : List ℕ) : Type 0 where
  pub step : IsStep ps x qs y
  pub end : EndsSection qs y

-- the text matches exactly where the rest does (only the proof of wild needs it)
pub record IsSame (ps : List Piece) (x : List ℕ) (qs : List Piece) (y : List ℕ) : Type 0 where
  pub only : Begins ps x [] → Begins qs y []
  pub back : Begins qs y [] → Begins ps x []
  pub end : EndsSection qs y

-- the text doesn't match (only the proof of wild needs it)
abbrev pub Fails : List Piece → List ℕ → Type 0
Fails ps x = Begins ps x [] → ⊥

-- a front without a dot was passed over (only the proof of wild needs it)
pub record IsPlain (x y : List ℕ) : Type 0 where
  pub front : List ℕ
  pub split : x ≡ front ++ y
  pub plain : HasNoDot front

-- a front without a dot was passed over, and nothing is lost by that (only the proof of wild needs it)
pub record IsPassed (ps : List Piece) (x : List ℕ) (y : List ℕ) : Type 0 where
  pub front : List ℕ
  pub split : x ≡ front ++ y
  pub plain : HasNoDot front
  pub only : Begins (Part ∷ ps) x [] → Begins (Part ∷ ps) y []

-- a front was passed over, and nothing is lost by that (only the proof of wild needs it)
pub record IsPassedAny (ps : List Piece) (x : List ℕ) (y : List ℕ) : Type 0 where
  pub front : List ℕ
  pub split : x ≡ front ++ y
  pub only : Begins (Any ∷ ps) x [] → Begins (Any ∷ ps) y []

-- what stands behind the first dot (only the proof of wild needs it)
pub record IsBehindDot (x : List ℕ) (y : List ℕ) : Type 0 where
  pub front : List ℕ
  pub split : x ≡ front ++ (46 ∷ y)
  pub plain : HasNoDot front
