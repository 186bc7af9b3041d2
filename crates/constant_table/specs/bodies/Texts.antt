-- Texts with numbers, each there once (the project's own: only the proof of the table needs it).
use Rattle.std.specs.Prelude.{◌≡◌, ℕ, ◌<◌, List, ◌++◌, length, IfSome}
use Rattle.std.specs.List.{IsDistinct}
use Rattle.std.specs.Map.{lookup}
use Rattle.jv_base.specs.Utf16.{units_of}
use Rattle.class_model.specs.CanonicalPool.{same_text}
use Rattle.constant_table.specs.bodies.Keys.{number_of, text_of}

-- a text is there, with this number
pub record HasNumber (texts : List (List ℕ)) (number : ℕ) (text : List ℕ) : Type 0 where
  pub within : number < length texts
  pub is : number ≡ number_of texts text

-- this is the text of a number
pub record HasText (texts : List (List ℕ)) (number : ℕ) (text : List ℕ) : Type 0 where
  pub within : number < length texts
  pub is : text_of texts number ≡ text

-- the number that is kept with a text is that of its units
abbrev pub AreNumbers : List (List ℕ) → List (List ℕ × ℕ) → Type 0
AreNumbers texts numbers =
    (text : List ℕ) → IfSome (lookup (same_text text) numbers) (λ n. HasNumber texts n (units_of text))

-- there may be more texts behind those that were there, and they are distinct where those were
pub record Grows (old new : List (List ℕ)) : Type 0 where
  pub more : List (List ℕ)
  pub is : new ≡ old ++ more
  pub distinct : IsDistinct same_text old → IsDistinct same_text new
