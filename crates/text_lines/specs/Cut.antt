-- Texts in parts, and one step after the other (the project's own: a line is taken apart from left to right).
use Rattle.std.specs.Prelude.{◌≢◌, ℕ, Bool, List, [], ◌∷◌, Option, Some, None, ◌==◌, if◌then◌else◌}
use Rattle.std.specs.List.{AllByRecursion}
use Rattle.std.specs.Option.{option_map}
use Rattle.std.specs.Borrow.{Bor}

-- a step behind a value that is there
infixl 10 ◌>>=◌
abbrev pub ◌>>=◌ : {A B : Type 0} → Option A → (A → Option B) → Option B
None >>= f = None
(Some x) >>= f = f x

-- a value where a test holds
abbrev pub where_true : {A : Type 0} → Bool → A → Option A
where_true b x = if b then Some x else None

-- the part before a byte with one more in front
abbrev pub cut_on : ℕ → Option (List ℕ × List ℕ) → Option (List ℕ × List ℕ)
cut_on x None = None
cut_on x (Some parts) = Some (x ∷ parts.0, parts.1)

-- the text before the first such byte, and the one behind it
unfoldable pub cut : ℕ → List ℕ → Option (List ℕ × List ℕ)
cut byte [] = None
cut byte (x ∷ xs) = if x == byte then Some ([], xs) else cut_on x (cut byte xs)

-- a text without this byte
abbrev pub Lacks : ℕ → List ℕ → Type 0
Lacks byte text = AllByRecursion (λ b. b ≢ byte) text

-- the text behind a front, where it begins so
unfoldable pub after : List ℕ → List ℕ → Option (List ℕ)
after [] text = Some text
after (c ∷ front) [] = None
after (c ∷ front) (b ∷ text) = if b == c then after front text else None

-- two parts as texts
abbrev pub parts_copied : Option (Bor (List ℕ) × Bor (List ℕ)) → Option (List ℕ × List ℕ)
parts_copied parts = option_map (λ p. (p.0.now, p.1.now)) parts
