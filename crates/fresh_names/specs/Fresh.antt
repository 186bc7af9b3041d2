-- New names in their order: a to z, aa, ab and so on (ProGuard manual, "Usage": short names), those that are taken
-- skipped.
use Rattle.std.specs.Prelude.{◌+◌, ◌-◌, ◌/◌, ◌%◌, ℕ, zero, suc, Bool, nat_lt, List, [], ◌∷◌, ◌++◌, length}
use Rattle.std.specs.Prelude.{if◌then◌else◌}
use Rattle.std.specs.List.{list_any}
use Rattle.jv_base.specs.Names.{is_text}

-- the letter with a number below 26, `a` being 0 (the project's own)
abbrev pub letter : ℕ → ℕ
letter n = 97 + n

-- the name with a number from 0, where there are letters enough for it (the project's own)
unfoldable pub spelled : ℕ → ℕ → List ℕ
spelled zero n = []
spelled (suc letters) n =
    if nat_lt n 26 then letter n ∷ [] else spelled letters (n / 26 - 1) ++ letter (n % 26) ∷ []

-- the name with a number from 0 (ProGuard manual, "Usage": short names)
abbrev pub name_at : ℕ → List ℕ
name_at n = spelled (suc n) n

-- a name is among these (the project's own)
abbrev pub is_taken : List (List ℕ) → List ℕ → Bool
is_taken taken name = list_any (is_text name) taken

-- new names begin with a package and its `/`, or with nothing
module _ (front : List ℕ) where
  -- the name with a number behind this front (JVMS 4.2.1)
  abbrev pub fresh : ℕ → List ℕ
  fresh n = front ++ name_at n

  -- the first number from n on whose name isn't taken, after some tries (the project's own)
  unfoldable pub free_from : ℕ → List (List ℕ) → ℕ → ℕ
  free_from zero taken n = n
  free_from (suc tries) taken n = if is_taken taken (fresh n) then free_from tries taken (n + 1) else n

  -- the first number from n on whose name isn't taken; so many tries as names are taken are enough (the project's own)
  abbrev pub next_free : List (List ℕ) → ℕ → ℕ
  next_free taken n = free_from (length taken) taken n

  -- each name with its new one, the first of them getting the first that is free from n on (the project's own)
  unfoldable pub given : List (List ℕ) → ℕ → List (List ℕ) → List (List ℕ × List ℕ)
  given taken n [] = []
  given taken n (old ∷ olds) = (old, fresh (next_free taken n)) ∷ given taken (next_free taken n + 1) olds
