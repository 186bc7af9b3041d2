-- Lists that grow and shrink at one end (only the proof of the bodies needs it).
use Rattle.std.specs.Prelude.{◌≡◌, List, [], ◌∷◌, Option, Some, None}

-- the first item was taken, if there is one
abbrev pub Takes : {A : Type 0} → Option A → (before after : List A) → Type 0
Takes None before after = (before ≡ []) × (after ≡ [])
Takes (Some x) before after = before ≡ x ∷ after
