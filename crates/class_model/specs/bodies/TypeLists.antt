-- Lists of types that share their beginnings (only the proofs of Frames and FrameBuilder need it).
use Rattle.std.specs.Prelude.{◌≡◌, ℕ, zero, suc, ◌≤◌, List, [], ◌∷◌, ◌++◌, length, get_or}
use Rattle.class_model.specs.declared.frame.VType.{VType}
use Rattle.class_model.specs.declared.frame.VType.TheVariants as vtype
use Rattle.class_model.specs.declared.type_lists.TypeAbove.{TypeAbove}
use Rattle.class_model.specs.declared.type_lists.TypeList.{TypeList}

-- what has the number 0, and each number behind the last
abbrev pub nothing : TypeAbove
nothing = record { ty = vtype.Top; below = 0 }

-- what has a number, counted from 1
abbrev pub numbered : List TypeAbove → ℕ → TypeAbove
numbered types zero = nothing
numbered types (suc n) = get_or types n nothing

-- so many types up to the one of a number
abbrev pub up_to : List TypeAbove → ℕ → ℕ → List VType
up_to types zero top = []
up_to types (suc n) top = up_to types n (numbered types top).below ++ (numbered types top).ty ∷ []

-- the types of a list
abbrev pub types_in : List TypeAbove → TypeList → List VType
types_in types list = up_to types list.len list.top

-- a list lies in these types
pub record IsHeld (types : List TypeAbove) (list : TypeList) : Type 0 where
  pub len : list.len ≤ length types
  pub top : list.top ≤ length types

-- more types, with which the lists that there are stay the same
pub record Grows (before after : List TypeAbove) : Type 0 where
  pub longer : length before ≤ length after
  pub same : (n top : ℕ) → top ≤ length before → up_to after n top ≡ up_to before n top
