-- The first line at fault, in the terms of a grammar of lines (the project's own).
use Rattle.std.specs.Prelude.{◌≡◌, ℕ, ◌+◌, List, [], ◌∷◌, ◌++◌, length}

-- lines with which a text can begin that stands for something
abbrev pub CanBegin : {V : Type 0} → (List (List ℕ) → V → Type 0) → List (List ℕ) → Type 0
CanBegin {V} stand ls = (others : List (List ℕ)) × (v : V) × stand (ls ++ others) v

-- the line of this number is the first at fault: a text can begin with those before it, and none with it behind them
pub record IsFirstAtFault {V : Type 0} (stand : List (List ℕ) → V → Type 0) (ls : List (List ℕ)) (number : ℕ)
    : Type 0 where
  pub before : List (List ℕ)
  pub line : List ℕ
  pub behind : List (List ℕ)
  pub parts : ls ≡ before ++ line ∷ behind
  pub numbered : number ≡ length before + 1
  pub begins : CanBegin stand before
  pub stops : CanBegin stand (before ++ line ∷ []) → ⊥

-- the text ends too soon: a text can begin with all of its lines, and by themselves they stand for nothing; the number
-- is that of the line behind the last
pub record EndsTooSoon {V : Type 0} (stand : List (List ℕ) → V → Type 0) (ls : List (List ℕ)) (number : ℕ)
    : Type 0 where
  pub numbered : number ≡ length ls + 1
  pub begins : CanBegin stand ls
  pub short : (v : V) → stand ls v → ⊥
