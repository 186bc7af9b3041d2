-- Which places lists of instructions, targets and handlers mark (only the proof of the walk needs it).
use Rattle.std.specs.Prelude.{ℕ, Bool, nat_eq, List, map}
use Rattle.std.specs.List.{list_any}
use Rattle.class_model.specs.declared.code.Handler.{Handler}
use Rattle.class_model.specs.declared.code.Ins.{Ins}
use Rattle.class_model.specs.declared.op.Case.{Case}
use Rattle.type_verifier.specs.Environment.{targets}

-- the place is one of these
abbrev pub is_among : List ℕ → ℕ → Bool
is_among places at = list_any (nat_eq at) places

-- it is a target of one of these cases
abbrev pub is_case : List Case → ℕ → Bool
is_case cases at = list_any (nat_eq at) (map (λ (c : Case). c.to) cases)

-- one of these handlers begins there
abbrev pub is_begun : List Handler → ℕ → Bool
is_begun handlers at = list_any (λ (h : Handler). nat_eq at h.entry) handlers

-- one of these handlers covers it as the first
abbrev pub is_first_covered : List Handler → ℕ → Bool
is_first_covered handlers at = list_any (λ (h : Handler). nat_eq at h.from) handlers

-- it is a target of one of these instructions
abbrev pub is_target : List Ins → ℕ → Bool
is_target ins at = list_any (λ (i : Ins). list_any (nat_eq at) (targets i.op)) ins
