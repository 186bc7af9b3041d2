-- From which instructions control may come to each index, as it is kept (JVMS 2.11.7; only the code's
-- contracts need it).
use Rattle.std.specs.Prelude.{ℕ, suc, List, [], ◌∷◌, ◌++◌, length, nat_lt, replicate}
use Rattle.std.specs.Prelude.{slice_index_or, slice_set, if◌then◌else◌}
use Rattle.class_model.specs.declared.code.Code.{Code}
use Rattle.class_model.specs.declared.code.Ins.{Ins}
use Rattle.code_edit.specs.Flow.{successors_of}

-- the list of an index, and none where there is no list
abbrev pub row : List (List ℕ) → ℕ → List ℕ
row lists at = slice_index_or lists at []

-- control may come from one index to another
abbrev pub with_link : ℕ → ℕ → List (List ℕ) → List (List ℕ)
with_link from to lists =
    if nat_lt to (length lists) then slice_set lists to (row lists to ++ from ∷ []) else lists

-- and from one to each of others
abbrev pub with_links : ℕ → List ℕ → List (List ℕ) → List (List ℕ)
with_links from [] lists = lists
with_links from (to ∷ tos) lists = with_links from tos (with_link from to lists)

-- from each of instructions, in a code of n, the first one's index being at
abbrev pub linked : ℕ → ℕ → List Ins → List (List ℕ) → List (List ℕ)
linked n at [] lists = lists
linked n at (i ∷ ins) lists = linked n (suc at) ins (with_links at (successors_of n at i.op) lists)

-- for each index those from which control may come, of which one may be there more than once
abbrev pub predecessors : Code → List (List ℕ)
predecessors code = linked (length code.ins) 0 code.ins (replicate (length code.ins) [])
