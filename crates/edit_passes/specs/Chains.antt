-- Where chains of gotos end, told as it is found (the project's own; only the code's contracts need
-- it).
use Rattle.std.specs.Prelude.{◌≡◌, ◌<◌, ℕ, zero, suc, List, map, Option, Some, None}
use Rattle.std.specs.Prelude.{length, slice_get, slice_index_or, if◌then◌else◌}
use Rattle.class_model.specs.declared.code.Code.{Code}
use Rattle.class_model.specs.declared.code.Ins.{Ins}
use Rattle.class_model.specs.declared.op.Op.{Op}
use Rattle.class_model.specs.declared.op.Op.TheVariants as op
use Rattle.code_edit.specs.Flow.{of_ins}
use Rattle.code_edit.specs.Jumps.{is_goto}
use Rattle.code_edit.specs.Rewriting.{map_from}

-- where a goto leads; any other operation stays at its index
abbrev pub goes_to : ℕ → Op → ℕ
goes_to at (op.Goto to) = to
goes_to at o = at

-- one step from what an index holds
abbrev pub stepped : ℕ → Option Ins → ℕ
stepped at None = at
stepped at (Some i) = goes_to at i.op

-- one step, and so many
abbrev pub step : Code → ℕ → ℕ
step code at = stepped at (slice_get code.ins at)

abbrev pub walk : Code → ℕ → ℕ → ℕ
walk code zero at = at
walk code (suc n) at = walk code n (step code at)

-- the table has where so many steps lead from each index
pub record IsTable (code : Code) (n : ℕ) (table : List ℕ) : Type 0 where
  pub long : length table ≡ length code.ins
  pub at : (k : ℕ) → k < length code.ins → slice_index_or table k k ≡ walk code n k

-- the steps of each instruction, the first one's index being at
abbrev pub steps_of : Code → List ℕ
steps_of code = map_from (λ at (i : Ins). goes_to at i.op) 0 code.ins

-- twice as many steps
abbrev pub doubled : List ℕ → List ℕ
doubled table = map (λ to. slice_index_or table to to) table

-- the end of the chain from an index, if it has one
abbrev pub ends_in : List ℕ → Code → ℕ → Option ℕ
ends_in table code from =
    if of_ins is_goto code (slice_index_or table from from) then None
    else Some (slice_index_or table from from)
