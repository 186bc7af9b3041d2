-- Where control goes from an instruction, and what a handler covers (JVMS 2.10, 2.11.7, 4.7.3).
use Rattle.std.specs.Prelude.{ℕ, ◌+◌, List, [], ◌∷◌, ◌++◌, map, Option, Some, None, Bool, true}
use Rattle.std.specs.Prelude.{false}
use Rattle.std.specs.Prelude.{◌&&◌, ◌||◌, nat_eq, nat_le, nat_lt, length, slice_get, if◌then◌else◌}
use Rattle.std.specs.List.{list_any}
use Rattle.std.specs.Option.{option_map_or}
use Rattle.class_model.specs.declared.code.Code.{Code}
use Rattle.class_model.specs.declared.code.Handler.{Handler}
use Rattle.class_model.specs.declared.code.Ins.{Ins}
use Rattle.class_model.specs.declared.op.Case.{Case}
use Rattle.class_model.specs.declared.op.Op.{Op}
use Rattle.class_model.specs.declared.op.Op.TheVariants as op

-- ---- instructions

-- the targets of a branch or switch (JVMS 6.5): the one target or the default, then the cases in
-- their order
abbrev pub targets : Op → List ℕ
targets (op.IfZero c to) = to ∷ []
targets (op.IfCmp c to) = to ∷ []
targets (op.IfRef eq to) = to ∷ []
targets (op.IfNull null to) = to ∷ []
targets (op.Goto to) = to ∷ []
targets (op.TableSwitch low other cases) = other ∷ cases
targets (op.LookupSwitch other cases) = other ∷ map (λ (c : Case). c.to) cases
targets o = []

-- control never goes on to the next instruction (JVMS 4.10.1.6, afterGoto)
abbrev pub goes_elsewhere : Op → Bool
goes_elsewhere (op.Goto to) = true
goes_elsewhere (op.TableSwitch low other cases) = true
goes_elsewhere (op.LookupSwitch other cases) = true
goes_elsewhere (op.Return kind) = true
goes_elsewhere op.Throw = true
goes_elsewhere o = false

-- the next index, where control may go on to it: the index, in a code of n instructions, holds this
-- operation
abbrev pub next_of : ℕ → ℕ → Op → List ℕ
next_of n at o = if goes_elsewhere o then [] else if nat_lt (at + 1) n then (at + 1) ∷ [] else []

-- where control may go from such an index, other than to a handler: the next index first, then the
-- targets
abbrev pub successors_of : ℕ → ℕ → Op → List ℕ
successors_of n at o = next_of n at o ++ targets o

abbrev pub successors_by : ℕ → ℕ → Option Ins → List ℕ
successors_by n at None = []
successors_by n at (Some i) = successors_of n at i.op

-- the same of an index of a code
abbrev pub successors : Code → ℕ → List ℕ
successors code at = successors_by (length code.ins) at (slice_get code.ins at)

-- what is asked of the operation at an index; no where there is none
abbrev pub of_ins : (Op → Bool) → Code → ℕ → Bool
of_ins test code at = option_map_or (λ (i : Ins). test i.op) (slice_get code.ins at) false

-- ---- handlers

-- the handler covers the index: its range has its start and not its end (JVMS 4.7.3, start_pc and
-- end_pc)
abbrev pub covers : Handler → ℕ → Bool
covers h at = nat_le h.from at && nat_lt at h.to

-- the index is a target of some branch or switch, or the entry of some handler
abbrev pub is_target : Code → ℕ → Bool
is_target code at = list_any (λ (i : Ins). list_any (nat_eq at) (targets i.op)) code.ins
    || list_any (λ (h : Handler). nat_eq at h.entry) code.handlers
