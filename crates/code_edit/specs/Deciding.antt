-- Where a branch or switch leads whose operands are known ints (JVMS 6.5.if_cond,
-- 6.5.if_icmp_cond, 6.5.tableswitch, 6.5.lookupswitch).
use Rattle.std.specs.Prelude.{ℕ, ℤ, pos, ◌-ℤ◌, Bool, not, List, [], ◌∷◌, Option, Some, None}
use Rattle.std.specs.Prelude.{int_lt, slice_get, if◌then◌else◌}
use Rattle.std.specs.List.{find}
use Rattle.std.specs.Option.{option_map, unwrap_or}
use Rattle.std.specs.Ordering.{int_eq}
use Rattle.class_model.specs.declared.op.Case.{Case}
use Rattle.class_model.specs.declared.op.Cond.{Cond}
use Rattle.class_model.specs.declared.op.Cond.TheVariants as cond
use Rattle.class_model.specs.declared.op.Op.{Op}
use Rattle.class_model.specs.declared.op.Op.TheVariants as op

-- the condition is met by two ints
abbrev pub is_met : Cond → ℤ → ℤ → Bool
is_met cond.Eq a b = int_eq a b
is_met cond.Ne a b = not (int_eq a b)
is_met cond.Lt a b = int_lt a b
is_met cond.Ge a b = not (int_lt a b)
is_met cond.Gt a b = int_lt b a
is_met cond.Le a b = not (int_lt b a)

-- the target where the condition is met, and no target where control goes on
abbrev pub taken : Bool → ℕ → Option ℕ
taken met to = if met then Some to else None

-- the case of a tableswitch for this distance from its lowest key
abbrev pub table_case : List ℕ → ℤ → Option ℕ
table_case cases (pos n) = slice_get cases n
table_case cases z = None

-- the case of a lookupswitch with this key
abbrev pub lookup_case : List Case → ℤ → Option ℕ
lookup_case cases key =
    option_map (λ (c : Case). c.to) (find (λ (c : Case). int_eq c.key key) cases)

-- where a branch or switch leads with these operands, the top first: to a target, or else to the
-- next index; no answer where it takes other operands
abbrev pub decided : Op → List ℤ → Option (Option ℕ)
decided (op.IfZero c to) (a ∷ []) = Some (taken (is_met c a (pos 0)) to)
decided (op.IfCmp c to) (b ∷ a ∷ []) = Some (taken (is_met c a b) to)
decided (op.TableSwitch low other cases) (z ∷ []) =
    Some (Some (unwrap_or (table_case cases (z -ℤ low)) other))
decided (op.LookupSwitch other cases) (z ∷ []) =
    Some (Some (unwrap_or (lookup_case cases z) other))
decided o operands = None

-- how many ints an instruction takes to choose where control goes
pub data Count : Type 0 where
  NoOperand : Count
  OneOperand : Count
  TwoOperands : Count

abbrev pub operands : Op → Count
operands (op.IfZero c to) = OneOperand
operands (op.IfCmp c to) = TwoOperands
operands (op.TableSwitch low other cases) = OneOperand
operands (op.LookupSwitch other cases) = OneOperand
operands o = NoOperand
