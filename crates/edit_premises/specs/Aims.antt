-- Targets that are related one by one, over all families of instructions (the project's own).
use Rattle.std.specs.Prelude.{◌≡◌, ℕ, List, Option, Some, None}
use Rattle.std.specs.List.{AllZip}
use Rattle.class_model.specs.declared.op.Case.{Case}
use Rattle.class_model.specs.declared.op.Op.{Op}
use Rattle.class_model.specs.declared.op.Op.TheVariants as op
use Rattle.jvm_model.specs.Instructions.{Sort, OnStack, Loads, Stores, Incs, Jumps, Asks, Leaves}
use Rattle.jvm_model.specs.Instructions.{Throws}
use Rattle.jvm_model.specs.Stack.{Reader}
use Rattle.jvm_model.specs.Value.{Value}

-- Targets are related by T; where control may go on to the next instruction, N holds.
module _ (T : ℕ → ℕ → Type 0) (N : Type 0) where
  -- two cases of a lookupswitch
  abbrev pub CaseAims : Case → Case → Type 0
  CaseAims c d = (d ≡ record c { to = d.to }) × T c.to d.to

  -- two operations are alike but for their targets
  abbrev pub OpAims : Op → Op → Type 0
  OpAims (op.IfZero c t) o = (u : ℕ) × (o ≡ op.IfZero c u) × T t u × N
  OpAims (op.IfCmp c t) o = (u : ℕ) × (o ≡ op.IfCmp c u) × T t u × N
  OpAims (op.IfRef eq t) o = (u : ℕ) × (o ≡ op.IfRef eq u) × T t u × N
  OpAims (op.IfNull null t) o = (u : ℕ) × (o ≡ op.IfNull null u) × T t u × N
  OpAims (op.Goto t) o = (u : ℕ) × (o ≡ op.Goto u) × T t u
  OpAims (op.TableSwitch low t ts) o =
      (u : ℕ) × (us : List ℕ) × (o ≡ op.TableSwitch low u us) × T t u × AllZip T ts us
  OpAims (op.LookupSwitch t cs) o =
      (u : ℕ) × (ds : List Case) × (o ≡ op.LookupSwitch u ds) × T t u × AllZip CaseAims cs ds
  OpAims (op.Return kind) o = o ≡ op.Return kind
  OpAims op.Throw o = o ≡ op.Throw
  OpAims o o' = (o' ≡ o) × N

  -- a target, or the next instruction
  abbrev pub PlaceAims : Option ℕ → Option ℕ → Type 0
  PlaceAims None b = (b ≡ None) × N
  PlaceAims (Some t) b = (u : ℕ) × (b ≡ Some u) × T t u

  -- what two readers of targets give from one stack
  abbrev pub ReadAims : Option (Option ℕ × List Value) → Option (Option ℕ × List Value) → Type 0
  ReadAims None b = Unit {0}
  ReadAims (Some p) b = (to : Option ℕ) × (b ≡ Some (to, p.1)) × PlaceAims p.0 to

  -- the same of the sorts of instructions
  abbrev pub SortAims : Sort → Sort → Type 0
  SortAims (OnStack g) s = (s ≡ OnStack g) × N
  SortAims (Loads k x) s = (s ≡ Loads k x) × N
  SortAims (Stores k x) s = (s ≡ Stores k x) × N
  SortAims (Incs x z) s = (s ≡ Incs x z) × N
  SortAims (Jumps g) s =
      (h : Reader (Option ℕ)) × (s ≡ Jumps h) × ((st : List Value) → ReadAims (g st) (h st))
  SortAims (Asks g) s = (s ≡ Asks g) × N
  SortAims (Leaves g) s = s ≡ Leaves g
  SortAims Throws s = s ≡ Throws
