-- What becomes of a code: instructions become others at their index, some go, and places move (the
-- project's own).
use Rattle.std.specs.Prelude.{ℕ, zero, suc, List, [], ◌∷◌, map, Bool, nat_lt, if◌then◌else◌}
use Rattle.std.specs.List.{filter}
use Rattle.class_model.specs.declared.code.Code.{Code}
use Rattle.class_model.specs.declared.code.Handler.{Handler}
use Rattle.class_model.specs.declared.code.Ins.{Ins}
use Rattle.class_model.specs.declared.op.Case.{Case}
use Rattle.class_model.specs.declared.op.Op.{Op}
use Rattle.class_model.specs.declared.op.Op.TheVariants as op

-- ---- places

-- each item by its index, the first one's being i
abbrev pub map_from : {A B : Type 0} → (ℕ → A → B) → ℕ → List A → List B
map_from f i [] = []
map_from f i (x ∷ xs) = f i x ∷ map_from f (suc i) xs

-- the items whose index lives, the first one's being i
abbrev pub survivors : {A : Type 0} → (ℕ → Bool) → ℕ → List A → List A
survivors lives i [] = []
survivors lives i (x ∷ xs) =
    if lives i then x ∷ survivors lives (suc i) xs else survivors lives (suc i) xs

-- how many of the n indices from i on live
abbrev pub living : (ℕ → Bool) → ℕ → ℕ → ℕ
living lives i zero = 0
living lives i (suc n) = if lives i then suc (living lives (suc i) n) else living lives (suc i) n

-- where an index comes to stand, or the first living one behind it
abbrev pub place : (ℕ → Bool) → ℕ → ℕ
place lives at = living lives 0 at

-- ---- targets

-- each target becomes another one, by its number: 0 is the one target or the default, k the k-th
-- case
abbrev pub retargeted : (ℕ → ℕ → ℕ) → Op → Op
retargeted f (op.IfZero c to) = op.IfZero c (f 0 to)
retargeted f (op.IfCmp c to) = op.IfCmp c (f 0 to)
retargeted f (op.IfRef eq to) = op.IfRef eq (f 0 to)
retargeted f (op.IfNull null to) = op.IfNull null (f 0 to)
retargeted f (op.Goto to) = op.Goto (f 0 to)
retargeted f (op.TableSwitch low other cases) = op.TableSwitch low (f 0 other) (map_from f 1 cases)
retargeted f (op.LookupSwitch other cases) =
    op.LookupSwitch (f 0 other) (map_from (λ k (c : Case). record c { to = f k c.to }) 1 cases)
retargeted f o = o

-- ---- codes

-- an instruction with another operation; its line stays
abbrev pub with_op : (Op → Op) → Ins → Ins
with_op f i = record i { op = f i.op }

-- a handler whose places have moved
abbrev pub moved_handler : (ℕ → ℕ) → Handler → Handler
moved_handler p h = record h { from = p h.from; to = p h.to; entry = p h.entry }

-- a handler covers something
abbrev pub is_open : Handler → Bool
is_open h = nat_lt h.from h.to

-- first, in place: each instruction becomes another one, told by its index and as it was; no frame
-- stays
abbrev pub rewritten : (ℕ → Op → Op) → Code → Code
rewritten f code = record code { ins = map_from (λ at i. with_op (f at) i) 0 code.ins; frames = [] }

-- then the indices that don't live are left out: targets and handlers at one move to the next
-- living index, a handler that is empty then goes, and no frame stays
abbrev pub compacted : (ℕ → Bool) → Code → Code
compacted lives code =
    record code {
      ins = map (with_op (retargeted (λ which to. place lives to))) (survivors lives 0 code.ins);
      handlers = filter is_open (map (moved_handler (place lives)) code.handlers);
      frames = [];
    }
