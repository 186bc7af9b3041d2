-- The state of the worklist (the project's own; only the code's contracts need it).
use Rattle.std.specs.Prelude.{◌≡◌, ◌≢◌, ◌⊎◌, ◌<◌, ◌≤◌, ℕ, ◌+◌, ℤ, IsTrue, List, length}
use Rattle.std.specs.Prelude.{map, slice_index_or}
use Rattle.std.specs.List.{All, Contains, sum_by}
use Rattle.class_model.specs.declared.code.Code.{Code}
use Rattle.class_model.specs.declared.code.Handler.{Handler}
use Rattle.class_model.specs.declared.code.Ins.{Ins}
use Rattle.class_model.specs.declared.op.Case.{Case}
use Rattle.code_edit.specs.Facts.{Facts, IsSupported, change_at}
use Rattle.code_edit.specs.Flow.{successors, targets}
use Rattle.const_facts.specs.declared.held.Held.{Held}
use Rattle.const_facts.specs.declared.held.Held.TheVariants.{Unreached, Always, Varies}
use Rattle.const_facts.specs.declared.work.Work.{Work}
use Rattle.const_facts.specs.Order.{AtMost, rank, through}

-- there is an instruction, few enough of them, and targets and handlers are at instructions
pub record IsWhole (code : Code) : Type 0 where
  pub some : 0 < length code.ins
  pub few : length code.ins < 4294967295
  pub targets : All (λ (i : Ins). All (λ t. t < length code.ins) (targets i.op)) code.ins
  pub handlers : All (λ (h : Handler). h.entry < length code.ins) code.handlers

-- where the cases of a lookupswitch lead
abbrev pub case_targets : List Case → List ℕ
case_targets cases = map (λ (c : Case). c.to) cases

-- what is known before an instruction
abbrev pub held_at : Work → ℕ → Held
held_at work i = slice_index_or work.held.items i Unreached

-- the instruction is still to be looked at
abbrev pub Waits : Work → ℕ → Type 0
Waits work i = Contains work.waiting.items i

-- how often something may still fall or be looked at
abbrev pub left : Work → ℕ
left work = sum_by rank work.held.items + length work.waiting.items

-- a way on which `out` is known leads there, and that counts
abbrev pub Flows : Work → Held → ℕ → Type 0
Flows work out to = AtMost out (held_at work to)

-- no supported set says anything else there
abbrev pub Due : Code → ℕ → Held → ℕ → Type 0
Due code slot out to = (facts : Facts) → IsSupported code slot facts → (c : ℤ)
    → IsTrue (facts to c) → AtMost out (Always c)

-- nothing that a supported set says was ruled out, and of what waits something is known
pub record IsAbove (code : Code) (slot : ℕ) (work : Work) : Type 0 where
  pub count : length work.held.items ≡ length code.ins
  pub below : All (λ i. i < length code.ins) work.waiting.items
  pub known : All (λ i. held_at work i ≢ Unreached) work.waiting.items
  pub due : (i : ℕ) → Due code slot (held_at work i) i

-- what is known falls, and where it falls the instruction waits
pub record Grows (old new : Work) : Type 0 where
  pub falls : (i : ℕ) → AtMost (held_at old i) (held_at new i)
  pub waits : (i : ℕ) → Waits old i → Waits new i
  pub fresh : (i : ℕ) → (held_at new i ≡ held_at old i) ⊎ Waits new i
  pub left : left new ≤ left old

-- what is known at an instruction is known at all that may come next
abbrev pub IsDone : Code → ℕ → Work → ℕ → Type 0
IsDone code slot work i =
    All (Flows work (through (change_at code slot i) (held_at work i))) (successors code i)

-- between two looks: an instruction wasn't reached, waits, or is done
pub record IsOpen (code : Code) (slot : ℕ) (work : Work) : Type 0 where
  pub above : IsAbove code slot work
  pub first : held_at work 0 ≡ Varies
  pub handlers : All (λ (h : Handler). held_at work h.entry ≡ Varies) code.handlers
  pub done : (i : ℕ)
      → (held_at work i ≡ Unreached) ⊎ (Waits work i ⊎ IsDone code slot work i)
