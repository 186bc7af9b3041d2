-- What holds of each operation of a code, whatever its targets, of each line and of its sizes holds after the six steps.
use Rattle.std.proofs.Common.{◌≡◌, ℕ, suc, Bool, true, false, cond, List, [], ◌∷◌, map, Option, refl, ◌∙◌}
use Rattle.std.specs.Prelude.{if◌then◌else◌, not}
use Rattle.std.specs.List.{AllByRecursion}
use Rattle.class_model.specs.declared.code.Code.{Code}
use Rattle.class_model.specs.declared.code.Handler.{Handler}
use Rattle.class_model.specs.declared.code.Ins.{Ins}
use Rattle.class_model.specs.declared.op.Op.{Op}
use Rattle.code_edit.specs.Applied.{applied}
use Rattle.code_edit.specs.Constants as constants
use Rattle.code_edit.specs.Jumps as jumps
use Rattle.code_edit.specs.Reach as reach
use Rattle.code_edit.specs.Rewriting.{compacted, map_from, place, retargeted, rewritten, survivors, with_op}
use Rattle.code_edit.specs.Slots as slots
use Rattle.code_edit.specs.declared.act.Act.{Act}
use Rattle.code_edit.specs.declared.act.Pass.{Pass}
use Rattle.code_edit.specs.declared.act.Pass.TheVariants.{Reach, Const, Slots, Jumps}
use Rattle.code_edit.specs.declared.act.PassEdits.{PassEdits}
use Rattle.edit_laws.specs.Holds.{IsOfNames}
use Rattle.edit_laws.proofs.Named.{edited_holds}
use Rattle.frame_rebuild.specs.Rebuilt.{rebuilt}
use Rattle.pass_driver.specs.Stepped.{is_some_act, step_after, stepped}

-- ---- operations

-- what a handler catches doesn't matter
abbrev pub AnyCaught : Option (List ℕ) → Type 0
AnyCaught caught = Unit {0}

-- a property of each operation of a code
abbrev pub Holds : (Op → Type 0) → Code → Type 0
Holds Good code = AllByRecursion (λ (i : Ins). Good i.op) code.ins

any_caught : (hs : List Handler) → AllByRecursion (λ (h : Handler). AnyCaught h.caught) hs
any_caught [] = tt
any_caught (h ∷ hs) = (tt, any_caught hs)

module _ (Good : Op → Type 0) (is : IsOfNames Good) where
  pub step_holds : (s : PassEdits) (code : Code) → Holds Good code → Holds Good (step_after s code)
  step_holds s code h = by (is_some_act s.acts)
    where
      by : (b : Bool) → Holds Good (cond b (rebuilt s.pass s.acts code) code)
      by true = (edited_holds Good is AnyCaught (s ∷ []) code
          (record { ins = h; handlers = any_caught code.handlers })).ins
      by false = h

  pub stepped_holds : (steps : List PassEdits) (code : Code) → Holds Good code → Holds Good (stepped steps code)
  stepped_holds [] code h = h
  stepped_holds (s ∷ steps) code h = stepped_holds steps (step_after s code) (step_holds s code h)

-- ---- lines

module _ (Line : Option ℕ → Type 0) where
  abbrev HasLine : Ins → Type 0
  HasLine i = Line i.line

  abbrev pub HaveLines : Code → Type 0
  HaveLines code = AllByRecursion HasLine code.ins

  lines_survive : (lives : ℕ → Bool) (k : ℕ) (ins : List Ins) → AllByRecursion HasLine ins
      → AllByRecursion HasLine (survivors lives k ins)
  lines_survive lives k [] h = tt
  lines_survive lives k (x ∷ ins) h = by (lives k) (survivors lives (suc k) ins) (lines_survive lives (suc k) ins h.1)
    where
      by : (b : Bool) (ys : List Ins) → AllByRecursion HasLine ys → AllByRecursion HasLine (if b then x ∷ ys else ys)
      by true ys rest = (h.0, rest)
      by false ys rest = rest

  lines_mapped : (f : Op → Op) (ins : List Ins) → AllByRecursion HasLine ins
      → AllByRecursion HasLine (map (with_op f) ins)
  lines_mapped f [] h = tt
  lines_mapped f (x ∷ ins) h = (h.0, lines_mapped f ins h.1)

  lines_numbered : (f : ℕ → Op → Op) (k : ℕ) (ins : List Ins) → AllByRecursion HasLine ins
      → AllByRecursion HasLine (map_from (λ at i. with_op (f at) i) k ins)
  lines_numbered f k [] h = tt
  lines_numbered f k (x ∷ ins) h = (h.0, lines_numbered f (suc k) ins h.1)

  lines_compacted : (lives : ℕ → Bool) (code : Code) → HaveLines code → HaveLines (compacted lives code)
  lines_compacted lives code h =
      lines_mapped (retargeted (λ which to. place lives to)) (survivors lives 0 code.ins) (lines_survive lives 0 code.ins h)

  lines_applied : (p : Pass) (acts : List Act) (code : Code) → HaveLines code → HaveLines (applied p acts code)
  lines_applied Reach acts code h = lines_compacted (reach.is_left acts) code h
  lines_applied Const acts code h =
      lines_compacted (λ at. not (constants.goes acts code at)) (rewritten (constants.folded acts code) code)
      (lines_numbered (constants.folded acts code) 0 code.ins h)
  lines_applied Slots acts code h =
      lines_compacted (λ at. not (slots.goes acts code at)) (rewritten (slots.slotted acts code) code)
      (lines_numbered (slots.slotted acts code) 0 code.ins h)
  lines_applied Jumps acts code h =
      lines_compacted (jumps.stays acts code) (rewritten (jumps.jumped acts) code)
      (lines_numbered (jumps.jumped acts) 0 code.ins h)

  pub stepped_lines : (steps : List PassEdits) (code : Code) → HaveLines code → HaveLines (stepped steps code)
  stepped_lines [] code h = h
  stepped_lines (s ∷ steps) code h = stepped_lines steps (step_after s code) (by (is_some_act s.acts))
    where
      by : (b : Bool) → HaveLines (cond b (rebuilt s.pass s.acts code) code)
      by true = lines_applied s.pass s.acts code h
      by false = h

-- ---- sizes

same_stack : (p : Pass) (acts : List Act) (code : Code) → (rebuilt p acts code).max_stack ≡ code.max_stack
same_stack Reach acts code = refl
same_stack Const acts code = refl
same_stack Slots acts code = refl
same_stack Jumps acts code = refl

same_locals : (p : Pass) (acts : List Act) (code : Code) → (rebuilt p acts code).max_locals ≡ code.max_locals
same_locals Reach acts code = refl
same_locals Const acts code = refl
same_locals Slots acts code = refl
same_locals Jumps acts code = refl

pub stepped_stack : (steps : List PassEdits) (code : Code) → (stepped steps code).max_stack ≡ code.max_stack
stepped_stack [] code = refl
stepped_stack (s ∷ steps) code = stepped_stack steps (step_after s code) ∙ by (is_some_act s.acts)
  where
    by : (b : Bool) → (cond b (rebuilt s.pass s.acts code) code).max_stack ≡ code.max_stack
    by true = same_stack s.pass s.acts code
    by false = refl

pub stepped_locals : (steps : List PassEdits) (code : Code) → (stepped steps code).max_locals ≡ code.max_locals
stepped_locals [] code = refl
stepped_locals (s ∷ steps) code = stepped_locals steps (step_after s code) ∙ by (is_some_act s.acts)
  where
    by : (b : Bool) → (cond b (rebuilt s.pass s.acts code) code).max_locals ≡ code.max_locals
    by true = same_locals s.pass s.acts code
    by false = refl
