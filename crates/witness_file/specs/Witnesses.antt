-- Witness texts and witnesses (the project's own; docs/WITNESS.md).
use Rattle.std.specs.Prelude.{◌≡◌, ℕ, ◌+◌, Bool, true, false, ◌&&◌, List, [], ◌∷◌, ◌++◌, map, codes}
use Rattle.std.specs.Cmp.Lexicographic.{slice_cmp}
use Rattle.std.specs.List.{AllByRecursion, flat_map, list_any}
use Rattle.std.specs.Ordering.{is_lt, nat_cmp}
use Rattle.std.specs.Str.{IsUtf8}
use Rattle.std.specs.Str.Lines.{lines}
use Rattle.jv_base.specs.Names.{is_text}
use Rattle.text_lines.specs.Lines.{AreSpelled}
use Rattle.code_edit.specs.Acts.{pass_of, step_passes}
use Rattle.code_edit.specs.declared.act.Act.{Act}
use Rattle.code_edit.specs.declared.act.PassEdits.{PassEdits}
use Rattle.witness_file.specs.WitnessLines.{IsAct, IsMethodLine, SpellsLine, line_text, method_line_text}
use Rattle.witness_file.specs.declared.line.WitnessLine.{WitnessLine}
use Rattle.witness_file.specs.declared.line.WitnessLine.TheVariants as line
use Rattle.witness_file.specs.declared.witness.MethodWitness.{MethodWitness}
use Rattle.witness_file.specs.declared.witness.Witness.{Witness}

-- ---- the lines of a witness

-- a step with acts: its number, and then each act
abbrev pub step_lines : ℕ → List Act → List WitnessLine
step_lines number [] = []
step_lines number (a ∷ acts) = line.Step number ∷ map (λ x. line.Act x) (a ∷ acts)

-- the steps with acts, the first of which has this number
abbrev pub steps_lines : ℕ → List PassEdits → List WitnessLine
steps_lines number [] = []
steps_lines number (s ∷ steps) = step_lines number s.acts ++ steps_lines (number + 1) steps

-- a method's line, and then those of its steps
abbrev pub method_lines : MethodWitness → List WitnessLine
method_lines m = line.Method m.class m.name m.ty ∷ steps_lines 1 m.edits.steps

-- the version, and then the methods
abbrev pub witness_lines : Witness → List WitnessLine
witness_lines w = line.Head ∷ flat_map method_lines w.methods

-- ---- witnesses

-- each act of a step is one of its pass
abbrev pub HasActsOfPass : PassEdits → Type 0
HasActsOfPass s = AllByRecursion (λ a. IsAct a × (pass_of a ≡ s.pass)) s.acts

-- there is an act, or more holds
abbrev pub ActOr : List Act → Type 0 → Type 0
ActOr [] P = P
ActOr (a ∷ acts) P = Unit {0}

-- a step has an act
abbrev pub HasAct : List PassEdits → Type 0
HasAct [] = ⊥
HasAct (s ∷ steps) = ActOr s.acts (HasAct steps)

-- a method by its names, with the acts of six steps, of which there is one at least
pub record IsMethodWitness (m : MethodWitness) : Type 0 where
  pub named : IsMethodLine m.class m.name m.ty
  pub passes : map (λ s. s.pass) m.edits.steps ≡ step_passes
  pub acts : AllByRecursion HasActsOfPass m.edits.steps
  pub some : HasAct m.edits.steps

-- the path of a class's file comes before that of another
abbrev pub is_before : List ℕ → List ℕ → Bool
is_before class other = is_lt (slice_cmp nat_cmp (class ++ codes ".class") (other ++ codes ".class"))

-- it is this method
abbrev pub is_method : List ℕ → List ℕ → List ℕ → MethodWitness → Bool
is_method class name ty m = is_text class m.class && (is_text name m.name && is_text ty m.ty)

-- one of the methods is this one
abbrev pub has_method : List MethodWitness → List ℕ → List ℕ → List ℕ → Bool
has_method methods class name ty = list_any (is_method class name ty) methods

-- no class comes before that of the method before it
abbrev pub AreInOrder : List MethodWitness → Type 0
AreInOrder [] = Unit {0}
AreInOrder (m ∷ []) = Unit {0}
AreInOrder (m ∷ n ∷ methods) = (is_before n.class m.class ≡ false) × AreInOrder (n ∷ methods)

-- no method stands twice
abbrev pub AreApart : List MethodWitness → Type 0
AreApart [] = Unit {0}
AreApart (m ∷ methods) = (has_method methods m.class m.name m.ty ≡ false) × AreApart methods

-- the witness has a text
pub record IsWitness (w : Witness) : Type 0 where
  pub methods : AllByRecursion IsMethodWitness w.methods
  pub ordered : AreInOrder w.methods
  pub apart : AreApart w.methods

-- the lines stand for the witness
pub record StandFor (ls : List (List ℕ)) (w : Witness) : Type 0 where
  pub witness : IsWitness w
  pub spelled : AreSpelled SpellsLine ls (witness_lines w)

-- the text stands for the witness
abbrev pub Reading : List ℕ → Witness → Type 0
Reading text w = StandFor (lines text) w

-- ---- how a witness is written

-- a line with its end
abbrev pub ended_line : WitnessLine → List ℕ
ended_line l = line_text l ++ 10 ∷ []

-- the text of a witness
unfoldable pub witness_text : Witness → List ℕ
witness_text w = flat_map ended_line (witness_lines w)

-- each method has a line in UTF-8
abbrev pub AreTexts : List MethodWitness → Type 0
AreTexts methods = AllByRecursion (λ m. IsUtf8 (method_line_text m.class m.name m.ty)) methods

-- ---- the laws

-- a text stands for one witness at most
abbrev pub IsOneWitness : Type 0
IsOneWitness = (text : List ℕ) (w v : Witness) → Reading text w → Reading text v → w ≡ v
