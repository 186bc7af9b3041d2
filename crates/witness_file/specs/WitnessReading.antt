-- The witness that a text stands for, read line by line, or the first line at fault (the project's own;
-- docs/WITNESS.md).
use Rattle.std.specs.Prelude.{◌≡◌, ◌⊎◌, ℕ, ◌+◌, ◌-◌, Bool, true, false, not, ◌||◌, ◌==◌, nat_le, List, [], ◌++◌, ◌∷◌}
use Rattle.std.specs.Prelude.{length, map, take, drop}
use Rattle.std.specs.Prelude.{slice_get, Option, Some, None, Result, Ok, Err, if◌then◌else◌}
use Rattle.std.specs.Option.{option_map, option_to_list}
use Rattle.std.specs.Str.Lines.{lines}
use Rattle.jv_base.specs.Outcome.{◌>>=◌}
use Rattle.text_lines.specs.Faults.{EndsTooSoon, IsFirstAtFault}
use Rattle.text_lines.specs.Lines.{at_line, line_step, read_lines}
use Rattle.code_edit.specs.Acts.{is_pass, pass_of, step_passes}
use Rattle.code_edit.specs.declared.act.Act.{Act}
use Rattle.code_edit.specs.declared.act.Pass.{Pass}
use Rattle.code_edit.specs.declared.act.PassEdits.{PassEdits}
use Rattle.witness_file.specs.LineReading.{line_said}
use Rattle.witness_file.specs.Witnesses.{StandFor, has_method, is_before}
use Rattle.witness_file.specs.declared.line.WitnessLine.{WitnessLine}
use Rattle.witness_file.specs.declared.line.WitnessLine.TheVariants as line
use Rattle.witness_file.specs.declared.steps.MethodRead.{MethodRead}
use Rattle.witness_file.specs.declared.reading.WitnessRead.{WitnessRead}
use Rattle.witness_file.specs.declared.witness.MethodWitness.{MethodWitness}
use Rattle.witness_file.specs.declared.witness.WitFault.{WitFault}
use Rattle.witness_file.specs.declared.witness.WitKind.{WitKind}
use Rattle.witness_file.specs.declared.witness.WitKind.TheVariants.{NotUtf8, BadLine, BadOrder}
use Rattle.witness_file.specs.declared.witness.Witness.{Witness}

-- ---- steps

-- a step without acts
abbrev pub empty_step : Pass → PassEdits
empty_step pass = record { pass = pass; acts = [] }

-- the steps up to a number, those that weren't read without acts
abbrev pub padded : ℕ → List PassEdits → List PassEdits
padded count steps = steps ++ map empty_step (drop (length steps) (take count step_passes))

-- the steps of a method that were read, with the one that is read
abbrev pub all_steps : MethodRead → List PassEdits
all_steps m = m.steps ++ option_to_list m.step

-- the method with all of its steps
abbrev pub closed : MethodRead → MethodWitness
closed m = record { class = m.class; name = m.name; ty = m.ty; edits = record { steps = padded 6 (all_steps m) } }

-- a step is begun and has no act yet
abbrev pub awaits_act : Option PassEdits → Bool
awaits_act None = false
awaits_act (Some s) = length s.acts == 0

-- no step is begun, or the one that is has no act yet
abbrev pub awaits_step : Option PassEdits → Bool
awaits_step None = true
awaits_step (Some s) = length s.acts == 0

-- a method is begun and has no step yet, or no act in its last one
abbrev pub awaits_more : Option MethodRead → Bool
awaits_more None = false
awaits_more (Some m) = awaits_step m.step

-- ---- lines

-- the methods that were read
abbrev pub all_methods : WitnessRead → List MethodWitness
all_methods r = r.before ++ map closed (option_to_list r.last)

-- the class comes before that of the last method
abbrev pub is_too_early : Option MethodRead → List ℕ → Bool
is_too_early None class = false
is_too_early (Some m) class = is_before class m.class

-- a method without steps yet
abbrev pub method_begun : List ℕ → List ℕ → List ℕ → MethodRead
method_begun class name ty = record { class = class; name = name; ty = ty; steps = []; step = None }

-- what was read, with a method's line
abbrev pub with_method : List ℕ → List ℕ → List ℕ → WitnessRead → Result WitnessRead WitKind
with_method class name ty r =
    if awaits_more r.last then Err BadLine
    else if has_method (all_methods r) class name ty || is_too_early r.last class then Err BadOrder
    else Ok (record r { before = all_methods r; last = Some (method_begun class name ty) })

-- the step of a number begun; each has a greater number than the one before, which has an act
abbrev pub step_begun : ℕ → MethodRead → Result MethodRead WitKind
step_begun number m =
    if awaits_act m.step then Err BadLine
    else if nat_le number (length (all_steps m)) then Err BadOrder
    else Ok (record m {
      steps = padded (number - 1) (all_steps m);
      step = option_map empty_step (slice_get step_passes (number - 1));
    })

-- a step as one that may be there
abbrev pub some_step : Result PassEdits WitKind → Result (Option PassEdits) WitKind
some_step result = result >>= (λ s. Ok (Some s))

-- a step with one more act, which must be one of its pass
abbrev pub act_added : Act → Option PassEdits → Result PassEdits WitKind
act_added a None = Err BadLine
act_added a (Some s) = if is_pass (pass_of a) s.pass then Ok (record s { acts = s.acts ++ a ∷ [] }) else Err BadLine

-- the last method changed; there must be one
abbrev pub in_last : Option MethodRead → (MethodRead → Result MethodRead WitKind) → Result (Option MethodRead) WitKind
in_last None change = Err BadLine
in_last (Some m) change = change m >>= (λ n. Ok (Some n))

-- what was read, with what a line says behind the first one
abbrev pub added_behind : WitnessLine → WitnessRead → Result WitnessRead WitKind
added_behind line.Head r = Err BadLine
added_behind (line.Method class name ty) r = with_method class name ty r
added_behind (line.Step number) r = in_last r.last (step_begun number) >>= (λ m. Ok (record r { last = m }))
added_behind (line.Act a) r =
    in_last r.last (λ m. act_added a m.step >>= (λ s. Ok (record m { step = Some s })))
    >>= (λ m. Ok (record r { last = m }))

-- the first line tells the version
abbrev pub added_first : WitnessLine → WitnessRead → Result WitnessRead WitKind
added_first line.Head r = Ok (record r { begun = true })
added_first l r = Err BadLine

-- what was read, with what a line says
abbrev pub with_line : WitnessLine → WitnessRead → Result WitnessRead WitKind
with_line l r = if r.begun then added_behind l r else added_first l r

-- a kind of fault at a line
abbrev pub fault : ℕ → WitKind → WitFault
fault n kind = record { line = n; kind = kind }

-- what the line of this number makes of what was read before it
abbrev pub step : ℕ → List ℕ → WitnessRead → Result WitnessRead WitFault
step = line_step fault NotUtf8 BadLine line_said with_line

-- nothing was read yet
abbrev pub nothing : WitnessRead
nothing = record { begun = false; before = []; last = None }

-- the witness, where the text may end here
abbrev pub witness_at_end : WitnessRead → Result Witness WitKind
witness_at_end r = if not r.begun || awaits_more r.last then Err BadLine else Ok (record { methods = all_methods r })

-- the witness that the text stands for, or the first line at fault and the kind; where the text ends too soon it is the
-- line behind its last
unfoldable pub read_witness : List ℕ → Result Witness WitFault
read_witness text = read_lines step 1 (lines text) nothing >>=
    (λ r. at_line fault (length (lines text) + 1) (witness_at_end r))

-- ---- the law

-- the line that is told is the first at fault, or the text ends before it and too soon
abbrev pub IsFirstFault : Type 0
IsFirstFault = (text : List ℕ) (f : WitFault) → read_witness text ≡ Err f
    → IsFirstAtFault StandFor (lines text) f.line ⊎ EndsTooSoon StandFor (lines text) f.line
