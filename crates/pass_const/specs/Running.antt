-- One item more of a run (the project's own; only the code's contracts need it).
use Rattle.std.specs.Prelude.{ℕ, ◌-◌, ℤ, Bool, false, List, [], ◌∷◌, Option, Some, None}
use Rattle.std.specs.Prelude.{if◌then◌else◌}
use Rattle.std.specs.Ordering.{int_eq}
use Rattle.code_edit.specs.declared.act.Act.{Act}
use Rattle.code_edit.specs.declared.act.Act.TheVariants as act
use Rattle.code_edit.specs.ConstEdits.{Run, Shut, Open}
use Rattle.pass_const.specs.declared.runs.Running.{Running}
use Rattle.pass_const.specs.declared.runs.Running.TheVariants as running

abbrev pub run_of : Running → Run
run_of running.Shut = Shut
run_of (running.Open from value) = Open from value

-- the run goes on
abbrev pub kept : ℤ → Option ℤ → Bool
kept value (Some other) = int_eq value other
kept value None = false

-- the fact of a run that goes no further
abbrev pub closed : ℕ → ℕ → Run → Option ℤ → List Act
closed slot at Shut h = []
closed slot at (Open from value) h =
    if kept value h then [] else act.Fact from (at - 1) slot value ∷ []

-- the run after one more item
abbrev pub stepped : ℕ → Run → Option ℤ → Run
stepped at (Open from value) (Some other) =
    if int_eq value other then Open from value else Open at other
stepped at Shut (Some other) = Open at other
stepped at r None = Shut
