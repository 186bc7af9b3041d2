-- What a run has done that was given words (the project's own: the command's answers are no part of a standard).
use Rattle.std.specs.Prelude.{◌≡◌, ◌⊎◌, ℕ, List, [], Bool, true, false, nat_le, Option, Some, Result, Ok, Err}
use Rattle.std.specs.Prelude.{codes}
use Rattle.tree_io.specs.Files.{Files}
use Rattle.command_frame.specs.Answer.{Ended}
use Rattle.command_frame.specs.Output.{Outside, SaysLine}
use Rattle.command_frame.specs.declared.command.Plan.{Plan}
use Rattle.command_frame.specs.declared.refusal.Refusal.{Refusal}
use Rattle.command_words.specs.declared.command.Command.{Command}
use Rattle.command_words.specs.declared.command.Command.TheVariants.{Shrink, Check, Retrace, Gen, Why, Run}
use Rattle.command_words.specs.declared.command.Command.TheVariants.{Compare}
use Rattle.compare_command.specs.Due as comparing
use Rattle.compare_command.specs.Due.{same_plan}
use Rattle.gen_command.specs.Due as gen
use Rattle.gen_command.specs.Due.{plan_for}
use Rattle.gen_command.specs.declared.command.GenFiles.{GenFiles}
use Rattle.retrace_command.specs.Due as retrace
use Rattle.run_command.specs.Due as running
use Rattle.shrink_command.specs.Due.{IsDue}
use Rattle.shrink_command.specs.OwnPair.{IsOwnPair}
use Rattle.shrink_command.specs.declared.command.ShrinkFiles.{ShrinkFiles}
use Rattle.why_command.specs.Due as why
use Rattle.shrink_core.specs.Checked.{Checked}

-- the most pairs of classes that `gen` makes
abbrev pub most_pairs : ℕ
most_pairs = 4000

-- words ask for a command that can be run
abbrev pub is_there : Option Command → Bool
is_there (Some (Shrink config witness workers)) = true
is_there (Some (Check config witness)) = true
is_there (Some (Retrace mapping trace)) = true
is_there (Some (Gen number directory)) = nat_le number most_pairs
is_there (Some (Why config item)) = true
is_there (Some (Run directory entry steps words)) = true
is_there (Some (Compare config entry steps words)) = true
is_there _ = false

-- a line was said at once, with its status, and the tree wasn't asked
pub record SaysAtOnce (due : ℕ) (line : List ℕ) (status : ℕ) (before after : Outside) : Type 0 where
  pub asked : after.calls ≡ before.calls
  pub left : after.files ≡ before.files
  pub said : SaysLine due line status before.out after.out

-- any plan may be done
abbrev pub IsAny : Plan → Type 0
IsAny plan = Unit {0}

-- no file is written, whatever the tree answers
abbrev pub IsText : Plan → Type 0
IsText plan = plan.files ≡ []

-- what is due of `shrink`; and what is to be written is a pair with what was read
abbrev pub PairIsDue : ShrinkFiles → Files → Result Plan Refusal → Type 0
PairIsDue named files (Ok plan) = IsDue named files (Ok plan) × IsOwnPair files named plan
PairIsDue named files (Err refusal) = IsDue named files (Err refusal)

-- `same` is said, or nothing, whatever the tree answers
abbrev pub IsSame : Plan → Type 0
IsSame plan = plan ≡ same_plan

-- the one plan of `gen`
abbrev pub IsGenerated : GenFiles → Plan → Type 0
IsGenerated named plan = plan ≡ plan_for named

-- what was done for `gen`, whose number isn't above the most
abbrev pub Generates : Bool → GenFiles → ℕ → Outside → Outside → Type 0
Generates true named status before after = Ended (IsGenerated named) (gen.IsDue named) status before after
Generates false named status before after = SaysAtOnce 1 (codes "error 1 words\n") status before after

-- what was done for the command that words ask for, whatever the number of workers; other words are refused
abbrev pub Does : Option Command → ℕ → Outside → Outside → Type 0
Does (Some (Shrink config witness workers)) status before after =
    Ended IsAny (PairIsDue (record { config = config; witness = witness })) status before after
Does (Some (Check config witness)) status before after =
    Checked (record { config = config; witness = witness }) status before after
Does (Some (Retrace mapping trace)) status before after =
    Ended IsText (retrace.IsDue (record { mapping = mapping; trace = trace })) status before after
Does (Some (Gen number directory)) status before after =
    Generates (nat_le number most_pairs) (record { number = number; directory = directory }) status before after
Does (Some (Why config item)) status before after =
    Ended IsText (why.IsDue (record { config = config; item = item })) status before after
Does (Some (Run directory entry steps words)) status before after =
    Ended IsText (running.IsDue (record { directory = directory; entry = entry; steps = steps; words = words })) status
    before after
Does (Some (Compare config entry steps words)) status before after =
    Ended IsSame (comparing.IsDue (record { config = config; entry = entry; steps = steps; words = words })) status
    before after
Does _ status before after = SaysAtOnce 1 (codes "error 1 words\n") status before after

-- a run that was given words which ask for this command did it, or memory was wanting for the words
abbrev pub Ran : Option Command → ℕ → Outside → Outside → Type 0
Ran command status before after = Does command status before after
    ⊎ SaysAtOnce 10 (codes "error 10 memory\n") status before after
