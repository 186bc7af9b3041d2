-- What the words of a command line ask for (the project's own: how the commands are called).
use Rattle.std.specs.Prelude.{ℕ, List, [], ◌∷◌, Option, Some, None, codes, ◌==◌, if◌then◌else◌}
use Rattle.jv_base.specs.Names.{is_text}
use Rattle.path_text.specs.Path.{directory_in, file_in}
use Rattle.text_lines.specs.Numbers.{number_below}
use Rattle.clap.specs.Words.{Kinds, Row, all_of, fault_of, first_of, matches_of, one_of}
use Rattle.clap.specs.Walk.{byte_or_zero}
use Rattle.command_words.specs.CommandLine.{command_line}
use Rattle.command_words.specs.declared.command.Command.{Command}
use Rattle.command_words.specs.Entries.{is_entry}
use Rattle.command_words.specs.declared.command.Command.TheVariants.{Shrink, Check, Retrace, Gen, Why, Run, Compare}

-- two files, where both words are paths
abbrev pub both_paths : Option (List ℕ) → Option (List ℕ) → Option (List ℕ × List ℕ)
both_paths (Some first) (Some second) = Some (first, second)
both_paths _ _ = None

abbrev pub both_files : List ℕ → List ℕ → Option (List ℕ × List ℕ)
both_files first second = both_paths (file_in first) (file_in second)

-- `shrink CONFIG WITNESS`, by so many workers
abbrev pub shrink_asked : Option (List ℕ × List ℕ) → ℕ → Option Command
shrink_asked (Some files) workers = Some (Shrink files.0 files.1 workers)
shrink_asked None workers = None

-- `check CONFIG WITNESS`
abbrev pub check_asked : Option (List ℕ × List ℕ) → Option Command
check_asked (Some files) = Some (Check files.0 files.1)
check_asked None = None

-- `retrace MAPPING TRACE`
abbrev pub retrace_asked : Option (List ℕ × List ℕ) → Option Command
retrace_asked (Some files) = Some (Retrace files.0 files.1)
retrace_asked None = None

-- a number that isn't 0
abbrev pub above_0 : Option ℕ → Option ℕ
above_0 (Some n) = if n == 0 then None else Some n
above_0 None = None

-- a decimal number from 1 to 4,000
abbrev pub gen_number : List ℕ → Option ℕ
gen_number text = above_0 (number_below 4001 text)

-- `gen NUMBER DIRECTORY`
abbrev pub gen_by : Option ℕ → Option (List ℕ) → Option Command
gen_by (Some n) (Some directory) = Some (Gen n directory)
gen_by _ _ = None

abbrev pub gen_asked : List ℕ → List ℕ → Option Command
gen_asked first second = gen_by (gen_number first) (directory_in second)

-- `why CONFIG ITEM`
abbrev pub why_asked : Option (List ℕ) → List ℕ → Option Command
why_asked (Some config) item = Some (Why config item)
why_asked None item = None

-- the command of this name with its two operands and so many workers
unfoldable pub two_named : List ℕ → List ℕ → List ℕ → ℕ → Option Command
two_named name first second workers =
    if is_text name (codes "shrink") then shrink_asked (both_files first second) workers
    else if is_text name (codes "check") then check_asked (both_files first second)
    else if is_text name (codes "retrace") then retrace_asked (both_files first second)
    else if is_text name (codes "gen") then gen_asked first second
    else if is_text name (codes "why") then why_asked (file_in first) second
    else None

-- the entry that a word spells
abbrev pub entry_in : List ℕ → Option (List ℕ)
entry_in word = if is_entry word then Some word else None

-- a decimal number up to 100,000,000
abbrev pub steps_in : List ℕ → Option ℕ
steps_in word = number_below 100000001 word

-- `run DIRECTORY ENTRY STEPS WORD..`
abbrev pub run_by : Option (List ℕ) → Option (List ℕ) → Option ℕ → List (List ℕ) → Option Command
run_by (Some directory) (Some entry) (Some steps) words = Some (Run directory entry steps words)
run_by _ _ _ words = None

abbrev pub run_asked : List (List ℕ) → Option Command
run_asked (directory ∷ entry ∷ steps ∷ words) =
    run_by (directory_in directory) (entry_in entry) (steps_in steps) words
run_asked _ = None

-- `compare CONFIG ENTRY STEPS WORD..`
abbrev pub compare_by : Option (List ℕ) → Option (List ℕ) → Option ℕ → List (List ℕ) → Option Command
compare_by (Some config) (Some entry) (Some steps) words = Some (Compare config entry steps words)
compare_by _ _ _ words = None

abbrev pub compare_asked : List (List ℕ) → Option Command
compare_asked (config ∷ entry ∷ steps ∷ words) =
    compare_by (file_in config) (entry_in entry) (steps_in steps) words
compare_asked _ = None

-- a command that takes two operands, and no more
abbrev pub two_asked : List ℕ → List (List ℕ) → ℕ → Option Command
two_asked name (first ∷ second ∷ []) workers = two_named name first second workers
two_asked name _ workers = None

-- the command of this name with its operands and so many workers
unfoldable pub command_named : List ℕ → List (List ℕ) → ℕ → Option Command
command_named name operands workers =
    if is_text name (codes "run") then run_asked operands
    else if is_text name (codes "compare") then compare_asked operands
    else two_asked name operands workers

-- the number of workers that `--workers` names, as clap reads it: it takes one from 1 to 64 alone, and has 4 where none
-- is named
abbrev pub number_in : Option (List ℕ) → ℕ
number_in (Some text) = byte_or_zero text
number_in None = 0

abbrev pub workers_in : List Row → ℕ
workers_in rows = number_in (one_of (codes "workers") rows)

-- a command with its operands
abbrev pub asked_with : Option (List ℕ) → Option (List (List ℕ)) → ℕ → Option Command
asked_with (Some name) (Some operands) workers = command_named name operands workers
asked_with _ _ workers = None

-- what clap's matches say
abbrev pub said_in : List Row → Option Command
said_in rows = asked_with (first_of (codes "command") rows) (all_of (codes "operands") rows) (workers_in rows)

-- where clap has no fault to find
abbrev pub where_taken : {A : Type 0} → Kinds → Option A → Option A
where_taken [] asked = asked
where_taken (fault ∷ faults) asked = None

-- the command that words ask for: clap takes them, and their operands are those of the command
unfoldable pub commanded : List (List ℕ) → Option Command
commanded words = where_taken (fault_of command_line words) (said_in (matches_of command_line words))
