-- What words ask for that name a batch (the project's own: how the commands are called).
use Rattle.std.specs.Prelude.{ℕ, List, [], ◌∷◌, Option, Some, None, codes, if◌then◌else◌}
use Rattle.jv_base.specs.Names.{is_text}
use Rattle.path_text.specs.Path.{file_in}
use Rattle.clap.specs.Words.{Row, all_of, fault_of, first_of, matches_of}
use Rattle.command_words.specs.CommandLine.{command_line}
use Rattle.command_words.specs.Words.{where_taken, workers_in}
use Rattle.command_words.specs.declared.batch.Batch.{Batch}

-- a batch of a list, by so many workers
abbrev pub batch_of : Option (List ℕ) → ℕ → Option Batch
batch_of (Some list) workers = Some (record { list = list; workers = workers })
batch_of None workers = None

-- the one operand is the path of the list
abbrev pub batch_asked : List (List ℕ) → ℕ → Option Batch
batch_asked (list ∷ []) workers = batch_of (file_in list) workers
batch_asked _ workers = None

unfoldable pub batch_named : List ℕ → List (List ℕ) → ℕ → Option Batch
batch_named name operands workers =
    if is_text name (codes "batch") then batch_asked operands workers else None

-- a name with its operands
abbrev pub batch_with : Option (List ℕ) → Option (List (List ℕ)) → ℕ → Option Batch
batch_with (Some name) (Some operands) workers = batch_named name operands workers
batch_with _ _ workers = None

-- what clap's matches say
abbrev pub batch_in : List Row → Option Batch
batch_in rows = batch_with (first_of (codes "command") rows) (all_of (codes "operands") rows) (workers_in rows)

-- the batch that words ask for: clap takes them, and they are `batch` with the path of a list
unfoldable pub batch_commanded : List (List ℕ) → Option Batch
batch_commanded words = where_taken (fault_of command_line words) (batch_in (matches_of command_line words))
