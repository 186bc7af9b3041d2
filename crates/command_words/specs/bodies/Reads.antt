-- What the code knows of clap's answer (only the proof of `read_command` needs it).
use Rattle.std.specs.Prelude.{◌≡◌, ◌≢◌, ℕ, List, [], Option, Some, None}
use Rattle.clap.specs.Words.{fault_of, found_of, matches_of, rows_of}
use Rattle.clap.specs.declared.parser.matches.ArgMatches.{ArgMatches}
use Rattle.command_words.specs.CommandLine.{command_line}

-- clap takes the words and has these matches, or it doesn't take them
abbrev pub ReadsWords : List (List ℕ) → Option ArgMatches → Type 0
ReadsWords words (Some m) = (fault_of command_line words ≡ []) × (rows_of (found_of m) ≡ matches_of command_line words)
ReadsWords words None = fault_of command_line words ≢ []
