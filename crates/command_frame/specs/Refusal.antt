-- Why a command is refused, and what it says then: the statuses, the words and the limits of all commands (the
-- project's own: what a command says).
use Rattle.std.specs.Prelude.{ℕ, List, [], ◌∷◌, ◌++◌, Bool, true, false, codes, if◌then◌else◌}
use Rattle.std.specs.Fmt.{decimal}
use Rattle.command_frame.specs.declared.refusal.Quantity.{Quantity}
use Rattle.command_frame.specs.declared.refusal.Quantity.TheVariants as quantity
use Rattle.command_frame.specs.declared.refusal.Reason.{Reason}
use Rattle.command_frame.specs.declared.refusal.Reason.TheVariants as reason
use Rattle.command_frame.specs.declared.refusal.Refusal.{Refusal}
use Rattle.command_frame.specs.declared.stop.Stop.{Stop}
use Rattle.command_frame.specs.declared.stop.Stop.TheVariants.{Refused, Device, OutOfMemory}

-- ---- reasons

-- the status of each
abbrev pub reason_status : Reason → ℕ
reason_status reason.Absent = 2
reason_status reason.Rules = 3
reason_status reason.Format = 4
reason_status reason.Profile = 5
reason_status reason.Limit = 6
reason_status reason.NotEmpty = 8
reason_status reason.No = 9
reason_status reason.Text = 11
reason_status reason.Entry = 12
reason_status reason.Differs = 13
reason_status reason.Item = 14
reason_status reason.Overlap = 15

-- the word for each
abbrev pub reason_word : Reason → List ℕ
reason_word reason.Absent = codes "absent"
reason_word reason.Rules = codes "rules"
reason_word reason.Format = codes "format"
reason_word reason.Profile = codes "profile"
reason_word reason.Limit = codes "limit"
reason_word reason.NotEmpty = codes "not-empty"
reason_word reason.No = codes "no"
reason_word reason.Text = codes "text"
reason_word reason.Entry = codes "entry"
reason_word reason.Differs = codes "differs"
reason_word reason.Item = codes "item"
reason_word reason.Overlap = codes "overlap"

-- the line tells more behind the word: what it is that is refused, but for an output that differs
abbrev pub tells_more : Reason → Bool
tells_more reason.Differs = false
tells_more _ = true

-- ---- refusals

-- the end of a line behind its word
abbrev pub line_end : Bool → List ℕ → List ℕ
line_end tells_more told = if tells_more then codes " " ++ (told ++ codes "\n") else codes "\n"

-- the line of a refusal: its status, its word, and what is told behind them
abbrev pub refusal_line : Refusal → List ℕ
refusal_line refusal =
    codes "error " ++ (decimal (reason_status refusal.reason) ++ (codes " " ++ (reason_word refusal.reason
    ++ line_end (tells_more refusal.reason) refusal.told)))

-- no file stands at a path
abbrev pub absent : List ℕ → Refusal
absent path = record { reason = reason.Absent; told = path }

-- a line of a text is outside its grammar, and why
abbrev pub text_refused : ℕ → List ℕ → Refusal
text_refused line kind = record { reason = reason.Text; told = decimal line ++ (codes " " ++ kind) }

-- a quantity of this name passes its limit
abbrev pub limit_refused : List ℕ → ℕ → Refusal
limit_refused name limit = record { reason = reason.Limit; told = name ++ (codes " " ++ decimal limit) }

-- the path at which a refusal says that there is no file
abbrev pub absent_for : Reason → List ℕ → List (List ℕ)
absent_for reason.Absent told = told ∷ []
absent_for _ told = []

abbrev pub absent_by : Refusal → List (List ℕ)
absent_by refusal = absent_for refusal.reason refusal.told

-- ---- stops

-- the status of a stop
abbrev pub status_of : Stop → ℕ
status_of (Refused refusal) = reason_status refusal.reason
status_of Device = 7
status_of OutOfMemory = 10

-- the line of a stop
abbrev pub stop_line : Stop → List ℕ
stop_line (Refused refusal) = refusal_line refusal
stop_line Device = codes "error 7 device\n"
stop_line OutOfMemory = codes "error 10 memory\n"

-- ---- quantities

-- the word for a quantity
abbrev pub quantity_name : Quantity → List ℕ
quantity_name quantity.Config = codes "config"
quantity_name quantity.Mapping = codes "mapping"
quantity_name quantity.Witness = codes "witness"
quantity_name quantity.Trace = codes "trace"
quantity_name quantity.Text = codes "text"
quantity_name quantity.Files = codes "files"
quantity_name quantity.Classes = codes "classes"
quantity_name quantity.Input = codes "input"
quantity_name quantity.Jobs = codes "jobs"
quantity_name quantity.Batch = codes "batch"

-- the greatest number that each may be: files, class files, jobs, and bytes
abbrev pub quantity_limit : Quantity → ℕ
quantity_limit quantity.Files = 65536
quantity_limit quantity.Classes = 20000
quantity_limit quantity.Jobs = 64
quantity_limit _ = 67108864

-- it passes that
abbrev pub passed : Quantity → Refusal
passed q = limit_refused (quantity_name q) (quantity_limit q)
