-- Jobs that would get in one another's way (the project's own: what one writes, no other reads or writes).
use Rattle.std.specs.Prelude.{ℕ, Bool, ◌||◌, List, [], ◌∷◌, ◌++◌, Option, Some, None, if◌then◌else◌}
use Rattle.std.specs.List.{list_any}
use Rattle.jv_base.specs.Names.{is_text}
use Rattle.path_text.specs.Path.{is_below}
use Rattle.batch_list.specs.declared.overlap.JobPaths.{JobPaths}

-- two paths are one, or one of them lies below the other
unfoldable pub meets : List ℕ → List ℕ → Bool
meets path other = is_text path other || is_below path other || is_below other path

abbrev pub meets_any : List ℕ → List (List ℕ) → Bool
meets_any path others = list_any (meets path) others

-- a path that one job writes meets one that the other reads or writes
unfoldable pub writes_into : JobPaths → JobPaths → Bool
writes_into job other = list_any (λ path. meets_any path other.writes || meets_any path other.reads) job.writes

-- one of two jobs writes into the other
unfoldable pub overlap : JobPaths → JobPaths → Bool
overlap job other = writes_into job other || writes_into other job

abbrev pub overlap_any : JobPaths → List JobPaths → Bool
overlap_any job others = list_any (overlap job) others

-- the job writes into the list, or overlaps with one of these
abbrev pub overlaps_any : List ℕ → List JobPaths → JobPaths → Bool
overlaps_any list others job = meets_any list job.writes || overlap_any job others

-- the line of the first of the jobs that writes into the list, or overlaps with a job before it
abbrev pub first_behind : List ℕ → List JobPaths → List JobPaths → Option ℕ
first_behind list before [] = None
first_behind list before (job ∷ jobs) =
    if overlaps_any list before job then Some job.line else first_behind list (before ++ job ∷ []) jobs

abbrev pub first_overlap : List ℕ → List JobPaths → Option ℕ
first_overlap list jobs = first_behind list [] jobs
