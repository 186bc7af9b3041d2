-- A queue of jobs (the project's own: first put first taken; a closed queue takes no job, and gives those that wait).
use Rattle.std.specs.Prelude.{◌≡◌, ℕ, ◌+◌, ◌%◌, ◌^◌, ◌&&◌, ◌==◌, Bool, true, false, not, List, [], ◌∷◌, ◌++◌, length}
use Rattle.std.specs.Prelude.{Result, Ok, Err, Option, Some, None}
use Rattle.job_queue.specs.declared.state.PutBack.{PutBack}
use Rattle.job_queue.specs.declared.state.PutBack.TheVariants.{Closed, OutOfMemory}

-- the jobs that wait, whether the queue is closed, and how many jobs were put and taken so far, modulo 2^64
pub record Queue (J : Type 0) : Type 0 where
  pub waiting : List J
  pub closed : Bool
  pub puts : ℕ
  pub takes : ℕ

-- what was put was taken or waits
abbrev pub IsCounted : {J : Type 0} → List J → ℕ → ℕ → Type 0
IsCounted waiting puts takes = puts ≡ (takes + length waiting) % (2 ^ 64)

-- one more, modulo 2^64
abbrev pub next : ℕ → ℕ
next count = (count + 1) % (2 ^ 64)

-- before the first call
abbrev pub opened : {J : Type 0} → Queue J
opened = record { waiting = []; closed = false; puts = 0; takes = 0 }

-- behind a put of this job
abbrev pub with_job : {J : Type 0} → Queue J → J → Queue J
with_job q job = record { waiting = q.waiting ++ job ∷ []; closed = q.closed; puts = next q.puts; takes = q.takes }

-- the put is refused exactly where the queue is closed, and otherwise at most for want of memory; then nothing changes,
-- and the job comes back
abbrev pub Puts : {J : Type 0} → Queue J → J → Result (Unit {0}) (PutBack J) → Queue J → Type 0
Puts old job (Ok _) new = (old.closed ≡ false) × (new ≡ with_job old job)
Puts old job (Err (Closed back)) new = (old.closed ≡ true) × (back ≡ job) × (new ≡ old)
Puts old job (Err (OutOfMemory back)) new = (old.closed ≡ false) × (back ≡ job) × (new ≡ old)

-- the job that comes back
abbrev pub job_in : {J : Type 0} → PutBack J → J
job_in (Closed job) = job
job_in (OutOfMemory job) = job

-- behind a take, of which these jobs wait
abbrev pub without_first : {J : Type 0} → Queue J → List J → Queue J
without_first q rest = record { waiting = rest; closed = q.closed; puts = q.puts; takes = next q.takes }

-- the first of the jobs that wait, and what is left
abbrev pub taken_of : {J : Type 0} → Queue J → List J → Option J × Queue J
taken_of q [] = (None, q)
taken_of q (job ∷ rest) = (Some job, without_first q rest)

-- what a take answers, and the queue behind it
abbrev pub taken : {J : Type 0} → Queue J → Option J × Queue J
taken q = taken_of q q.waiting

-- behind a close
abbrev pub closed : {J : Type 0} → Queue J → Queue J
closed q = record { waiting = q.waiting; closed = true; puts = q.puts; takes = q.takes }

-- no job waits, and one may still be put
abbrev pub is_idle : {J : Type 0} → Queue J → Bool
is_idle q = (length q.waiting == 0) && not q.closed
