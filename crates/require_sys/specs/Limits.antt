-- The limits of the numbers that are counted of a system.
use Rattle.std.specs.Prelude.{ℕ, nat_lt, List, length, Result, Ok, Err, codes, if◌then◌else◌}
use Rattle.std.specs.List.{sum_by}
use Rattle.mark_core.specs.declared.system.System.{System}
use Rattle.require_sys.specs.declared.limits.Counted.{Counted}
use Rattle.require_sys.specs.declared.limits.Counted.TheVariants.{Items, Needs, Pairs}
use Rattle.require_sys.specs.declared.limits.TooMany.{TooMany}

-- the name of what is counted (the project's own: what the command says)
abbrev pub counted_name : Counted → List ℕ
counted_name Items = codes "items"
counted_name Needs = codes "needs"
counted_name Pairs = codes "pairs"

-- how many there may be (the project's own)
abbrev pub counted_limit : Counted → ℕ
counted_limit Items = 1048576
counted_limit Needs = 16777216
counted_limit Pairs = 16777216

-- how many needs all items have together (the project's own)
abbrev pub need_count : System → ℕ
need_count sys = sum_by length sys.needs

-- a count that passes its limit, or what comes behind (the project's own)
abbrev pub within_limit : {X : Type 0} → Counted → ℕ → Result X TooMany → Result X TooMany
within_limit what count behind =
    if nat_lt (counted_limit what) count then Err (record { what = what; count = count }) else behind

-- a system, unless it has too many needs or pairs (the project's own)
abbrev pub limited_lists : System → Result System TooMany
limited_lists sys = within_limit Needs (need_count sys) (within_limit Pairs (length sys.pairs) (Ok sys))

-- a system, unless it has too many items, needs or pairs: then the first of these counts that passes its limit
-- (the project's own)
abbrev pub limited : System → Result System TooMany
limited sys = within_limit Items sys.n (limited_lists sys)
