-- Which indices are left by acts that drop ranges, told as it is computed: each index has the end
-- of the furthest range that begins there, and a sweep carries the furthest end along (the
-- project's own; only the code's contracts need it).
use Rattle.std.specs.Prelude.{ℕ, suc, ◌+◌, List, [], ◌∷◌, Bool, length, max, nat_le, nat_lt}
use Rattle.std.specs.Prelude.{replicate, slice_index_or, slice_set, if◌then◌else◌}
use Rattle.code_edit.specs.declared.act.Act.{Act}
use Rattle.code_edit.specs.declared.act.Act.TheVariants as act

-- the ends after one more act
abbrev pub further : Act → List ℕ → List ℕ
further (act.Drop from to) ends =
    if nat_lt from (length ends)
    then slice_set ends from (max (slice_index_or ends from 0) (to + 1)) else ends
further a ends = ends

abbrev pub furthest : List Act → List ℕ → List ℕ
furthest [] ends = ends
furthest (a ∷ acts) ends = furthest acts (further a ends)

-- each index from one on is left where no end that was met lies behind it
abbrev pub swept : ℕ → ℕ → List ℕ → List Bool
swept end at [] = []
swept end at (e ∷ ends) = nat_le (max end e) at ∷ swept (max end e) (suc at) ends

abbrev pub swept_of : List Act → ℕ → List Bool
swept_of acts count = swept 0 0 (furthest acts (replicate count 0))
