use Rattle.std.proofs.Common.{◌≡◌, ◌++◌, is_some, map, take}
use Rattle.pair_clauses.proofs.lined.push_members.Given as goal

abbrev pub invariant-loop-name : goal.invariant-loop-name
invariant-loop-name l = l.lined ≡ l.fn.lined ++ map is_some (take l.name-index l.names)
