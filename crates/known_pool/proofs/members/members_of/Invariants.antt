use Rattle.std.proofs.Common.{◌≡◌, ◌++◌, drop, map}
use Rattle.known_pool.specs.Members.{member_in}
use Rattle.known_pool.proofs.members.members_of.Given as goal

abbrev pub invariant-loop-entry : goal.invariant-loop-entry
invariant-loop-entry l = l.members ++ map (member_in l.pool) (drop l.entry-index l.entries)
    ≡ map (member_in l.pool) l.entries
