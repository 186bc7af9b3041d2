use Rattle.std.proofs.Common.{ℕ, List, Option, take}
use Rattle.fresh_names.specs.bodies.Giving.{IsApplied, IsGiven, front_in, stays_in, what_stays}
use Rattle.fresh_names.proofs.giving.give_all.Given as goal

abbrev pub invariant-loop-key : goal.invariant-loop-key
invariant-loop-key g l = (told : List ℕ → List ℕ → Option (List ℕ))
    → IsApplied g.K.PartialEq.eq (g.K.Grouped.pair (what_stays l.stays)) told (stays_in l.stays) l.keys l.fn.table l.news
    → IsGiven g.K.PartialEq.eq (g.K.Grouped.pair (what_stays l.stays)) told (stays_in l.stays) (front_in l.stays) l.keys
    (take l.key-index l.keys) l.table l.next
