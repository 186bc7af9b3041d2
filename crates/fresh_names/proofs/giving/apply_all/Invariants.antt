use Rattle.std.proofs.Common.{ℕ, List, Option, take}
use Rattle.fresh_names.specs.bodies.Giving.{IsApplied, TellsSo, stays_in, what_stays}
use Rattle.fresh_names.proofs.giving.apply_all.Given as goal

abbrev pub invariant-loop-key : goal.invariant-loop-key
invariant-loop-key g l = (told : List ℕ → List ℕ → Option (List ℕ))
    → TellsSo g.K.PartialEq.eq (g.K.Grouped.pair (what_stays l.stays)) (what_stays l.stays) l.old told
    → IsApplied g.K.PartialEq.eq (g.K.Grouped.pair (what_stays l.stays)) told (stays_in l.stays)
    (take l.key-index l.keys) l.table l.news
