use Rattle.std.proofs.Common.{◌<◌, ℕ, get_or}
use Rattle.class_pool.specs.Found.{named_at}
use Rattle.class_pool.specs.declared.id.ClassId.TheVariants.{Lib}
use Rattle.method_places.specs.bodies.Alike.{HasNone}
use Rattle.method_places.specs.declared.alike.Group.TheVariants.{Mixed}
use Rattle.method_places.proofs.alike.Alike.may_have.Given as goal

abbrev pub invariant-loop-group : goal.invariant-loop-group
invariant-loop-group l = (g : ℕ) → g < l.group-index
    → HasNone l.self.set.now (named_at l.self.set.now (record { class = Lib l.id; index = l.at }))
    (get_or l.self.groups.items g Mixed)
