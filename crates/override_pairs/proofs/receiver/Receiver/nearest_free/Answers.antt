-- Answers of `Receiver::nearest_free`: what its calls ask for, and what it promises.
use Rattle.std.proofs.Common.{◌≡◌, Some, refl, sym}
use Rattle.std.specs.Prelude.{IfSome}
use Rattle.std.specs.List.{find}
use Rattle.class_pool.specs.Selection.{may_override}
use Rattle.class_pool.specs.Walk.{superclasses_from}
use Rattle.class_pool.specs.declared.id.ClassId.TheVariants.{Prog}
use Rattle.link_check.specs.bodies.Overriding.{alike_from}
use Rattle.method_places.specs.bodies.Alike.{HasItem, member_at}
use Rattle.method_places.proofs.InstanceRows.{listed_row}
use Rattle.item_numbers.proofs.Meeting.{chain_there}
use Rattle.override_pairs.proofs.FreeRuns.{firsts, noted_free, seconds}
use Rattle.override_pairs.proofs.receiver.Receiver.nearest_free.Goals as goal
use Rattle.override_pairs.proofs.receiver.Receiver.nearest_free.Goals.{After-noted}

found : (c : After-noted)
    → IfSome c.noted.result (λ found. (find (may_override c.args.self.now.numbered.now.set.now)
    (alike_from c.args.self.now.numbered.now.set.now (member_at c.args.row.now) (Prog c.args.self.now.class))
    ≡ Some (member_at found)) × HasItem c.args.self.now.numbered.now.set.now found)
found c =
    let self = c.args.self.now in
    let set = self.numbered.now.set.now in
    let given = c.requires.receiver in
    let row = c.args.row.now in
    noted_free set self.table.now given.rows self.class
    (chain_there set self.class (superclasses_from set (Prog self.class)) given.there refl) row c.args.above
    (listed_row set self.table.now given.rows c.args.above row c.requires.above c.requires.row) c.requires.number
    self.free.now given.free self.stamp self.freed.now given.freed c.noted.result (sym c.noted.ensures)

pub returns-clause-is : goal.returns-clause-is
returns-clause-is c =
    firsts (λ found. find (may_override c.args.self.now.numbered.now.set.now)
    (alike_from c.args.self.now.numbered.now.set.now (member_at c.args.row.now) (Prog c.args.self.now.class))
    ≡ Some (member_at found)) (HasItem c.args.self.now.numbered.now.set.now) c.noted.result (found c)

pub returns-clause-item : goal.returns-clause-item
returns-clause-item c =
    seconds (λ found. find (may_override c.args.self.now.numbered.now.set.now)
    (alike_from c.args.self.now.numbered.now.set.now (member_at c.args.row.now) (Prog c.args.self.now.class))
    ≡ Some (member_at found)) (HasItem c.args.self.now.numbered.now.set.now) c.noted.result (found c)
