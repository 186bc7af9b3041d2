-- Answers of `Receiver::known_open`: what its calls ask for, and what it promises.
use Rattle.std.proofs.Common.{◌≡◌, ℕ, subst, sym, true}
use Rattle.std.specs.List.{find}
use Rattle.class_pool.specs.Resolution.{is_class_below}
use Rattle.class_pool.specs.Selection.{may_override, selected}
use Rattle.class_pool.specs.declared.id.ClassId.TheVariants.{Prog}
use Rattle.link_check.specs.bodies.Overriding.{alike_from}
use Rattle.method_places.specs.bodies.Alike.{member_at}
use Rattle.method_places.proofs.InstanceRows.{listed_row}
use Rattle.override_pairs.proofs.FreeRuns.{found_so, free_open}
use Rattle.override_pairs.proofs.receiver.Receiver.known_open.Goals as goal

pub returns-clause-is : goal.returns-clause-is
returns-clause-is c =
    let self = c.args.self.now in
    let set = self.numbered.now.set.now in
    let given = c.requires.receiver in
    let row = c.args.row.now in
    let is = listed_row set self.table.now given.rows c.args.above row c.requires.above c.requires.row in
    let class = is.class in
    found_so (selected set (Prog self.class) (member_at row))
    (find (may_override set) (alike_from set (member_at row) (Prog self.class))) c.nearest_free.result
    (free_open set self.table.now given.rows self.class row c.args.above is c.requires.number c.requires.kind
    (subst (λ (k : ℕ). is_class_below set (Prog self.class) (Prog k) ≡ true) (sym class) c.requires.is_above))
    c.nearest_free.ensures.is
