-- Answers of `Receiver::known_opened`: what its calls ask for, and what it promises.
use Rattle.std.proofs.Common.{◌≡◌, ◌∙◌, ℕ, refl, subst, sym, true}
use Rattle.class_pool.specs.Resolution.{is_class_below}
use Rattle.std.specs.List.{find}
use Rattle.class_pool.specs.Selection.{may_override, selected}
use Rattle.link_check.specs.bodies.Overriding.{alike_from}
use Rattle.method_places.specs.bodies.Alike.{member_at}
use Rattle.override_pairs.proofs.FreeRuns.{found_so, free_opened}
use Rattle.class_pool.specs.Walk.{superclasses_from}
use Rattle.class_pool.specs.declared.id.ClassId.TheVariants.{Prog}
use Rattle.method_places.specs.bodies.Nearest.{front_rows}
use Rattle.method_places.proofs.InstanceRows.{front_row, listed_row}
use Rattle.item_numbers.proofs.Meeting.{chain_there}
use Rattle.method_places.proofs.Noting.{nearest_noted}
use Rattle.override_pairs.proofs.OpenAbove.{opened_runs}
use Rattle.override_pairs.proofs.receiver.Receiver.known_opened.Goals as goal

pub returns-then-is_overriding-clause-is : goal.returns-then-is_overriding-clause-is
returns-then-is_overriding-clause-is c =
    let self = c.args.self.now in
    let set = self.numbered.now.set.now in
    let given = c.requires.receiver in
    let row = c.args.row.now in
    let chain = superclasses_from set (Prog self.class) in
    let there = chain_there set self.class chain given.there refl in
    let found = nearest_noted self.stamp (front_rows self.table.now chain) self.notes.now row.number
    c.in_ok-nearest.nearest given.noted c.requires.number (sym c.noted.ensures ∙ c.in_ok-nearest.was) in
    let is = listed_row set self.table.now given.rows c.args.above row c.requires.above c.requires.row in
    let that = front_row set self.table.now given.rows chain there row.number c.in_ok-nearest.nearest found in
    let class = is.class in
    opened_runs set self.table.now given.rows self.class there row c.in_ok-nearest.nearest c.args.above
    c.in_ok-nearest.nearest.class is that.0 c.requires.number that.1 found c.requires.kind
    (subst (λ (k : ℕ). is_class_below set (Prog self.class) (Prog k) ≡ true) (sym class) c.requires.is_above)
    (sym c.is_overriding.ensures ∙ c.if-is_overriding.true) c.requires.opened

pub returns-then-is_overriding-clause-item : goal.returns-then-is_overriding-clause-item
returns-then-is_overriding-clause-item c =
    let self = c.args.self.now in
    let set = self.numbered.now.set.now in
    let given = c.requires.receiver in
    let row = c.args.row.now in
    let chain = superclasses_from set (Prog self.class) in
    let there = chain_there set self.class chain given.there refl in
    let found = nearest_noted self.stamp (front_rows self.table.now chain) self.notes.now row.number
    c.in_ok-nearest.nearest given.noted c.requires.number (sym c.noted.ensures ∙ c.in_ok-nearest.was) in
    (front_row set self.table.now given.rows chain there row.number c.in_ok-nearest.nearest found).0.item

pub returns-else-is_overriding-clause-is : goal.returns-else-is_overriding-clause-is
returns-else-is_overriding-clause-is c =
    let self = c.args.self.now in
    let set = self.numbered.now.set.now in
    let given = c.requires.receiver in
    let row = c.args.row.now in
    let is = listed_row set self.table.now given.rows c.args.above row c.requires.above c.requires.row in
    let class = is.class in
    found_so (selected set (Prog self.class) (member_at row))
    (find (may_override set) (alike_from set (member_at row) (Prog self.class))) c.nearest_free.result
    (free_opened set self.table.now given.rows self.class row c.args.above is c.requires.number c.requires.kind
    (subst (λ (k : ℕ). is_class_below set (Prog self.class) (Prog k) ≡ true) (sym class) c.requires.is_above)
    c.requires.opened) c.nearest_free.ensures.is
