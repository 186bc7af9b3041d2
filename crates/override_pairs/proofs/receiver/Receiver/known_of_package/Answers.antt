-- Answers of `Receiver::known_of_package`: what its calls ask for, and what it promises.
use Rattle.std.proofs.Common.{◌≡◌, ◌∙◌, ℕ, Some, arith, refl, subst, sym, true}
use Rattle.std.specs.Prelude.{IfSome}
use Rattle.class_pool.specs.Resolution.{is_class_below}
use Rattle.class_pool.specs.Selection.{selected}
use Rattle.class_pool.specs.Walk.{superclasses_from}
use Rattle.class_pool.specs.declared.id.ClassId.TheVariants.{Prog}
use Rattle.method_places.specs.bodies.Alike.{HasItem, member_at}
use Rattle.method_places.proofs.InstanceRows.{listed_row}
use Rattle.item_numbers.proofs.Meeting.{chain_there}
use Rattle.override_pairs.proofs.FreeRuns.{firsts, seconds}
use Rattle.override_pairs.proofs.PackageRuns.{noted_runs}
use Rattle.override_pairs.proofs.receiver.Receiver.known_of_package.Goals as goal
use Rattle.override_pairs.proofs.receiver.Receiver.known_of_package.Goals.{After-noted}

runs : (c : After-noted)
    → IfSome c.noted.result (λ found. (selected c.args.self.now.numbered.now.set.now (Prog c.args.self.now.class)
    (member_at c.args.row.now) ≡ Some (member_at found)) × HasItem c.args.self.now.numbered.now.set.now found)
runs c =
    let self = c.args.self.now in
    let set = self.numbered.now.set.now in
    let given = c.requires.receiver in
    let row = c.args.row.now in
    let chain = superclasses_from set (Prog self.class) in
    let is = listed_row set self.table.now given.rows c.args.above row c.requires.above c.requires.row in
    let class = is.class in
    let above = subst (λ (k : ℕ). is_class_below set (Prog self.class) (Prog k) ≡ true) (sym class)
    c.requires.is_above in
    noted_runs set self.table.now given.rows self.places.now given.places self.class
    (chain_there set self.class chain given.there refl) row c.args.above is c.requires.number c.requires.kind
    c.place-place.result (sym c.place-place.ensures) (omega (arith, c.if-place-eq0.false)) self.stamp above
    self.placed.now given.placed (c.in_ok-is_opened.ensures ∙ c.if-branch.false) c.noted.result (sym c.noted.ensures)

pub returns-else-branch-clause-is : goal.returns-else-branch-clause-is
returns-else-branch-clause-is c =
    firsts
    (λ found. selected c.args.self.now.numbered.now.set.now (Prog c.args.self.now.class) (member_at c.args.row.now)
    ≡ Some (member_at found)) (HasItem c.args.self.now.numbered.now.set.now) c.noted.result (runs c)

pub returns-else-branch-clause-item : goal.returns-else-branch-clause-item
returns-else-branch-clause-item c =
    seconds
    (λ found. selected c.args.self.now.numbered.now.set.now (Prog c.args.self.now.class) (member_at c.args.row.now)
    ≡ Some (member_at found)) (HasItem c.args.self.now.numbered.now.set.now) c.noted.result (runs c)
