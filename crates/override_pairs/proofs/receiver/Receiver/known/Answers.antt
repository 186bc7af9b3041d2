-- Answers of `Receiver::known`: what its calls ask for, and what it promises.
use Rattle.std.proofs.Common.{◌≡◌, ◌<◌, ◌∙◌, ℕ, arith, refl, subst, sym, true}
use Rattle.class_pool.specs.Resolution.{is_class_below}
use Rattle.class_pool.specs.Walk.{superclasses_from}
use Rattle.class_pool.specs.declared.id.ClassId.TheVariants.{Prog}
use Rattle.method_places.specs.bodies.Nearest.{front_rows}
use Rattle.method_places.proofs.InstanceRows.{front_row, listed_row}
use Rattle.item_numbers.proofs.Meeting.{chain_there}
use Rattle.method_places.proofs.Noting.{nearest_noted}
use Rattle.override_pairs.proofs.OpenAbove.{nearest_runs}
use Rattle.override_pairs.proofs.receiver.Receiver.known.Goals as goal

pub runs-requires : goal.runs-requires
runs-requires c =
    let at = (listed_row c.args.self.now.numbered.now.set.now c.args.self.now.table.now c.requires.receiver.rows
    c.args.above c.args.row.now c.requires.above c.requires.row).class in
    record {
      is_above = λ told.
          subst (λ (k : ℕ). is_class_below c.args.self.now.numbered.now.set.now (Prog c.args.self.now.class) (Prog k)
          ≡ true)
          (sym at) (c.requires.is_above told);
    }

pub returns-then-runs-clause-is : goal.returns-then-runs-clause-is
returns-then-runs-clause-is c =
    let self = c.args.self.now in
    let set = self.numbered.now.set.now in
    let given = c.requires.receiver in
    let row = c.args.row.now in
    let chain = superclasses_from set (Prog self.class) in
    let there = chain_there set self.class chain given.there refl in
    let some : 0 < row.number = omega (arith, c.if-row-eq0.false) in
    let found = nearest_noted self.stamp (front_rows self.table.now chain) self.notes.now row.number
    c.in_ok-nearest.nearest given.noted some (sym c.noted.ensures ∙ c.in_ok-nearest.was) in
    let is = listed_row set self.table.now given.rows c.args.above row c.requires.above c.requires.row in
    let that = front_row set self.table.now given.rows chain there row.number c.in_ok-nearest.nearest found in
    nearest_runs set self.table.now given.rows self.class there row c.in_ok-nearest.nearest c.args.above
    c.in_ok-nearest.nearest.class is that.0 some that.1 found (c.runs.ensures c.if-runs.true)

pub returns-then-runs-clause-item : goal.returns-then-runs-clause-item
returns-then-runs-clause-item c =
    let self = c.args.self.now in
    let set = self.numbered.now.set.now in
    let given = c.requires.receiver in
    let row = c.args.row.now in
    let chain = superclasses_from set (Prog self.class) in
    let there = chain_there set self.class chain given.there refl in
    let some : 0 < row.number = omega (arith, c.if-row-eq0.false) in
    let found = nearest_noted self.stamp (front_rows self.table.now chain) self.notes.now row.number
    c.in_ok-nearest.nearest given.noted some (sym c.noted.ensures ∙ c.in_ok-nearest.was) in
    let that = front_row set self.table.now given.rows chain there row.number c.in_ok-nearest.nearest found in
    that.0.item
