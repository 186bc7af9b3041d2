-- Answers of `Receiver::is_opened`: what its calls ask for, and what it promises.
use Rattle.std.proofs.Common.{◌∙◌, refl, sym}
use Rattle.class_pool.specs.Walk.{superclasses_from}
use Rattle.class_pool.specs.declared.id.ClassId.TheVariants.{Prog}
use Rattle.method_places.proofs.InstanceRows.{listed_row}
use Rattle.item_numbers.proofs.Meeting.{chain_there}
use Rattle.override_pairs.proofs.PackageRuns.{noted_none, noted_opens}
use Rattle.override_pairs.proofs.receiver.Receiver.is_opened.Goals as goal

pub returns-in_default : goal.returns-in_default
returns-in_default c =
    let self = c.args.self.now in
    let set = self.numbered.now.set.now in
    let given = c.requires.receiver in
    let row = c.args.row.now in
    let is = listed_row set self.table.now given.rows c.args.above row c.requires.above c.requires.row in
    noted_none set self.table.now given.rows self.places.now given.places self.class
    (chain_there set self.class (superclasses_from set (Prog self.class)) given.there refl) row c.args.above is
    c.requires.number c.requires.kind c.args.place c.requires.place c.requires.some self.stamp self.opening.now
    given.opening c.requires.within (sym c.noted.ensures ∙ c.in_default.is)

pub returns : goal.returns
returns c =
    let self = c.args.self.now in
    let set = self.numbered.now.set.now in
    let given = c.requires.receiver in
    let row = c.args.row.now in
    let is = listed_row set self.table.now given.rows c.args.above row c.requires.above c.requires.row in
    noted_opens set self.table.now given.rows self.places.now given.places self.class
    (chain_there set self.class (superclasses_from set (Prog self.class)) given.there refl) row c.args.above is
    c.requires.number c.requires.kind c.args.place c.requires.place c.requires.some self.stamp c.has_ranks.ensures
    given.there self.opening.now given.opening c.requires.within c.in-Some.opening (sym c.noted.ensures ∙ c.in-Some.is)
    c.in_ok-first.first c.in_ok-own.own c.in_ok-first.ensures c.in_ok-own.ensures
