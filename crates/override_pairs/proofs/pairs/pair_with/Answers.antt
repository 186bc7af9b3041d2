-- Answers of `pair_with`: what its calls ask for, and what it promises.
use Rattle.std.proofs.Common.{◌≡◌, ◌∙◌, IfSome, Option, Some, ap, subst, sym}
use Rattle.std.specs.Option.{option_and_then}
use Rattle.class_pool.specs.Selection.{selected}
use Rattle.class_pool.specs.declared.id.ClassId.TheVariants.{Prog}
use Rattle.require_sys.specs.Requires.{pair_of}
use Rattle.method_places.specs.bodies.Alike.{HasItem, member_at}
use Rattle.method_places.specs.declared.methods.InstanceMethod.{InstanceMethod}
use Rattle.method_places.proofs.InstanceRows.{listed_row}
use Rattle.override_pairs.proofs.pairs.pair_with.Goals as goal

pub pair_of_rows-requires-clause-row : goal.pair_of_rows-requires-clause-row
pair_of_rows-requires-clause-row c =
    (listed_row c.args.receiver.now.numbered.now.set.now c.args.receiver.now.table.now c.requires.receiver.rows
    c.args.class.now.number c.args.row.now c.requires.above.there c.requires.row).item

pub pair_of_rows-requires-clause-found : goal.pair_of_rows-requires-clause-found
pair_of_rows-requires-clause-found c =
    subst (λ (o : Option InstanceMethod). IfSome o (HasItem c.args.receiver.now.numbered.now.set.now)) c.in-Some.is
    c.known.ensures.item

pub returns-in-Some : goal.returns-in-Some
returns-in-Some c =
    let set = c.args.receiver.now.numbered.now.set.now in
    let run = c.args.receiver.now.class in
    let m = member_at c.args.row.now in
    let is = subst (λ (o : Option InstanceMethod). IfSome o (λ found. selected set (Prog run) m
    ≡ Some (member_at found))) c.in-Some.is c.known.ensures.is in
    c.pair_of_rows.ensures ∙ sym (ap (option_and_then (pair_of set (Prog c.args.class.now.own) m)) is)
