-- Answers of `keep_field`: what its calls ask for, and what it promises.
use Rattle.set_program.specs.bodies.Links.{IsFieldRow}
use Rattle.set_program.proofs.Putting.{all_hold}
use Rattle.set_program.proofs.linking.keep_field.Goals as goal

pub returns : goal.returns
returns c =
    let all = c.requires.links in
    let rows = all_hold (IsFieldRow c.args.set.now) c.args.row c.args.links.now.fields.items c.put_row.new.rows.items
    c.requires.row all.1
    c.put_row.ensures in
    (all.0, rows, all.2, all.3, all.4, all.5, all.6)
