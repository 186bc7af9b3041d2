-- Answers of `keep_static`: what its calls ask for, and what it promises.
use Rattle.set_program.specs.bodies.Links.{IsStaticRow}
use Rattle.set_program.proofs.Putting.{all_hold}
use Rattle.set_program.proofs.linking.keep_static.Goals as goal

pub returns : goal.returns
returns c =
    let all = c.requires.links in
    let rows = all_hold (IsStaticRow c.args.set.now) c.args.row c.args.links.now.statics.items c.put_row.new.rows.items
    c.requires.row all.2
    c.put_row.ensures in
    (all.0, all.1, rows, all.3, all.4, all.5, all.6)
