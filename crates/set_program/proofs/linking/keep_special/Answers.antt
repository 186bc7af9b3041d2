-- Answers of `keep_special`: what its calls ask for, and what it promises.
use Rattle.set_program.specs.bodies.Links.{IsSpecialRow}
use Rattle.set_program.proofs.Putting.{all_hold}
use Rattle.set_program.proofs.linking.keep_special.Goals as goal

pub returns : goal.returns
returns c =
    let all = c.requires.links in
    let rows = all_hold (IsSpecialRow c.args.set.now) c.args.row c.args.links.now.specials.items
    c.put_row.new.rows.items c.requires.row all.3
    c.put_row.ensures in
    (all.0, all.1, all.2, rows, all.4, all.5, all.6)
