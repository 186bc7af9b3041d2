-- Answers of `keep_selection`: what its calls ask for, and what it promises.
use Rattle.set_program.specs.bodies.Links.{IsSelectedRow}
use Rattle.set_program.proofs.Putting.{all_hold}
use Rattle.set_program.proofs.receivers.keep_selection.Goals as goal

pub returns : goal.returns
returns c =
    let all = c.requires.links in
    let rows = all_hold (IsSelectedRow c.args.set.now) c.args.row c.args.links.now.selections.items
    c.put_row.new.rows.items c.requires.row all.4
    c.put_row.ensures in
    (all.0, all.1, all.2, all.3, rows, all.5, all.6)
