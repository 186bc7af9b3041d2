-- Answers of `put_in_tree`: what its calls ask for, and what it promises.
use Rattle.text_lines.proofs.Keeping.{put_told}
use Rattle.text_lines.proofs.table.put_in_tree.Goals as goal

pub returns : goal.returns
returns g c =
    rw c.in_ok-insert.ensures.entries (put_told g.V.Told.told_by (c.args.mark, c.args.text) c.args.value
    c.args.tree.now.entries c.requires.told c.requires.kept)

pub returns-in_err-insert : goal.returns-in_err-insert
returns-in_err-insert g c = rw c.in_err-insert.ensures.err c.requires.kept
