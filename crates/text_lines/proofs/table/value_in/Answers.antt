-- Answers of `value_in`: what its calls ask for, and what it promises.
use Rattle.text_lines.proofs.Keeping.{found_told, lent_told}
use Rattle.text_lines.proofs.table.value_in.Goals as goal

pub returns : goal.returns
returns g c =
    let told = g.V.Told.told_by in
    lent_told (told c.args.text.now) c.get.result _ c.get.ensures.value
    (found_told told (c.args.mark, c.args.text) c.args.tree.now.entries c.requires)
