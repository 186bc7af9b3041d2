-- Answers of `keep_value`: what its calls ask for, and what it promises.
use Rattle.std.proofs.Common.{arith, sym, subst}
use Rattle.std.proofs.lemmas.List.Elements.{All-get_or, All-set}
use Rattle.text_lines.specs.bodies.Shared.{HasTold}
use Rattle.text_lines.proofs.table.keep_value.Goals as goal

pub returns : goal.returns
returns g c =
    All-set (HasTold g.V.Told.told_by) c.args.trees.now.items c.place_of-at.result c.put_in_tree.new.tree
    c.put_in_tree.ensures c.requires.kept
