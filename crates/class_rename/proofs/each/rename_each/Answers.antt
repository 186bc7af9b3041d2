-- Answers of `rename_each`: what its calls ask for, and what it promises.
use Rattle.std.proofs.Common.{rules}
use Rattle.std.proofs.lemmas.List.Edits.{map_over_more}
use Rattle.class_rename.specs.Names.{names_in}
use Rattle.class_rename.proofs.each.rename_each.Goals as goal

pub loop-part-preserved : goal.loop-part-preserved
loop-part-preserved g c = search (rules, map_over_more (g.T.Rename.renamed (names_in c.args.names.now)))
