-- Answers of `rename_references_of_each`: what its calls ask for, and what it promises.
use Rattle.std.proofs.Common.{rules, ◌∙◌}
use Rattle.std.proofs.lemmas.List.Edits.{map_over_more}
use Rattle.class_rename.specs.Names.{names_in}
use Rattle.class_rename.proofs.each.rename_references_of_each.Goals as goal

pub loop-part-preserved : goal.loop-part-preserved
loop-part-preserved g c =
    let before = c.loop-part.invariant.1 in
    let new = rw c.loop-part.invariant.0 at c.in_ok-rename_references.ensures.renamed in (
      c.in_ok-rename_references.ensures.names ∙ c.loop-part.invariant.0,
      rw new (search (rules, before, map_over_more (g.T.RenameReferences.renamed (names_in c.args.renamer.now)))),
    )
