-- Answers of `up_at`: what its calls ask for, and what it promises.
use Rattle.std.proofs.Common.{◌∙◌, [], subst, sym}
use Rattle.std.specs.List.Sorted.{IsNonDecreasingBy}
use Rattle.std.proofs.lemmas.List.{get_or_default}
use Rattle.tree_notes.specs.declared.nearest.Change.{Change}
use Rattle.tree_notes.proofs.nearest.up_at.Goals as goal

pub told_at-requires : goal.told_at-requires
told_at-requires c =
    subst (IsNonDecreasingBy (λ (x : Change). x.time))
    (sym (c.as_slice.ensures ∙ c.index-changes-key.is
    ∙ get_or_default c.args.changes.now c.args.key _ [] c.if-key-changes.true))
    (c.requires c.args.key)
