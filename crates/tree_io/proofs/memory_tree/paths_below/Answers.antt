-- Answers of `paths_below`: what its calls ask for, and what it promises.
use Rattle.std.proofs.Common.{◌≡◌, ℕ, List, ◌++◌, ap, sym, subst, ◌∙◌}
use Rattle.std.proofs.lemmas.List.{append-nil}
use Rattle.tree_io.specs.Below.{paths_below, IsAscending}
use Rattle.tree_io.proofs.Told.{paths_told}
use Rattle.tree_io.proofs.Below.{still_ascending}
use Rattle.std.specs.BTreeMap.{keys}
use Rattle.tree_io.proofs.memory_tree.paths_below.Goals as goal

pub returns-clause-all : goal.returns-clause-all
returns-clause-all c =
    let whole : c.loop-path.paths.items
    ≡ paths_below c.args.dir.now (keys c.args.files.now) = sym (append-nil c.loop-path.paths.items)
    ∙ subst (λ (it : List (List ℕ)). c.loop-path.paths.items ++ paths_below c.args.dir.now it
    ≡ paths_below c.args.dir.now (keys c.args.files.now)) c.in-None.ensures.steps.0 c.loop-path.invariant in
    whole ∙ ap (paths_below c.args.dir.now)
    (sym (paths_told c.args.files.now.entries c.keys-path-items.ensures.ordered))

pub returns-clause-ascending : goal.returns-clause-ascending
returns-clause-ascending c =
    let whole : c.loop-path.paths.items
    ≡ paths_below c.args.dir.now (keys c.args.files.now) = sym (append-nil c.loop-path.paths.items)
    ∙ subst (λ (it : List (List ℕ)). c.loop-path.paths.items ++ paths_below c.args.dir.now it
    ≡ paths_below c.args.dir.now (keys c.args.files.now)) c.in-None.ensures.steps.0 c.loop-path.invariant in
    subst IsAscending (sym whole)
    (still_ascending c.args.dir.now (keys c.args.files.now) c.keys-path-items.ensures.ordered)
