-- Answers of `read_files`: what its calls ask for, and what it promises.
use Rattle.std.proofs.Common.{◌≡◌, Ok, subst, sym}
use Rattle.class_files.specs.Input.{AreThere, FindsDue, files_in, input_due, limited, missed}
use Rattle.class_files.specs.bodies.Input.{paths_due}
use Rattle.tree_io.proofs.Runs.{made_sees}
use Rattle.class_files.proofs.Totals.{found_there, input_is}
use Rattle.class_files.proofs.input.read_files.Goals as goal

pub returns-clause-seen : goal.returns-clause-seen
returns-clause-seen g c =
    let dir = c.args.directory.now in
    let paths = c.in_ok-paths.paths in
    let result = c.read_each.result in
    made_sees (missed result) (λ fs. paths_due fs dir ≡ Ok paths)
    (λ fs. AreThere fs dir paths → FindsDue result (limited (files_in fs dir paths)))
    (λ fs. FindsDue result (input_due fs dir))
    _ _ _ _ _ _ (λ fs due found. subst (FindsDue result) (sym (input_is fs dir paths due))
    (found (found_there fs dir paths due)))
    c.in_ok-paths.ensures.seen c.read_each.ensures.seen
