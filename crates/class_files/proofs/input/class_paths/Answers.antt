-- Answers of `class_paths`: what its calls ask for, and what it promises.
use Rattle.std.proofs.Common.{subst, sym}
use Rattle.std.specs.Ordering.{nat_cmp}
use Rattle.std.specs.Cmp.Lexicographic.{slice_cmp}
use Rattle.std.proofs.lemmas.List.Kept.{IsStrictlySortedBy-filter}
use Rattle.tree_io.specs.Below.{IsAscending}
use Rattle.class_files.specs.Input.{is_class_path}
use Rattle.class_files.proofs.input.class_paths.Goals as goal

pub returns-clause-ascending : goal.returns-clause-ascending
returns-clause-ascending g c =
    subst IsAscending (sym c.in_ok-paths-in-Ok.ensures)
    (IsStrictlySortedBy-filter (slice_cmp nat_cmp) is_class_path c.in-Ok.paths c.in-Ok.ensures.ascending)
