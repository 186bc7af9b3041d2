use Rattle.std.proofs.Common.{◌≡◌, length}
use Rattle.std.specs.List.{AllByRecursion}
use Rattle.std.specs.Vec.Iter.{into_iter_items, into_iter_len}
use Rattle.command_frame.specs.Steps.{seen}
use Rattle.batch_command.specs.Finding.{FindsAll}
use Rattle.batch_command.specs.Jobs.{EachBefore, IsNamed}
use Rattle.batch_command.proofs.Finding.{had}
use Rattle.batch_command.proofs.configs.find_configs.Given as goal

abbrev pub invariant-loop-job : goal.invariant-loop-job
invariant-loop-job g l = record {
  lasts : into_iter_len l.job-iterator ≡ length (into_iter_items l.job-iterator);
  names : AllByRecursion IsNamed l.configs;
  found : FindsAll (had l.configs)
      (λ fs. EachBefore (g.W.Work.parts.config fs) l.fn.jobs (into_iter_items l.job-iterator))
      (seen (g.T.Tree.files l.fn.tree) (g.T.Tree.faults l.fn.tree) (g.T.Tree.log l.fn.tree))
      (seen (g.T.Tree.files l.tree) (g.T.Tree.faults l.tree) (g.T.Tree.log l.tree));
}
