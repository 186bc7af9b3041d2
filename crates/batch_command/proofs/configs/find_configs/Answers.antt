-- Answers of `find_configs`: what its calls ask for, and what it promises.
use Rattle.std.proofs.Common.{rules, Ok, Err, length, arith, sym, ap, ◌∙◌}
use Rattle.std.proofs.lemmas.List.{nil_from_length}
use Rattle.std.proofs.lemmas.Result.{err_from_is_err_and}
use Rattle.std.specs.Vec.Iter.{into_iter_items}
use Rattle.tree_io.specs.Files.{Files}
use Rattle.batch_command.proofs.Each.{All, caught_is, caught_named, each_begins, each_ends, each_halts, each_lacks, each_more}
use Rattle.batch_command.proofs.Each.{named_more}
use Rattle.batch_command.proofs.Finding.{finds_all}
use Rattle.batch_command.proofs.configs.find_configs.Goals as goal

pub loop-job-init : goal.loop-job-init
loop-job-init g c = record {
  lasts = search rules;
  names = rw c.new-configs.ensures tt;
  found = each_begins (λ (fs : Files). g.W.Work.parts.config fs) c.args.jobs _ _ _ c.new-configs.ensures (search rules);
}

pub loop-job-preserved : goal.loop-job-preserved
loop-job-preserved g c =
    let parts = g.W.Work.parts in
    record {
      lasts = omega (arith, c.loop-job.invariant.lasts, c.in-Some.ensures.steps.1, ap length c.in-Some.ensures.steps.0);
      names = rw c.in_ok-put.ensures (named_more c.loop-job.configs c.in_ok-config.config c.loop-job.invariant.names
          (caught_named c.find_config.result c.in_ok-config.config c.in_ok-config.ensures c.find_config.ensures.names));
      found = rw c.in_ok-put.ensures (each_more (λ (fs : Files). parts.config fs) c.args.jobs _ _ c.in-Some.job
          c.loop-job.configs
          c.in_ok-config.config _ _ _ c.in-Some.ensures.steps.0 c.loop-job.invariant.found
          (caught_is (λ (fs : Files). parts.config fs c.in-Some.job) c.find_config.result (Ok c.in_ok-config.config) _ _
          c.in_ok-config.ensures
          (finds_all c.find_config.result (λ (fs : Files). parts.config fs c.in-Some.job) _ _ c.find_config.ensures.found)));
    }

pub returns-in_err-config-clause-found : goal.returns-in_err-config-clause-found
returns-in_err-config-clause-found g c =
    let p = err_from_is_err_and c.from_residual.result c.from_residual.ensures.1 in
    let parts = g.W.Work.parts in
    rw (p.1, p.2) (each_halts (λ (fs : Files). parts.config fs) c.args.jobs
    (All (λ (fs : Files). parts.config fs) c.args.jobs) _ c.in-Some.job c.loop-job.configs c.in_err-config.field-0.0
    _ _ _ c.loop-job.invariant.found
    (caught_is (λ (fs : Files). parts.config fs c.in-Some.job) c.find_config.result (Err c.in_err-config.field-0.0) _ _
    c.in_err-config.ensures
    (finds_all c.find_config.result (λ (fs : Files). parts.config fs c.in-Some.job) _ _ c.find_config.ensures.found)))

pub returns-in_err-put-clause-found : goal.returns-in_err-put-clause-found
returns-in_err-put-clause-found g c =
    let p = err_from_is_err_and c.from_residual-in_err-put.result c.from_residual-in_err-put.ensures.1 in
    let parts = g.W.Work.parts in
    rw (p.1, p.2) (each_lacks (λ (fs : Files). parts.config fs) c.args.jobs
    (All (λ (fs : Files). parts.config fs) c.args.jobs) _ c.in-Some.job c.loop-job.configs c.in_ok-config.config
    _ _ _ c.loop-job.invariant.found
    (caught_is (λ (fs : Files). parts.config fs c.in-Some.job) c.find_config.result (Ok c.in_ok-config.config) _ _
    c.in_ok-config.ensures
    (finds_all c.find_config.result (λ (fs : Files). parts.config fs c.in-Some.job) _ _ c.find_config.ensures.found)))

pub returns-clause-found : goal.returns-clause-found
returns-clause-found g c =
    each_ends (λ (fs : Files). g.W.Work.parts.config fs) c.args.jobs _ _ _ _ c.loop-job.invariant.found
    (nil_from_length (into_iter_items c.loop-job.job-iterator)
    (sym c.loop-job.invariant.lasts ∙ c.in-None.ensures.steps.0))
