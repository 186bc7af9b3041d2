-- Answers of `find_jobs`: what its calls ask for, and what it promises.
use Rattle.std.proofs.Common.{List, ℕ, ap, arith, length, subst}
use Rattle.std.proofs.lemmas.Result.{err_from_is_err_and}
use Rattle.tree_io.specs.Files.{Files}
use Rattle.command_frame.proofs.Steps.{first_stops, then_made}
use Rattle.command_frame.specs.Steps.{IsFile, Makes}
use Rattle.command_frame.specs.declared.refusal.Quantity.TheVariants as quantity
use Rattle.batch_command.specs.Jobs.{AreJobs}
use Rattle.batch_command.proofs.listing.find_jobs.Goals as goal

pub jobs_in-requires : goal.jobs_in-requires
jobs_in-requires g c = omega (arith, ap length c.as_slice.ensures, c.in_ok-bytes.ensures.short)

pub returns-in_err-bytes : goal.returns-in_err-bytes
returns-in_err-bytes g c =
    let p = err_from_is_err_and c.from_residual.result c.from_residual.ensures.1 in
    rw (p.1, p.2) (first_stops (λ (fs : Files). IsFile fs quantity.Config c.args.list.now)
    (λ (fs : Files). AreJobs) c.in_err-bytes.field-0.0 _ _ c.in_err-bytes.ensures.found)

pub returns : goal.returns
returns g c =
    let answer = c.jobs_in.result in
    let made : Makes answer (AreJobs c.in_ok-bytes.bytes) = subst
    (λ (t : List ℕ). Makes answer (AreJobs t)) c.as_slice.ensures c.jobs_in.ensures in
    then_made (λ (fs : Files). IsFile fs quantity.Config c.args.list.now) AreJobs c.in_ok-bytes.bytes _ _
    c.in_ok-bytes.ensures.found answer made
