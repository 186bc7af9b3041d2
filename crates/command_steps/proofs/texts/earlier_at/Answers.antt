-- Answers of `earlier_at`: what its calls ask for, and what it promises.
use Rattle.std.proofs.Common.{ap, arith, length}
use Rattle.std.proofs.lemmas.Result.{err_from_is_err_and}
use Rattle.tree_io.specs.Files.{Files}
use Rattle.command_frame.proofs.Steps.{first_stops, then_made_by}
use Rattle.command_frame.specs.Steps.{IsFile}
use Rattle.command_frame.specs.declared.refusal.Quantity.TheVariants as quantity
use Rattle.command_steps.specs.Texts.{AreEarlier}
use Rattle.command_steps.proofs.texts.earlier_at.Goals as goal

pub earlier_in-requires : goal.earlier_in-requires
earlier_in-requires g c = omega (arith, ap length c.as_slice.ensures, c.in_ok-bytes.ensures.short)

pub returns-in_err-bytes-clause-found : goal.returns-in_err-bytes-clause-found
returns-in_err-bytes-clause-found g c =
    let p = err_from_is_err_and c.from_residual.result c.from_residual.ensures.1 in
    rw (p.1, p.2) (first_stops (λ (fs : Files). IsFile fs quantity.Mapping c.args.path.now)
    (λ (fs : Files). AreEarlier) c.in_err-bytes.field-0.0 _ _ c.in_err-bytes.ensures.found)

pub returns-clause-found : goal.returns-clause-found
returns-clause-found g c =
    then_made_by (λ (fs : Files). IsFile fs quantity.Mapping c.args.path.now) AreEarlier c.in_ok-bytes.bytes _ _
    c.in_ok-bytes.ensures.found _ c.as_slice.ensures c.earlier_in.result c.earlier_in.ensures.made
