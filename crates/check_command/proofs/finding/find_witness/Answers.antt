-- Answers of `find_witness`: what its calls ask for, and what it promises.
use Rattle.std.proofs.Common.{ap, arith, length}
use Rattle.std.proofs.lemmas.Result.{err_from_is_err_and}
use Rattle.tree_io.specs.Files.{Files}
use Rattle.command_frame.proofs.Steps.{first_stops, then_made_by}
use Rattle.command_frame.specs.Steps.{IsFile}
use Rattle.command_frame.specs.declared.refusal.Quantity.TheVariants as quantity
use Rattle.check_command.specs.Due.{AreTexts}
use Rattle.check_command.proofs.finding.find_witness.Goals as goal

pub texts_in-requires-clause-wit : goal.texts_in-requires-clause-wit
texts_in-requires-clause-wit g c = omega (arith, ap length c.as_slice.ensures, c.in_ok-wit.ensures.short)

pub returns-in_err-wit : goal.returns-in_err-wit
returns-in_err-wit g c =
    let p = err_from_is_err_and c.from_residual.result c.from_residual.ensures.1 in
    rw (p.1, p.2) (first_stops (λ (fs : Files). IsFile fs quantity.Witness c.args.witness.now)
    (λ (fs : Files). AreTexts c.args.map.now) c.in_err-wit.field-0.0 _ _ c.in_err-wit.ensures.found)

pub returns : goal.returns
returns g c =
    then_made_by (λ (fs : Files). IsFile fs quantity.Witness c.args.witness.now) (AreTexts c.args.map.now)
    c.in_ok-wit.wit _ _ c.in_ok-wit.ensures.found _ c.as_slice.ensures c.texts_in.result c.texts_in.ensures
