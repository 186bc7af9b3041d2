-- Answers of `find_config`: what its calls ask for, and what it promises.
use Rattle.std.proofs.Common.{List, ℕ, ap, arith, length, subst}
use Rattle.std.proofs.lemmas.Result.{err_from_is_err_and}
use Rattle.tree_io.specs.Files.{Files}
use Rattle.command_frame.proofs.Steps.{first_stops, then_made}
use Rattle.command_frame.specs.Steps.{IsFile, Makes}
use Rattle.command_frame.specs.declared.refusal.Quantity.TheVariants as quantity
use Rattle.command_steps.specs.Config.{IsRules}
use Rattle.command_steps.proofs.config.find_config.Goals as goal

pub config_in-requires : goal.config_in-requires
config_in-requires g c = omega (arith, ap length c.as_slice.ensures, c.in_ok-bytes.ensures.short)

pub returns-in_err-bytes : goal.returns-in_err-bytes
returns-in_err-bytes g c =
    let p = err_from_is_err_and c.from_residual.result c.from_residual.ensures.1 in
    rw (p.1, p.2) (first_stops (λ (fs : Files). IsFile fs quantity.Config c.args.config.now)
    (λ (fs : Files) (bytes : List ℕ). IsRules bytes c.args.witness.now) c.in_err-bytes.field-0.0 _ _
    c.in_err-bytes.ensures.found)

pub returns : goal.returns
returns g c =
    let answer = c.config_in.result in
    let witness = c.args.witness.now in
    let made : Makes answer (IsRules c.in_ok-bytes.bytes witness) = subst
    (λ (t : List ℕ). Makes answer (IsRules t witness)) c.as_slice.ensures c.config_in.ensures in
    then_made (λ (fs : Files). IsFile fs quantity.Config c.args.config.now) (λ (bytes : List ℕ). IsRules bytes witness)
    c.in_ok-bytes.bytes _ _ c.in_ok-bytes.ensures.found answer made
