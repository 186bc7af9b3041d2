-- Answers of `read_witness`: what its calls ask for, and what it promises.
use Rattle.std.proofs.Common.{◌≡◌, ◌||◌, not, true, Result, Ok, Err, sym, ap, subst, ◌∙◌}
use Rattle.std.proofs.lemmas.Result.{err_from_is_err_and}
use Rattle.jv_base.specs.Outcome.{FaultIs}
use Rattle.jv_base.proofs.Due.{due_only}
use Rattle.witness_file.specs.WitnessReading.{awaits_more, read_witness}
use Rattle.witness_file.proofs.WitnessLaw.{more_awaited, not_begun, read_found, read_only, witness_read}
use Rattle.witness_file.proofs.WitnessLaw.{witness_refused, witness_short}
use Rattle.witness_file.proofs.reading.read_witness.Goals as goal
use Rattle.witness_file.proofs.reading.read_witness.Goals.{then-not-read-via-then-not-read}
use Rattle.witness_file.proofs.reading.read_witness.Goals.{then-not-read-via-else-not-read+then-awaits_more}

pub returns-in_err-read-clause-exact : goal.returns-in_err-read-clause-exact
returns-in_err-read-clause-exact c =
    let p = err_from_is_err_and c.from_residual.result c.from_residual.ensures.1 in
    rw (p.1, p.2) (witness_refused c.args.bytes.now c.in_err-read.field-0.0 c.in_err-read.ensures.read)

pub returns-in_err-read-clause-only : goal.returns-in_err-read-clause-only
returns-in_err-read-clause-only c = λ w h.
    let p = err_from_is_err_and c.from_residual.result c.from_residual.ensures.1 in
    due_only c.from_residual.result (read_witness c.args.bytes.now) w (read_only c.args.bytes.now w h)
    (rw (p.1, p.2) (witness_refused c.args.bytes.now c.in_err-read.field-0.0 c.in_err-read.ensures.read))

pub returns-then-not-read-clause-exact : goal.returns-then-not-read-clause-exact
returns-then-not-read-clause-exact c =
    witness_short c.args.bytes.now c.in_ok-read.read c.fault.result c.in_ok-read.number c.in_ok-read.ensures.read short
    c.in_ok-read.ensures.count c.fault.ensures
  where
    short : not c.in_ok-read.read.begun || awaits_more c.in_ok-read.read.last ≡ true
    short = elim c.then-not-read.branch [
      | then-not-read-via-then-not-read w ↦ not_begun c.in_ok-read.read.begun (awaits_more c.in_ok-read.read.last)
          w.if-not-read.true
      | then-not-read-via-else-not-read+then-awaits_more w ↦
          more_awaited c.in_ok-read.read.begun (awaits_more c.in_ok-read.read.last)
          (sym w.awaits_more.ensures ∙ w.if-awaits_more.true)
    ]

pub returns-then-not-read-clause-only : goal.returns-then-not-read-clause-only
returns-then-not-read-clause-only c = λ w h.
    subst (FaultIs c.fault.result) (read_only c.args.bytes.now w h) (returns-then-not-read-clause-exact c)

pub returns-clause-exact : goal.returns-clause-exact
returns-clause-exact c = witness_read c.args.bytes.now c.in_ok-read.read c.in_ok-witness_of.field-0
    c.in_ok-read.ensures.read
    c.if-not-read.false (sym c.awaits_more.ensures ∙ c.if-awaits_more.false) c.in_ok-witness_of.ensures

pub returns-clause-found : goal.returns-clause-found
returns-clause-found c = read_found c.args.bytes.now c.in_ok-witness_of.field-0 (returns-clause-exact c)

pub returns-clause-only : goal.returns-clause-only
returns-clause-only c = λ w h. sym (read_only c.args.bytes.now w h) ∙ returns-clause-exact c
