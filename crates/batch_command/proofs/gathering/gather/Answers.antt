-- Answers of `gather`: what its calls ask for, and what it promises.
use Rattle.std.proofs.Common.{◌≡◌, ◌<◌, ◌+◌, ℕ, ap, ap₂, arith, drop, length, slice_get}
use Rattle.std.proofs.lemmas.Result.{err_from_is_err_and}
use Rattle.std.specs.Vec.Iter.{into_iter_items}
use Rattle.batch_command.specs.Jobs.{Each, IsPlan}
use Rattle.batch_command.specs.bodies.Workers.{input_in, inputs_in}
use Rattle.batch_command.proofs.Each.{before_more, caught_due, caught_halts}
use Rattle.batch_command.proofs.Working.{drop_get, get_at}
use Rattle.batch_command.proofs.gathering.gather.Goals as goal

pub returns-in_err-plan : goal.returns-in_err-plan
returns-in_err-plan g c =
    let p = err_from_is_err_and c.from_residual.result c.from_residual.ensures.1 in
    let parts = g.W.Work.parts in
    let configs = c.args.board.now.configs in
    let inside : c.loop-input.number < length configs =
    omega (arith, c.loop-input.invariant.counted, ap length c.in-Some.ensures.steps.0) in
    let at = get_at configs c.loop-input.number inside in
    rw (p.1, p.2) (caught_halts c.answer_of.result c.in_err-plan.field-0.0 (IsPlan parts (input_in at.0 c.in-Some.input))
    (Each (IsPlan parts) (inputs_in configs c.args.inputs)) c.in_err-plan.ensures (c.answer_of.ensures.plan at.0 at.1))

pub loop-input-preserved : goal.loop-input-preserved
loop-input-preserved g c =
    let parts = g.W.Work.parts in
    let configs = c.args.board.now.configs in
    let number = c.loop-input.number in
    let inv = c.loop-input.invariant in
    let inside : number < length configs = omega (arith, inv.counted, ap length c.in-Some.ensures.steps.0) in
    let at = get_at configs number inside in
    record {
      told = rw c.in_ok-put.ensures (before_more (IsPlan parts) (inputs_in configs c.args.inputs) _
          (inputs_in (drop (number + 1) configs) _) (input_in at.0 c.in-Some.input) c.loop-input.plans c.in_ok-plan.plan
          (ap₂ inputs_in (drop_get configs number at.0 at.1) c.in-Some.ensures.steps.0) inv.told
          (caught_due c.answer_of.result c.in_ok-plan.plan (IsPlan parts (input_in at.0 c.in-Some.input))
          c.in_ok-plan.ensures (c.answer_of.ensures.plan at.0 at.1)));
      made = c.answer_of.ensures.made;
      counted = omega (arith, inv.counted, ap length c.in-Some.ensures.steps.0);
      lasts = omega (arith, inv.lasts, c.in-Some.ensures.steps.1, ap length c.in-Some.ensures.steps.0);
    }
