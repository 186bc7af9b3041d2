-- Answers of `walk`: what its calls ask for, and what it promises.
use Rattle.std.proofs.Common.{◌≡◌, ◌≤◌, ◌+◌, ◌-◌, subst, ℕ, Bool, List, length, Some, Err, Result, refl, sym, ap, ◌∙◌}
use Rattle.std.proofs.Common.{arith}
use Rattle.std.proofs.lemmas.Option.{get_or_from_slice_get, slice_get_within}
use Rattle.class_model.specs.declared.code.Ins.{Ins}
use Rattle.type_verifier.specs.declared.fault.TypeFault.{TypeFault}
use Rattle.type_verifier.specs.declared.fault.TypeKind.TheVariants.{FallsOff}
use Rattle.type_verifier.specs.bodies.Changes.{flow}
use Rattle.type_verifier.specs.bodies.Seen.{environment_of}
use Rattle.type_verifier.specs.bodies.Since.{IsSince}
use Rattle.type_verifier.proofs.Changing.{since_more}
use Rattle.type_verifier.specs.Walk.{fault_at}
use Rattle.type_verifier.specs.bodies.Walked.{behind_last, walked}
use Rattle.type_verifier.proofs.Telling.{fitting_begun}
use Rattle.type_verifier.proofs.Walking.{walk_ends, walk_fails, walk_more}
use Rattle.type_verifier.proofs.walk.walk.Goals as goal

pub loop-at-init : goal.loop-at-init
loop-at-init c = (
  refl,
  tt,
  fitting_begun (environment_of c.args.env.now) c.new-fitting.result
      c.new-fitting.ensures.count c.new-fitting.ensures.noted,
)

pub returns-in-Err : goal.returns-in-Err
returns-in-Err c =
    let env = environment_of c.args.env.now in
    let ins : List Ins = c.args.env.now.code.now.ins in
    let at = c.loop-at.at in
    let i : Ins = c.index.result.now in
    rw c.placed.ensures
    (walk_fails env ins at i (flow c.loop-at.flows c.loop-at.frame) c.in-Err.error
    (walked env 0 (Some c.args.frame.now) ins) (slice_get_within ins at i c.index.ensures)
    (sym (get_or_from_slice_get ins at i i c.index.ensures)) c.in-Err.ensures.flow c.loop-at.invariant.0)

pub loop-at-preserved : goal.loop-at-preserved
loop-at-preserved c =
    let ins : List Ins = c.args.env.now.code.now.ins in
    let at = c.loop-at.at in
    let i : Ins = c.index.result.now in
    let flows = c.in-Ok-pass_instruction.next in
    let old = flow c.loop-at.flows c.loop-at.frame in (
      walk_more (environment_of c.args.env.now) ins at i old (flow flows c.pass_instruction.new.frame)
          (walked (environment_of c.args.env.now) 0 (Some c.args.frame.now) ins)
          (slice_get_within ins at i c.index.ensures) (sym (get_or_from_slice_get ins at i i c.index.ensures))
          c.in-Ok-pass_instruction.ensures.flow c.loop-at.invariant.0,
      subst (λ since. IsSince (environment_of c.args.env.now) (at + 1) since c.pass_instruction.new.frame)
          (sym c.since_after-since.ensures)
          (since_more (environment_of c.args.env.now) at i.op old flows c.pass_instruction.new.frame
          c.in-Ok-pass_instruction.ensures.flow),
      c.in-Ok-pass_instruction.ensures.fitting,
    )

pub returns-then-flows : goal.returns-then-flows
returns-then-flows c =
    let env = environment_of c.args.env.now in
    let ins : List Ins = c.args.env.now.code.now.ins in
    let at = c.loop-at.at in
    let le : length ins ≤ at = omega (arith, c.loop-at-test.false, c.in-Ok.ensures, c.len.ensures) in
    let last : at - 1 ≡ c.saturating_sub.result =
    omega (arith, c.loop-at-test.false, c.loop-at.auto.at-end, c.saturating_sub.ensures) in
    walk_ends env ins at (flow c.loop-at.flows c.loop-at.frame) (walked env 0 (Some c.args.frame.now) ins) le
    c.loop-at.invariant.0
    ∙ ap (λ (b : Bool). behind_last env at (flow b c.loop-at.frame)) c.if-flows.true
    ∙ ap (λ (n : ℕ). let R : Result (Unit {0}) TypeFault = Err (fault_at env n FallsOff) in R) last
    ∙ ap (λ (f : TypeFault). let R : Result (Unit {0}) TypeFault = Err f in R) (sym c.fault.ensures)

pub returns : goal.returns
returns c =
    let env = environment_of c.args.env.now in
    let ins : List Ins = c.args.env.now.code.now.ins in
    let at = c.loop-at.at in
    let le : length ins ≤ at = omega (arith, c.loop-at-test.false, c.in-Ok.ensures, c.len.ensures) in
    walk_ends env ins at (flow c.loop-at.flows c.loop-at.frame) (walked env 0 (Some c.args.frame.now) ins) le
    c.loop-at.invariant.0
    ∙ ap (λ (b : Bool). behind_last env at (flow b c.loop-at.frame)) c.if-flows.false
