-- Answers of `find_inputs`: what its calls ask for, and what it promises.
use Rattle.std.proofs.Common.{Ok, Err, ℕ, ◌+◌, refl, sym, ap, arith, subst, drop, length, length-append, [], ◌∷◌}
use Rattle.std.proofs.lemmas.Result.{err_from_is_err_and}
use Rattle.tree_io.specs.Files.{Files}
use Rattle.batch_command.specs.bodies.Steps.{HasRoom}
use Rattle.batch_command.specs.bodies.Workers.{IsFound}
use Rattle.batch_command.proofs.Each.{Found, bytes_more, caught_is, each_begins, each_halts, each_lacks, each_more, found_stop}
use Rattle.batch_command.proofs.Working.{drop_get}
use Rattle.batch_command.proofs.inputs.find_inputs.Goals as goal

pub loop-at-init : goal.loop-at-init
loop-at-init g c = record {
  count = rw c.new-inputs.ensures refl;
  room = rw c.new-inputs.ensures refl;
  found = each_begins (λ (fs : Files). IsFound g.W.Work.parts fs) c.args.board.now.configs _ _ _ c.new-inputs.ensures refl;
}

pub returns-in_err-found-clause-found : goal.returns-in_err-found-clause-found
returns-in_err-found-clause-found g c =
    let p = err_from_is_err_and c.from_residual.result c.from_residual.ensures.1 in
    let parts = g.W.Work.parts in
    let configs = c.args.board.now.configs in
    rw (p.1, p.2) (each_halts (λ (fs : Files). IsFound parts fs) configs (Found parts configs)
    (drop c.loop-at.at configs) c.index.result.now c.loop-at.inputs c.in_err-found.field-0.0 _ _ _
    c.loop-at.invariant.found
    (caught_is (λ (fs : Files). IsFound parts fs c.index.result.now) c.find_input.result (Err c.in_err-found.field-0.0) _ _
    c.in_err-found.ensures c.find_input.ensures.found))

pub returns-in_err-room-clause-found : goal.returns-in_err-room-clause-found
returns-in_err-room-clause-found g c =
    let p = err_from_is_err_and c.from_residual-in_err-room.result c.from_residual-in_err-room.ensures.1 in
    let parts = g.W.Work.parts in
    let configs = c.args.board.now.configs in
    let inv = c.loop-at.invariant in
    let found = c.in_ok-found.found in
    rw (p.1, p.2) (found_stop parts configs (drop (c.loop-at.at + 1) configs) c.loop-at.inputs c.loop-at.room found
    c.in_err-room.field-0.0 _ _ inv.room
    (subst (λ (n : ℕ). HasRoom c.loop-at.room n (Err c.in_err-room.field-0.0)) c.bytes_of.ensures c.in_err-room.ensures)
    (each_more (λ (fs : Files). IsFound parts fs) configs (drop c.loop-at.at configs) (drop (c.loop-at.at + 1) configs)
    c.index.result.now c.loop-at.inputs found _ _ _ (drop_get configs c.loop-at.at c.index.result.now c.index.ensures)
    inv.found
    (caught_is (λ (fs : Files). IsFound parts fs c.index.result.now) c.find_input.result (Ok found) _ _
    c.in_ok-found.ensures c.find_input.ensures.found)))

pub returns-in_err-shared-clause-found : goal.returns-in_err-shared-clause-found
returns-in_err-shared-clause-found g c =
    let p = err_from_is_err_and c.from_residual-in_err-shared.result c.from_residual-in_err-shared.ensures.1 in
    let parts = g.W.Work.parts in
    let configs = c.args.board.now.configs in
    rw (p.1, p.2) (each_lacks (λ (fs : Files). IsFound parts fs) configs (Found parts configs)
    (drop c.loop-at.at configs) c.index.result.now c.loop-at.inputs c.in_ok-found.found _ _ _ c.loop-at.invariant.found
    (caught_is (λ (fs : Files). IsFound parts fs c.index.result.now) c.find_input.result (Ok c.in_ok-found.found) _ _
    c.in_ok-found.ensures c.find_input.ensures.found))

pub returns-in_err-queue_job-clause-found : goal.returns-in_err-queue_job-clause-found
returns-in_err-queue_job-clause-found g c =
    let p = err_from_is_err_and c.from_residual-in_err-queue_job.result c.from_residual-in_err-queue_job.ensures.1 in
    let parts = g.W.Work.parts in
    let configs = c.args.board.now.configs in
    rw (p.1, p.2) (each_lacks (λ (fs : Files). IsFound parts fs) configs (Found parts configs)
    (drop c.loop-at.at configs) c.index.result.now c.loop-at.inputs c.in_ok-found.found _ _ _ c.loop-at.invariant.found
    (caught_is (λ (fs : Files). IsFound parts fs c.index.result.now) c.find_input.result (Ok c.in_ok-found.found) _ _
    c.in_ok-found.ensures c.find_input.ensures.found))

pub returns-in_err-put-clause-found : goal.returns-in_err-put-clause-found
returns-in_err-put-clause-found g c =
    let p = err_from_is_err_and c.from_residual-in_err-put.result c.from_residual-in_err-put.ensures.1 in
    let parts = g.W.Work.parts in
    let configs = c.args.board.now.configs in
    rw (p.1, p.2) (each_lacks (λ (fs : Files). IsFound parts fs) configs (Found parts configs)
    (drop c.loop-at.at configs) c.index.result.now c.loop-at.inputs c.in_ok-found.found _ _ _ c.loop-at.invariant.found
    (caught_is (λ (fs : Files). IsFound parts fs c.index.result.now) c.find_input.result (Ok c.in_ok-found.found) _ _
    c.in_ok-found.ensures c.find_input.ensures.found))

pub loop-at-preserved : goal.loop-at-preserved
loop-at-preserved g c =
    let parts = g.W.Work.parts in
    let configs = c.args.board.now.configs in
    let inv = c.loop-at.invariant in
    let found = c.in_ok-found.found in
    record {
      count = rw (c.in_ok-put.ensures, c.in_ok-shared.ensures)
          (omega (arith, length-append c.loop-at.inputs (found ∷ []), inv.count));
      room = rw (c.in_ok-put.ensures, c.in_ok-shared.ensures)
          (omega (arith, inv.room, c.in_ok-room.ensures, c.bytes_of.ensures, bytes_more c.loop-at.inputs found));
      found = rw (c.in_ok-put.ensures, c.in_ok-shared.ensures)
          (each_more (λ (fs : Files). IsFound parts fs) configs (drop c.loop-at.at configs)
          (drop (c.loop-at.at + 1) configs) c.index.result.now c.loop-at.inputs found _ _ _
          (drop_get configs c.loop-at.at c.index.result.now c.index.ensures) inv.found
          (caught_is (λ (fs : Files). IsFound parts fs c.index.result.now) c.find_input.result (Ok found) _ _
          c.in_ok-found.ensures c.find_input.ensures.found));
    }
